use Rattle.std.proofs.Common.{◌≡◌, ℕ, ◌++◌, ◌-◌, ◌≤◌, length, drop, get_or}
use Rattle.std.specs.List.{flat_map}
use Rattle.sve_macro.specs.declared.template.Piece.TheVariants.{Quote}
use Rattle.sve_macro.specs.Template.{value_at, piece_value, filled}
use Rattle.sve_macro.proofs.substitution.fill.Given as goal

abbrev pub invariant-numbers : goal.invariant-numbers
invariant-numbers l = record {
  within : l.at ≤ length l.numbers;
  same : l.out.items ++ flat_map (λ (n : ℕ). piece_value l.text (value_at l.formals l.actuals) (get_or l.pieces n Quote)) (drop l.at l.numbers) ≡ filled l.text (value_at l.formals l.actuals) l.pieces;
}

abbrev pub decreases-numbers : goal.decreases-numbers
decreases-numbers l = length l.numbers - l.at
