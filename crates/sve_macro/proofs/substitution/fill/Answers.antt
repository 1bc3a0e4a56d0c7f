use Rattle.std.proofs.Common.{ℕ, List, ◌++◌, get_or, ap, ◌∙◌, arith}
use Rattle.std.specs.List.{flat_map}
use Rattle.sve_macro.specs.declared.template.Piece.TheVariants.{Quote}
use Rattle.sve_macro.specs.Template.{value_at, piece_value}
use Rattle.sve_macro.proofs.PieceNumbers.{covered}
use Rattle.sve_macro.proofs.substitution.fill.Goals as goal

pub numbers-init : goal.numbers-init
numbers-init c =
    let value = piece_value c.args.text.now (value_at c.args.formals.now c.args.actuals.now) in
    record {
      within = omega arith;
      same = ap (λ (xs : List ℕ). xs ++ flat_map (λ (n : ℕ). value (get_or c.args.pieces.now n Quote)) c.args.numbers.now) c.new-out.ensures.items ∙ covered value c.args.pieces.now Quote c.args.numbers.now c.requires;
    }
