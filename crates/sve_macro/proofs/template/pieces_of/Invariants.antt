use Rattle.std.proofs.Common.{◌≡◌, ℕ, ◌++◌, ◌-◌, ◌≤◌, List, length, drop, option_map}
use Rattle.sve_macro.specs.Cut.{pieces}
use Rattle.sve_macro.specs.Index.{place_in}
use Rattle.sve_macro.specs.Lexemes.{first_lexeme, lexemes}
use Rattle.sve_macro.specs.Substitution.{replaced}
use Rattle.sve_macro.specs.Template.{bytes_between, filled}
use Rattle.sve_macro.proofs.template.pieces_of.Given as goal

abbrev pub invariant-lexemes : goal.invariant-lexemes
invariant-lexemes l = record {
  order : l.from ≤ l.at;
  within : l.at ≤ length l.text;
  same : (value : ℕ → List ℕ) →
      (filled l.text value l.pieces.items ++ bytes_between l.from l.at l.text) ++ replaced (λ word. option_map value (place_in l.index word)) (pieces first_lexeme l.between (drop l.at l.text))
      ≡ replaced (λ word. option_map value (place_in l.index word)) (lexemes l.text);
}

abbrev pub decreases-lexemes : goal.decreases-lexemes
decreases-lexemes l = length l.text - l.at
