-- What the program holds of an operand, and what it means.
use Rattle.std.specs.Prelude.{ℕ, Bool, List, [], ◌∷◌}
use Rattle.sve_value.specs.Vector.{Vector}
use Rattle.sve_value.specs.Moves.{extend_of, filled_of, choose_of}
use Rattle.sve_value.specs.Operators.{unary_of, binary_of}
use Rattle.sve_operand.specs.Sharing.{shift_operator}
use Rattle.sve_operand.specs.Meaning.{Meaning}
use Rattle.sve_operand.specs.declared.operand.Operand.{Operand}
use Rattle.sve_operand.specs.declared.pending.Pending.{Pending, Settled, Spread, Unary', Chain', Choice', Row_of-Link, end_of-Link, more_of-Link}
use Rattle.sve_operand.specs.declared.pending.Link.{Link}
use Rattle.sve_operand.specs.declared.pending.Link.TheVariants as is_link

-- The value in a context of a size and a sign. Each operator's result is taken at that size and sign, which it has.
unfoldable mutual
  pub value_in : ℕ → Bool → Pending → Vector
  value_in w s (Settled v) = extend_of w s v
  value_in w s (Spread b) = filled_of w s b
  value_in w s (Unary' op _ a) = extend_of w s (unary_of op (value_in w s a))
  value_in w s (Chain' _ first _ links) = row_applied w s links (value_in w s first)
  value_in w s (Choice' c _ a _ b) = extend_of w s (choose_of c (value_in w s a) (value_in w s b))

  -- an operator of a chain behind a value
  pub linked : ℕ → Bool → Link → Vector → Vector
  linked w s (is_link.Shared op b) a = extend_of w s (binary_of op a (value_in w s b))
  linked w s (is_link.Shifted op b) a = extend_of w s (binary_of (shift_operator op) a b)

  pub row_applied : {n : _} → ℕ → Bool → Row_of-Link n → Vector → Vector
  row_applied w s end_of-Link a = a
  row_applied w s (more_of-Link link rest) a = row_applied w s rest (linked w s link a)

-- the same over lists
unfoldable pub links_applied : ℕ → Bool → List Link → Vector → Vector
links_applied w s [] a = a
links_applied w s (link ∷ rest) a = links_applied w s rest (linked w s link a)

-- what an operand means
abbrev pub means : ℕ → Bool → Pending → Meaning
means width signed pending = record { width = width; signed = signed; value = λ w s. value_in w s pending }

abbrev pub meaning_of : Operand → Meaning
meaning_of a = means a.width a.signed a.pending
