-- The steps of hierarchical names as expressions use them (IEEE 1800-2017, 23.6): a name and the members behind it, each with an index where it is a
-- block of a generate loop.
use Rattle.std.specs.Prelude.{ℕ, ◌-◌, ◌^◌, Bool, true, false, if◌then◌else◌, ◌&&◌, ℤ, pos, negsuc, int_le, int_lt, List, [], ◌∷◌, ◌++◌, Option, Some, None, Ok, Err}
use Rattle.std.specs.List.{fold}
use Rattle.std.specs.Option.{is_none}
use Rattle.sve_bytes.specs.declared.path.Path.{Path}
use Rattle.sve_bytes.specs.declared.path.Step.{Step}
use Rattle.sve_value.specs.Vector.{Vector}
use Rattle.sve_value.specs.Numbers.{known_integer, short_integer}
use Rattle.sve_operand.specs.Meaning.{own_value}
use Rattle.sve_rule.specs.Judged.{Judged}
use Rattle.sve_tree.specs.declared.expression.Postfix.{Postfix}
use Rattle.sve_tree.specs.declared.expression.Postfix.TheVariants as is_postfix
use Rattle.sve_tree.specs.declared.expression.Range.{Range}
use Rattle.sve_tree.specs.declared.expression.Range.TheVariants as is_range
use Rattle.sve_tree.specs.declared.expression.Select.{Select}
use Rattle.sve_tree.specs.declared.expression.Select.TheVariants as is_select
use Rattle.sve_tree.specs.declared.token_word.Word.{Word}
use Rattle.sve_env.specs.Told.{Told}
use Rattle.sve_measure.specs.Constants.{measured}
use Rattle.sve_known.specs.Naming.{name_at}
use Rattle.sve_used.specs.declared.steps.Reading.{Reading}

-- ---- the index of a block: a genvar's value, which has 32 bits and a sign (27.4)

abbrev pub is_index : ℤ → Bool
is_index z = int_le (negsuc (2 ^ 31 - 1)) z && int_lt z (pos (2 ^ 31))

abbrev pub index_in : Option ℤ → Option ℤ
index_in None = None
index_in (Some z) = if is_index z then Some z else None

abbrev pub index_of : Vector → Option ℤ
index_of v = index_in (short_integer (known_integer v))

-- an expression is one where it is a constant
abbrev pub constant_index : Judged → Option ℤ
constant_index (Ok a) = index_of (own_value a)
constant_index (Err fault) = None

abbrev pub index_at : Told → Range → Option ℤ
index_at m (is_range.Index' _ index) = constant_index (measured m index)
index_at m range = None

-- ---- a name as far as it is read

abbrev pub step : List ℕ → Option ℤ → Step
step n index = record { name = n; index = index }

abbrev pub begun : List ℕ → Reading
begun n = record { before = []; last = step n None; is_over = false }

-- something is selected of its last step that is no member and no constant index, so that the name ends
abbrev pub over : Reading → Reading
over r = record r { is_over = true }

abbrev pub with_member : Reading → Option (List ℕ) → Reading
with_member r None = over r
with_member r (Some n) = record { before = r.before ++ r.last ∷ []; last = step n None; is_over = false }

-- a step has one index at the most
abbrev pub with_index : Reading → Option ℤ → Reading
with_index r None = over r
with_index r (Some index) = if is_none r.last.index then record r { last = step r.last.name (Some index) } else over r

module _ (m : Told) (ws : List Word) where
  abbrev pub with_select : Reading → Select → Reading
  with_select r (is_select.Member dot name) = with_member r (name_at ws name)
  with_select r (is_select.Range' opening range closing) = with_index r (index_at m range)

  abbrev pub with_postfix : Reading → Postfix → Reading
  with_postfix r (is_postfix.Select select) = with_select r select
  with_postfix r postfix = over r

  -- behind its end nothing is part of it
  abbrev pub after_select : Reading → Select → Reading
  after_select r select = if r.is_over then r else with_select r select

  abbrev pub after_postfix : Reading → Postfix → Reading
  after_postfix r postfix = if r.is_over then r else with_postfix r postfix

abbrev pub path_of : Reading → Path
path_of r = record { steps = r.before ++ r.last ∷ [] }

-- the name that begins with this one, to which these are applied
abbrev pub dotted_path : Told → List Word → List ℕ → List Postfix → Path
dotted_path m ws n postfixes = path_of (fold (after_postfix m ws) (begun n) postfixes)
