-- What a tree of a chunk says, without where its values lie in memory: which variants it is made of, and of which tokens, all the way down (own).
use Rattle.std.specs.Prelude.{◌≡◌, ℕ, List, [], ◌∷◌, Option, Some, None, Ok}
use Rattle.sve_token.specs.declared.token.Token.{Token}
use Rattle.sve_grammar.specs.Rule.{Rule}
use Rattle.sve_grammar.specs.Reading.{Tree, pair, left, right, turn, ended, at_depth}
use Rattle.sve_tree.specs.declared.row.Row.{Row}
use Rattle.sve_tree.specs.declared.word.Mark.{Mark}

infixr 30 ◌◂◌
pub data Outline : Type 0 where
  -- a token, by its number within the chunk
  token_at : ℕ → Outline
  -- a variant, by its place among those of its type, from 0; its fields stand behind it, in their order
  variant : ℕ → Outline
  -- a part, and what stands behind it
  ◌◂◌ : Outline → Outline → Outline
  -- no further element of a list
  no_more : Outline

-- a list: its elements, and its end
unfoldable pub list_outline : {X : Type 0} → (X → Outline) → List X → Outline
list_outline f [] = no_more
list_outline f (x ∷ xs) = f x ◂ list_outline f xs

-- what may be absent
abbrev pub option_outline : {X : Type 0} → (X → Outline) → Option X → Outline
option_outline f None = variant 0
option_outline f (Some x) = variant 1 ◂ f x

-- a row: its items, and its separators
abbrev pub row_outline : {X S : Type 0} → (X → Outline) → (S → Outline) → Row X S → Outline
row_outline f g row = list_outline f row.items.items ◂ list_outline g row.separators.items

-- a token that says which of several things is meant
abbrev pub mark_outline : {K : Type 0} → (K → ℕ) → Mark K → Outline
mark_outline place m = variant (place m.kind) ◂ token_at m.token

-- a turn of a repetition, or its end
abbrev pub IsRepetition : Tree → Type 0
IsRepetition (turn t u) = Unit {0}
IsRepetition ended = Unit {0}
IsRepetition t = ⊥

-- Behind each turn of a repetition stands the next turn or the end. The tree of each reading is so; what has no place in the grammar is seen as a
-- tree that is not.
abbrev pub IsWhole : Tree → Type 0
IsWhole (pair t u) = IsWhole t × IsWhole u
IsWhole (left t) = IsWhole t
IsWhole (right t) = IsWhole t
IsWhole (turn t u) = IsWhole t × IsWhole u × IsRepetition u
IsWhole t = Unit {0}

-- nothing is lost where such values are seen as trees, and nothing that is seen is left out of what they say
pub record IsKept {X : Type 0} (tree : X → Tree) (outline : X → Outline) : Type 0 where
  -- those that are seen alike say the same
  pub seen : (x y : X) → IsWhole (tree x) → tree x ≡ tree y → outline x ≡ outline y
  -- what a rule reads from a place on leaves no choice of what is said
  pub read : (ts : List Token) (d : ℕ) (r : Rule) (i j k : ℕ) (x y : X) → at_depth ts d r i ≡ Ok (tree x, j) → at_depth ts d r i ≡ Ok (tree y, k) → outline x ≡ outline y
  -- those that say the same are seen alike
  pub said : (x y : X) → outline x ≡ outline y → tree x ≡ tree y
