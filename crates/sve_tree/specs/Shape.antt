-- The shapes of trees: sequences, alternatives, optional parts, repetitions and rows (IEEE 1800-2017, 1.5, and own).
use Rattle.std.specs.Prelude.{ℕ, zero, suc, List, [], ◌∷◌, Option, Some, None, length, ◌≡◌}
use Rattle.sve_grammar.specs.Reading.{Tree, leaf, none, pair, left, right, turn, ended, leaves}
use Rattle.sve_tree.specs.declared.row.Row.{Row}
use Rattle.sve_tree.specs.declared.word.Mark.{Mark}

infixr 30 ◌▸◌
-- one, and behind it the other
abbrev pub ◌▸◌ : Tree → Tree → Tree
t ▸ u = pair t u

-- an alternative that is not the last, by its number from 0
abbrev pub way : ℕ → Tree → Tree
way zero t = left t
way (suc n) t = right (way n t)

-- the last alternative, by its number from 0
abbrev pub final : ℕ → Tree → Tree
final zero t = t
final (suc n) t = right (final n t)

-- What the grammar has no place for. No reading gives such a tree, so that no tree of a parser is shown as one.
abbrev pub misplaced : Tree → Tree
misplaced t = turn t none

-- an optional part
abbrev pub optional_tree : {X : Type 0} → (X → Tree) → Option X → Tree
optional_tree f None = right none
optional_tree f (Some x) = left (f x)

-- a part that has to be there
abbrev pub required_tree : {X : Type 0} → (X → Tree) → Option X → Tree
required_tree f None = misplaced none
required_tree f (Some x) = f x

-- a repetition
unfoldable pub repeated_tree : {X : Type 0} → (X → Tree) → List X → Tree
repeated_tree f [] = ended
repeated_tree f (x ∷ xs) = turn (f x) (repeated_tree f xs)

-- the first of items, of which there is one at least
unfoldable pub first_tree : {X : Type 0} → (X → Tree) → List X → Tree
first_tree f [] = misplaced none
first_tree f (x ∷ xs) = f x

-- the others, where nothing stands between them
unfoldable pub others_tree : {X : Type 0} → (X → Tree) → List X → Tree
others_tree f [] = misplaced none
others_tree f (x ∷ xs) = repeated_tree f xs

-- further items, each behind its separator
unfoldable pub rest_tree : {X S : Type 0} → (X → Tree) → (S → Tree) → List X → List S → Tree
rest_tree f g [] [] = ended
rest_tree f g [] (s ∷ ss) = misplaced none
rest_tree f g (x ∷ xs) [] = misplaced none
rest_tree f g (x ∷ xs) (s ∷ ss) = turn (g s ▸ f x) (rest_tree f g xs ss)

-- the others, each behind its separator
unfoldable pub further_tree : {X S : Type 0} → (X → Tree) → (S → Tree) → List X → List S → Tree
further_tree f g [] ss = misplaced none
further_tree f g (x ∷ xs) ss = rest_tree f g xs ss

-- of the trees of items: the first, the others, and the others behind their commas
abbrev pub first_of : List Tree → Tree
first_of ts = first_tree (λ (t : Tree). t) ts

abbrev pub others_of : List Tree → Tree
others_of ts = others_tree (λ (t : Tree). t) ts

abbrev pub further_of : List Tree → List ℕ → Tree
further_of ts commas = further_tree (λ (t : Tree). t) leaf ts commas

-- of a row: the first item, the others with their separators, all of it
abbrev pub row_first : {X S : Type 0} → (X → Tree) → Row X S → Tree
row_first f row = first_tree f row.items.items

abbrev pub row_rest : {X S : Type 0} → (X → Tree) → (S → Tree) → Row X S → Tree
row_rest f g row = further_tree f g row.items.items row.separators.items

abbrev pub row_tree : {X S : Type 0} → (X → Tree) → (S → Tree) → Row X S → Tree
row_tree f g row = row_first f row ▸ row_rest f g row

-- a row that may be left out, which is then the row without items
unfoldable pub listed_tree : {X S : Type 0} → (X → Tree) → (S → Tree) → List X → List S → Tree
listed_tree f g [] [] = right none
listed_tree f g [] (s ∷ ss) = misplaced none
listed_tree f g (x ∷ xs) ss = left (f x ▸ rest_tree f g xs ss)

abbrev pub optional_row : {X S : Type 0} → (X → Tree) → (S → Tree) → Row X S → Tree
optional_row f g row = listed_tree f g row.items.items row.separators.items

-- a token of a set, by what it says
abbrev pub mark_tree : {K : Type 0} → (K → ℕ → Tree) → Mark K → Tree
mark_tree f m = f m.kind m.token

-- items with this one at their front
unfoldable pub BeginsWith : {X : Type 0} → X → List X → Type 0
BeginsWith {X = X} first xs = (others : List X) × (xs ≡ first ∷ others)

-- items with this one at their front, and one separator fewer than items
unfoldable pub IsRow : {X S : Type 0} → X → List X → List S → Type 0
IsRow {X = X} first xs ss = (others : List X) × (xs ≡ first ∷ others) × (length others ≡ length ss)

-- the number of a tree's first token, where it has one
abbrev pub front : List ℕ → Option ℕ
front [] = None
front (i ∷ is) = Some i

abbrev pub first_token_of : Tree → Option ℕ
first_token_of t = front (leaves t)
