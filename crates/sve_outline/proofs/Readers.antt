-- Reading a tree back: parts that come in many trees.
use Rattle.std.proofs.Common.{◌≡◌, ℕ, zero, suc, List, [], ◌∷◌, Option, Some, None, refl, ap, ◌∙◌}
use Rattle.sve_grammar.specs.Reading.{Tree, leaf, pair, left, right, turn}
use Rattle.sve_tree.specs.declared.row.Row.{Row}
use Rattle.sve_tree.specs.declared.word.Mark.{Mark}
use Rattle.sve_tree.specs.Shape.{optional_tree, required_tree, repeated_tree, first_tree, rest_tree, further_tree, row_first, row_rest, listed_tree, optional_row, mark_tree}
use Rattle.sve_outline.specs.Outline.{Outline, token_at, variant, ◌◂◌, no_more, list_outline, option_outline, row_outline, mark_outline, IsWhole}

infixr 30 ◌◃◌
-- parts that are the same make the same
pub ◌◃◌ : {a b c d : Outline} → a ≡ b → c ≡ d → (a ◂ c) ≡ (b ◂ d)
◌◃◌ {a = a} {b = b} {c = c} {d = d} p q = ap (λ (x : Outline). x ◂ c) p ∙ ap (λ (x : Outline). b ◂ x) q

-- what is seen as a whole tree is read back from it
abbrev pub IsRead : {X : Type 0} → (X → Tree) → (X → Outline) → (Tree → Outline) → Type 0
IsRead {X} tree outline read = (x : X) → IsWhole (tree x) → read (tree x) ≡ outline x

pub read_token : Tree → Outline
read_token (leaf i) = token_at i
read_token t = no_more

pub token_read : IsRead leaf token_at read_token
unfolding read_token
token_read i w = refl

-- a token under alternatives, of which so many stand behind the first
unfoldable pub alternative : ℕ → ℕ → ℕ → Tree
alternative zero place i = leaf i
alternative (suc n) zero i = left (leaf i)
alternative (suc n) (suc place) i = right (alternative n place i)

-- a token under alternatives, of which so many stand behind this one, which is at that place
unfoldable pub numbered : ℕ → ℕ → Tree → Outline
numbered zero place (leaf i) = variant place ◂ token_at i
numbered (suc n) place (left (leaf i)) = variant place ◂ token_at i
numbered (suc n) place (right t) = numbered n (suc place) t
numbered n place t = no_more

-- such tokens are read back, and shown, by the place of what they say
abbrev pub IsMarked : {K : Type 0} → ℕ → (K → ℕ → Tree) → (K → ℕ) → Type 0
IsMarked {K} n tree place = (k : K) (i : ℕ) → (numbered n 0 (tree k i) ≡ (variant (place k) ◂ token_at i)) × (alternative n (place k) i ≡ tree k i)

pub mark_read : {K : Type 0} (n : ℕ) (tree : K → ℕ → Tree) (place : K → ℕ) → IsMarked n tree place → (m : Mark K) → IsWhole (mark_tree tree m) → numbered n 0 (mark_tree tree m) ≡ mark_outline place m
mark_read n tree place h m w = (h m.kind m.token).0

pub read_list : (Tree → Outline) → Tree → Outline
read_list r (turn t u) = r t ◂ read_list r u
read_list r t = no_more

pub list_read : {X : Type 0} (f : X → Tree) (o : X → Outline) (r : Tree → Outline) → IsRead f o r → (xs : List X) → IsWhole (repeated_tree f xs) → read_list r (repeated_tree f xs) ≡ list_outline o xs
unfolding repeated_tree list_outline read_list
list_read f o r h [] w = refl
list_read f o r h (x ∷ xs) w = h x w.0 ◃ list_read f o r h xs w.1

-- of the tree of further items, each behind its separator: the items, and the separators
pub read_items : (Tree → Outline) → Tree → Outline
read_items r (turn (pair s t) u) = r t ◂ read_items r u
read_items r t = no_more

pub read_separators : (Tree → Outline) → Tree → Outline
read_separators q (turn (pair s t) u) = q s ◂ read_separators q u
read_separators q t = no_more

pub items_read : {X S : Type 0} (f : X → Tree) (o : X → Outline) (r : Tree → Outline) (g : S → Tree) → IsRead f o r → (xs : List X) (ss : List S) → IsWhole (rest_tree f g xs ss) → read_items r (rest_tree f g xs ss) ≡ list_outline o xs
unfolding rest_tree list_outline read_items
items_read f o r g h [] [] w = refl
items_read f o r g h [] (s ∷ ss) w = absurd w.2
items_read f o r g h (x ∷ xs) [] w = absurd w.2
items_read f o r g h (x ∷ xs) (s ∷ ss) w = h x w.0.1 ◃ items_read f o r g h xs ss w.1

pub rest_separators : {X S : Type 0} (f : X → Tree) (g : S → Tree) (p : S → Outline) (q : Tree → Outline) → IsRead g p q → (xs : List X) (ss : List S) → IsWhole (rest_tree f g xs ss) → read_separators q (rest_tree f g xs ss) ≡ list_outline p ss
unfolding rest_tree list_outline read_separators
rest_separators f g p q k [] [] w = refl
rest_separators f g p q k [] (s ∷ ss) w = absurd w.2
rest_separators f g p q k (x ∷ xs) [] w = absurd w.2
rest_separators f g p q k (x ∷ xs) (s ∷ ss) w = k s w.0.0 ◃ rest_separators f g p q k xs ss w.1

pub separators_read : {X S : Type 0} (f : X → Tree) (g : S → Tree) (p : S → Outline) (q : Tree → Outline) → IsRead g p q → (xs : List X) (ss : List S) → IsWhole (further_tree f g xs ss) → read_separators q (further_tree f g xs ss) ≡ list_outline p ss
unfolding further_tree
separators_read f g p q k [] ss w = absurd w.2
separators_read f g p q k (x ∷ xs) ss w = rest_separators f g p q k xs ss w

-- a row, from what its first item says and the tree of what stands behind that
abbrev pub read_row_behind : Outline → (Tree → Outline) → (Tree → Outline) → Tree → Outline
read_row_behind first r q u = (first ◂ read_items r u) ◂ read_separators q u

-- a row, from the tree of its first item and that of what stands behind it
abbrev pub read_row : (Tree → Outline) → (Tree → Outline) → Tree → Tree → Outline
read_row r q t u = read_row_behind (r t) r q u

pub row_read : {X S : Type 0} (f : X → Tree) (o : X → Outline) (r : Tree → Outline) (g : S → Tree) (p : S → Outline) (q : Tree → Outline) → IsRead f o r → IsRead g p q → (row : Row X S) → IsWhole (row_first f row) → IsWhole (row_rest f g row) → read_row r q (row_first f row) (row_rest f g row) ≡ row_outline o p row
unfolding first_tree further_tree list_outline
row_read {X = X} f o r g p q h k row w v = items row.items.items w v ◃ separators_read f g p q k row.items.items row.separators.items v
  where
    items : (xs : List X) → IsWhole (first_tree f xs) → IsWhole (further_tree f g xs row.separators.items) → (r (first_tree f xs) ◂ read_items r (further_tree f g xs row.separators.items)) ≡ list_outline o xs
    items [] w v = absurd w.2
    items (x ∷ xs) w v = h x w ◃ items_read f o r g h xs row.separators.items v

-- a row whose items have two parts, which are seen apart in the first of them
pub parted_read : {X S : Type 0} (h k : X → Tree) (a b : X → Outline) (r s : Tree → Outline) (f : X → Tree) (u : Tree → Outline) (g : S → Tree) (p : S → Outline) (q : Tree → Outline) → IsRead h a r → IsRead k b s → IsRead f (λ (x : X). a x ◂ b x) u → IsRead g p q → (row : Row X S) → IsWhole (row_first h row) → IsWhole (row_first k row) → IsWhole (row_rest f g row) → read_row_behind (r (row_first h row) ◂ s (row_first k row)) u q (row_rest f g row) ≡ row_outline (λ (x : X). a x ◂ b x) p row
unfolding first_tree further_tree list_outline
parted_read {X = X} h k a b r s f u g p q ha kb fo gp row v w z = items row.items.items v w z ◃ separators_read f g p q gp row.items.items row.separators.items z
  where
    items : (xs : List X) → IsWhole (first_tree h xs) → IsWhole (first_tree k xs) → IsWhole (further_tree f g xs row.separators.items) → ((r (first_tree h xs) ◂ s (first_tree k xs)) ◂ read_items u (further_tree f g xs row.separators.items)) ≡ list_outline (λ (x : X). a x ◂ b x) xs
    items [] v w z = absurd v.2
    items (x ∷ xs) v w z = (ha x v ◃ kb x w) ◃ items_read f (λ (x : X). a x ◂ b x) u g fo xs row.separators.items z

-- a row that may be left out
pub read_optional_row : (Tree → Outline) → (Tree → Outline) → Tree → Outline
read_optional_row r q (left (pair t u)) = read_row r q t u
read_optional_row r q t = no_more ◂ no_more

pub optional_row_read : {X S : Type 0} (f : X → Tree) (o : X → Outline) (r : Tree → Outline) (g : S → Tree) (p : S → Outline) (q : Tree → Outline) → IsRead f o r → IsRead g p q → (row : Row X S) → IsWhole (optional_row f g row) → read_optional_row r q (optional_row f g row) ≡ row_outline o p row
unfolding listed_tree list_outline read_optional_row
optional_row_read {X = X} {S = S} f o r g p q h k row w = listed row.items.items row.separators.items w
  where
    listed : (xs : List X) (ss : List S) → IsWhole (listed_tree f g xs ss) → read_optional_row r q (listed_tree f g xs ss) ≡ (list_outline o xs ◂ list_outline p ss)
    listed [] [] w = refl
    listed [] (s ∷ ss) w = absurd w.2
    listed (x ∷ xs) ss w = (h x w.0 ◃ items_read f o r g h xs ss w.1) ◃ rest_separators f g p q k xs ss w.1

-- what has to be there, though it is held as what may be absent
pub read_required : (Tree → Outline) → Tree → Outline
read_required r t = variant 1 ◂ r t

pub required_read : {X : Type 0} (f : X → Tree) (o : X → Outline) (r : Tree → Outline) → IsRead f o r → (x : Option X) → IsWhole (required_tree f x) → read_required r (required_tree f x) ≡ option_outline o x
unfolding read_required
required_read f o r h None w = absurd w.2
required_read f o r h (Some x) w = refl ◃ h x w

pub read_option : (Tree → Outline) → Tree → Outline
read_option r (left t) = variant 1 ◂ r t
read_option r t = variant 0

pub option_read : {X : Type 0} (f : X → Tree) (o : X → Outline) (r : Tree → Outline) → IsRead f o r → (x : Option X) → IsWhole (optional_tree f x) → read_option r (optional_tree f x) ≡ option_outline o x
unfolding read_option
option_read f o r h None w = refl
option_read f o r h (Some x) w = refl ◃ h x w
