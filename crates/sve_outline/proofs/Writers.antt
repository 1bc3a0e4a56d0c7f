-- Showing what is said as a tree: parts that come in many trees.
use Rattle.std.proofs.Common.{◌≡◌, ℕ, List, [], ◌∷◌, Option, Some, None, refl, ap, ◌∙◌}
use Rattle.sve_grammar.specs.Reading.{Tree, leaf, none, pair, left, right, turn, ended}
use Rattle.sve_tree.specs.declared.row.Row.{Row}
use Rattle.sve_tree.specs.declared.word.Mark.{Mark}
use Rattle.sve_tree.specs.Shape.{◌▸◌, misplaced, optional_tree, required_tree, further_of, mark_tree, repeated_tree, first_tree, rest_tree, further_tree, row_first, row_rest, listed_tree, optional_row}
use Rattle.sve_outline.specs.Outline.{Outline, token_at, variant, ◌◂◌, no_more, list_outline, option_outline, row_outline, mark_outline}
use Rattle.sve_outline.proofs.Readers.{alternative, IsMarked}

infixr 30 ◌◇◌
-- parts that are the same make the same
pub ◌◇◌ : {a b c d : Tree} → a ≡ b → c ≡ d → pair a c ≡ pair b d
◌◇◌ {a = a} {b = b} {c = c} {d = d} p q = ap (λ (x : Tree). pair x c) p ∙ ap (λ (x : Tree). pair b x) q

pub turn_alike : {a b c d : Tree} → a ≡ b → c ≡ d → turn a c ≡ turn b d
turn_alike {a = a} {b = b} {c = c} {d = d} p q = ap (λ (x : Tree). turn x c) p ∙ ap (λ (x : Tree). turn b x) q

-- what is said is shown as the tree of what says it
abbrev pub IsWritten : {X : Type 0} → (X → Tree) → (X → Outline) → (Outline → Tree) → Type 0
IsWritten {X} tree outline written = (x : X) → written (outline x) ≡ tree x

pub written_token : Outline → Tree
written_token (token_at i) = leaf i
written_token o = none

pub token_written : IsWritten leaf token_at written_token
unfolding written_token
token_written i = refl

unfoldable pub written_mark : ℕ → Outline → Tree
written_mark n (variant place ◂ token_at i) = alternative n place i
written_mark n o = none

pub mark_written : {K : Type 0} (n : ℕ) (tree : K → ℕ → Tree) (place : K → ℕ) → IsMarked n tree place → (m : Mark K) → written_mark n (mark_outline place m) ≡ mark_tree tree m
unfolding written_mark
mark_written n tree place h m = (h m.kind m.token).1

pub written_list : (Outline → Tree) → Outline → Tree
written_list w (x ◂ o) = turn (w x) (written_list w o)
written_list w o = ended

pub list_written : {X : Type 0} (f : X → Tree) (o : X → Outline) (w : Outline → Tree) → IsWritten f o w → (xs : List X) → written_list w (list_outline o xs) ≡ repeated_tree f xs
unfolding repeated_tree list_outline written_list
list_written f o w h [] = refl
list_written f o w h (x ∷ xs) = turn_alike (h x) (list_written f o w h xs)

-- of a list of at least one: the tree of its first
pub written_first : (Outline → Tree) → Outline → Tree
written_first w (x ◂ o) = w x
written_first w o = misplaced none

pub first_written : {X : Type 0} (f : X → Tree) (o : X → Outline) (w : Outline → Tree) → IsWritten f o w → (xs : List X) → written_first w (list_outline o xs) ≡ first_tree f xs
unfolding first_tree list_outline written_first
first_written f o w h [] = refl
first_written f o w h (x ∷ xs) = h x

-- further items, each behind its separator
pub written_rest : (Outline → Tree) → (Outline → Tree) → Outline → Outline → Tree
written_rest w v (x ◂ xs) (s ◂ ss) = turn (v s ▸ w x) (written_rest w v xs ss)
written_rest w v no_more no_more = ended
written_rest w v xs ss = misplaced none

pub rest_written : {X S : Type 0} (f : X → Tree) (o : X → Outline) (w : Outline → Tree) (g : S → Tree) (p : S → Outline) (v : Outline → Tree) → IsWritten f o w → IsWritten g p v → (xs : List X) (ss : List S) → written_rest w v (list_outline o xs) (list_outline p ss) ≡ rest_tree f g xs ss
unfolding rest_tree list_outline written_rest
rest_written f o w g p v h k [] [] = refl
rest_written f o w g p v h k [] (s ∷ ss) = refl
rest_written f o w g p v h k (x ∷ xs) [] = refl
rest_written f o w g p v h k (x ∷ xs) (s ∷ ss) = turn_alike (k s ◇ h x) (rest_written f o w g p v h k xs ss)

-- of a row: the tree of its first item, and that of what stands behind it
pub written_row_first : (Outline → Tree) → Outline → Tree
written_row_first w (xs ◂ ss) = written_first w xs
written_row_first w o = none

pub row_first_written : {X S : Type 0} (f : X → Tree) (o : X → Outline) (w : Outline → Tree) (p : S → Outline) → IsWritten f o w → (row : Row X S) → written_row_first w (row_outline o p row) ≡ row_first f row
unfolding written_row_first
row_first_written f o w p h row = first_written f o w h row.items.items

pub written_row_rest : (Outline → Tree) → (Outline → Tree) → Outline → Tree
written_row_rest w v ((x ◂ xs) ◂ ss) = written_rest w v xs ss
written_row_rest w v o = misplaced none

pub row_rest_written : {X S : Type 0} (f : X → Tree) (o : X → Outline) (w : Outline → Tree) (g : S → Tree) (p : S → Outline) (v : Outline → Tree) → IsWritten f o w → IsWritten g p v → (row : Row X S) → written_row_rest w v (row_outline o p row) ≡ row_rest f g row
unfolding further_tree list_outline written_row_rest
row_rest_written {X = X} {S = S} f o w g p v h k row = further row.items.items row.separators.items
  where
    further : (xs : List X) (ss : List S) → written_row_rest w v (list_outline o xs ◂ list_outline p ss) ≡ further_tree f g xs ss
    further [] ss = refl
    further (x ∷ xs) ss = rest_written f o w g p v h k xs ss

-- of an item of two parts, the one or the other
abbrev pub written_head : (Outline → Tree) → Outline → Tree
written_head w (a ◂ b) = w a
written_head w o = none

abbrev pub written_tail : (Outline → Tree) → Outline → Tree
written_tail w (a ◂ b) = w b
written_tail w o = none

-- a row that may be left out
pub written_optional_row : (Outline → Tree) → (Outline → Tree) → Outline → Tree
written_optional_row w v ((x ◂ xs) ◂ ss) = left (w x ▸ written_rest w v xs ss)
written_optional_row w v (no_more ◂ no_more) = right none
written_optional_row w v o = misplaced none

pub optional_row_written : {X S : Type 0} (f : X → Tree) (o : X → Outline) (w : Outline → Tree) (g : S → Tree) (p : S → Outline) (v : Outline → Tree) → IsWritten f o w → IsWritten g p v → (row : Row X S) → written_optional_row w v (row_outline o p row) ≡ optional_row f g row
unfolding listed_tree list_outline written_optional_row
optional_row_written {X = X} {S = S} f o w g p v h k row = listed row.items.items row.separators.items
  where
    listed : (xs : List X) (ss : List S) → written_optional_row w v (list_outline o xs ◂ list_outline p ss) ≡ listed_tree f g xs ss
    listed [] [] = refl
    listed [] (s ∷ ss) = refl
    listed (x ∷ xs) ss = ap (λ (t : Tree). left t) (h x ◇ rest_written f o w g p v h k xs ss)

-- what has to be there, though it is held as what may be absent
pub written_required : (Outline → Tree) → Outline → Tree
written_required w (variant n ◂ o) = w o
written_required w o = misplaced none

pub required_written : {X : Type 0} (f : X → Tree) (o : X → Outline) (w : Outline → Tree) → IsWritten f o w → (x : Option X) → written_required w (option_outline o x) ≡ required_tree f x
unfolding written_required
required_written f o w h None = refl
required_written f o w h (Some x) = h x

pub written_option : (Outline → Tree) → Outline → Tree
written_option w (variant n ◂ o) = left (w o)
written_option w o = right none

pub option_written : {X : Type 0} (f : X → Tree) (o : X → Outline) (w : Outline → Tree) → IsWritten f o w → (x : Option X) → written_option w (option_outline o x) ≡ optional_tree f x
unfolding written_option
option_written f o w h None = refl
option_written f o w h (Some x) = ap (λ (t : Tree). left t) (h x)

pub cons_alike : {a b : Tree} {ts us : List Tree} → a ≡ b → ts ≡ us → (a ∷ ts) ≡ (b ∷ us)
cons_alike {a = a} {b = b} {ts = ts} {us = us} p q = ap (λ (x : Tree). x ∷ ts) p ∙ ap (λ (xs : List Tree). b ∷ xs) q

-- tokens that are said, as separators within a cycle of trees
pub said_tokens : Outline → List ℕ
said_tokens (token_at i ◂ o) = i ∷ said_tokens o
said_tokens o = []

pub tokens_said : (ss : List ℕ) → said_tokens (list_outline token_at ss) ≡ ss
unfolding list_outline said_tokens
tokens_said [] = refl
tokens_said (s ∷ ss) = ap (λ (rest : List ℕ). s ∷ rest) (tokens_said ss)

pub further_alike : {ts us : List Tree} {ss rs : List ℕ} → ts ≡ us → ss ≡ rs → further_of ts ss ≡ further_of us rs
further_alike {ts = ts} {us = us} {ss = ss} {rs = rs} p q = ap (λ (xs : List Tree). further_of xs ss) p ∙ ap (λ (xs : List ℕ). further_of us xs) q
