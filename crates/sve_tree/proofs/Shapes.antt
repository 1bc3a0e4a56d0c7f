-- Trees of repetitions and rows, and trees at a level.
use Rattle.std.proofs.Common.{ℕ, zero, suc, List, [], ◌∷◌, ◌++◌, map, length, Bool, ◌≡◌, refl, ap, sym, ◌∙◌, arith, eqb, cond, true, false, ◌≤◌}
use Rattle.sve_grammar.specs.Reading.{Tree, turn, ended, left, right, none, joined}
use Rattle.sve_tree.specs.Shape.{◌▸◌, repeated_tree, first_tree, others_tree, rest_tree, further_tree, listed_tree, BeginsWith, IsRow}
use Rattle.std.proofs.lemmas.Bool.{eqb-true, eq-eqb}
use Rattle.sve_tree.specs.Expressions.{raise, wrap}

pub repeated_push : {X : Type 0} (f : X → Tree) (xs : List X) (x : X) → repeated_tree f (xs ++ x ∷ []) ≡ joined (repeated_tree f xs) (turn (f x) ended)
unfolding repeated_tree
repeated_push f [] x = refl
repeated_push f (y ∷ ys) x = ap (λ (t : Tree). turn (f y) t) (repeated_push f ys x)

pub repeated_ended : {X : Type 0} (f : X → Tree) (xs : List X) → joined (repeated_tree f xs) ended ≡ repeated_tree f xs
unfolding repeated_tree
repeated_ended f [] = refl
repeated_ended f (y ∷ ys) = ap (λ (t : Tree). turn (f y) t) (repeated_ended f ys)

-- a repetition begins with no turn
pub repeated_nil : {X : Type 0} (f : X → Tree) → repeated_tree f [] ≡ ended
unfolding repeated_tree
repeated_nil f = refl

-- ---- items of which there is one at least

pub first_one : {X : Type 0} (x : X) → BeginsWith x (x ∷ [])
unfolding BeginsWith
first_one x = ([], refl)

pub first_stays : {X : Type 0} (first : X) (xs : List X) (x : X) → BeginsWith first xs → BeginsWith first (xs ++ x ∷ [])
unfolding BeginsWith
first_stays first xs x h = (h.0 ++ x ∷ [], rw h.1 refl)

pub first_seen : {X : Type 0} (f : X → Tree) (first : X) (xs : List X) → BeginsWith first xs → first_tree f xs ≡ f first
unfolding first_tree BeginsWith
first_seen f first xs h = rw h.1 refl

pub others_one : {X : Type 0} (f : X → Tree) (x : X) → others_tree f (x ∷ []) ≡ ended
unfolding others_tree repeated_tree
others_one f x = refl

pub others_push : {X : Type 0} (f : X → Tree) (first : X) (xs : List X) (x : X) → BeginsWith first xs → others_tree f (xs ++ x ∷ []) ≡ joined (others_tree f xs) (turn (f x) ended)
unfolding others_tree BeginsWith
others_push f first xs x h = rw h.1 (repeated_push f h.0 x)

pub others_ended : {X : Type 0} (f : X → Tree) (first : X) (xs : List X) → BeginsWith first xs → joined (others_tree f xs) ended ≡ others_tree f xs
unfolding others_tree BeginsWith
others_ended f first xs h = rw h.1 (repeated_ended f h.0)

-- ---- rows

append_length : {X : Type 0} (xs : List X) (x : X) → length (xs ++ x ∷ []) ≡ suc (length xs)
append_length [] x = refl
append_length (y ∷ ys) x = ap suc (append_length ys x)

rest_grows : {X S : Type 0} (f : X → Tree) (g : S → Tree) (xs : List X) (ss : List S) (x : X) (s : S) → length xs ≡ length ss → rest_tree f g (xs ++ x ∷ []) (ss ++ s ∷ []) ≡ joined (rest_tree f g xs ss) (turn (g s ▸ f x) ended)
unfolding rest_tree
rest_grows f g [] [] x s e = refl
rest_grows f g [] (u ∷ us) x s e = absurd (omega arith)
rest_grows f g (y ∷ ys) [] x s e = absurd (omega arith)
rest_grows f g (y ∷ ys) (u ∷ us) x s e = ap (λ (t : Tree). turn (g u ▸ f y) t) (rest_grows f g ys us x s (omega arith))

rest_is_whole : {X S : Type 0} (f : X → Tree) (g : S → Tree) (xs : List X) (ss : List S) → length xs ≡ length ss → joined (rest_tree f g xs ss) ended ≡ rest_tree f g xs ss
unfolding rest_tree
rest_is_whole f g [] [] e = refl
rest_is_whole f g [] (u ∷ us) e = absurd (omega arith)
rest_is_whole f g (y ∷ ys) [] e = absurd (omega arith)
rest_is_whole f g (y ∷ ys) (u ∷ us) e = ap (λ (t : Tree). turn (g u ▸ f y) t) (rest_is_whole f g ys us (omega arith))

pub row_one : {X S : Type 0} (x : X) (ss : List S) → ss ≡ [] → IsRow x (x ∷ []) ss
unfolding IsRow
row_one x ss e = ([], refl, ap length (sym e))

pub row_push : {X S : Type 0} (first : X) (xs : List X) (ss : List S) (x : X) (s : S) → IsRow first xs ss → IsRow first (xs ++ x ∷ []) (ss ++ s ∷ [])
unfolding IsRow
row_push first xs ss x s h = (h.0 ++ x ∷ [], rw h.1 refl, append_length h.0 x ∙ ap suc h.2 ∙ sym (append_length ss s))

pub rest_one : {X S : Type 0} (f : X → Tree) (g : S → Tree) (x : X) → further_tree f g (x ∷ []) [] ≡ ended
unfolding further_tree rest_tree
rest_one f g x = refl

pub rest_push : {X S : Type 0} (f : X → Tree) (g : S → Tree) (first : X) (xs : List X) (ss : List S) (x : X) (s : S) → IsRow first xs ss → further_tree f g (xs ++ x ∷ []) (ss ++ s ∷ []) ≡ joined (further_tree f g xs ss) (turn (g s ▸ f x) ended)
unfolding further_tree IsRow
rest_push f g first xs ss x s h = rw h.1 (rest_grows f g h.0 ss x s h.2)

pub rest_ended : {X S : Type 0} (f : X → Tree) (g : S → Tree) (first : X) (xs : List X) (ss : List S) → IsRow first xs ss → joined (further_tree f g xs ss) ended ≡ further_tree f g xs ss
unfolding further_tree IsRow
rest_ended f g first xs ss h = rw h.1 (rest_is_whole f g h.0 ss h.2)

pub first_is : {X S : Type 0} (f : X → Tree) (first : X) (xs : List X) (ss : List S) → IsRow first xs ss → first_tree f xs ≡ f first
unfolding first_tree IsRow
first_is f first xs ss h = rw h.1 refl

-- a row that may be left out
pub listed_none : {X S : Type 0} (f : X → Tree) (g : S → Tree) → listed_tree f g [] [] ≡ right none
unfolding listed_tree
listed_none f g = refl

pub listed_is : {X S : Type 0} (f : X → Tree) (g : S → Tree) (first : X) (xs : List X) (ss : List S) → IsRow first xs ss → listed_tree f g xs ss ≡ left (f first ▸ further_tree f g xs ss)
unfolding listed_tree further_tree IsRow
listed_is f g first xs ss h = rw h.1 refl

-- ---- trees of items, and items

pub first_map : {X : Type 0} (f : X → Tree) (xs : List X) → first_tree (λ (t : Tree). t) (map f xs) ≡ first_tree f xs
unfolding first_tree
first_map f [] = refl
first_map f (x ∷ xs) = refl

repeated_map : {X : Type 0} (f : X → Tree) (xs : List X) → repeated_tree (λ (t : Tree). t) (map f xs) ≡ repeated_tree f xs
unfolding repeated_tree
repeated_map f [] = refl
repeated_map f (x ∷ xs) = ap (λ (t : Tree). turn (f x) t) (repeated_map f xs)

pub others_map : {X : Type 0} (f : X → Tree) (xs : List X) → others_tree (λ (t : Tree). t) (map f xs) ≡ others_tree f xs
unfolding others_tree
others_map f [] = refl
others_map f (x ∷ xs) = repeated_map f xs

rest_map : {X S : Type 0} (f : X → Tree) (g : S → Tree) (xs : List X) (ss : List S) → rest_tree (λ (t : Tree). t) g (map f xs) ss ≡ rest_tree f g xs ss
unfolding rest_tree
rest_map f g [] [] = refl
rest_map f g [] (s ∷ ss) = refl
rest_map f g (x ∷ xs) [] = refl
rest_map f g (x ∷ xs) (s ∷ ss) = ap (λ (t : Tree). turn (g s ▸ f x) t) (rest_map f g xs ss)

pub further_map : {X S : Type 0} (f : X → Tree) (g : S → Tree) (xs : List X) (ss : List S) → further_tree (λ (t : Tree). t) g (map f xs) ss ≡ further_tree f g xs ss
unfolding further_tree
further_map f g [] ss = refl
further_map f g (x ∷ xs) ss = rest_map f g xs ss

-- ---- levels

-- what stands lower goes up by a wrapping
pub raise_up : (n h : ℕ) (t : Tree) → h ≤ n → raise (suc n) h t ≡ wrap n (raise n h t)
unfolding raise
raise_up n h t le = up (eqb h (suc n)) refl
  where
    up : (b : Bool) → eqb h (suc n) ≡ b → cond b t (wrap n (raise n h t)) ≡ wrap n (raise n h t)
    up true e = absurd (omega (arith, eqb-true h (suc n) e))
    up false e = refl

pub raise_same : (n : ℕ) (t : Tree) → raise n n t ≡ t
unfolding raise
raise_same zero t = refl
raise_same (suc n) t = rw (eq-eqb (suc n) (suc n) refl) refl
