-- How many tokens a tree has, and numbers that they reach where the tree is whole.
use Rattle.std.proofs.Common.{ℕ, zero, suc, ◌+◌, ◌≤◌, ◌≡◌, Bool, true, false, cond, eqb, ltb, List, [], ◌∷◌, length, length-append, refl, arith}
use Rattle.std.specs.Prelude.{sum_by}
use Rattle.std.proofs.lemmas.List.Sums.{sum_by-cons}
use Rattle.sve_grammar.specs.Reading.{Tree, leaf, none, pair, left, right, turn, ended, leaves}
use Rattle.sve_tree.specs.Shape.{first_tree, further_tree, listed_tree, others_tree, repeated_tree, rest_tree}
use Rattle.sve_tree.specs.Expressions.{raise}
use Rattle.sve_outline.specs.Outline.{IsWhole}

abbrev pub count : Tree → ℕ
count (leaf i) = 1
count none = 0
count (pair t u) = count t + count u
count (left t) = count t
count (right t) = count t
count (turn t u) = count t + count u
count ended = 0

pub counted : (t : Tree) → length (leaves t) ≡ count t
counted (leaf i) = refl
counted none = refl
counted (pair t u) = let a = counted t in let b = counted u in let c = length-append (leaves t) (leaves u) in omega arith
counted (left t) = counted t
counted (right t) = counted t
counted (turn t u) = let a = counted t in let b = counted u in let c = length-append (leaves t) (leaves u) in omega arith
counted ended = refl

-- a whole tree has so many tokens at least
abbrev pub Reaches : ℕ → Tree → Type 0
Reaches n t = IsWhole t → n ≤ count t

-- what no grammar has is not whole
pub placed : (fits : Bool) (t : Tree) (n : ℕ) → Reaches n t → Reaches n (cond fits t (turn t none))
placed true t n reach w = reach w
placed false t n reach w = absurd w.2

pub either_way : (b : Bool) (t : Tree) (n : ℕ) → Reaches n t → Reaches n (cond b (left t) t)
either_way true t n reach w = reach w
either_way false t n reach w = reach w

-- at each level of operators
pub raised : (level h : ℕ) (t : Tree) (n : ℕ) → Reaches n t → Reaches n (raise level h t)
unfolding raise
raised zero h t n reach w = placed (eqb h 0) t n reach w
raised (suc level) h t n reach w = here (eqb h (suc level)) (ltb level 11) (raised level h t n reach) w
  where
    here : (b low : Bool) → Reaches n (raise level h t) → IsWhole (cond b t (cond low (pair (raise level h t) ended) (pair (raise level h t) (right none)))) → n ≤ count (cond b t (cond low (pair (raise level h t) ended) (pair (raise level h t) (right none))))
    here true low below w = reach w
    here false true below w = let k = below w.0 in omega arith
    here false false below w = let k = below w.0 in omega arith

-- ---- lists

-- items that have so many tokens together at least
abbrev pub ReachAll : {X : Type 0} → (X → Tree) → ℕ → List X → Type 0
ReachAll f n [] = n ≤ 0
ReachAll f n (x ∷ xs) = (a b : ℕ) × (n ≤ a + b) × Reaches a (f x) × ReachAll f b xs

pub all_reach : {X : Type 0} (f : X → Tree) (c : X → ℕ) → ((x : X) → Reaches (c x) (f x)) → (xs : List X) → ReachAll f (sum_by c xs) xs
all_reach f c one [] = omega arith
all_reach f c one (x ∷ xs) = let e = sum_by-cons c x xs in (c x, sum_by c xs, (omega arith), one x, all_reach f c one xs)

pub repeated_reach : {X : Type 0} (f : X → Tree) (n : ℕ) (xs : List X) → ReachAll f n xs → Reaches n (repeated_tree f xs)
unfolding repeated_tree
repeated_reach f n [] r w = r
repeated_reach f n (x ∷ xs) r w = let a = r.3 w.0 in let b = repeated_reach f r.1 xs r.4 w.1 in let fits = r.2 in omega arith

pub rest_reach : {X : Type 0} (f : X → Tree) (n : ℕ) (xs : List X) (ss : List ℕ) → ReachAll f n xs → Reaches n (rest_tree f leaf xs ss)
unfolding rest_tree
rest_reach f n [] [] r w = r
rest_reach f n [] (s ∷ ss) r w = absurd w.2
rest_reach f n (x ∷ xs) [] r w = absurd w.2
rest_reach f n (x ∷ xs) (s ∷ ss) r w = let a = r.3 w.0.1 in let b = rest_reach f r.1 xs ss r.4 w.1 in let fits = r.2 in omega arith

-- a row: the first item, and the others behind their separators
pub row_reach : {X : Type 0} (f : X → Tree) (n : ℕ) (xs : List X) (ss : List ℕ) → ReachAll f n xs → IsWhole (first_tree f xs) → IsWhole (further_tree f leaf xs ss) → n ≤ count (first_tree f xs) + count (further_tree f leaf xs ss)
unfolding first_tree further_tree
row_reach f n [] ss r v w = absurd v.2
row_reach f n (x ∷ xs) ss r v w = let a = r.3 v in let b = rest_reach f r.1 xs ss r.4 w in let fits = r.2 in omega arith

-- a row that may be left out
pub optional_reach : {X : Type 0} (f : X → Tree) (n : ℕ) (xs : List X) (ss : List ℕ) → ReachAll f n xs → Reaches n (listed_tree f leaf xs ss)
unfolding listed_tree
optional_reach f n [] [] r w = r
optional_reach f n [] (s ∷ ss) r w = absurd w.2
optional_reach f n (x ∷ xs) ss r w = let a = r.3 w.0 in let b = rest_reach f r.1 xs ss r.4 w.1 in let fits = r.2 in omega arith

-- items with nothing between them, of which there is one at least
pub list_reach : {X : Type 0} (f : X → Tree) (n : ℕ) (xs : List X) → ReachAll f n xs → IsWhole (first_tree f xs) → IsWhole (others_tree f xs) → n ≤ count (first_tree f xs) + count (others_tree f xs)
unfolding first_tree others_tree
list_reach f n [] r v w = absurd v.2
list_reach f n (x ∷ xs) r v w = let a = r.3 v in let b = repeated_reach f r.1 xs r.4 w in let fits = r.2 in omega arith
