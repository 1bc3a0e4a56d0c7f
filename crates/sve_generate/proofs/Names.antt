-- Names that are added one construct after another.
use Rattle.std.proofs.Common.{ℕ, zero, suc, ◌+◌, ◌<◌, ◌≤◌, ◌≡◌, List, [], ◌∷◌, ◌++◌, length, drop, get_or, Bool, refl, ap, sym, ◌∙◌, append_assoc, length-append, arith}
use Rattle.std.specs.List.{sum_by}
use Rattle.std.proofs.lemmas.List.{append-nil, drop_all}
use Rattle.std.proofs.lemmas.List.Sums.{sum_by-drop_more}
use Rattle.sve_tree.specs.declared.item.Item.{Item}
use Rattle.sve_generate.specs.Constructs.{constructs}
use Rattle.sve_generate.specs.BlockNames.{block_name, names_from}

names_split : (taken : List ℕ → Bool) (before a b : ℕ) → names_from taken before (a + b) ≡ names_from taken before a ++ names_from taken (before + a) b
unfolding names_from
names_split taken before zero b = let e : zero + b ≡ b = omega arith in let f : before + zero ≡ before = omega arith in ap (names_from taken before) e ∙ ap (λ k. names_from taken k b) (sym f)
names_split taken before (suc a) b =
    let e : suc a + b ≡ suc (a + b) = omega arith in let f : before + 1 + a ≡ before + suc a = omega arith in
    ap (names_from taken before) e ∙ ap (λ others. block_name taken (before + 1) ∷ others) (names_split taken (before + 1) a b ∙ ap (λ k. names_from taken (before + 1) a ++ names_from taken k b) f)

length_names : (taken : List ℕ → Bool) (before n : ℕ) → length (names_from taken before n) ≡ n
unfolding names_from
length_names taken before zero = refl
length_names taken before (suc n) = ap suc (length_names taken (before + 1) n)

-- what was added, and what the rest adds, is what all add
pub added_on : (taken : List ℕ → Bool) (now next : List (List ℕ)) (a b : ℕ) → next ≡ now ++ names_from taken (length now) a → next ++ names_from taken (length next) b ≡ now ++ names_from taken (length now) (a + b)
added_on taken now next a b is =
    let len : length next ≡ length now + a = ap length is ∙ length-append now (names_from taken (length now) a) ∙ ap (λ n. length now + n) (length_names taken (length now) a) in
    ap (λ k. next ++ names_from taken k b) len ∙ ap (λ xs. xs ++ names_from taken (length now + a) b) is
    ∙ append_assoc now (names_from taken (length now) a) (names_from taken (length now + a) b) ∙ ap (λ xs. now ++ xs) (sym (names_split taken (length now) a b))

-- a turn of the loop over items
pub item_added : (taken : List ℕ → Bool) (items : List Item) (i : ℕ) (item : Item) (now next all : List (List ℕ)) → i < length items → item ≡ get_or items i item → next ≡ now ++ names_from taken (length now) (constructs item)
    → now ++ names_from taken (length now) (sum_by constructs (drop i items)) ≡ all → next ++ names_from taken (length next) (sum_by constructs (drop (i + 1) items)) ≡ all
item_added taken items i item now next all lt is added so_far =
    added_on taken now next (constructs item) (sum_by constructs (drop (i + 1) items)) added
    ∙ ap (λ n. now ++ names_from taken (length now) n) (ap (λ x. constructs x + sum_by constructs (drop (i + 1) items)) is ∙ sym (sum_by-drop_more constructs items i item lt)) ∙ so_far

-- the end of the loop
pub all_added : (taken : List ℕ → Bool) (items : List Item) (i : ℕ) (now all : List (List ℕ)) → length items ≤ i → now ++ names_from taken (length now) (sum_by constructs (drop i items)) ≡ all → now ≡ all
unfolding names_from
all_added taken items i now all le so_far = sym (append-nil now) ∙ ap (λ rest. now ++ names_from taken (length now) (sum_by constructs rest)) (sym (drop_all i items le)) ∙ so_far

-- one construct
pub one_added : (taken : List ℕ → Bool) (before : ℕ) → names_from taken before 1 ≡ block_name taken (before + 1) ∷ []
unfolding names_from
one_added taken before = refl

pub none_added : (taken : List ℕ → Bool) (before : ℕ) → names_from taken before 0 ≡ []
unfolding names_from
none_added taken before = refl
