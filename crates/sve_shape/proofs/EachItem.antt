-- The items of a JSON array, read one by one from the first.
use Rattle.std.proofs.Common.{◌≡◌, ℕ, suc, ◌+◌, ◌<◌, ◌≤◌, ◌++◌, List, [], ◌∷◌, Ok, Err, length, get_or, drop, decimal, add-one, append_assoc, refl, sym, ap, ◌∙◌}
use Rattle.std.proofs.Math.Seq.{drop-cons}
use Rattle.std.proofs.lemmas.List.{append-nil, drop_all}
use Rattle.serde_json.specs.Data.{Data}
use Rattle.serde_json.specs.View.{view, items_view}
use Rattle.serde_json.specs.declared.value.Value.{Value}
use Rattle.sve_shape.specs.Shapes.{Shaped, below, under, shaped_map, shaped_then, items_as}

-- All items are taken for what is taken so far, followed by what the items from this index on are taken for.
pub record IsTakenUpTo {A : Type 0} (taken : Data → Shaped A) (all : List Value) (so_far : List A) (index : ℕ) : Type 0 where
  pub whole : items_as taken 0 (items_view all) ≡ shaped_map (λ rest. so_far ++ rest) (items_as taken index (items_view (drop index all)))

joined : {A : Type 0} (so_far : List A) (x : A) (rest : Shaped (List A)) → shaped_map (λ r. so_far ++ r) (shaped_map (λ others. x ∷ others) rest) ≡ shaped_map (λ r. (so_far ++ x ∷ []) ++ r) rest
joined so_far x (Ok r) = ap Ok (sym (append_assoc so_far (x ∷ []) r))
joined so_far x (Err path) = refl

-- what the items from this one on are taken for, by what this one is taken for
from_here : {A : Type 0} (taken : Data → Shaped A) (all : List Value) (so_far : List A) (i : ℕ) (v : Value) (shaped : Shaped A) → i < length all → v ≡ get_or all i v → shaped ≡ taken (view v) → IsTakenUpTo taken all so_far i
    → items_as taken 0 (items_view all) ≡ shaped_map (λ r. so_far ++ r) (shaped_then (λ first. shaped_map (λ others. first ∷ others) (items_as taken (i + 1) (items_view (drop (i + 1) all)))) (under (decimal i) shaped))
from_here taken all so_far i v shaped within at is before =
    let here : drop i all ≡ v ∷ drop (i + 1) all = rw (add-one) (drop-cons all i v within ∙ ap (λ (w : Value). w ∷ drop (suc i) all) (sym at)) in
    before.whole
    ∙ ap (λ (vs : List Value). shaped_map (λ r. so_far ++ r) (items_as taken i (items_view vs))) here
    ∙ ap (λ (s : Shaped _). shaped_map (λ r. so_far ++ r) (shaped_then (λ first. shaped_map (λ others. first ∷ others) (items_as taken (i + 1) (items_view (drop (i + 1) all)))) (under (decimal i) s))) (sym is)

-- one item more
pub item_taken : {A : Type 0} (taken : Data → Shaped A) (all : List Value) (so_far : List A) (i : ℕ) (v : Value) (x : A) → i < length all → v ≡ get_or all i v → Ok x ≡ taken (view v) → IsTakenUpTo taken all so_far i → IsTakenUpTo taken all (so_far ++ x ∷ []) (i + 1)
item_taken taken all so_far i v x within at is before = record { whole = from_here taken all so_far i v (Ok x) within at is before ∙ joined so_far x (items_as taken (i + 1) (items_view (drop (i + 1) all))) }

-- a fault of this item is that of all
pub item_fails : {A : Type 0} (taken : Data → Shaped A) (all : List Value) (so_far : List A) (i : ℕ) (v : Value) (path : List ℕ) → i < length all → v ≡ get_or all i v → Err path ≡ taken (view v) → IsTakenUpTo taken all so_far i → Err (below (decimal i) path) ≡ items_as taken 0 (items_view all)
item_fails taken all so_far i v path within at is before = sym (from_here taken all so_far i v (Err path) within at is before)

-- no item is left
pub all_taken : {A : Type 0} (taken : Data → Shaped A) (all : List Value) (so_far : List A) (i : ℕ) → length all ≤ i → IsTakenUpTo taken all so_far i → Ok so_far ≡ items_as taken 0 (items_view all)
all_taken taken all so_far i over before =
    sym (before.whole ∙ ap (λ (vs : List Value). shaped_map (λ r. so_far ++ r) (items_as taken i (items_view vs))) (drop_all i all over) ∙ ap Ok (append-nil so_far))
