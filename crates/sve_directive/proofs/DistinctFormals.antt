-- Formals whose names are found distinct one after another.
use Rattle.std.proofs.Common.{◌≡◌, ℕ, suc, ◌+◌, ◌<◌, length, get_or, drop, add-one, ◌&&◌, Bool, true, false, not, cond, List, [], ◌∷◌, bytes_eq, refl, sym, ap, ◌∙◌}
use Rattle.std.specs.List.{list_all}
use Rattle.std.specs.Ordering.{nat_cmp, is_eq}
use Rattle.std.specs.Cmp.Lexicographic.{slice_cmp}
use Rattle.std.proofs.Math.Seq.{drop-cons}
use Rattle.std.proofs.lemmas.Map.Text.{is_eq-slice_cmp}
use Rattle.sve_directive.specs.Define.{Formal, is_new, have_distinct_names}

-- each name is none of those seen before it
abbrev pub distinct_from : (List ℕ → Bool) → List Formal → Bool
distinct_from seen [] = true
distinct_from seen (formal ∷ formals) = not (seen formal.0) && distinct_from (λ name. cond (is_eq (slice_cmp nat_cmp formal.0 name)) true (seen name)) formals

-- the names are looked up, and no matter how
pub distinct_from-same : (seen known : List ℕ → Bool) (formals : List Formal) → ((name : List ℕ) → seen name ≡ known name) → distinct_from seen formals ≡ distinct_from known formals
distinct_from-same seen known [] same = refl
distinct_from-same seen known (formal ∷ formals) same =
    (λ k. not (same formal.0 k) && distinct_from-same (λ name. cond (is_eq (slice_cmp nat_cmp formal.0 name)) true (seen name)) (λ name. cond (is_eq (slice_cmp nat_cmp formal.0 name)) true (known name)) formals (λ name. ap (cond (is_eq (slice_cmp nat_cmp formal.0 name)) true) (same name)) k)

regroup : (a b p q : Bool) → ((a && b) && (p && q)) ≡ ((a && p) && (b && q))
regroup false b p q = refl
regroup true true p q = refl
regroup true false true q = refl
regroup true false false q = refl

neither : (a b : Bool) → not (cond a true b) ≡ (not b && not a)
neither true true = refl
neither true false = refl
neither false true = refl
neither false false = refl

-- new to those seen and to one more name
both_new : (seen : List ℕ → Bool) (name : List ℕ) (formals : List Formal) → list_all (λ formal. not (cond (is_eq (slice_cmp nat_cmp name formal.0)) true (seen formal.0))) formals ≡ (list_all (λ formal. not (seen formal.0)) formals && is_new name formals)
both_new seen name [] = refl
both_new seen name (formal ∷ formals) =
    let first : not (cond (is_eq (slice_cmp nat_cmp name formal.0)) true (seen formal.0)) ≡ (not (seen formal.0) && not (bytes_eq name formal.0)) =
    neither (is_eq (slice_cmp nat_cmp name formal.0)) (seen formal.0) ∙ ap (λ (b : Bool). not (seen formal.0) && not b) (is_eq-slice_cmp name formal.0) in
    (λ k. first k && both_new seen name formals k) ∙ regroup (not (seen formal.0)) (not (bytes_eq name formal.0)) (list_all (λ f. not (seen f.0)) formals) (is_new name formals)

and_regroup : (a b c d : Bool) → (a && ((b && c) && d)) ≡ ((a && b) && (c && d))
and_regroup true true true d = refl
and_regroup true true false d = refl
and_regroup true false c d = refl
and_regroup false b c d = refl

parts : (seen : List ℕ → Bool) (formals : List Formal) → distinct_from seen formals ≡ (list_all (λ formal. not (seen formal.0)) formals && have_distinct_names formals)
parts seen [] = refl
parts seen (formal ∷ formals) =
    ap (λ (b : Bool). not (seen formal.0) && b) (parts (λ name. cond (is_eq (slice_cmp nat_cmp formal.0 name)) true (seen name)) formals ∙ ap (λ (b : Bool). b && have_distinct_names formals) (both_new seen formal.0 formals))
    ∙ and_regroup (not (seen formal.0)) (list_all (λ f. not (seen f.0)) formals) (is_new formal.0 formals) (have_distinct_names formals)

none_seen : (seen : List ℕ → Bool) (formals : List Formal) → ((name : List ℕ) → seen name ≡ false) → list_all (λ formal. not (seen formal.0)) formals ≡ true
none_seen seen [] none = refl
none_seen seen (formal ∷ formals) none = (λ k. not (none formal.0 k) && none_seen seen formals none k)

-- where nothing was seen
pub distinct_from-none : (seen : List ℕ → Bool) (formals : List Formal) → ((name : List ℕ) → seen name ≡ false) → distinct_from seen formals ≡ have_distinct_names formals
distinct_from-none seen formals none = parts seen formals ∙ ap (λ (b : Bool). b && have_distinct_names formals) (none_seen seen formals none)

-- one more name was seen, which was new
pub distinct_from-next : (seen known : List ℕ → Bool) (name : List ℕ) (formals : List Formal) (i : ℕ) (formal : Formal) (all : Bool) → i < length formals → formal ≡ get_or formals i formal → name ≡ formal.0 → true ≡ not (seen name)
    → ((q : List ℕ) → known q ≡ cond (is_eq (slice_cmp nat_cmp name q)) true (seen q)) → distinct_from seen (drop i formals) ≡ all → distinct_from known (drop (i + 1) formals) ≡ all
distinct_from-next seen known name formals i formal all within at is fresh updates before =
    let here : drop i formals ≡ formal ∷ drop (i + 1) formals = rw (add-one) (drop-cons formals i formal within ∙ ap (λ (f : Formal). f ∷ drop (suc i) formals) (sym at)) in
    distinct_from-same known (λ q. cond (is_eq (slice_cmp nat_cmp formal.0 q)) true (seen q)) (drop (i + 1) formals) (λ q. updates q ∙ ap (λ (n : List ℕ). cond (is_eq (slice_cmp nat_cmp n q)) true (seen q)) is)
    ∙ ap (λ (b : Bool). b && distinct_from (λ q. cond (is_eq (slice_cmp nat_cmp formal.0 q)) true (seen q)) (drop (i + 1) formals)) (fresh ∙ ap (λ (n : List ℕ). not (seen n)) is)
    ∙ ap (distinct_from seen) (sym here)
    ∙ before
