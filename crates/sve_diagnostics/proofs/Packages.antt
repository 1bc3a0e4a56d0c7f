-- What there is to say of packages, one by one.
use Rattle.std.proofs.Common.{◌≡◌, ◌≤◌, ◌+◌, ℕ, suc, List, [], ◌∷◌, ◌++◌, length, drop, slice_get, Some, ap, sym, ◌∙◌, add-one, append_assoc}
use Rattle.std.proofs.Math.Seq.{drop-cons}
use Rattle.std.proofs.lemmas.List.{drop_all}
use Rattle.std.proofs.lemmas.Option.{get_or_from_slice_get, slice_get_within}
use Rattle.std.specs.List.{flat_map}
use Rattle.sve_diag.specs.declared.diag.Diag.{Diag}
use Rattle.sve_known.specs.Packages.{Known}
use Rattle.sve_front.specs.declared.unit.Unit as declared
use Rattle.sve_diagnostics.specs.Diagnostics.{package_diags}

next_there : (ks : List Known) (i : ℕ) (k : Known) → slice_get ks i ≡ Some k → drop i ks ≡ k ∷ drop (i + 1) ks
next_there ks i k h =
    drop-cons ks i k (slice_get_within ks i k h)
    ∙ ap (λ (x : Known). x ∷ drop (suc i) ks) (get_or_from_slice_get ks i k k h)
    ∙ ap (λ (n : ℕ). k ∷ drop n ks) (sym (add-one i))

pub one_more : (units : List declared.Unit) (before : List Diag) (ks : List Known) (i : ℕ) (k : Known) → slice_get ks i ≡ Some k
    → before ++ flat_map (package_diags units) (drop i ks) ≡ (before ++ package_diags units k) ++ flat_map (package_diags units) (drop (i + 1) ks)
one_more units before ks i k h =
    ap (λ (rest : List Known). before ++ flat_map (package_diags units) rest) (next_there ks i k h) ∙ sym (append_assoc before (package_diags units k) (flat_map (package_diags units) (drop (i + 1) ks)))

pub none_left : (ks : List Known) (i : ℕ) → length ks ≤ i → drop i ks ≡ []
none_left ks i h = drop_all i ks h
