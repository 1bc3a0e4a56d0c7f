-- A package on a cycle would have to have its turn before itself.
use Rattle.std.proofs.Common.{arith, ◌≡◌, ◌<◌, ◌+◌, ℕ, zero, suc, Bool, true, false, ◌&&◌, List, [], ◌∷◌, length, get_or, refl, subst}
use Rattle.std.specs.List.{Contains, list_all}
use Rattle.sve_package_order.specs.declared.package_imports.PackageImports.{PackageImports}
use Rattle.sve_package_order.specs.Rounds.{imported, is_early}
use Rattle.sve_package_order.specs.Cycles.{Goes, end_of, CyclesHaveNoRound}

both_true : (a b : Bool) → (a && b) ≡ true → (a ≡ true) × (b ≡ true)
both_true true b h = (refl, h)
both_true false b h = cc

holds_at : {X : Type 0} (f : X → Bool) (x : X) (xs : List X) (k : ℕ) → k < length xs → get_or xs k x ≡ x → list_all f xs ≡ true → f x ≡ true
holds_at f x [] k l e h = absurd (omega arith)
holds_at f x (y ∷ ys) zero l e h = subst (λ z. f z ≡ true) e (both_true (f y) (list_all f ys) h).0
holds_at f x (y ∷ ys) (suc k) l e h = holds_at f x ys k (omega arith) e (both_true (f y) (list_all f ys) h).1

earlier : (ps : List PackageImports) (p q : PackageImports) (k : ℕ) → is_early ps (suc k) p ≡ true → Contains (imported ps p) q → is_early ps k q ≡ true
unfolding is_early
earlier ps p q k e there = holds_at (is_early ps k) q (imported ps p) there.0 there.1 there.2 e

never : (ps : List PackageImports) (p : PackageImports) → is_early ps zero p ≡ true → ⊥
unfolding is_early
never ps p e = cc

along : (ps way : List PackageImports) (p : PackageImports) (k : ℕ) → is_early ps k p ≡ true → Goes ps p way → (j : ℕ) × (k ≡ length way + j) × (is_early ps j (end_of p way) ≡ true)
along ps [] p k e goes = (k, omega arith, e)
along ps (q ∷ way) p zero e goes = absurd (never ps p e)
along ps (q ∷ way) p (suc k) e goes =
    let r = along ps way q k (earlier ps p q k e goes.0) goes.1 in
    (r.0, omega (arith, r.1), r.2)

cycle : (ps back : List PackageImports) (q : PackageImports) → Goes ps q back → end_of q back ≡ q → 0 < length back → (n k : ℕ) → k < n → is_early ps k q ≡ true → ⊥
cycle ps back q goes ends more zero k below e = absurd (omega arith)
cycle ps back q goes ends more (suc n) k below e =
    let r = along ps back q k e goes in
    cycle ps back q goes ends more n r.0 (omega (arith, r.1)) (subst (λ (x : PackageImports). is_early ps r.0 x ≡ true) ends r.2)

pub no_round : CyclesHaveNoRound
no_round ps p q way back goes ends around returns more k = by (is_early ps k p) refl
  where
    by : (b : Bool) → is_early ps k p ≡ b → b ≡ false
    by true e =
        let r = along ps way p k e goes in
        absurd (cycle ps back q around returns more (suc r.0) r.0 (omega arith) (subst (λ (x : PackageImports). is_early ps r.0 x ≡ true) ends r.2))
    by false e = refl
