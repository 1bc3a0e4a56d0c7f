-- Scopes around one, from a place on.
use Rattle.std.proofs.Common.{◌≡◌, ◌≤◌, ◌+◌, ℕ, List, length, drop, slice_get, Some, refl, sym}
use Rattle.std.proofs.Math.Numerals.{add-one}
use Rattle.sve_scope.specs.declared.scope.Scope.{Scope}
use Rattle.sve_scope.specs.declared.spot.Spot.{Spot}
use Rattle.sve_scope.specs.declared.found.Found.{Found}
use Rattle.sve_scope.specs.declared.found.Found.TheVariants as is_found
use Rattle.sve_scope.specs.Lookup.{meaning_of, Meaning, local, imported, two, nothing, in_scope, in_scopes, or_else}
use Rattle.sve_scope.proofs.Candidates.{none_behind, split_there}

-- only where nothing is found it means nothing
pub means_something : (found : Found) → (found ≡ is_found.None → ⊥) → meaning_of found ≡ nothing → ⊥
means_something (is_found.Local d) h e = cc
means_something (is_found.Imported p q t) h e = cc
means_something (is_found.Two p q) h e = cc
means_something is_found.None h e = h refl

module _ (place : Spot) (n : List ℕ) where
  pub goes_outward : (ss : List Scope) (i : ℕ) (s : Scope) → slice_get ss i ≡ Some s
      → in_scopes place n (i + 1) (drop i ss) ≡ or_else place n (in_scope place n (i + 1) s) (in_scopes place n (i + 1 + 1) (drop (i + 1) ss))
  goes_outward ss i s h = rw (add-one i, split_there ss i s h) refl

  pub ends_there : (ss : List Scope) (i : ℕ) → length ss ≤ i → in_scopes place n (i + 1) (drop i ss) ≡ nothing
  ends_there ss i h = rw (none_behind ss i h) refl

  -- what is found in a scope is what all from there on give, and where nothing is found, the others give it
  pub found_there : (ss : List Scope) (i : ℕ) (s : Scope) (m : Meaning) → slice_get ss i ≡ Some s → m ≡ in_scope place n (i + 1) s → (m ≡ nothing → ⊥)
      → in_scopes place n (i + 1) (drop i ss) ≡ m
  found_there ss i s nothing h e f = absurd (f refl)
  found_there ss i s (local d) h e f = rw (goes_outward ss i s h, sym e) refl
  found_there ss i s (imported p q t) h e f = rw (goes_outward ss i s h, sym e) refl
  found_there ss i s (two p q) h e f = rw (goes_outward ss i s h, sym e) refl

  pub goes_on : (ss : List Scope) (i : ℕ) (s : Scope) → slice_get ss i ≡ Some s → nothing ≡ in_scope place n (i + 1) s
      → in_scopes place n (i + 1) (drop i ss) ≡ in_scopes place n (i + 1 + 1) (drop (i + 1) ss)
  goes_on ss i s h e = rw (goes_outward ss i s h, sym e) refl
