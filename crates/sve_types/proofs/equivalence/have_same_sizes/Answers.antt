use Rattle.std.proofs.Common.{◌≡◌, ℕ, zero, suc, ◌<◌, List, [], ◌∷◌, length, get_or, map, sym, ◌∙◌, arith}
use Rattle.sve_types.specs.declared.ty.Range.{Range}
use Rattle.sve_types.specs.Dimensions.{place_count}
use Rattle.sve_types.proofs.equivalence.have_same_sizes.Goals as goal

-- dimensions of the same sizes have the same size at each place
same_size_at : (xs ys : List Range) (d : Range) (i : ℕ) → i < length xs → map place_count xs ≡ map place_count ys → place_count (get_or xs i d) ≡ place_count (get_or ys i d)
same_size_at [] ys d i h e = absurd (omega arith)
same_size_at (x ∷ xs) [] d i h e = cc
same_size_at (x ∷ xs) (y ∷ ys) d zero h e = cc
same_size_at (x ∷ xs) (y ∷ ys) d (suc i) h e =
    let t : map place_count xs ≡ map place_count ys = cc in
    same_size_at xs ys d i (omega arith) t

pub returns-then-places : goal.returns-then-places
returns-then-places c = (
  λ h. cc,
  λ e. absurd (c.if-places.true (c.places.ensures ∙ same_size_at _ _ _ _ c.dimensions-test.true e ∙ sym c.places-in-dimensions.ensures)),
)
