-- What is known where something was taken.
use Rattle.std.proofs.Common.{◌≡◌, ℕ, Bool, true, false, List, Ok, Err, if◌then◌else◌, refl, sym, subst}
use Rattle.sve_shape.specs.Shapes.{Shaped, under, shaped_map, shaped_then}

pub then_ok : {A B : Type 0} (f : A → Shaped B) (s : Shaped A) (y : B) → shaped_then f s ≡ Ok y → (x : A) × (s ≡ Ok x) × (f x ≡ Ok y)
then_ok f (Ok x) y e = (x, refl, e)
then_ok f (Err path) y e = absurd (cc)

pub then_at : {A B : Type 0} (f : A → Shaped B) (s : Shaped A) (x : A) (y : B) → s ≡ Ok x → f x ≡ Ok y → shaped_then f s ≡ Ok y
then_at f s x y is e = subst (λ (t : Shaped _). shaped_then f t ≡ Ok y) (sym is) e

pub map_ok : {A B : Type 0} (f : A → B) (s : Shaped A) (y : B) → shaped_map f s ≡ Ok y → (x : A) × (s ≡ Ok x) × (f x ≡ y)
map_ok f (Ok x) y e = (x, refl, let same : f x ≡ y = cc in same)
map_ok f (Err path) y e = absurd (cc)

pub under_ok : {A : Type 0} (step : List ℕ) (s : Shaped A) (x : A) → under step s ≡ Ok x → s ≡ Ok x
under_ok step (Ok y) x e = e
under_ok step (Err path) x e = absurd (cc)

-- what a test lets through, and what it does not
pub then_branch : {A : Type 0} (b : Bool) (s : Shaped A) (path : List ℕ) (x : A) → (if b then s else Err path) ≡ Ok x → (b ≡ true) × (s ≡ Ok x)
then_branch true s path x e = (refl, e)
then_branch false s path x e = absurd (cc)

pub else_branch : {A : Type 0} (b : Bool) (s : Shaped A) (path : List ℕ) (x : A) → (if b then Err path else s) ≡ Ok x → (b ≡ false) × (s ≡ Ok x)
else_branch false s path x e = (refl, e)
else_branch true s path x e = absurd (cc)
