-- Equivalence of types is decided part by part.
use Rattle.std.proofs.Common.{◌≡◌, ◌↔◌, ℕ, Bool, true, false, List, Option, Some, None, IsTrue, refl, sym, ap}
use Rattle.std.specs.Bool.{Decides}
use Rattle.std.specs.Cmp.Lexicographic.{bytes_decides}
use Rattle.std.proofs.lemmas.Bool.Decides.{same_from_decides, Decides-and, Decides-eqb, Decides-like}
use Rattle.sve_types.specs.DataType.{DataType}
use Rattle.sve_types.specs.Widths.{bits_of, counted}
use Rattle.sve_types.specs.States.{has_four_states}
use Rattle.sve_types.specs.Signs.{is_signed}
use Rattle.sve_types.specs.Equivalence.{IsEquivalent, declaration, unpacked_sizes}
use Rattle.sve_connect.specs.Fitting.{are_equivalent, same_bool, same_declaration}

bools : (a b : Bool) → Decides (same_bool a b) (a ≡ b)
bools true true = (λ e. refl, λ e. refl)
bools true false = (λ e. sym e, λ e. sym e)
bools false true = (λ e. e, λ e. e)
bools false false = (λ e. refl, λ e. refl)

triple : (f : List ℕ) (c t : ℕ) (g : List ℕ) (d u : ℕ) → f ≡ g → c ≡ d → t ≡ u → ◌≡◌ {A = Option (List ℕ × ℕ × ℕ)} (Some (f, c, t)) (Some (g, d, u))
triple f c t g d u x y z = rw (x, y, z) refl

declarations : (a b : Option (List ℕ × ℕ × ℕ)) → Decides (same_declaration a b) (a ≡ b)
declarations None None = (λ e. refl, λ e. refl)
declarations None (Some b) = (λ (e : false ≡ true). cc, λ (e : None ≡ Some b). cc)
declarations (Some a) None = (λ (e : false ≡ true). cc, λ (e : Some a ≡ None). cc)
declarations (Some a) (Some b) = Decides-like _ (λ h. triple a.0 a.1 a.2 b.0 b.1 b.2 h.0 h.1.0 h.1.1) (λ (e : Some a ≡ Some b). let t : a ≡ b = cc in parts a b t)
    (Decides-and _ _ (bytes_decides a.0 b.0) (Decides-and _ _ (Decides-eqb a.1 b.1) (Decides-eqb a.2 b.2)))
  where
    parts : (x y : List ℕ × ℕ × ℕ) → x ≡ y → (x.0 ≡ y.0) × ((x.1 ≡ y.1) × (x.2 ≡ y.2))
    parts x y t = (ap (λ (z : List ℕ × ℕ × ℕ). z.0) t, (ap (λ (z : List ℕ × ℕ × ℕ). z.1) t, ap (λ (z : List ℕ × ℕ × ℕ). z.2) t))

decided : (a b : DataType) → Decides (are_equivalent a b) (IsEquivalent a b)
decided a b = Decides-like _
    (λ h. record { unpacked = h.0; bits = h.1.0; states = h.1.1.0; sign = h.1.1.1.0; declared = h.1.1.1.1 })
    (λ h. (h.unpacked, (h.bits, (h.states, (h.sign, h.declared)))))
    (Decides-and _ _ (bytes_decides (unpacked_sizes a) (unpacked_sizes b)) (Decides-and _ _ (Decides-eqb (counted (bits_of a)) (counted (bits_of b)))
    (Decides-and _ _ (bools (has_four_states a) (has_four_states b)) (Decides-and _ _ (bools (is_signed a) (is_signed b)) (declarations (declaration a) (declaration b))))))

pub equivalence_is : (a b : DataType) (r : Bool) → IsTrue r ↔ IsEquivalent a b → r ≡ are_equivalent a b
equivalence_is a b r h = same_from_decides r (are_equivalent a b) h (decided a b)
