-- A text is cut one piece after the other.
use Rattle.std.proofs.Common.{◌≡◌, ℕ, zero, suc, ◌≤◌, List, [], ◌∷◌, length, drop, refl, ap, arith, length-drop}
use Rattle.sve_macro.specs.Cut.{First, first_pieces, pieces}

-- as many steps as bytes are enough
first_pieces-enough : {S X : Type 0} (first : S → List ℕ → First S X) (n m : ℕ) (state : S) (text : List ℕ) → length text ≤ n → length text ≤ m → first_pieces first n state text ≡ first_pieces first m state text
unfolding first_pieces
first_pieces-enough first zero zero state text a b = refl
first_pieces-enough first zero (suc m) state [] a b = refl
first_pieces-enough first zero (suc m) state (v ∷ vs) a b = absurd (omega arith)
first_pieces-enough first (suc n) zero state [] a b = refl
first_pieces-enough first (suc n) zero state (v ∷ vs) a b = absurd (omega arith)
first_pieces-enough first (suc n) (suc m) state [] a b = refl
first_pieces-enough first (suc n) (suc m) state (v ∷ vs) a b =
    let k = (first state (v ∷ vs)).more in
    ap (λ r. (first state (v ∷ vs)).piece ∷ r)
    (first_pieces-enough first n m (first state (v ∷ vs)).state (drop k vs) (omega (arith, length-drop k vs)) (omega (arith, length-drop k vs)))

pub pieces-nil : {S X : Type 0} (first : S → List ℕ → First S X) (state : S) → pieces first state [] ≡ []
unfolding first_pieces pieces
pieces-nil first state = refl

pub pieces-cons : {S X : Type 0} (first : S → List ℕ → First S X) (state : S) (v : ℕ) (vs : List ℕ) → pieces first state (v ∷ vs) ≡ (first state (v ∷ vs)).piece ∷ pieces first (first state (v ∷ vs)).state (drop (first state (v ∷ vs)).more vs)
unfolding first_pieces pieces
pieces-cons first state v vs =
    let k = (first state (v ∷ vs)).more in
    ap (λ r. (first state (v ∷ vs)).piece ∷ r)
    (first_pieces-enough first (length vs) (length (drop k vs)) (first state (v ∷ vs)).state (drop k vs) (omega (arith, length-drop k vs)) (omega arith))
