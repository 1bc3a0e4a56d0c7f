-- Whether an end word stands among the tokens from one of them on.
use Rattle.std.proofs.Common.{◌≡◌, ◌∙◌, ap, refl, ℕ, zero, suc, ◌+◌, ◌-◌, ◌<◌, true, false, ◌||◌, List, [], ◌∷◌, length, drop, Some, arith, add-one}
use Rattle.std.specs.List.{slice_get}
use Rattle.sve_diag.specs.declared.diag.Place.{Place}
use Rattle.sve_token.specs.declared.token.Token.{Token}
use Rattle.sve_unit.specs.Chunks.{ends_at}
use Rattle.sve_unit.specs.Stops.{is_closed, last_place}

closed_at : (n : ℕ) (ts : List Token) → n < length ts → is_closed (drop n ts) ≡ (ends_at ts n || is_closed (drop (suc n) ts))
closed_at zero [] h = absurd (omega arith)
closed_at zero (t ∷ ts) h = refl
closed_at (suc n) [] h = absurd (omega arith)
closed_at (suc n) (t ∷ ts) h = closed_at n ts (omega arith)

pub closed_here : (n : ℕ) (ts : List Token) → n < length ts → ends_at ts n ≡ true → is_closed (drop n ts) ≡ true
closed_here n ts h e = closed_at n ts h ∙ rw e refl

pub closed_further : (n : ℕ) (ts : List Token) → n < length ts → ends_at ts n ≡ false → is_closed (drop n ts) ≡ is_closed (drop (n + 1) ts)
closed_further n ts h e = closed_at n ts h ∙ rw (e, add-one n) refl

pub closed_nowhere : (ts : List Token) → is_closed (drop (length ts) ts) ≡ false
closed_nowhere [] = refl
closed_nowhere (t ∷ ts) = closed_nowhere ts

last_at : (ts : List Token) (t : Token) (place : Place) (n : ℕ) → suc n ≡ length ts → slice_get ts n ≡ Some t → last_place ts place ≡ t.place
last_at [] t place n e h = absurd (omega arith)
last_at (u ∷ []) t place zero e h = let s : u ≡ t = cc in ap (λ (v : Token). v.place) s
last_at (u ∷ []) t place (suc n) e h = absurd (omega arith)
last_at (u ∷ v ∷ ts) t place zero e h = absurd (omega arith)
last_at (u ∷ v ∷ ts) t place (suc n) e h = last_at (v ∷ ts) t u.place n (omega arith) h

-- the place of the last token
pub last_is : (ts : List Token) (t : Token) (place : Place) → slice_get ts (length ts - 1) ≡ Some t → last_place ts place ≡ t.place
last_is [] t place h = cc
last_is (u ∷ ts) t place h = last_at (u ∷ ts) t place (length (u ∷ ts) - 1) (omega arith) h
