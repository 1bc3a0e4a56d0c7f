-- A text is split at one place, where a class of bytes ends.
use Rattle.std.proofs.Common.{◌≡◌, ◌∙◌, ℕ, Bool, true, false, List, [], ◌∷◌, ◌++◌, refl, ap}
use Rattle.std.proofs.lemmas.Bool.{and_parts, and_from, both_ways}
use Rattle.std.specs.List.{list_all}

-- no byte of the class comes first
abbrev pub Stops : (ℕ → Bool) → List ℕ → Type 0
Stops p [] = Unit {0}
Stops p (b ∷ bs) = p b ≡ false

pub same_split : (p : ℕ → Bool) (a c q r : List ℕ) → list_all p a ≡ true → list_all p c ≡ true → Stops p q → Stops p r → a ++ q ≡ c ++ r → (a ≡ c) × (q ≡ r)
same_split p [] [] q r ha hc hq hr e = (refl, e)
same_split p [] (y ∷ c) [] r ha hc hq hr e = absurd (let f : ⊥ = cc in f)
same_split p [] (y ∷ c) (b ∷ q) r ha hc hq hr e =
    let same : b ≡ y = cc in
    absurd (both_ways (p b) hq (ap p same ∙ (and_parts (p y) (list_all p c) hc).0))
same_split p (x ∷ a) [] q [] ha hc hq hr e = absurd (let f : ⊥ = cc in f)
same_split p (x ∷ a) [] q (b ∷ r) ha hc hq hr e =
    let same : b ≡ x = cc in
    absurd (both_ways (p b) hr (ap p same ∙ (and_parts (p x) (list_all p a) ha).0))
same_split p (x ∷ a) (y ∷ c) q r ha hc hq hr e =
    let head : x ≡ y = cc in
    let tail : a ++ q ≡ c ++ r = cc in
    let rest = same_split p a c q r (and_parts (p x) (list_all p a) ha).1 (and_parts (p y) (list_all p c) hc).1 hq hr tail in
    (λ i. head i ∷ rest.0 i, rest.1)

-- what a class goes on to is at least as long
pub goes_past : (p : ℕ → Bool) (a v q r : List ℕ) → list_all p v ≡ true → Stops p q → a ++ q ≡ v ++ r → (more : List ℕ) × (a ≡ v ++ more)
goes_past p a [] q r hv hq e = (a, refl)
goes_past p [] (y ∷ v) [] r hv hq e = absurd (let f : ⊥ = cc in f)
goes_past p [] (y ∷ v) (b ∷ q) r hv hq e =
    let same : b ≡ y = cc in
    absurd (both_ways (p b) hq (ap p same ∙ (and_parts (p y) (list_all p v) hv).0))
goes_past p (x ∷ a) (y ∷ v) q r hv hq e =
    let head : x ≡ y = cc in
    let tail : a ++ q ≡ v ++ r = cc in
    let rest = goes_past p a v q r (and_parts (p y) (list_all p v) hv).1 hq tail in
    (rest.0, λ i. head i ∷ rest.1 i)

-- each byte of a text of one class is of it
pub byte_of_all : (p : ℕ → Bool) (a : List ℕ) (b : ℕ) (r : List ℕ) → list_all p (a ++ b ∷ r) ≡ true → p b ≡ true
byte_of_all p [] b r h = (and_parts (p b) (list_all p r) h).0
byte_of_all p (x ∷ a) b r h = byte_of_all p a b r (and_parts (p x) (list_all p (a ++ b ∷ r)) h).1

pub all_and_one : (p : ℕ → Bool) (a : List ℕ) (b : ℕ) → list_all p a ≡ true → p b ≡ true → list_all p (a ++ b ∷ []) ≡ true
all_and_one p [] b h hb = and_from (p b) true hb refl
all_and_one p (x ∷ a) b h hb =
    let parts = and_parts (p x) (list_all p a) h in
    and_from (p x) (list_all p (a ++ b ∷ [])) parts.0 (all_and_one p a b parts.1 hb)
