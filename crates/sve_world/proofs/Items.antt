-- Lists in which one item was put, seen through a function.
use Rattle.std.proofs.Common.{◌≡◌, ℕ, zero, suc, ◌-◌, ◌<◌, List, [], ◌∷◌, length, get_or, set, map, refl, sym, ap, ◌∙◌, subst, arith}
use Rattle.std.proofs.lemmas.List.{length-map}
use Rattle.std.proofs.lemmas.Option.{slice_get_within}
use Rattle.sve_core.specs.Commits.{CoreValue}
use Rattle.sve_seat.specs.declared.seat.Seat.{Seat}
use Rattle.sve_seat.specs.Seats.{SeatValue, HeldValue, seat_value, new_seat}
use Rattle.sve_world.specs.Machine.{WorldValue, IsOfClient, seat_of}

pub map-put : {A B : Type 0} (f : A → B) (xs : List A) (i : ℕ) (x : A) → map f (set xs i x) ≡ set (map f xs) i (f x)
map-put f [] i x = refl
map-put f (y ∷ xs) zero x = refl
map-put f (y ∷ xs) (suc i) x = ap (λ l. f y ∷ l) (map-put f xs i x)

module _ {A : Type 0} where
  put_back : (xs : List A) (i : ℕ) (d : A) → set xs i (get_or xs i d) ≡ xs
  put_back [] i d = refl
  put_back (x ∷ xs) zero d = refl
  put_back (x ∷ xs) (suc i) d = ap (λ l. x ∷ l) (put_back xs i d)

module _ {A B : Type 0} (f : A → B) where
  pub got_mapped : (xs : List A) (i : ℕ) (d : A) (e : B) → i < length xs → get_or (map f xs) i e ≡ f (get_or xs i d)
  got_mapped [] i d e lt = absurd (omega arith)
  got_mapped (x ∷ xs) zero d e lt = refl
  got_mapped (x ∷ xs) (suc i) d e lt = got_mapped xs i d e (omega arith)

  -- an item in whose place one stands that is seen as it
  pub seen_as_before : (xs : List A) (i : ℕ) (x d : A) → f x ≡ f (get_or xs i d) → map f (set xs i x) ≡ map f xs
  seen_as_before xs i x d same = map-put f xs i x ∙ ap (set (map f xs) i) same ∙ sym (map-put f xs i (get_or xs i d)) ∙ ap (map f) (put_back xs i d)

-- ---- the client of a world whose seats are held as these

-- the value of a world with this core, whose seats are held as these
abbrev pub shown : {Q K V : Type 0} → CoreValue K V → List (Seat Q (HeldValue K V)) → WorldValue Q K V
shown core xs = record { history = core.history; memos = core.memos; seats = map seat_value xs }

module _ {Q K V : Type 0} (core : CoreValue K V) (xs : List (Seat Q (HeldValue K V))) (client : ℕ) (seat : SeatValue Q (HeldValue K V)) (there : IsOfClient (shown core xs) client seat) where
  pub place_held : client - 1 < length xs
  place_held = subst (λ (n : ℕ). client - 1 < n) (length-map xs seat_value) (slice_get_within (map seat_value xs) (client - 1) seat there.there)

  -- who sits there is known as the client
  pub held_is : (d : Seat Q (HeldValue K V)) → d ≡ get_or xs (client - 1) d → seat_value d ≡ seat_of (shown core xs) client
  held_is d is = ap seat_value is ∙ sym (got_mapped seat_value xs (client - 1) d new_seat place_held)
