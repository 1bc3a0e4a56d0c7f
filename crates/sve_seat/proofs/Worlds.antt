-- What holds of a world after each event.
use Rattle.std.proofs.Common.{◌≡◌, ◌⊎◌, ℕ, zero, suc, ◌+◌, ◌<◌, ◌≤◌, List, [], ◌∷◌, ◌++◌, length, get_or, set, slice_get, Some, refl, sym, ap, subst, inl, inr, arith}
use Rattle.std.specs.Prelude.{All, replicate}
use Rattle.std.proofs.lemmas.List.Elements.{All-append}
use Rattle.sve_text.specs.Files.{FilesValue}
use Rattle.sve_history.specs.declared.entry.Entry.{Entry}
use Rattle.sve_history.specs.Histories.{HistoryValue, IsOpening, IsLegal}
use Rattle.sve_store.specs.declared.answer.Answer.{Answer}
use Rattle.sve_core.specs.Commits.{CoreValue}
use Rattle.sve_seat.specs.Seats.{SeatValue, HeldValue, new_seat, IsSeat, IsWorld}
use Rattle.sve_seat.proofs.Later.{grown}
use Rattle.sve_seat.proofs.Changes.{seat_later}

module _ {A : Type 0} where
  pub length-put : (xs : List A) (i : ℕ) (x : A) → length (set xs i x) ≡ length xs
  length-put [] i x = refl
  length-put (y ∷ xs) zero x = refl
  length-put (y ∷ xs) (suc i) x = ap suc (length-put xs i x)

  -- what stands in a list where one item was put
  pub at_put : (xs : List A) (i j : ℕ) (x y : A) → slice_get (set xs i x) j ≡ Some y → ((j ≡ i) × (y ≡ x)) ⊎ ((j ≡ i → ⊥) × (slice_get xs j ≡ Some y))
  at_put [] i j x y is = absurd (cc)
  at_put (z ∷ xs) zero zero x y is = inl (refl, cc)
  at_put (z ∷ xs) zero (suc j) x y is = inr ((λ same. absurd (omega (arith, same))), is)
  at_put (z ∷ xs) (suc i) zero x y is = inr ((λ same. absurd (omega (arith, same))), is)
  at_put (z ∷ xs) (suc i) (suc j) x y is = elim (at_put xs i j x y is) [
    | inl here ↦ inl (ap suc here.0, here.1)
    | inr else ↦ inr ((λ same. else.0 (omega (arith, same))), else.1)
  ]

module _ {Q K V : Type 0} (answers : FilesValue → Q → ℕ → Answer → Type 0) (history : HistoryValue) (seats : List (SeatValue Q (HeldValue K V))) (place : ℕ) (seat : SeatValue Q (HeldValue K V)) where
  -- one client changes, and the history stays
  pub world_changes : IsWorld answers history seats → IsSeat answers history (place + 1) seat → IsWorld answers history (set seats place seat)
  world_changes is changed = record {
    untouched = is.untouched;
    legal = is.legal;
    clients = subst (λ (n : ℕ). All (λ entry. (0 < entry.client) × (entry.client ≤ n)) history.entries) (sym (length-put seats place seat)) is.clients;
    each = λ j other there. elim (at_put seats place j seat other there) [
      | inl here ↦ subst (λ (n : ℕ). IsSeat answers history (n + 1) other) (sym here.0) (subst (IsSeat answers history (place + 1)) (sym here.1) changed)
      | inr else ↦ is.each j other else.1
    ];
  }

  -- the commit of one client is accepted
  pub world_enters : (e : Entry) → e.client ≡ place + 1 → place < length seats → IsLegal (grown history (e ∷ [])) → IsWorld answers history seats → IsSeat answers (grown history (e ∷ [])) (place + 1) seat
      → IsWorld answers (grown history (e ∷ [])) (set seats place seat)
  world_enters e same within legal is changed = record {
    untouched = is.untouched;
    legal = legal;
    clients = subst (λ (n : ℕ). All (λ entry. (0 < entry.client) × (entry.client ≤ n)) (history.entries ++ e ∷ [])) (sym (length-put seats place seat))
        (All-append (λ (entry : Entry). (0 < entry.client) × (entry.client ≤ length seats)) history.entries (e ∷ []) is.clients (λ k d lt. one k d lt));
    each = λ j other there. elim (at_put seats place j seat other there) [
      | inl here ↦ subst (λ (n : ℕ). IsSeat answers (grown history (e ∷ [])) (n + 1) other) (sym here.0) (subst (IsSeat answers (grown history (e ∷ [])) (place + 1)) (sym here.1) changed)
      | inr else ↦ seat_later answers history (j + 1) other e (λ client. else.0 (omega (arith, client, same))) (is.each j other else.1)
    ];
  }
    where
      one : (k : ℕ) (d : Entry) → k < 1 → (0 < (get_or (e ∷ []) k d).client) × ((get_or (e ∷ []) k d).client ≤ length seats)
      one zero d lt = (omega (arith, same), omega (arith, same, within))
      one (suc k) d lt = absurd (omega arith)

-- ---- a world that begins

pub each_new : {Q K V : Type 0} (n place : ℕ) (seat : SeatValue Q (HeldValue K V)) → slice_get (replicate n new_seat) place ≡ Some seat → seat ≡ new_seat
each_new zero place seat is = absurd (cc)
each_new (suc n) zero seat is = cc
each_new (suc n) (suc place) seat is = each_new n place seat is

module _ {Q K V : Type 0} where
  pub world_opens : (answers : FilesValue → Q → ℕ → Answer → Type 0) (opening : FilesValue) (n : ℕ) → IsOpening opening → IsWorld {K = K} {V = V} answers (record { opening = opening; entries = [] }) (replicate n new_seat)
  world_opens answers opening n untouched = record {
    untouched = untouched;
    legal = record { met = tt; rising = λ client. tt };
    clients = λ k d lt. absurd (omega (arith, lt));
    each = λ place seat there. subst (IsSeat answers (record { opening = opening; entries = [] }) (place + 1)) (sym (each_new n place seat there)) (record {
      honest = tt;
      own = refl;
      rising = tt;
      front = refl;
      within = omega arith;
      looks = λ k d lt. absurd (omega (arith, lt));
      held = tt;
    });
  }

  pub opens_as : (answers : FilesValue → Q → ℕ → Answer → Type 0) (opening : FilesValue) (core : CoreValue K V) (seats : List (SeatValue Q (HeldValue K V))) (n : ℕ) → IsOpening opening
      → core ≡ record { history = record { opening = opening; entries = [] }; memos = [] } → seats ≡ replicate n new_seat → IsWorld answers core.history seats
  opens_as answers opening core seats n untouched is new =
      subst (IsWorld answers core.history) (sym new) (subst (λ (c : CoreValue K V). IsWorld {K = K} {V = V} answers c.history (replicate n new_seat)) (sym is) (world_opens answers opening n untouched))
