-- What holds of a client after each event.
use Rattle.std.proofs.Common.{◌≡◌, ℕ, zero, suc, ◌+◌, ◌-◌, ◌<◌, ◌≤◌, max, Bool, true, false, cond, eqb, List, [], ◌∷◌, ◌++◌, length, get_or, map, slice_get, Option, Some, None, sym, ap, ◌∙◌, subst, ⊎_elim, arith, length-append}
use Rattle.std.specs.Prelude.{All, IfSome}
use Rattle.std.proofs.lemmas.List.{append-nil, map-append, take-append-le}
use Rattle.std.proofs.lemmas.List.Elements.{All-append}
use Rattle.std.proofs.lemmas.Bool.Decides.{eqb_tells}
use Rattle.sve_text.specs.Files.{FilesValue}
use Rattle.sve_history.specs.declared.entry.Entry.{Entry}
use Rattle.sve_history.specs.Histories.{HistoryValue, commands_of, IsRising}
use Rattle.sve_history.proofs.Pushes.{commands_of-push, rising-push}
use Rattle.sve_store.specs.declared.answer.Answer.{Answer}
use Rattle.sve_core.specs.declared.commit.Commit.TheVariants.{Accepted}
use Rattle.sve_seat.specs.declared.told.Told.{Told}
use Rattle.sve_seat.specs.declared.told.Told.TheVariants.{Committed}
use Rattle.sve_seat.specs.declared.open.Open.{Open}
use Rattle.sve_seat.specs.Outcomes.{named, front_after, command_of, accepted_in, accepted, IsHonest}
use Rattle.sve_seat.specs.Seats.{SeatValue, HeldValue, hearing, IsOpen, IsSeat}
use Rattle.sve_seat.proofs.Later.{grown, longer, last_there, are_honest_later, are_honest-push, front_after-push, accepted-push}

within_push : (looks : List ℕ) (bound r : ℕ) → All (λ look. look ≤ bound) looks → r ≤ bound → All (λ look. look ≤ bound) (looks ++ r ∷ [])
within_push looks bound r all within = All-append (λ look. look ≤ bound) looks (r ∷ []) all (λ k d lt. one k d lt)
  where
    one : (k d : ℕ) → k < 1 → get_or (r ∷ []) k d ≤ bound
    one zero d lt = within
    one (suc k) d lt = absurd (omega arith)

abbrev Seat : Type 0 → Type 0 → Type 0 → Type 0
Seat Q K V = SeatValue Q (HeldValue K V)

-- the entries of one client, with one more entry
own_more : (i : ℕ) (entries : List Entry) (e : Entry) → e.client ≡ i → commands_of i (entries ++ e ∷ []) ≡ commands_of i entries ++ e.command ∷ []
own_more i entries e same = commands_of-push i entries e ∙ ap (λ (l : List ℕ). commands_of i entries ++ l) (⊎_elim own other (eqb_tells e.client i))
  where
    own : (eqb e.client i ≡ true) × (e.client ≡ i) → commands_of i (e ∷ []) ≡ e.command ∷ []
    own t = ap (λ (b : Bool). map (λ (x : Entry). x.command) (cond b (e ∷ []) [])) t.0

    other : (eqb e.client i ≡ false) × (e.client ≡ i → ⊥) → commands_of i (e ∷ []) ≡ e.command ∷ []
    other t = absurd (t.1 same)

not_more : (i : ℕ) (entries : List Entry) (e : Entry) → (e.client ≡ i → ⊥) → commands_of i (entries ++ e ∷ []) ≡ commands_of i entries
not_more i entries e differ = commands_of-push i entries e ∙ ap (λ (l : List ℕ). commands_of i entries ++ l) (⊎_elim own other (eqb_tells e.client i)) ∙ append-nil (commands_of i entries)
  where
    own : (eqb e.client i ≡ true) × (e.client ≡ i) → commands_of i (e ∷ []) ≡ []
    own t = absurd (differ t.1)

    other : (eqb e.client i ≡ false) × (e.client ≡ i → ⊥) → commands_of i (e ∷ []) ≡ []
    other t = ap (λ (b : Bool). map (λ (x : Entry). x.command) (cond b (e ∷ []) [])) t.0

open_later : {Q K V : Type 0} (history : HistoryValue) (more : List Entry) (seat : Seat Q K V) (o : Open (HeldValue K V)) → IsOpen history seat o → IsOpen (grown history more) seat o
open_later history more seat o is = record {
  made = is.made;
  within = longer history more o.snapshot.revision is.within;
  shows = is.shows ∙ (λ k. record { opening = history.opening; entries = sym (take-append-le o.snapshot.revision history.entries more is.within) k });
  begun = is.begun;
  unanswered = is.unanswered;
}

held_later : {Q K V : Type 0} (history : HistoryValue) (more : List Entry) (seat : Seat Q K V) (held : Option (Open (HeldValue K V))) → IfSome held (IsOpen history seat) → IfSome held (IsOpen (grown history more) seat)
held_later history more seat None is = tt
held_later history more seat (Some o) is = open_later history more seat o is

module _ {Q K V : Type 0} (answers : FilesValue → Q → ℕ → Answer → Type 0) (history : HistoryValue) where
  -- another client's commit is accepted
  pub seat_later : (i : ℕ) (seat : Seat Q K V) (e : Entry) → (e.client ≡ i → ⊥) → IsSeat answers history i seat → IsSeat answers (grown history (e ∷ [])) i seat
  seat_later i seat e differ is = record {
    honest = are_honest_later answers history (e ∷ []) i 0 seat.told is.honest;
    own = not_more i history.entries e differ ∙ is.own;
    rising = is.rising;
    front = is.front;
    within = longer history (e ∷ []) seat.front is.within;
    looks = λ k d lt. longer history (e ∷ []) (get_or seat.looks k d) (is.looks k d lt);
    held = held_later history (e ∷ []) seat seat.open_at is.held;
  }

  -- its own commit is accepted
  pub seat_accepts : (i : ℕ) (seat : Seat Q K V) (e : Entry) → e.client ≡ i → seat.open_at ≡ None → All (λ earlier. earlier < e.command) (map command_of seat.told) → IsSeat answers history i seat
      → IsSeat answers (grown history (e ∷ [])) i (hearing (record seat { looks = seat.looks ++ (length history.entries + 1) ∷ [] }) (Committed e.command e.edits (Accepted (length history.entries + 1))))
  seat_accepts i seat e same closed above is =
      let number = length history.entries + 1 in
      let told : Told Q = Committed e.command e.edits (Accepted number) in
      let after : Seat Q K V = hearing (record seat { looks = seat.looks ++ number ∷ [] }) told in
      let long : length (history.entries ++ e ∷ []) ≡ number = length-append history.entries (e ∷ []) in
      let place : number - 1 ≡ length history.entries = omega arith in
      let entry : e ≡ record { client = i; command = e.command; edits = e.edits } = (λ k. record { client = same k; command = e.command; edits = e.edits }) in
      let there : slice_get (history.entries ++ e ∷ []) (number - 1) ≡ Some (record { client = i; command = e.command; edits = e.edits }) =
      ap (slice_get (history.entries ++ e ∷ [])) place ∙ last_there history.entries e ∙ ap Some entry in
      let first : front_after 0 seat.told < number = omega (arith, is.front, is.within) in
      record {
        honest = are_honest-push answers (grown history (e ∷ [])) i 0 seat.told told (are_honest_later answers history (e ∷ []) i 0 seat.told is.honest) (first, there);
        own = own_more i history.entries e same ∙ ap (λ (l : List ℕ). l ++ e.command ∷ []) is.own ∙ sym (accepted-push seat.told told);
        rising = subst IsRising (sym (map-append command_of seat.told (told ∷ []))) (rising-push e.command (map command_of seat.told) is.rising above);
        front = ap (λ (n : ℕ). max n number) is.front ∙ sym (front_after-push 0 seat.told told);
        within = omega (arith, long, is.within);
        looks = within_push seat.looks (length (history.entries ++ e ∷ [])) number (λ k d lt. longer history (e ∷ []) (get_or seat.looks k d) (is.looks k d lt)) (omega (arith, long));
        held = subst (λ (o : Option (Open (HeldValue K V))). IfSome o (IsOpen (grown history (e ∷ [])) after)) (sym closed) tt;
      }

  -- its command is told what leaves the history as it is
  pub seat_hears : (i : ℕ) (seat : Seat Q K V) (told : Told Q) (looks : List ℕ) (held : Option (Open (HeldValue K V))) → accepted_in told ≡ [] → named told ≤ length history.entries
      → All (λ earlier. earlier < command_of told) (map command_of seat.told) → IsHonest answers history i seat.front told → All (λ look. look ≤ length history.entries) looks
      → IfSome held (IsOpen history (hearing (record seat { looks = looks; open_at = held }) told)) → IsSeat answers history i seat → IsSeat answers history i (hearing (record seat { looks = looks; open_at = held }) told)
  seat_hears i seat told looks held none low above honest all opened is = record {
    honest = are_honest-push answers history i 0 seat.told told is.honest (subst (λ (n : ℕ). IsHonest answers history i n told) is.front honest);
    own = is.own ∙ sym (append-nil (accepted seat.told)) ∙ ap (λ (l : List ℕ). accepted seat.told ++ l) (sym none) ∙ sym (accepted-push seat.told told);
    rising = subst IsRising (sym (map-append command_of seat.told (told ∷ []))) (rising-push (command_of told) (map command_of seat.told) is.rising above);
    front = ap (λ (n : ℕ). max n (named told)) is.front ∙ sym (front_after-push 0 seat.told told);
    within = omega (arith, low, is.within);
    looks = all;
    held = opened;
  }

  -- it looks, begins or ends
  pub seat_moves : (i : ℕ) (seat : Seat Q K V) (looks : List ℕ) (held : Option (Open (HeldValue K V))) → All (λ look. look ≤ length history.entries) looks
      → IfSome held (IsOpen history (record seat { looks = looks; open_at = held })) → IsSeat answers history i seat → IsSeat answers history i (record seat { looks = looks; open_at = held })
  seat_moves i seat looks held all opened is = record {
    honest = is.honest;
    own = is.own;
    rising = is.rising;
    front = is.front;
    within = is.within;
    looks = all;
    held = opened;
  }

  pub looks_more : (i : ℕ) (seat : Seat Q K V) → IsSeat answers history i seat → All (λ look. look ≤ length history.entries) (seat.looks ++ length history.entries ∷ [])
  looks_more i seat is = within_push seat.looks (length history.entries) (length history.entries) is.looks (omega arith)
