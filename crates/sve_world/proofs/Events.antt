-- What each event leads to, over the values of worlds.
use Rattle.std.proofs.Common.{◌≡◌, ℕ, zero, suc, ◌+◌, ◌-◌, ◌<◌, ◌≤◌, true, false, List, [], ◌∷◌, ◌++◌, length, get_or, set, map, take, drop, Option, Some, None, refl, sym, ap, ◌∙◌, subst, arith, length-append, length-drop}
use Rattle.std.specs.Prelude.{All, IfSome}
use Rattle.std.specs.declared.cmp.Ordering.{Ordering}
use Rattle.std.proofs.lemmas.List.{take_all, get_or-drop}
use Rattle.std.proofs.lemmas.Option.{slice_get_within, get_or_from_slice_get}
use Rattle.std.proofs.lemmas.List.Elements.{All-append}
use Rattle.sve_text.specs.declared.edit.Edit.{Edit}
use Rattle.sve_text.specs.declared.edit.Mode.{Mode}
use Rattle.sve_text.specs.declared.why.Refusal.{Refusal}
use Rattle.sve_text.specs.Files.{FilesValue}
use Rattle.sve_text.specs.Refusals.{refusal_of}
use Rattle.sve_history.specs.declared.entry.Entry.{Entry}
use Rattle.sve_history.specs.Histories.{HistoryValue, files_at, newest_files, commands_of}
use Rattle.sve_history.proofs.Pushes.{newest_are_all, legal-push}
use Rattle.sve_store.specs.declared.answer.Answer.{Answer}
use Rattle.sve_store.specs.declared.answer.Answer.TheVariants.{Done, Spent as Unanswered}
use Rattle.sve_memo.specs.Memos.{MemoValue}
use Rattle.sve_core.specs.declared.commit.Commit.TheVariants.{Accepted, Refused, Full}
use Rattle.sve_core.specs.declared.commit.Outcome.{Outcome}
use Rattle.sve_core.specs.declared.commit.Outcome.TheVariants.{Answered, Spent, Cancelled}
use Rattle.sve_seat.specs.declared.told.Told.{Told}
use Rattle.sve_seat.specs.declared.told.Told.TheVariants.{Committed, Asked}
use Rattle.sve_seat.specs.declared.open.Open.{Open}
use Rattle.sve_world.specs.declared.event.EventOf.{EventOf}
use Rattle.sve_world.specs.declared.event.EventOf.TheVariants.{Commit, Refuse, Begin, Look, Answer as Asks, Publish}
use Rattle.sve_core.specs.Asks.{snapshot_of, outcome_of}
use Rattle.sve_core.specs.Commits.{committed, commit_told}
use Rattle.sve_seat.specs.Outcomes.{named, command_of, accepted, IsHonest}
use Rattle.sve_seat.specs.Seats.{SeatValue, HeldValue, held_with, new_seat, hearing, beginning, answered_at, IsOpen, IsSeat, IsWorld}
use Rattle.sve_world.specs.Machine.{WorldValue, IsOfClient, MayCommit, MayBegin, MayLook, IsHeld, MayPublish, MayAsk, seat_of, looking, after_commit, after_look, after_begin, revision_at, after_ask, after_publish, MayCome, Follows}
use Rattle.sve_seat.proofs.Later.{grown}
use Rattle.sve_seat.proofs.Changes.{seat_accepts, seat_hears, seat_moves, looks_more}
use Rattle.sve_seat.proofs.Worlds.{world_changes, world_enters}

-- commands that were accepted are among those that were told
pub accepted_below : {Q : Type 0} (told : List (Told Q)) (command : ℕ) → All (λ earlier. earlier < command) (map command_of told) → All (λ earlier. earlier < command) (accepted told)
accepted_below [] command below = λ k d lt. absurd (omega (arith, lt))
accepted_below (Committed n edits (Accepted r) ∷ told) command below = All-append (λ earlier. earlier < command) (n ∷ []) (accepted told) (λ k d lt. first k d lt) (accepted_below told command (λ k d lt. below (suc k) d (omega (arith, lt))))
  where
    first : (k d : ℕ) → k < 1 → get_or (n ∷ []) k d < command
    first zero d lt = below zero d (omega arith)
    first (suc k) d lt = absurd (omega arith)
accepted_below (Committed n edits (Refused r edit why) ∷ told) command below = accepted_below told command (λ k d lt. below (suc k) d (omega (arith, lt)))
accepted_below (Committed n edits Full ∷ told) command below = accepted_below told command (λ k d lt. below (suc k) d (omega (arith, lt)))
accepted_below (Asked n query budget mode revision outcome ∷ told) command below = accepted_below told command (λ k d lt. below (suc k) d (omega (arith, lt)))

module _ {Q K V : Type 0} (world : WorldValue Q K V) (client : ℕ) (seat : SeatValue Q (HeldValue K V)) (there : IsOfClient world client seat) where
  pub seat_is : seat_of world client ≡ seat
  seat_is = get_or_from_slice_get world.seats (client - 1) seat new_seat there.there

  pub place_within : client - 1 < length world.seats
  place_within = slice_get_within world.seats (client - 1) seat there.there

  pub number_is : client - 1 + 1 ≡ client
  number_is = omega (arith, there.number)

module _ {Q K V : Type 0} where
  -- two names for what one client holds
  pub one_held : (world : WorldValue Q K V) (client : ℕ) (seat other : SeatValue Q (HeldValue K V)) (held too : Open (HeldValue K V)) → IsOfClient world client seat → IsOfClient world client other
      → seat.open_at ≡ Some held → other.open_at ≡ Some too → held ≡ too
  one_held world client seat other held too first second holds also =
      let same : Some seat ≡ Some other = sym first.there ∙ second.there in
      let one : seat ≡ other = cc in
      let both : Some held ≡ Some too = sym holds ∙ ap (λ (s : SeatValue Q (HeldValue K V)). s.open_at) one ∙ also in
      cc

module _ {Q K V : Type 0} (answers : FilesValue → Q → ℕ → Answer → Type 0) where
  abbrev World : WorldValue Q K V → Type 0
  World world = IsWorld answers world.history world.seats

  -- client i is who it is in a world
  known : (world : WorldValue Q K V) (client : ℕ) (seat : SeatValue Q (HeldValue K V)) → IsOfClient world client seat → World world → IsSeat answers world.history client seat
  known world client seat there is = subst (λ (n : ℕ). IsSeat answers world.history n seat) (number_is world client seat there) (is.each (client - 1) seat there.there)

  placed : (history : HistoryValue) (world : WorldValue Q K V) (client : ℕ) (seat other : SeatValue Q (HeldValue K V)) → IsOfClient world client other → IsSeat answers history client seat → IsSeat answers history (client - 1 + 1) seat
  placed history world client seat other there is = subst (λ (n : ℕ). IsSeat answers history n seat) (sym (number_is world client other there)) is

  -- the numbers of the client's entries are lower
  pub commands_below : (world : WorldValue Q K V) (client command : ℕ) (edits : List Edit) → MayCommit world client command edits → World world → All (λ earlier. earlier < command) (commands_of client world.history.entries)
  commands_below world client command edits may is = subst (All (λ earlier. earlier < command)) (sym (known world client may.seat may.known is).own) (accepted_below may.seat.told command may.next)

  pub look_leads : (world : WorldValue Q K V) (client : ℕ) → MayLook world client → World world → World (after_look world client)
  look_leads world client may is =
      let seat = may.seat in
      let there = may.known in
      let own = known world client seat there is in
      subst (λ (s : SeatValue Q (HeldValue K V)). IsWorld answers world.history (set world.seats (client - 1) (looking s (length world.history.entries)))) (sym (seat_is world client seat there))
      (world_changes answers world.history world.seats (client - 1) (looking seat (length world.history.entries)) is
      (placed world.history world client (looking seat (length world.history.entries)) seat there
      (seat_moves answers world.history client seat (seat.looks ++ length world.history.entries ∷ []) seat.open_at (looks_more answers world.history client seat own)
      (still_held world.history seat seat.open_at own.held) own)))
    where
      -- a look more leaves the snapshot as it is
      still_held : (history : HistoryValue) (seat : SeatValue Q (HeldValue K V)) (held : Option (Open (HeldValue K V))) → IfSome held (IsOpen history seat) → IfSome held (IsOpen history (looking seat (length history.entries)))
      still_held history seat None opened = tt
      still_held history seat (Some o) opened = record {
        made = opened.made;
        within = opened.within;
        shows = opened.shows;
        begun = omega (arith, opened.begun, length-append seat.looks (length history.entries ∷ []));
        unanswered = opened.unanswered;
      }

  pub begin_leads : (world : WorldValue Q K V) (client : ℕ) → MayBegin world client → World world → World (after_begin world client)
  begin_leads world client may is =
      let seat = may.seat in
      let there = may.known in
      let history = world.history in
      let number = length history.entries in
      let own = known world client seat there is in
      let begun = beginning seat (held_with (snapshot_of history) world.memos) number in
      let whole : take number history.entries ≡ history.entries = take_all number history.entries (omega arith) in
      subst (λ (s : SeatValue Q (HeldValue K V)). IsWorld answers history (set world.seats (client - 1) (beginning s (held_with (snapshot_of history) world.memos) number))) (sym (seat_is world client seat there))
      (world_changes answers history world.seats (client - 1) begun is
      (placed history world client begun seat there
      (seat_moves answers history client seat begun.looks begun.open_at (looks_more answers history client seat own)
      (record {
        made = record { newest = refl; last = refl; untouched = is.untouched };
        within = omega arith;
        shows = (λ k. record { opening = history.opening; entries = sym whole k });
        begun = omega (arith, length-append seat.looks (number ∷ []));
        unanswered = λ not. own.within;
      }) own)))

  pub commit_leads : (world : WorldValue Q K V) (client command : ℕ) (edits : List Edit) → MayCommit world client command edits → World world → World (after_commit world client command edits)
  commit_leads world client command edits may is = by (refusal_of (newest_files world.history) edits) refl
    where
      by : (refusal : Option Refusal) → refusal_of (newest_files world.history) edits ≡ refusal
          → IsWorld answers (committed world.history (record { client = client; command = command; edits = edits }) refusal)
          (set world.seats (client - 1)
          (hearing (looking (seat_of world client) (length (committed world.history (record { client = client; command = command; edits = edits }) refusal).entries)) (Committed command edits (commit_told world.history refusal))))
      by None none =
          let seat = may.seat in
          let there = may.known in
          let own = known world client seat there is in
          let e : Entry = record { client = client; command = command; edits = edits } in
          let number = length world.history.entries + 1 in
          let long : length (world.history.entries ++ e ∷ []) ≡ number = length-append world.history.entries (e ∷ []) in
          let after = hearing (looking seat number) (Committed command edits (Accepted number)) in
          let below = commands_below world client command edits may is in
          subst (λ (s : SeatValue Q (HeldValue K V)). IsWorld answers (grown world.history (e ∷ [])) (set world.seats (client - 1) s))
          ((λ k. hearing (looking (sym (seat_is world client seat there) k) (sym long k)) (Committed command edits (Accepted number))))
          (world_enters answers world.history world.seats (client - 1) after e (sym (number_is world client seat there)) (place_within world client seat there)
          (legal-push world.history.opening world.history.entries e is.legal none below) is
          (placed (grown world.history (e ∷ [])) world client after seat there (seat_accepts answers world.history client seat e refl may.closed may.next own)))
      by (Some refusal) some =
          let seat = may.seat in
          let there = may.known in
          let own = known world client seat there is in
          let number = length world.history.entries in
          let told : Told Q = Committed command edits (Refused number refusal.edit refusal.why) in
          let after = hearing (looking seat number) told in
          subst (λ (s : SeatValue Q (HeldValue K V)). IsWorld answers world.history (set world.seats (client - 1) (hearing (looking s number) told))) (sym (seat_is world client seat there))
          (world_changes answers world.history world.seats (client - 1) after is
          (placed world.history world client after seat there
          (seat_hears answers world.history client seat told (seat.looks ++ number ∷ []) seat.open_at refl (omega arith) may.next (own.within, omega arith, some)
          (looks_more answers world.history client seat own) (subst (λ (o : Option (Open (HeldValue K V))). IfSome o (IsOpen world.history after)) (sym may.closed) tt) own)))

  pub publish_leads : (world : WorldValue Q K V) (client : ℕ) (memos : List (MemoValue K V)) → MayPublish world client → World world → World (after_publish world client memos)
  publish_leads world client memos may is =
      let seat = may.is.seat in
      let there = may.is.known in
      let own = known world client seat there is in
      subst (λ (s : SeatValue Q (HeldValue K V)). IsWorld answers world.history (set world.seats (client - 1) (record s { open_at = None }))) (sym (seat_is world client seat there))
      (world_changes answers world.history world.seats (client - 1) (record seat { open_at = None }) is
      (placed world.history world client (record seat { open_at = None }) seat there (seat_moves answers world.history client seat seat.looks None own.looks tt own)))

  -- the snapshot that a client holds
  pub held_at : (world : WorldValue Q K V) (client : ℕ) (held : Open (HeldValue K V)) → IsHeld world client held → World world → (seat : SeatValue Q (HeldValue K V)) × IsOpen world.history seat held
  held_at world client held at is =
      (at.seat, subst (λ (o : Option (Open (HeldValue K V))). IfSome o (IsOpen world.history at.seat)) at.holds (known world client at.seat at.known is).held)

  -- its files are those of its revision
  pub files_held : (history : HistoryValue) (seat : SeatValue Q (HeldValue K V)) (held : Open (HeldValue K V)) → IsOpen history seat held → held.snapshot.files ≡ files_at history.opening history.entries held.snapshot.revision
  files_held history seat held is = is.made.newest ∙ ap newest_files is.shows ∙ newest_are_all history.opening (take held.snapshot.revision history.entries)

  pub ask_leads : (world : WorldValue Q K V) (client command : ℕ) (query : Q) (budget : ℕ) (mode : Mode) (newer : Option ℕ) (outcome : Outcome) (may : MayAsk world client command mode newer)
      → IsHonest answers world.history client may.seat.front (Asked command query budget mode may.held.snapshot.revision outcome)
      → named {Q = Q} (Asked command query budget mode may.held.snapshot.revision outcome) ≤ length world.history.entries → World world → World (after_ask world client command query budget mode outcome)
  ask_leads world client command query budget mode newer outcome may honest low is =
      let history = world.history in
      let seat = may.seat in
      let held = may.held in
      let there = may.known in
      let own = known world client seat there is in
      let opened : IsOpen history seat held = subst (λ (o : Option (Open (HeldValue K V))). IfSome o (IsOpen history seat)) may.holds own.held in
      let told : Told Q = Asked command query budget mode held.snapshot.revision outcome in
      let answered : Option (Open (HeldValue K V)) = Some (record held { answered = true }) in
      let after = hearing (record seat { open_at = answered }) told in
      subst (λ (s : SeatValue Q (HeldValue K V)). IsWorld answers history (set world.seats (client - 1) (hearing (record s { open_at = answered_at s.open_at }) (Asked command query budget mode (revision_at s.open_at) outcome))))
      (sym (seat_is world client seat there))
      (subst (λ (o : Option (Open (HeldValue K V))). IsWorld answers history (set world.seats (client - 1) (hearing (record seat { open_at = answered_at o }) (Asked command query budget mode (revision_at o) outcome)))) (sym may.holds)
      (world_changes answers history world.seats (client - 1) after is
      (placed history world client after seat there
      (seat_hears answers history client seat told seat.looks answered refl low may.next honest own.looks
      (record {
        made = opened.made;
        within = opened.within;
        shows = opened.shows;
        begun = opened.begun;
        unanswered = λ (not : true ≡ false). absurd (cc);
      }) own))))

  -- an ask that is answered by the files of the snapshot
  pub answer_leads : (world : WorldValue Q K V) (client command : ℕ) (query : Q) (budget : ℕ) (mode : Mode) (newer : Option ℕ) (may : MayAsk world client command mode newer) (answer : Answer)
      → answers may.held.snapshot.files query budget answer → World world → World (after_ask world client command query budget mode (outcome_of budget answer))
  answer_leads world client command query budget mode newer may answer so is =
      let own = known world client may.seat may.known is in
      let opened : IsOpen world.history may.seat may.held = subst (λ (o : Option (Open (HeldValue K V))). IfSome o (IsOpen world.history may.seat)) may.holds own.held in
      let files = files_held world.history may.seat may.held opened in
      by answer (opened.unanswered may.unanswered) opened.within (subst (λ (f : FilesValue). answers f query budget answer) files so)
    where
      by : (answer : Answer) → may.seat.front ≤ may.held.snapshot.revision → may.held.snapshot.revision ≤ length world.history.entries
          → answers (files_at world.history.opening world.history.entries may.held.snapshot.revision) query budget answer → World (after_ask world client command query budget mode (outcome_of budget answer))
      by (Done lines) first within so = ask_leads world client command query budget mode newer (Answered lines) may (first, within, so) within is
      by Unanswered first within so = ask_leads world client command query budget mode newer (Spent budget) may (first, within, so, refl) within is

  -- an ask that is cancelled
  pub cancel_leads : (world : WorldValue Q K V) (client command : ℕ) (query : Q) (budget : ℕ) (mode : Mode) (newer : ℕ) (may : MayAsk world client command mode (Some newer)) → World world
      → World (after_ask world client command query budget mode (Cancelled may.held.snapshot.revision newer))
  cancel_leads world client command query budget mode newer may is =
      let own = known world client may.seat may.known is in
      let opened : IsOpen world.history may.seat may.held = subst (λ (o : Option (Open (HeldValue K V))). IfSome o (IsOpen world.history may.seat)) may.holds own.held in
      let seen = may.cancel.2 in
      let place = seen.0 in
      let long : length (drop may.held.begun may.seat.looks) ≡ length may.seat.looks - may.held.begun = length-drop may.held.begun may.seat.looks in
      let there : get_or may.seat.looks (may.held.begun + place) newer ≡ newer = sym (get_or-drop may.held.begun may.seat.looks place newer) ∙ seen.2 in
      let known_to : get_or may.seat.looks (may.held.begun + place) newer ≤ length world.history.entries = own.looks (may.held.begun + place) newer (omega (arith, long, seen.1)) in
      let low : newer ≤ length world.history.entries = omega (arith, there, known_to) in
      ask_leads world client command query budget mode (Some newer) (Cancelled may.held.snapshot.revision newer) may (opened.unanswered may.unanswered, refl, may.cancel.1, low, may.cancel.0) low is

  -- one event
  pub event_leads : (cmp : K → K → Ordering) {F : Type 0} (memos_of : F → List (MemoValue K V)) (world : WorldValue Q K V) (event : EventOf Q F) (next : WorldValue Q K V) → MayCome world event → Follows answers cmp memos_of world event next → World world → World next
  event_leads cmp memos_of world (Commit client command edits) next allowed follows is = subst World (sym follows) (commit_leads world client command edits allowed.0 is)
  event_leads cmp memos_of world (Refuse client command edits) next allowed follows is = subst World (sym follows) (commit_leads world client command edits allowed.0 is)
  event_leads cmp memos_of world (Begin client) next allowed follows is = subst World (sym follows) (begin_leads world client allowed is)
  event_leads cmp memos_of world (Look client) next allowed follows is = subst World (sym follows) (look_leads world client allowed is)
  event_leads cmp memos_of world (Asks client command query budget mode None) next allowed follows is =
      let at = follows.2 in
      let same : follows.0 ≡ allowed.held = one_held world client at.seat allowed.seat follows.0 allowed.held at.known allowed.known at.holds allowed.holds in
      subst World (sym follows.4)
      (answer_leads world client command query budget mode None allowed follows.1 (subst (λ (o : Open (HeldValue K V)). answers o.snapshot.files query budget follows.1) same follows.3) is)
  event_leads cmp memos_of world (Asks client command query budget mode (Some newer)) next allowed follows is =
      let base : revision_at (seat_of world client).open_at ≡ allowed.held.snapshot.revision =
      ap (λ (s : SeatValue Q (HeldValue K V)). revision_at s.open_at) (seat_is world client allowed.seat allowed.known) ∙ ap revision_at allowed.holds in
      subst World (sym follows)
      (subst (λ (r : ℕ). World (after_ask world client command query budget mode (Cancelled r newer))) (sym base) (cancel_leads world client command query budget mode newer allowed is))
  event_leads cmp memos_of world (Publish client fresh) next allowed follows is = subst World (sym follows.after_is) (publish_leads world client next.memos allowed is)
