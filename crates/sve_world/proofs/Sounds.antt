-- The memos of a world, and of each snapshot that is held, stay sound.
use Rattle.std.proofs.Common.{◌≡◌, ◌⊎◌, ℕ, ◌-◌, Bool, true, false, cond, List, [], ◌∷◌, set, slice_get, Option, Some, None, inl, inr, refl, sym, ap, ◌∙◌, subst}
use Rattle.std.specs.Prelude.{IfSome, replicate}
use Rattle.std.specs.declared.cmp.Ordering.{Ordering}
use Rattle.std.specs.declared.cmp.Ordering.TheVariants.{Less, Equal, Greater}
use Rattle.std.specs.Ordering.{match_ordering}
use Rattle.sve_text.specs.declared.edit.Edit.{Edit}
use Rattle.sve_text.specs.declared.why.Refusal.{Refusal}
use Rattle.sve_text.specs.Files.{FilesValue}
use Rattle.sve_text.specs.Refusals.{refusal_of}
use Rattle.sve_history.specs.declared.entry.Entry.{Entry}
use Rattle.sve_history.specs.Histories.{HistoryValue, IsOpening, newest_files}
use Rattle.sve_store.specs.Made.{IsOneOf}
use Rattle.sve_store.specs.declared.answer.Answer.{Answer}
use Rattle.sve_memo.specs.Memos.{MemoValue, memo_in, AllAfter, IsInOrder}
use Rattle.sve_ask.specs.Sound.{Defined, AllSound}
use Rattle.sve_ask.proofs.Puts.{found_held}
use Rattle.sve_kept.specs.Kept.{has_later, kept_of, GoesOn, AreJoined}
use Rattle.sve_kept.proofs.Longer.{all_longer, each_sound}
use Rattle.sve_core.specs.Commits.{committed}
use Rattle.sve_core.proofs.Going.{goes_on_from}
use Rattle.sve_seat.specs.declared.open.Open.{Open}
use Rattle.sve_seat.specs.Seats.{SeatValue, HeldValue, new_seat, answered_at, IsWorld}
use Rattle.sve_seat.proofs.Worlds.{at_put, each_new, world_opens}
use Rattle.sve_world.specs.declared.event.EventOf.{EventOf}
use Rattle.sve_world.specs.declared.event.EventOf.TheVariants.{Commit, Refuse, Begin, Look, Answer as Asks, Publish}
use Rattle.sve_world.specs.Machine.{WorldValue, IsOfClient, MayCommit, MayPublish, MayCome, BringsSound, BringsNothing, seat_of, HasPublished, Follows, opened, Schedule, ends, goes_on, HoldsSound}
use Rattle.sve_world.proofs.Events.{seat_is, held_at, event_leads}

-- ---- memos that are joined

module _ {K V : Type 0} (cmp : K → K → Ordering) (exact : (a b : K) → cmp a b ≡ Equal → a ≡ b) (itself : (k : K) → cmp k k ≡ Equal) where
  comes_after : (k : K) (memos : List (MemoValue K V)) (m : MemoValue K V) → AllAfter cmp k memos → IsOneOf memos m → cmp k m.finding.key ≡ Less
  comes_after k [] m after there = absurd there
  comes_after k (x ∷ memos) m after (inl is) = subst (λ (y : MemoValue K V). cmp k y.finding.key ≡ Less) (sym is) after.0
  comes_after k (x ∷ memos) m after (inr there) = comes_after k memos m after.1 there

  behind : (x m : MemoValue K V) (memos : List (MemoValue K V)) → cmp x.finding.key m.finding.key ≡ Less → memo_in cmp memos m.finding.key ≡ Some m → (o : Ordering) → cmp m.finding.key x.finding.key ≡ o
      → match_ordering o (memo_in cmp memos m.finding.key) (Some x) (memo_in cmp memos m.finding.key) ≡ Some m
  behind x m memos less found Less at = found
  behind x m memos less found Equal at =
      let same : m.finding.key ≡ x.finding.key = exact m.finding.key x.finding.key at in
      let both : Equal ≡ Less = sym (itself x.finding.key) ∙ ap (cmp x.finding.key) (sym same) ∙ less in
      absurd (cc)
  behind x m memos less found Greater at = found

  -- of memos in the order of their keys each is found at its key
  each_found : (memos : List (MemoValue K V)) (m : MemoValue K V) → IsInOrder cmp memos → IsOneOf memos m → memo_in cmp memos m.finding.key ≡ Some m
  each_found [] m order there = absurd there
  each_found (x ∷ memos) m order (inl is) = subst (λ (y : MemoValue K V). memo_in cmp (x ∷ memos) y.finding.key ≡ Some y) (sym is) (rw (itself x.finding.key))
  each_found (x ∷ memos) m order (inr there) = behind x m memos (comes_after x.finding.key memos m order.0 there) (each_found memos m order.1 there) (cmp m.finding.key x.finding.key) refl

  chosen : (b : Bool) (f : MemoValue K V) (held : Option (MemoValue K V)) (m : MemoValue K V) → cond b held (Some f) ≡ Some m → (Some f ≡ Some m) ⊎ (held ≡ Some m)
  chosen true f held m is = inr is
  chosen false f held m is = inl is

  kept_either : (fresh held : Option (MemoValue K V)) (m : MemoValue K V) → kept_of fresh held ≡ Some m → (fresh ≡ Some m) ⊎ (held ≡ Some m)
  kept_either None held m is = inr is
  kept_either (Some f) held m is = chosen (has_later held f.verified) f held m is

  -- each memo that is joined was there or is fresh
  joined_either : (fresh before after : List (MemoValue K V)) → AreJoined cmp fresh before after → IsInOrder cmp after → (m : MemoValue K V) → IsOneOf after m → IsOneOf fresh m ⊎ IsOneOf before m
  joined_either fresh before after joined order m there =
      elim (kept_either (memo_in cmp fresh m.finding.key) (memo_in cmp before m.finding.key) m (sym (joined m.finding.key) ∙ each_found after m order there)) [
        | inl is ↦ inl (found_held cmp exact itself fresh m.finding.key m is).1
        | inr is ↦ inr (found_held cmp exact itself before m.finding.key m is).1
      ]

-- ---- what stays sound

module _ {K V : Type 0} (D : Defined K V) where
  still_sound : (o : Option (Open (HeldValue K V))) → IfSome o (λ e. AllSound D e.snapshot.history e.snapshot.memos) → IfSome (answered_at o) (λ e. AllSound D e.snapshot.history e.snapshot.memos)
  still_sound None sound = tt
  still_sound (Some o) sound = sound

  committed_sound : (history : HistoryValue) (entry : Entry) (memos : List (MemoValue K V)) (refusal : Option Refusal) → AllSound D history memos → AllSound D (committed history entry refusal) memos
  committed_sound history entry memos None sound = all_longer D history (committed history entry None) (record { more = entry ∷ []; is = refl }) memos sound
  committed_sound history entry memos (Some refusal) sound = sound

-- ---- events

module _ {Q K V : Type 0} (D : Defined K V) where
  -- the memos that a client holds, if any
  abbrev LentSound : SeatValue Q (HeldValue K V) → Type 0
  LentSound seat = IfSome seat.open_at (λ o. AllSound D o.snapshot.history o.snapshot.memos)

  abbrev AllLentSound : List (SeatValue Q (HeldValue K V)) → Type 0
  AllLentSound seats = (place : ℕ) (seat : SeatValue Q (HeldValue K V)) → slice_get seats place ≡ Some seat → LentSound seat

  -- one client changes
  put_sound : (seats : List (SeatValue Q (HeldValue K V))) (place : ℕ) (seat : SeatValue Q (HeldValue K V)) → AllLentSound seats → LentSound seat → AllLentSound (set seats place seat)
  put_sound seats place seat all sound j other there = elim (at_put seats place j seat other there) [
    | inl here ↦ subst LentSound (sym here.1) sound
    | inr else ↦ all j other else.1
  ]

  -- what a client that is there holds
  client_sound : (world : WorldValue Q K V) (client : ℕ) (seat : SeatValue Q (HeldValue K V)) → IsOfClient world client seat → HoldsSound D world → LentSound (seat_of world client)
  client_sound world client seat there all = subst LentSound (sym (seat_is world client seat there)) (all.lent (client - 1) seat there.there)

  -- no memo is sound
  pub nothing_sound : {F : Type 0} (memos_of : F → List (MemoValue K V)) (world : WorldValue Q K V) (event : EventOf Q F) → BringsNothing memos_of event → BringsSound D memos_of world event
  nothing_sound memos_of world (Commit client command edits) nothing = tt
  nothing_sound memos_of world (Refuse client command edits) nothing = tt
  nothing_sound memos_of world (Begin client) nothing = tt
  nothing_sound memos_of world (Look client) nothing = tt
  nothing_sound memos_of world (Asks client command query budget mode newer) nothing = tt
  nothing_sound memos_of world (Publish client fresh) nothing = λ held is. ∣ (λ m there. absurd (subst (λ (l : List (MemoValue K V)). IsOneOf l m) nothing there)) ∣₁

  module _ {F : Type 0} (memos_of : F → List (MemoValue K V)) (answers : FilesValue → Q → ℕ → Answer → Type 0) (exact : (a b : K) → D.cmp a b ≡ Equal → a ≡ b) (itself : (k : K) → D.cmp k k ≡ Equal) where
    commit_holds : (world : WorldValue Q K V) (client command : ℕ) (edits : List Edit) (next : WorldValue Q K V) → MayCommit world client command edits → Follows answers D.cmp memos_of world (Commit client command edits) next → HoldsSound D world → HoldsSound D next
    commit_holds world client command edits next may follows all =
        let refusal = refusal_of (newest_files world.history) edits in
        let entry : Entry = record { client = client; command = command; edits = edits } in
        subst (HoldsSound D) (sym follows) (record {
          shared = committed_sound D world.history entry world.memos refusal all.shared;
          lent = put_sound world.seats (client - 1) _ all.lent (client_sound world client may.seat may.known all);
        })

    publish_holds : (world : WorldValue Q K V) (client : ℕ) (fresh : F) (next : WorldValue Q K V) → MayPublish world client → BringsSound D memos_of world (Publish client fresh) → HasPublished D.cmp world client (memos_of fresh) next
        → IsWorld answers world.history world.seats → HoldsSound D world → HoldsSound D next
    publish_holds world client fresh next may brings published is all =
        let opened = (held_at answers world client may.held may.is is).1 in
        let old : HistoryValue = may.held.snapshot.history in
        let goes : GoesOn old world.history = subst (λ (h : HistoryValue). GoesOn h world.history) (sym opened.shows) (goes_on_from world.history may.held.snapshot.revision) in
        let new : AllSound D world.history (memos_of fresh) = all_longer D old world.history goes (memos_of fresh) (each_sound D old (memos_of fresh) (brings may.held may.is)) in
        subst (HoldsSound D) (sym published.after_is) (record {
          shared = λ m there. elim (joined_either D.cmp exact itself (memos_of fresh) world.memos next.memos published.joined published.order m there) [ inl i ↦ new m i | inr i ↦ all.shared m i ];
          lent = put_sound world.seats (client - 1) _ all.lent tt;
        })

    -- one event
    event_holds : (world : WorldValue Q K V) (event : EventOf Q F) (next : WorldValue Q K V) → MayCome world event → BringsSound D memos_of world event → Follows answers D.cmp memos_of world event next
        → IsWorld answers world.history world.seats → HoldsSound D world → HoldsSound D next
    event_holds world (Commit client command edits) next allowed brings follows is all = commit_holds world client command edits next allowed.0 follows all
    event_holds world (Refuse client command edits) next allowed brings follows is all = commit_holds world client command edits next allowed.0 follows all
    event_holds world (Begin client) next allowed brings follows is all = subst (HoldsSound D) (sym follows) (record { shared = all.shared; lent = put_sound world.seats (client - 1) _ all.lent all.shared })
    event_holds world (Look client) next allowed brings follows is all =
        subst (HoldsSound D) (sym follows) (record { shared = all.shared; lent = put_sound world.seats (client - 1) _ all.lent (client_sound world client allowed.seat allowed.known all) })
    event_holds world (Asks client command query budget mode None) next allowed brings follows is all =
        subst (HoldsSound D) (sym follows.4) (record { shared = all.shared; lent = put_sound world.seats (client - 1) _ all.lent (still_sound D (seat_of world client).open_at (client_sound world client allowed.seat allowed.known all)) })
    event_holds world (Asks client command query budget mode (Some newer)) next allowed brings follows is all =
        subst (HoldsSound D) (sym follows) (record { shared = all.shared; lent = put_sound world.seats (client - 1) _ all.lent (still_sound D (seat_of world client).open_at (client_sound world client allowed.seat allowed.known all)) })
    event_holds world (Publish client fresh) next allowed brings follows is all = publish_holds world client fresh next allowed brings follows is all

    -- all events of a schedule
    schedule_holds : (world : WorldValue Q K V) (events : List (EventOf Q F)) (after : WorldValue Q K V) → Schedule D memos_of answers world events after → IsWorld answers world.history world.seats → HoldsSound D world
        → IsWorld answers after.history after.seats × HoldsSound D after
    schedule_holds world [] after ends is all = (is, all)
    schedule_holds world (event ∷ events) after (goes_on {next = next} allowed brings follows later) is all =
        schedule_holds next events after later (event_leads answers D.cmp memos_of world event next allowed follows is) (event_holds world event next allowed brings follows is all)

    none_held : (n place : ℕ) (seat : SeatValue Q (HeldValue K V)) → slice_get (replicate n new_seat) place ≡ Some seat → LentSound seat
    none_held n place seat there = subst LentSound (sym (each_new n place seat there)) tt

    pub schedules_hold : (opening : FilesValue) (clients : ℕ) (events : List (EventOf Q F)) (after : WorldValue Q K V) → IsOpening opening → Schedule D memos_of answers (opened opening clients) events after
        → IsWorld answers after.history after.seats × HoldsSound D after
    schedules_hold opening clients events after untouched schedule =
        schedule_holds (opened opening clients) events after schedule (world_opens answers opening clients untouched) (record { shared = λ m there. absurd there; lent = none_held clients })
