-- What becomes of a world that holds its seats as a list, where one seat is put in the place of another.
use Rattle.std.proofs.Common.{◌≡◌, ℕ, ◌-◌, ◌<◌, ◌≤◌, List, length, get_or, set, map, Option, Some, None, Result, Ok, Err, refl, sym, ap, ◌∙◌, subst}
use Rattle.std.specs.Prelude.{All, OnErr}
use Rattle.sve_text.specs.declared.edit.Edit.{Edit}
use Rattle.sve_text.specs.declared.edit.Mode.{Mode}
use Rattle.sve_text.specs.declared.why.Refusal.{Refusal}
use Rattle.sve_text.specs.Files.{FilesValue}
use Rattle.sve_text.specs.Refusals.{refusal_of}
use Rattle.sve_history.specs.Histories.{HistoryValue, newest_files, commands_of}
use Rattle.sve_store.specs.declared.answer.Answer.{Answer}
use Rattle.sve_memo.specs.Memos.{MemoValue}
use Rattle.sve_ask.specs.Sound.{Defined, AllSound}
use Rattle.sve_core.specs.declared.commit.Commit.{Commit}
use Rattle.sve_core.specs.declared.commit.Outcome.{Outcome}
use Rattle.sve_core.specs.declared.commit.Outcome.TheVariants.{Cancelled}
use Rattle.sve_seat.specs.declared.told.Told.TheVariants.{Committed, Asked}
use Rattle.sve_seat.specs.declared.open.Open.{Open}
use Rattle.sve_seat.specs.declared.seat.Seat.{Seat}
use Rattle.sve_core.specs.Asks.{snapshot_of, outcome_of, history_at}
use Rattle.sve_core.specs.Commits.{CoreValue, committed, commit_told}
use Rattle.sve_seat.specs.Seats.{SeatValue, HeldValue, held_with, seat_value, hearing, beginning, answered_at, IsWorld}
use Rattle.sve_world.specs.Machine.{WorldValue, IsOfClient, MayCommit, MayBegin, MayLook, MayPublish, IsHeld, MayAsk, seat_of, looking, after_commit, after_look, after_begin, revision_at, after_ask, AfterAsk, after_publish}
use Rattle.sve_world.proofs.Items.{shown, map-put, seen_as_before, held_is}
use Rattle.sve_world.proofs.Events.{seat_is, held_at, commands_below, look_leads, begin_leads, commit_leads, publish_leads, answer_leads, cancel_leads}

pub always_err : {T E P : Type 0} (r : Result T E) → P → OnErr r P
always_err (Ok v) p = tt
always_err (Err e) p = p

-- what a world is after an event, and that it stays one
pub record IsAfter {Q K V : Type 0} (answers : FilesValue → Q → ℕ → Answer → Type 0) (next is : WorldValue Q K V) : Type 0 where
  pub after : is ≡ next
  pub stays : IsWorld answers is.history is.seats

module _ {Q K V : Type 0} (core : CoreValue K V) (xs : List (Seat Q (HeldValue K V))) (client : ℕ) (d : Seat Q (HeldValue K V)) (at : d ≡ get_or xs (client - 1) d) where
  -- a seat is put there that is seen as the one before
  kept : (s : Seat Q (HeldValue K V)) → seat_value s ≡ seat_value d → map seat_value (set xs (client - 1) s) ≡ map seat_value xs
  kept s same = seen_as_before seat_value xs (client - 1) s d (same ∙ ap seat_value at)

  pub kept_as : (world : WorldValue Q K V) (next : CoreValue K V) (s : Seat Q (HeldValue K V)) → next ≡ core → seat_value s ≡ seat_value d → shown core xs ≡ world → shown next (set xs (client - 1) s) ≡ world
  kept_as world next s stays same view = ap (λ (c : CoreValue K V). shown c (set xs (client - 1) s)) stays ∙ ap (λ (l : List (SeatValue Q (HeldValue K V))). record { history = core.history; memos = core.memos; seats = l }) (kept s same) ∙ view

  pub kept_world : (answers : FilesValue → Q → ℕ → Answer → Type 0) (next : CoreValue K V) (s : Seat Q (HeldValue K V)) → next ≡ core → seat_value s ≡ seat_value d → IsWorld answers core.history (map seat_value xs)
      → IsWorld answers next.history (map seat_value (set xs (client - 1) s))
  kept_world answers next s stays same is =
      subst (λ (c : CoreValue K V). IsWorld answers c.history (map seat_value (set xs (client - 1) s))) (sym stays) (subst (IsWorld answers core.history) (sym (kept s same)) is)

module _ {Q K V : Type 0} (answers : FilesValue → Q → ℕ → Answer → Type 0) (core : CoreValue K V) (xs : List (Seat Q (HeldValue K V))) (client : ℕ) (d : Seat Q (HeldValue K V)) (at : d ≡ get_or xs (client - 1) d) where
  -- a seat is put there that is not seen as the one before
  moved : (seat : SeatValue Q (HeldValue K V)) → IsOfClient (shown core xs) client seat → (after : CoreValue K V) (f : SeatValue Q (HeldValue K V) → SeatValue Q (HeldValue K V)) (s t : Seat Q (HeldValue K V))
      → seat_value s ≡ seat_value d → seat_value t ≡ f (seat_value s)
      → shown after (set xs (client - 1) t) ≡ record { history = after.history; memos = after.memos; seats = set (map seat_value xs) (client - 1) (f (seat_of (shown core xs) client)) }
  moved seat there after f s t same becomes =
      let known : seat_value t ≡ f (seat_of (shown core xs) client) = becomes ∙ ap f (same ∙ held_is core xs client seat there d at) in
      ap (λ (l : List (SeatValue Q (HeldValue K V))). record { history = after.history; memos = after.memos; seats = l }) (map-put seat_value xs (client - 1) t ∙ ap (set (map seat_value xs) (client - 1)) known)

  comes_to : (world : WorldValue Q K V) (next : WorldValue Q K V → WorldValue Q K V) (lhs : WorldValue Q K V) → shown core xs ≡ world → lhs ≡ next (shown core xs) → IsWorld answers (next (shown core xs)).history (next (shown core xs)).seats
      → IsAfter answers (next world) lhs
  comes_to world next lhs view is stays = record {
    after = is ∙ ap next view;
    stays = subst (λ (w : WorldValue Q K V). IsWorld answers w.history w.seats) (sym is) stays;
  }

  pub looked : (world : WorldValue Q K V) (s t : Seat Q (HeldValue K V)) (r : ℕ) → shown core xs ≡ world → IsWorld answers core.history (map seat_value xs) → MayLook world client → r ≡ length core.history.entries
      → seat_value s ≡ seat_value d → seat_value t ≡ looking (seat_value s) r → IsAfter answers (after_look world client) (shown core (set xs (client - 1) t))
  looked world s t r view is may number same becomes =
      let here : MayLook (shown core xs) client = subst (λ (w : WorldValue Q K V). MayLook w client) (sym view) may in
      comes_to world (λ w. after_look w client) (shown core (set xs (client - 1) t)) view
      (moved here.seat here.known core (λ v. looking v (length core.history.entries)) s t same (becomes ∙ ap (looking (seat_value s)) number))
      (look_leads answers (shown core xs) client here is)

  pub begun : (world : WorldValue Q K V) (s t : Seat Q (HeldValue K V)) (held : HeldValue K V) (r : ℕ) → shown core xs ≡ world → IsWorld answers core.history (map seat_value xs) → MayBegin world client
      → held ≡ held_with (snapshot_of core.history) core.memos → r ≡ held.revision → seat_value s ≡ seat_value d → seat_value t ≡ beginning (seat_value s) held r
      → IsAfter answers (after_begin world client) (shown core (set xs (client - 1) t))
  begun world s t held r view is may newest number same becomes =
      let here : MayBegin (shown core xs) client = subst (λ (w : WorldValue Q K V). MayBegin w client) (sym view) may in
      let last : r ≡ length core.history.entries = number ∙ ap (λ (v : HeldValue K V). v.revision) newest in
      comes_to world (λ w. after_begin w client) (shown core (set xs (client - 1) t)) view
      (moved here.seat here.known core (λ v. beginning v (held_with (snapshot_of core.history) core.memos) (length core.history.entries)) s t same (becomes ∙ (λ k. beginning (seat_value s) (newest k) (last k))))
      (begin_leads answers (shown core xs) client here is)

  pub rises : (world : WorldValue Q K V) (command : ℕ) (edits : List Edit) → shown core xs ≡ world → IsWorld answers core.history (map seat_value xs) → MayCommit world client command edits
      → All (λ earlier. earlier < command) (commands_of client core.history.entries)
  rises world command edits view is may = commands_below answers (shown core xs) client command edits (subst (λ (w : WorldValue Q K V). MayCommit w client command edits) (sym view) may) is

  pub has_committed : (world : WorldValue Q K V) (command : ℕ) (edits : List Edit) (later : CoreValue K V) (commit : Commit) (s t : Seat Q (HeldValue K V)) (r : ℕ) → shown core xs ≡ world → IsWorld answers core.history (map seat_value xs)
      → MayCommit world client command edits
      → later ≡ record { history = committed core.history (record { client = client; command = command; edits = edits }) (refusal_of (newest_files core.history) edits); memos = core.memos }
      → commit ≡ commit_told core.history (refusal_of (newest_files core.history) edits) → r ≡ length later.history.entries → seat_value s ≡ seat_value d
      → seat_value t ≡ hearing (looking (seat_value s) r) (Committed command edits commit) → IsAfter answers (after_commit world client command edits) (shown later (set xs (client - 1) t))
  has_committed world command edits later commit s t r view is may leaves told number same becomes =
      let here : MayCommit (shown core xs) client command edits = subst (λ (w : WorldValue Q K V). MayCommit w client command edits) (sym view) may in
      let refusal : Option Refusal = refusal_of (newest_files core.history) edits in
      let after : CoreValue K V = record { history = committed core.history (record { client = client; command = command; edits = edits }) refusal; memos = core.memos } in
      let last : r ≡ length after.history.entries = number ∙ ap (λ (c : CoreValue K V). length c.history.entries) leaves in
      comes_to world (λ w. after_commit w client command edits) (shown later (set xs (client - 1) t)) view
      (ap (λ (c : CoreValue K V). shown c (set xs (client - 1) t)) leaves
      ∙ moved here.seat here.known after (λ v. hearing (looking v (length after.history.entries)) (Committed command edits (commit_told core.history refusal))) s t same
      (becomes ∙ (λ k. hearing (looking (seat_value s) (last k)) (Committed command edits (told k)))))
      (commit_leads answers (shown core xs) client command edits here is)

  pub has_published : (world : WorldValue Q K V) (later : CoreValue K V) (t : Seat Q (HeldValue K V)) → shown core xs ≡ world → IsWorld answers core.history (map seat_value xs) → MayPublish world client → later.history ≡ core.history
      → seat_value t ≡ record (seat_value d) { open_at = None } → IsAfter answers (after_publish world client later.memos) (shown later (set xs (client - 1) t))
  has_published world later t view is may stays becomes =
      let here : MayPublish (shown core xs) client = subst (λ (w : WorldValue Q K V). MayPublish w client) (sym view) may in
      comes_to world (λ w. after_publish w client later.memos) (shown later (set xs (client - 1) t)) view
      (ap (λ (h : HistoryValue). shown (record { history = h; memos = later.memos }) (set xs (client - 1) t)) stays
      ∙ moved here.is.seat here.is.known (record { history = core.history; memos = later.memos }) (λ v. record v { open_at = None }) d t (λ k. seat_value d) becomes)
      (publish_leads answers (shown core xs) client later.memos here is)

  -- what a client holds that may give it back
  holds_this : (o : Open (HeldValue K V)) (here : MayPublish (shown core xs) client) → (seat_value d).open_at ≡ Some o → here.held ≡ o
  holds_this o here holds =
      let mine : (seat_value d).open_at ≡ Some here.held =
      ap (λ (v : SeatValue Q (HeldValue K V)). v.open_at) (held_is core xs client here.is.seat here.is.known d at ∙ seat_is (shown core xs) client here.is.seat here.is.known) ∙ here.is.holds in
      let both : Some here.held ≡ Some o = sym mine ∙ holds in
      cc

  -- the snapshot that a client holds is of a revision that was made
  pub revision_made : (world : WorldValue Q K V) (o : Open (HeldValue K V)) → shown core xs ≡ world → IsWorld answers core.history (map seat_value xs) → MayPublish world client → (seat_value d).open_at ≡ Some o
      → o.snapshot.revision ≤ length core.history.entries
  revision_made world o view is may holds =
      let here : MayPublish (shown core xs) client = subst (λ (w : WorldValue Q K V). MayPublish w client) (sym view) may in
      let opened = (held_at answers (shown core xs) client here.held here.is is).1 in
      subst (λ (e : Open (HeldValue K V)). e.snapshot.revision ≤ length core.history.entries) (holds_this o here holds) opened.within

  -- and what was found at it is sound for the history as it was then
  pub brought : (D : Defined K V) (world : WorldValue Q K V) (o : Open (HeldValue K V)) (base : ℕ) (fresh : List (MemoValue K V)) → shown core xs ≡ world → IsWorld answers core.history (map seat_value xs) → MayPublish world client
      → (seat_value d).open_at ≡ Some o → base ≡ o.snapshot.revision → ((held : Open (HeldValue K V)) → IsHeld world client held → ∥ AllSound D held.snapshot.history fresh ∥₁) → ∥ AllSound D (history_at core.history base) fresh ∥₁
  brought D world o base fresh view is may holds number brings =
      let here : MayPublish (shown core xs) client = subst (λ (w : WorldValue Q K V). MayPublish w client) (sym view) may in
      let opened = (held_at answers (shown core xs) client here.held here.is is).1 in
      let sound : ∥ AllSound D here.held.snapshot.history fresh ∥₁ = brings here.held (subst (λ (w : WorldValue Q K V). IsHeld w client here.held) view here.is) in
      let base_is : here.held.snapshot.revision ≡ base = ap (λ (e : Open (HeldValue K V)). e.snapshot.revision) (holds_this o here holds) ∙ sym number in
      subst (λ (h : HistoryValue). ∥ AllSound D h fresh ∥₁) (opened.shows ∙ ap (history_at core.history) base_is) sound

  -- a client that may ask holds a snapshot
  pub asks_at : (world : WorldValue Q K V) (command : ℕ) (mode : Mode) (newer : Option ℕ) → shown core xs ≡ world → (may : MayAsk world client command mode newer) → (seat_value d).open_at ≡ Some may.held
  asks_at world command mode newer view may =
      let there : IsOfClient (shown core xs) client may.seat = subst (λ (w : WorldValue Q K V). IsOfClient w client may.seat) (sym view) may.known in
      ap (λ (v : SeatValue Q (HeldValue K V)). v.open_at) (held_is core xs client may.seat there d at ∙ seat_is (shown core xs) client may.seat there) ∙ may.holds

  has_asked : (command : ℕ) (query : Q) (budget : ℕ) (mode : Mode) (newer : Option ℕ) (outcome : Outcome) (s t : Seat Q (HeldValue K V)) (r : ℕ) (here : MayAsk (shown core xs) client command mode newer)
      → r ≡ revision_at (seat_value s).open_at → seat_value s ≡ seat_value d
      → seat_value t ≡ hearing (record (seat_value s) { open_at = answered_at (seat_value s).open_at }) (Asked command query budget mode r outcome)
      → shown core (set xs (client - 1) t) ≡ after_ask (shown core xs) client command query budget mode outcome
  has_asked command query budget mode newer outcome s t r here number same becomes =
      moved here.seat here.known core (λ v. hearing (record v { open_at = answered_at v.open_at }) (Asked command query budget mode (revision_at v.open_at) outcome)) s t same
      (becomes ∙ ap (λ (n : ℕ). hearing (record (seat_value s) { open_at = answered_at (seat_value s).open_at }) (Asked command query budget mode n outcome)) number)

  pub has_answered : (world : WorldValue Q K V) (command : ℕ) (query : Q) (budget : ℕ) (mode : Mode) (answer : Answer) (outcome : Outcome) (o : Open (HeldValue K V)) (s t : Seat Q (HeldValue K V)) (r : ℕ)
      → shown core xs ≡ world → IsWorld answers core.history (map seat_value xs) → MayAsk world client command mode None → (seat_value d).open_at ≡ Some o → answers o.snapshot.files query budget answer
      → outcome ≡ outcome_of budget answer → r ≡ o.snapshot.revision → seat_value s ≡ seat_value d
      → seat_value t ≡ hearing (record (seat_value s) { open_at = answered_at (seat_value s).open_at }) (Asked command query budget mode r outcome)
      → AfterAsk answers world client command query budget mode None (shown core (set xs (client - 1) t)) × IsWorld answers core.history (map seat_value (set xs (client - 1) t))
  has_answered world command query budget mode answer outcome o s t r view is may holds so outcome_is number same becomes =
      let here : MayAsk (shown core xs) client command mode None = subst (λ (w : WorldValue Q K V). MayAsk w client command mode None) (sym view) may in
      let lhs = shown core (set xs (client - 1) t) in
      let both : Some here.held ≡ Some o = sym (asks_at (shown core xs) command mode None refl here) ∙ holds in
      let one : here.held ≡ o = cc in
      let answered : answers here.held.snapshot.files query budget answer = subst (λ (e : Open (HeldValue K V)). answers e.snapshot.files query budget answer) (sym one) so in
      let after : lhs ≡ after_ask (shown core xs) client command query budget mode (outcome_of budget answer) =
      has_asked command query budget mode None (outcome_of budget answer) s t r here (number ∙ sym (ap revision_at (ap (λ (v : SeatValue Q (HeldValue K V)). v.open_at) same ∙ holds))) same
      (becomes ∙ ap (λ (e : Outcome). hearing (record (seat_value s) { open_at = answered_at (seat_value s).open_at }) (Asked command query budget mode r e)) outcome_is) in (
        subst (λ (w : WorldValue Q K V). AfterAsk answers w client command query budget mode None lhs) view (here.held, answer, record { seat = here.seat; known = here.known; holds = here.holds }, answered, after),
        subst (λ (w : WorldValue Q K V). IsWorld answers w.history w.seats) (sym after) (answer_leads answers (shown core xs) client command query budget mode None here answer answered is),
      )

  pub has_cancelled : (world : WorldValue Q K V) (command : ℕ) (query : Q) (budget : ℕ) (mode : Mode) (newer : ℕ) (o : Open (HeldValue K V)) (s t : Seat Q (HeldValue K V)) (r : ℕ)
      → shown core xs ≡ world → IsWorld answers core.history (map seat_value xs) → MayAsk world client command mode (Some newer) → (seat_value d).open_at ≡ Some o → r ≡ o.snapshot.revision → seat_value s ≡ seat_value d
      → seat_value t ≡ hearing (record (seat_value s) { open_at = answered_at (seat_value s).open_at }) (Asked command query budget mode r (Cancelled r newer))
      → AfterAsk answers world client command query budget mode (Some newer) (shown core (set xs (client - 1) t)) × IsWorld answers core.history (map seat_value (set xs (client - 1) t))
  has_cancelled world command query budget mode newer o s t r view is may holds number same becomes =
      let here : MayAsk (shown core xs) client command mode (Some newer) = subst (λ (w : WorldValue Q K V). MayAsk w client command mode (Some newer)) (sym view) may in
      let lhs = shown core (set xs (client - 1) t) in
      let both : Some here.held ≡ Some o = sym (asks_at (shown core xs) command mode (Some newer) refl here) ∙ holds in
      let one : here.held ≡ o = cc in
      let held_revision : r ≡ here.held.snapshot.revision = number ∙ ap (λ (e : Open (HeldValue K V)). e.snapshot.revision) (sym one) in
      let seat_revision : revision_at (seat_of (shown core xs) client).open_at ≡ here.held.snapshot.revision =
      ap (λ (v : SeatValue Q (HeldValue K V)). revision_at v.open_at) (seat_is (shown core xs) client here.seat here.known) ∙ ap revision_at here.holds in
      let after : lhs ≡ after_ask (shown core xs) client command query budget mode (Cancelled r newer) =
      has_asked command query budget mode (Some newer) (Cancelled r newer) s t r here (number ∙ sym (ap revision_at (ap (λ (v : SeatValue Q (HeldValue K V)). v.open_at) same ∙ holds))) same becomes in (
        subst (λ (w : WorldValue Q K V). AfterAsk answers w client command query budget mode (Some newer) lhs) view
            (after ∙ ap (λ (n : ℕ). after_ask (shown core xs) client command query budget mode (Cancelled n newer)) (held_revision ∙ sym seat_revision)),
        subst (λ (w : WorldValue Q K V). IsWorld answers w.history w.seats) (sym after)
            (subst (λ (n : ℕ). IsWorld answers (after_ask (shown core xs) client command query budget mode (Cancelled n newer)).history (after_ask (shown core xs) client command query budget mode (Cancelled n newer)).seats) (sym held_revision)
            (cancel_leads answers (shown core xs) client command query budget mode newer here is)),
      )
