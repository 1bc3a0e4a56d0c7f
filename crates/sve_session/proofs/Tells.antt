-- What a commit is told, and what a snapshot shows, once the pass has met the log.
use Rattle.std.proofs.Common.{◌≡◌, ℕ, ◌+◌, ◌≤◌, ◌<◌, List, [], ◌∷◌, ◌++◌, Option, Some, None, length, take, map, refl, ap, sym, ◌∙◌, subst, arith, append_assoc, length-append}
use Rattle.std.specs.Prelude.{Contains}
use Rattle.std.proofs.lemmas.List.{take_all, take-map, take-append-le}
use Rattle.std.proofs.lemmas.List.Elements.{Contains-push}
use mathlib.Core.List.{IsPrefix}
use Rattle.sve_board.specs.declared.knowledge.Entry.{Entry as LogEntry}
use Rattle.sve_board.specs.Log.{entries_of, largest}
use Rattle.sve_board.specs.Values.{PassValue, TableId}
use Rattle.sve_board.proofs.Prefixes.{prefix_trans}
use Rattle.sve_text.specs.declared.edit.Edit.{Edit}
use Rattle.sve_text.specs.declared.edit.Mode.{Mode}
use Rattle.sve_text.specs.declared.why.Refusal.{Refusal}
use Rattle.sve_text.specs.Files.{FilesValue}
use Rattle.sve_text.specs.Refusals.{refusal_of}
use Rattle.sve_history.specs.declared.entry.Entry.{Entry}
use Rattle.sve_history.specs.Histories.{HistoryValue, Table, newest_files}
use Rattle.sve_store.specs.declared.answer.Answer.{Answer}
use Rattle.sve_store.specs.declared.answer.Answer.TheVariants.{Done, Spent as Unanswered}
use Rattle.sve_store.specs.Snapshots.{SnapshotValue}
use Rattle.sve_store.specs.Values.{IsDone}
use Rattle.sve_core.specs.declared.commit.Commit.{Commit}
use Rattle.sve_core.specs.declared.commit.Commit.TheVariants.{Accepted, Refused, Full}
use Rattle.sve_core.specs.declared.commit.Outcome.{Outcome}
use Rattle.sve_core.specs.Asks.{snapshot_of, outcome_of, history_at}
use Rattle.sve_core.specs.Commits.{commit_told}
use Rattle.sve_watch.specs.Looks.{looks_of, HasLooked}
use Rattle.sve_watch.proofs.Seen.{looks_are}
use Rattle.sve_session.specs.Shared.{with_edits, history_of}
use Rattle.sve_session.specs.Passes.{IsLater, IsReady, HasGoneOn}
use Rattle.sve_session.specs.Commits.{entry, IsTold}
use Rattle.sve_session.specs.Asks.{IsBegun, HasSeen, MayAnswer, IsAnswered, IsOutcome}
use Rattle.sve_session.specs.Meeting.{HasMet}
use Rattle.sve_session.proofs.Meets.{with_entry, look_below}
use Rattle.sve_session.proofs.Entries.{history_of-length}

module _ (x y : PassValue) (log : List LogEntry) (met : HasMet log x y) where
  pub later_met : IsLater x y
  later_met = record { table = met.table; number = met.number; seen = subst (IsPrefix x.seen) (sym met.seen) met.met; looks = met.grown }

  pub ready_met : (table : TableId) → IsReady table x → IsReady table y
  ready_met table is = record { board = met.table ∙ is.board; even = met.raises ∙ is.even ∙ ap length (sym met.mine) }

  pub gone_on : (table : TableId) → IsReady table x → HasGoneOn table x y
  gone_on table is = record { later = later_met; ready = ready_met table is; mine = met.mine }

  -- what `add_entry` asks of the pass
  pub may_add : (log' : List LogEntry) → log' ≡ log → (y.seen ≡ log') × (y.mine ≡ entries_of y.number log') × (largest y.looks ≤ length log')
  may_add log' same = (met.seen ∙ sym same, met.own ∙ ap (entries_of y.number) (sym same), omega (arith, met.not_above, ap length same))

  module _ (opening : FilesValue) (table : Table) (history : HistoryValue) (is : history ≡ history_of opening table log) where
    long : length history.entries ≡ length log
    long = ap (λ (h : HistoryValue). length h.entries) is ∙ history_of-length table opening log

    pub shows_all : (snapshot : SnapshotValue) → snapshot ≡ snapshot_of history → IsBegun opening table x y snapshot
    shows_all snapshot snap =
        let revision : snapshot.revision ≡ length log = ap (λ (s : SnapshotValue). s.revision) snap ∙ long in record {
          look = subst (Contains (looks_of x y)) (sym revision) met.look;
          not_below = omega (arith, met.not_below, revision);
          reached = ap length met.seen ∙ sym revision;
          shows = snap ∙ ap snapshot_of is ∙ ap (λ (l : List LogEntry). snapshot_of (history_of opening table l)) (sym met.seen);
          mine = met.mine;
        }

    pub base_within : (base : ℕ) → base ≤ length x.seen → base ≤ length history.entries
    base_within base le = omega (arith, le, ap length met.met.1, length-append x.seen met.met.0, long)

    -- the history as it was at a revision that the pass had seen
    pub base_history : (base : ℕ) → base ≤ length x.seen → history_at history base ≡ history_of opening table (take base x.seen)
    base_history base le =
        let first : take base log ≡ take base x.seen = ap (take base) (sym met.met.1) ∙ take-append-le base x.seen met.met.0 le in
        let made : take base (map (with_edits table) log) ≡ map (with_edits table) (take base x.seen) = take-map (with_edits table) base log ∙ ap (map (with_edits table)) first in
        ap (λ (h : HistoryValue). history_at h base) is ∙ ap (λ (entries : List Entry). let h : HistoryValue = record { opening = opening; entries = entries } in h) made

    module _ (most command : ℕ) where
      pub told_full : most ≤ length history.entries → length log ≤ most → IsTold opening table most command x y Full
      told_full reached within = record { reached = omega (arith, reached, within, long, ap length met.seen); mine = met.mine }

      module _ (edits : List Edit) (same : edits ≡ table x.number command) (room : length history.entries < most) where
        refusal_is : (found : Option Refusal) → refusal_of (newest_files history) edits ≡ found → refusal_of (newest_files (history_of opening table log)) (table x.number command) ≡ found
        refusal_is found answers = (λ i. refusal_of (newest_files (sym is i)) (sym same i)) ∙ answers

        pub told_refused : (found : Option Refusal) → refusal_of (newest_files history) edits ≡ found → (told : Commit) → told ≡ commit_told history found → ((r : ℕ) → told ≡ Accepted r → ⊥) → IsTold opening table most command x y told
        told_refused None answers told told_is not = absurd (not (length history.entries + 1) told_is)
        told_refused (Some refusal) answers told told_is not =
            let at_log : told ≡ Refused (length log) refusal.edit refusal.why = told_is ∙ ap (λ (r : ℕ). Refused r refusal.edit refusal.why) long in
            subst (IsTold opening table most command x y) (sym at_log) (record {
              look = met.look;
              not_below = met.not_below;
              reached = ap length met.seen;
              room = omega (arith, room, long);
              refusal = ap (λ (l : List LogEntry). refusal_of (newest_files (history_of opening table l)) (table x.number command)) met.seen ∙ refusal_is (Some refusal) answers;
              mine = met.mine;
            })

        module _ (z : PassValue) (z_is : z ≡ with_entry y log command) where
          grown : z.looks ≡ x.looks ++ (met.grown.0 ++ (length log + 1) ∷ [])
          grown =
              ap (λ (p : PassValue). p.looks) z_is
              ∙ ap (λ (l : List ℕ). l ++ (length log + 1) ∷ []) (sym met.grown.1)
              ∙ append_assoc x.looks met.grown.0 ((length log + 1) ∷ [])

          pub told_accepted : (found : Option Refusal) → refusal_of (newest_files history) edits ≡ found → (r : ℕ) → Accepted r ≡ commit_told history found → IsTold opening table most command x z (Accepted r)
          told_accepted (Some refusal) answers r told_is = absurd (cc)
          told_accepted None answers r told_is =
              let number : r ≡ length history.entries + 1 = cc in
              let at_log : length log + 1 ≡ r = omega (arith, number, long) in record {
                look = subst (Contains (looks_of x z)) at_log (subst (λ (l : List ℕ). Contains l (length log + 1)) (sym (looks_are x z (met.grown.0 ++ (length log + 1) ∷ []) grown)) (Contains-push met.grown.0 (length log + 1)));
                above = omega (arith, met.not_below, at_log);
                reached = ap (λ (p : PassValue). length p.seen) z_is ∙ length-append log (entry y.number command ∷ []) ∙ at_log;
                earlier = log;
                last = ap (λ (p : PassValue). p.seen) z_is ∙ ap (λ (i : ℕ). log ++ entry i command ∷ []) met.number;
                room = omega (arith, room, long);
                met = refusal_is None answers;
                mine = ap (λ (p : PassValue). p.mine) z_is ∙ (λ k. met.mine k ++ entry (met.number k) command ∷ []);
              }

          pub later_entry : IsLater x z
          later_entry = record {
            table = ap (λ (p : PassValue). p.table) z_is ∙ met.table;
            number = ap (λ (p : PassValue). p.number) z_is ∙ met.number;
            seen = subst (IsPrefix x.seen) (ap (λ (p : PassValue). p.seen) (sym z_is)) (prefix_trans x.seen log (log ++ entry y.number command ∷ []) met.met (entry y.number command ∷ [], refl));
            looks = (met.grown.0 ++ (length log + 1) ∷ [], sym grown);
          }

          pub ready_entry : (board : TableId) → IsReady board y → IsReady board z
          ready_entry board ready = record {
            board = ap (λ (p : PassValue). p.table) z_is ∙ ready.board;
            even = omega (arith, ap (λ (p : PassValue). p.raises) z_is, ready.even, ap (λ (p : PassValue). length p.mine) z_is, length-append y.mine (entry y.number command ∷ []));
          }

-- of two passes that met one log, the one is not behind what the other had looked up
pub not_behind : (x y u v : PassValue) (log log' : List LogEntry) → HasMet log x y → HasMet log' u v → log' ≡ log → largest x.looks ≤ largest v.looks
not_behind x y u v log log' first second same = omega (arith, first.not_below, ap length same, look_below u v (length log') second.look)

-- a snapshot of all that the pass has seen is one that it has seen
pub has_seen : (opening : FilesValue) (table : Table) (before after : PassValue) (snapshot : SnapshotValue) → IsBegun opening table before after snapshot → HasSeen opening table after snapshot
has_seen opening table before after snapshot is = record {
  within = omega (arith, is.reached);
  shows = ap (λ (s : SnapshotValue). s.history) is.shows ∙ ap (history_of opening table) (sym (take_all snapshot.revision after.seen (omega (arith, is.reached))));
}

-- after an ask the pass is still one of the session's, and has seen the snapshot
pub ready_still : (table : TableId) (before after : PassValue) → HasLooked before after → IsReady table before → IsReady table after
ready_still table before after looked ready = record { board = looked.table ∙ ready.board; even = looked.raises ∙ ready.even ∙ ap length (sym looked.mine) }

pub seen_still : (opening : FilesValue) (table : Table) (before after : PassValue) (snapshot : SnapshotValue) → HasLooked before after → HasSeen opening table before snapshot → HasSeen opening table after snapshot
seen_still opening table before after snapshot looked is = record {
  within = omega (arith, is.within, ap length looked.seen);
  shows = is.shows ∙ ap (λ (l : List LogEntry). history_of opening table (take snapshot.revision l)) (sym looked.seen);
}

-- an ask with this answer is told it
pub told_answer : (answers : Answer → Type 0) (revision budget : ℕ) (mode : Mode) (before after : PassValue) (answer : Answer) → answers answer → MayAnswer mode revision before after
    → IsOutcome answers revision budget mode before after (outcome_of budget answer)
told_answer answers revision budget mode before after (Done lines) is may = (is, may)
told_answer answers revision budget mode before after Unanswered is may = (refl, is, may)

-- and where it is answered, that is done
pub answered_done : (budget : ℕ) (answer : Answer) (told : Outcome) → told ≡ outcome_of budget answer → IsAnswered told → IsDone answer
answered_done budget (Done lines) told same is = tt
answered_done budget Unanswered told same is = subst IsAnswered same is
