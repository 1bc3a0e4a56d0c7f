-- What one call of a session tells.
use Rattle.std.proofs.Common.{◌≡◌, ℕ, ◌≤◌, List, [], ◌∷◌, ◌++◌, length, take, Option, ap, sym, ◌∙◌, subst, arith, length-append}
use Rattle.std.proofs.lemmas.List.{append-nil, take_all}
use mathlib.Core.List.{IsPrefix}
use Rattle.sve_board.specs.declared.knowledge.Entry.{Entry}
use Rattle.sve_board.specs.Log.{largest}
use Rattle.sve_board.specs.Values.{PassValue}
use Rattle.sve_board.proofs.Prefixes.{prefix_refl}
use Rattle.sve_text.specs.declared.edit.Edit.{Edit}
use Rattle.sve_text.specs.declared.edit.Mode.{Mode}
use Rattle.sve_text.specs.declared.why.Why.{Why}
use Rattle.sve_text.specs.Files.{FilesValue}
use Rattle.sve_text.specs.Refusals.{refusal_of}
use Rattle.sve_history.specs.Histories.{Table, newest_files}
use Rattle.sve_store.specs.declared.answer.Answer.{Answer}
use Rattle.sve_store.specs.declared.answer.Answer.TheVariants.{Done, Spent as Unanswered}
use Rattle.sve_store.specs.Snapshots.{SnapshotValue}
use Rattle.sve_core.specs.declared.commit.Outcome.{Outcome}
use Rattle.sve_core.specs.declared.commit.Outcome.TheVariants as outcome
use Rattle.sve_watch.specs.Looks.{HasLooked}
use Rattle.sve_session.specs.Shared.{history_of}
use Rattle.sve_session.specs.Passes.{IsLater}
use Rattle.sve_session.specs.Commits.{entry, IsAccepted, IsRefused}
use Rattle.sve_session.specs.Asks.{IsBegun, HasSeen, IsOutcome}
use Rattle.sve_command.specs.declared.commands.Command.TheVariants.{Commit, Ask}
use Rattle.sve_command.specs.declared.commands.Query.{Query}
use Rattle.sve_report.specs.declared.record.Record.TheVariants.{Accepted, Refused}
use Rattle.sve_runner.specs.declared.terms.Terms.{Terms}
use Rattle.sve_runner.specs.Honest.{budget_under, mode_under}
use Rattle.sve_runner.specs.Told.{outcome_record, HoldsAt, IsTold}
use Rattle.sve_session.proofs.Meets.{look_below, largest_prefix}

whole_log : {xs ys : List Entry} → ys ≡ xs → IsPrefix xs ys
whole_log {xs} {ys} is = subst (IsPrefix xs) (sym is) (prefix_refl xs)

module _ (opening : FilesValue) (table : Table) (before begun looked : PassValue) (snapshot : SnapshotValue) (begins : IsBegun opening table before begun snapshot) where
  -- the snapshot is one that the pass has seen, then and after some looks
  pub has_seen : HasLooked begun looked → HasSeen opening table looked snapshot
  has_seen looks =
      let seen : take snapshot.revision looked.seen ≡ begun.seen = ap (take snapshot.revision) looks.seen ∙ take_all snapshot.revision begun.seen (omega (arith, begins.reached)) in
      record {
        within = omega (arith, begins.reached, ap (λ (l : List Entry). length l) looks.seen);
        shows = ap (λ (s : SnapshotValue). s.history) begins.shows ∙ ap (history_of opening table) (sym seen);
      }

module _ (answers : FilesValue → Query → ℕ → Answer → Type 0) (terms : Terms) (opening : FilesValue) (table : Table) where
  pub accepted_told : (most j r : ℕ) (edits : List Edit) (before after : PassValue) → IsAccepted opening table most j before after r → IsLater before after → IsTold answers terms opening table before.number j (Commit edits) before after (Accepted r)
  accepted_told most j r edits before after a later = record {
    honest = λ front le. (omega (arith, le, a.above), (a.earlier, whole_log a.last, omega (arith, a.reached, ap (λ (l : List Entry). length l) a.last, length-append a.earlier (entry before.number j ∷ []))));
    front = λ front le. omega (arith, le, look_below before after r a.look, largest_prefix before.looks after.looks later.looks);
    mine = a.mine;
  }

  pub refused_told : (most j r edit : ℕ) (why : Why) (edits : List Edit) (before after : PassValue) → edits ≡ table before.number j → IsRefused opening table most j before after r edit why → IsLater before after
      → IsTold answers terms opening table before.number j (Commit edits) before after (Refused r edit why)
  refused_told most j r edit why edits before after are a later = record {
    honest = λ front le. (omega (arith, le, a.not_below), (after.seen, prefix_refl after.seen, a.reached, ap (refusal_of (newest_files (history_of opening table after.seen))) are ∙ a.refusal));
    front = λ front le. omega (arith, le, look_below before after r a.look, largest_prefix before.looks after.looks later.looks);
    mine = a.mine ∙ sym (append-nil before.mine);
  }

  module _ (j : ℕ) (query : Query) (mode : Mode) (budget : Option ℕ) (before begun looked after : PassValue) (snapshot : SnapshotValue) (began : IsLater before begun) (begins : IsBegun opening table before begun snapshot) (looks : HasLooked begun looked)
      (later : IsLater looked after) (mine : after.mine ≡ looked.mine) where
    abbrev pub r : ℕ
    r = snapshot.revision

    top_begun : largest begun.looks ≤ largest looked.looks
    top_begun = largest_prefix begun.looks looked.looks looks.looks

    top_looked : largest looked.looks ≤ largest after.looks
    top_looked = largest_prefix looked.looks after.looks later.looks

    top_before : largest before.looks ≤ largest begun.looks
    top_before = largest_prefix before.looks begun.looks began.looks

    holds : (P : FilesValue → Type 0) → P snapshot.files → HoldsAt answers terms opening table after.seen r P
    holds P h = (begun.seen, subst (λ (l : List Entry). IsPrefix l after.seen) looks.seen later.seen, begins.reached, subst P (ap (λ (s : SnapshotValue). s.files) begins.shows) h)

    same_mine : after.mine ≡ before.mine ++ []
    same_mine = mine ∙ looks.mine ∙ begins.mine ∙ sym (append-nil before.mine)

    pub ask_told : (told : Outcome) → IsOutcome (answers snapshot.files query (budget_under terms budget)) r (budget_under terms budget) (mode_under terms mode) begun looked told → IsTold answers terms opening table before.number j (Ask query mode budget) before after (outcome_record r told)
    ask_told (outcome.Answered lines) (is, may) = record {
      honest = λ front le. (omega (arith, le, begins.not_below), holds (λ files. answers files query (budget_under terms budget) (Done lines)) is);
      front = λ front le. omega (arith, le, look_below before begun r begins.look, top_begun, top_looked, top_before);
      mine = same_mine;
    }
    ask_told (outcome.Spent limit) (same, is, may) = record {
      honest = λ front le. (omega (arith, le, begins.not_below), same, holds (λ files. answers files query limit Unanswered) (subst (λ (n : ℕ). answers snapshot.files query n Unanswered) (sym same) is));
      front = λ front le. omega (arith, le, look_below before begun r begins.look, top_begun, top_looked, top_before);
      mine = same_mine;
    }
    ask_told (outcome.Cancelled base newer) (latest, at, saw) =
        let within = look_below begun looked newer saw.looked in record {
          honest = λ front le. (latest, omega (arith, le, begins.not_below, at), omega (arith, saw.newer, at), omega (arith, within, top_looked));
          front = λ front le. omega (arith, le, within, top_begun, top_looked, top_before);
          mine = same_mine;
        }
