-- Clients in turn whose asks have one answer at any files have one report.
use Rattle.std.proofs.Common.{◌≡◌, ℕ, ◌+◌, List, [], ◌∷◌, length, unwrap_or, refl, ap, sym, ◌∙◌}
use Rattle.std.specs.List.{AllByRecursion}
use Rattle.sve_text.specs.Files.{FilesValue}
use Rattle.sve_command.specs.declared.commands.Command.{Command}
use Rattle.sve_command.specs.declared.commands.Command.TheVariants.{Commit, Ask}
use Rattle.sve_report.specs.declared.record.Record.{Record}
use Rattle.sve_report.specs.Reports.{report}
use Rattle.sve_query.proofs.OneAnswer.{one_answer}
use Rattle.sve_serve.specs.Serial.{Revisions, ask_record, IsRecordOf, revisions_after_one, AreRecordsOf, revisions_after, AreRecordsInTurn, opened, IsReportInTurn, HasOneAnswer, HaveOneAnswer}

one_record : (given : ℕ) (h : Revisions) (command : Command) (rec rec' : Record) → HasOneAnswer command → IsRecordOf given h command rec → IsRecordOf given h command rec' → rec ≡ rec'
one_record given h (Commit edits) rec rec' one is is' = is ∙ sym is'
one_record given h (Ask query mode budget) rec rec' one (answer, may, is) (answer', may', is') =
    let limit = unwrap_or budget given in
    is ∙ ap (ask_record (length h.entries) limit) (one_answer h.newest.rows query one limit limit answer answer' may may') ∙ sym is'

same_records : (given : ℕ) (h : Revisions) (i j : ℕ) (commands : List Command) (recs recs' : List Record) → AllByRecursion HasOneAnswer commands → AreRecordsOf given h i j commands recs → AreRecordsOf given h i j commands recs' → recs ≡ recs'
same_records given h i j [] [] [] one are are' = refl
same_records given h i j [] [] (rec' ∷ recs') one are are' = absurd are'
same_records given h i j [] (rec ∷ recs) recs' one are are' = absurd are
same_records given h i j (command ∷ commands) [] recs' one are are' = absurd are
same_records given h i j (command ∷ commands) (rec ∷ recs) [] one are are' = absurd are'
same_records given h i j (command ∷ commands) (rec ∷ recs) (rec' ∷ recs') one are are' =
    let first = one_record given h command rec rec' one.0 are.0 are'.0 in
    let rest = same_records given (revisions_after_one h i j command) i (j + 1) commands recs recs' one.1 are.1 are'.1 in
    λ k. first k ∷ rest k

same_in_turn : (given : ℕ) (h : Revisions) (i : ℕ) (clients : List (List Command)) (records records' : List (List Record)) → HaveOneAnswer clients → AreRecordsInTurn given h i clients records → AreRecordsInTurn given h i clients records' → records ≡ records'
same_in_turn given h i [] [] [] one are are' = refl
same_in_turn given h i [] [] (recs' ∷ records') one are are' = absurd are'
same_in_turn given h i [] (recs ∷ records) records' one are are' = absurd are
same_in_turn given h i (commands ∷ clients) [] records' one are are' = absurd are
same_in_turn given h i (commands ∷ clients) (recs ∷ records) [] one are are' = absurd are'
same_in_turn given h i (commands ∷ clients) (recs ∷ records) (recs' ∷ records') one are are' =
    let first = same_records given h i 1 commands recs recs' one.0 are.0 are'.0 in
    let rest = same_in_turn given (revisions_after h i 1 commands) (i + 1) clients records records' one.1 are.1 are'.1 in
    λ k. first k ∷ rest k

pub one_report : (given : ℕ) (files : FilesValue) (clients : List (List Command)) → HaveOneAnswer clients → (text other : List ℕ) → IsReportInTurn given files clients text → IsReportInTurn given files clients other → text ≡ other
one_report given files clients one text other (entries, records, (are, told), is) (entries', records', (are', told'), is') =
    let same_entries : entries ≡ entries' = told ∙ sym told' in
    let told_same : records ≡ records' = same_in_turn given (opened files) 1 clients records records' one are are' in
    is ∙ (λ k. report (same_entries k) (told_same k)) ∙ sym is'
