-- A history of honest records has an entry for each accepted commit, and no other.
use Rattle.std.proofs.Common.{◌≡◌, ℕ, zero, suc, ◌+◌, ◌-◌, ◌<◌, List, [], ◌∷◌, length, map, slice_get, IsTrue, refl, ap, sym, ◌∙◌, arith}
use Rattle.std.specs.List.{AllByRecursion, slice_index_or}
use Rattle.std.proofs.lemmas.List.{length-map}
use Rattle.std.proofs.lemmas.List.Elements.{All-nil, All-cons}
use Rattle.sve_board.specs.declared.knowledge.Entry.{Entry as LogEntry}
use Rattle.sve_board.specs.Log.{IsClient, AreOfClients, entries_of}
use Rattle.sve_text.specs.Files.{FilesValue}
use Rattle.sve_history.specs.declared.entry.Entry.{Entry as Made}
use Rattle.sve_history.specs.Histories.{entry_by, commands_of}
use Rattle.sve_store.specs.declared.answer.Answer.{Answer}
use Rattle.sve_session.specs.Shared.{with_edits}
use Rattle.sve_clients.specs.Runs.{next_front}
use Rattle.sve_command.specs.declared.commands.Command.{Command}
use Rattle.sve_command.specs.declared.commands.Query.{Query}
use Rattle.sve_report.specs.declared.entry.Entry.{Entry}
use Rattle.sve_report.specs.declared.record.Record.{Record}
use Rattle.sve_runner.specs.declared.terms.Terms.{Terms}
use Rattle.sve_runner.specs.Honest.{edits_in, script_entries, front_at, accepted_from, is_commit, IsOfScript, AreHonestFrom, AreHonest}
use Rattle.sve_runner.proofs.Counts.{tally, all_entries}
use Rattle.sve_runner.proofs.Ends.{commands_are}

-- how many commits were accepted
abbrev pub total : List (List Record) → ℕ
total [] = 0
total (recs ∷ records) = length (accepted_from 1 recs) + total records

abbrev to_log : Entry → LogEntry
to_log e = record { client = e.client; command = e.command }

is_there : (clients : List (List Command)) (k j : ℕ) → IsTrue (is_commit (slice_get (slice_index_or clients k []) j)) → k < length clients
is_there [] zero j commits = absurd (cc)
is_there [] (suc k) j commits = absurd (cc)
is_there (commands ∷ clients) zero j commits = omega arith
is_there (commands ∷ clients) (suc k) j commits = omega (arith, is_there clients k j commits)

are_of_clients : (clients : List (List Command)) (entries : List Entry) → AllByRecursion (IsOfScript clients) entries → AreOfClients (length clients) (map to_log entries)
are_of_clients clients [] theirs = All-nil (λ (e : LogEntry). IsClient (length clients) e.client)
are_of_clients clients (e ∷ entries) ((positive, counted, commits), theirs) =
    let within = is_there clients (e.client - 1) (e.command - 1) commits in
    All-cons (λ (x : LogEntry). IsClient (length clients) x.client) (to_log e) (map to_log entries) (omega (arith, positive), omega (arith, positive, within)) (are_of_clients clients entries theirs)

in_log : (clients : List (List Command)) (entries : List Entry) → script_entries clients entries ≡ map (with_edits (edits_in clients)) (map to_log entries)
in_log clients [] = refl
in_log clients (e ∷ entries) = ap (λ (l : List Made). entry_by (edits_in clients) e.client e.command ∷ l) (in_log clients entries)

module _ (answers : FilesValue → Query → ℕ → Answer → Type 0) (terms : Terms) (opening : FilesValue) (clients : List (List Command)) (entries : List Entry) where
  its_entries : (i : ℕ) → length (entries_of i (map to_log entries)) ≡ length (commands_of i (script_entries clients entries))
  its_entries i =
      sym (length-map (entries_of i (map to_log entries)) (λ (e : LogEntry). e.command))
      ∙ ap length (sym (commands_are (edits_in clients) i (map to_log entries)))
      ∙ ap (λ (made : List Made). length (commands_of i made)) (sym (in_log clients entries))

  tallied : (i front : ℕ) (others : List (List Command)) (records : List (List Record)) → AreHonestFrom answers terms opening clients entries i front others records → tally i (length others) (map to_log entries) ≡ total records
  tallied i front [] [] told = refl
  tallied i front [] (recs ∷ records) told = absurd told
  tallied i front (commands ∷ others) [] told = absurd told
  tallied i front (commands ∷ others) (recs ∷ records) (walked, own, rest) = omega (arith, its_entries i, ap length own, tallied (i + 1) (next_front terms.order (front_at front recs)) others records rest)

  pub all_accepted : (records : List (List Record)) → AreHonest answers terms opening clients entries records → length entries ≡ total records
  all_accepted records honest =
      sym (length-map entries to_log) ∙ all_entries (length clients) (map to_log entries) (are_of_clients clients entries honest.theirs) ∙ tallied 1 0 clients records honest.told
