-- The entries of a history, and those of its log.
use Rattle.std.proofs.Common.{◌≡◌, ℕ, ◌+◌, ◌<◌, Bool, true, false, cond, List, [], ◌∷◌, ◌++◌, length, map, refl, ap, sym, ◌∙◌, subst}
use Rattle.std.specs.Prelude.{All, nat_eq}
use Rattle.std.proofs.lemmas.List.{map-append, length-map}
use Rattle.std.proofs.lemmas.List.Elements.{All-map}
use Rattle.sve_board.specs.declared.knowledge.Entry.{Entry as LogEntry}
use Rattle.sve_board.specs.Log.{entries_of}
use Rattle.sve_text.specs.Files.{FilesValue}
use Rattle.sve_history.specs.declared.entry.Entry.{Entry}
use Rattle.sve_history.specs.Histories.{HistoryValue, Table, commands_of}
use Rattle.sve_session.specs.Shared.{with_edits, history_of, log_of}
use Rattle.sve_session.specs.Commits.{entry}

module _ (table : Table) where
  chosen : (b : Bool) (e : LogEntry) (entries : List Entry) (log : List LogEntry) → map (λ (x : Entry). x.command) entries ≡ map (λ (x : LogEntry). x.command) log
      → map (λ (x : Entry). x.command) (cond b (with_edits table e ∷ entries) entries) ≡ map (λ (x : LogEntry). x.command) (cond b (e ∷ log) log)
  chosen true e entries log same = ap (λ (l : List ℕ). e.command ∷ l) same
  chosen false e entries log same = same

  -- the commands of a client are those of its entries in the log
  commands_are : (i : ℕ) (log : List LogEntry) → commands_of i (map (with_edits table) log) ≡ map (λ (x : LogEntry). x.command) (entries_of i log)
  commands_are i [] = refl
  commands_are i (e ∷ log) = chosen (nat_eq e.client i) e _ (entries_of i log) (commands_are i log)

  -- where all of them are below a number, so are those in the history
  pub commands_below : (i command : ℕ) (log : List LogEntry) → All (λ e. e.command < command) (entries_of i log) → All (λ earlier. earlier < command) (commands_of i (map (with_edits table) log))
  commands_below i command log below =
      subst (All (λ earlier. earlier < command)) (sym (commands_are i log)) (All-map (λ earlier. earlier < command) (λ (x : LogEntry). x.command) (entries_of i log) below)

  -- the log is read off the entries
  pub log-back : (log : List LogEntry) → log_of (map (with_edits table) log) ≡ log
  log-back [] = refl
  log-back (e ∷ log) = ap (λ (l : List LogEntry). e ∷ l) (log-back log)

  -- one more entry of the log is one of the history
  pub history_of-push : (opening : FilesValue) (log : List LogEntry) (client command : ℕ) (e : Entry) → e ≡ with_edits table (entry client command)
      → (let h : HistoryValue = history_of opening table log in record h { entries = h.entries ++ e ∷ [] }) ≡ history_of opening table (log ++ entry client command ∷ [])
  history_of-push opening log client command e is =
      ap (λ (entries : List Entry). let h : HistoryValue = record { opening = opening; entries = entries } in h)
      (ap (λ (x : Entry). map (with_edits table) log ++ x ∷ []) is ∙ sym (map-append (with_edits table) log (entry client command ∷ [])))

  pub history_of-length : (opening : FilesValue) (log : List LogEntry) → length (history_of opening table log).entries ≡ length log
  history_of-length opening log = length-map log (with_edits table)
