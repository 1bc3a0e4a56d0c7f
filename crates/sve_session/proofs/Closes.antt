-- The history at the end of a session.
use Rattle.std.proofs.Common.{◌≡◌, ℕ, List, length, ap, sym, ◌∙◌, subst, arith}
use mathlib.Core.List.{IsPrefix}
use Rattle.sve_board.specs.declared.knowledge.Entry.{Entry as LogEntry}
use Rattle.sve_board.specs.Log.{AreOfClients, entries_of}
use Rattle.sve_board.specs.Values.{PassValue, TableId, FitsLog}
use Rattle.sve_text.specs.Files.{FilesValue}
use Rattle.sve_history.specs.Histories.{HistoryValue, Table, IsLegal}
use Rattle.sve_session.specs.Shared.{history_of, log_of}
use Rattle.sve_session.specs.Passes.{IsReady}
use Rattle.sve_session.specs.Ends.{IsEnded, EndsPass}
use Rattle.sve_session.proofs.Meets.{mine_stays}
use Rattle.sve_session.proofs.Entries.{log-back, history_of-length}

module _ (opening : FilesValue) (table : Table) (log : List LogEntry) (history : HistoryValue) (is : history ≡ history_of opening table log) where
  back : log_of history.entries ≡ log
  back = ap (λ (h : HistoryValue). log_of h.entries) is ∙ log-back table log

  pub ends : (clients : ℕ) → IsLegal history → AreOfClients clients log → IsEnded opening table clients history
  ends clients legal theirs = record {
    plan = is ∙ ap (history_of opening table) (sym back);
    legal = legal;
    theirs = subst (AreOfClients clients) (sym back) theirs;
  }

  pub ends_pass : (board : TableId) (pass : PassValue) → IsReady board pass → FitsLog log pass → EndsPass history pass
  ends_pass board pass ready fits =
      let own : entries_of pass.number pass.seen ≡ entries_of pass.number log = mine_stays pass.number pass.seen log fits.seen (omega (arith, fits.raises, ap length fits.mine, ready.even)) in record {
        seen = subst (IsPrefix pass.seen) (sym back) fits.seen;
        looks = omega (arith, fits.looks, ap (λ (h : HistoryValue). length h.entries) is, history_of-length table opening log);
        mine = ap (entries_of pass.number) back ∙ sym (fits.mine ∙ own);
      }
