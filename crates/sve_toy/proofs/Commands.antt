-- The commands of a client behind a commit.
use Rattle.std.proofs.Common.{ℕ, zero, suc, ◌+◌, ◌<◌, List, [], ◌∷◌, ◌++◌, get_or, Option, Some, None, sym, subst, arith}
use Rattle.std.specs.Prelude.{All}
use Rattle.std.proofs.lemmas.List.Elements.{All-append}
use Rattle.sve_text.specs.declared.edit.Edit.{Edit}
use Rattle.sve_text.specs.declared.why.Refusal.{Refusal}
use Rattle.sve_history.specs.declared.entry.Entry.{Entry}
use Rattle.sve_history.specs.Histories.{HistoryValue, commands_of}
use Rattle.sve_history.proofs.Pushes.{commands_of-push}
use Rattle.sve_core.specs.Commits.{committed}

-- the entry of command n of client 1
abbrev pub entry_of : ℕ → List Edit → Entry
entry_of n edits = record { client = 1; command = n; edits = edits }

wider : (n : ℕ) (earlier : List ℕ) → All (λ k. k < n) earlier → All (λ k. k < n + 1) earlier
wider n earlier below k d at = let low = below k d at in omega (arith, low)

raised : (n : ℕ) (earlier : List ℕ) → All (λ k. k < n) earlier → All (λ k. k < n + 1) (earlier ++ n ∷ [])
raised n earlier below = All-append (λ k. k < n + 1) earlier (n ∷ []) (wider n earlier below) (λ k d at. last k d at)
  where
    last : (k d : ℕ) → k < 1 → get_or (n ∷ []) k d < n + 1
    last zero d at = omega arith
    last (suc k) d at = absurd (omega arith)

-- they are below the next number
pub commands_after : (history : HistoryValue) (n : ℕ) (edits : List Edit) (refusal : Option Refusal) → All (λ k. k < n) (commands_of 1 history.entries) → All (λ k. k < n + 1) (commands_of 1 (committed history (entry_of n edits) refusal).entries)
commands_after history n edits None below = subst (All (λ k. k < n + 1)) (sym (commands_of-push 1 history.entries (entry_of n edits))) (raised n (commands_of 1 history.entries) below)
commands_after history n edits (Some refusal) below = wider n (commands_of 1 history.entries) below
