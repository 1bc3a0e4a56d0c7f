-- What a session has too much of (own).
use Rattle.std.specs.Prelude.{ℕ, ◌≤◌, All, List, [], ◌∷◌, Option, Some, None, length, sum_by, nat_le, if◌then◌else◌}
use Rattle.sve_text.specs.declared.edit.TheConstants.{MAX_FILE_LEN, MAX_FILES}
use Rattle.sve_command.specs.declared.commands.Command.{Command}
use Rattle.sve_command.specs.Sizes.{edit_count, bad_budget_of, HasFairBudget}
use Rattle.sve_script.specs.declared.sessions.Which.{Which}
use Rattle.sve_script.specs.declared.sessions.Which.TheVariants.{Files, Bytes, Clients, Commands, Edits, Budget}
use Rattle.sve_script.specs.declared.sessions.TheConstants.{MAX_CLIENTS, MAX_COMMANDS, MAX_EDITS}
use Rattle.sve_script.specs.declared.limits.Beyond.{Beyond}

-- the number, where it is above the limit
abbrev pub above : ℕ → ℕ → Option ℕ
above most number = if nat_le number most then None else Some number

-- the one, or else the other
abbrev pub or_else : {A : Type 0} → Option A → Option A → Option A
or_else (Some x) other = Some x
or_else None other = other

-- the first number that the items give
abbrev pub first_of : {A : Type 0} → (A → Option ℕ) → List A → Option ℕ
first_of number [] = None
first_of number (x ∷ xs) = or_else (number x) (first_of number xs)

abbrev pub long_file : List (List ℕ × List ℕ) → Option ℕ
long_file files = first_of (λ file. above MAX_FILE_LEN (length file.1)) files

abbrev pub large_commit : List (List Command) → Option ℕ
large_commit clients = first_of (first_of (λ command. above MAX_EDITS (edit_count command))) clients

abbrev pub first_bad_budget : List (List Command) → Option ℕ
first_bad_budget clients = first_of (first_of bad_budget_of) clients

-- the number of this, if there is one; else the rest decides
abbrev pub beyond : Which → Option ℕ → Option Beyond → Option Beyond
beyond which None rest = rest
beyond which (Some number) rest = Some (record { which = which; number = number })

-- the first limit that a session of these opening files and clients is beyond
abbrev pub limit_of : List (List ℕ × List ℕ) → List (List Command) → Option Beyond
limit_of files clients =
    beyond Files (above MAX_FILES (length files))
    (beyond Bytes (long_file files)
    (beyond Clients (above MAX_CLIENTS (length clients))
    (beyond Commands (above MAX_COMMANDS (sum_by length clients))
    (beyond Edits (large_commit clients)
    (beyond Budget (first_bad_budget clients)
    None)))))

-- the clients of a session: at least one, and each limit is kept
pub record AreInLimits (clients : List (List Command)) : Type 0 where
  pub some_client : 1 ≤ length clients
  pub few_clients : length clients ≤ MAX_CLIENTS
  pub few_commands : sum_by length clients ≤ MAX_COMMANDS
  pub few_edits : All (λ commands. All (λ command. edit_count command ≤ MAX_EDITS) commands) clients
  pub fair_budgets : All (λ commands. All HasFairBudget commands) clients
