-- When the records of a session's run tell the truth about a history (own).
use Rattle.std.specs.Prelude.{ℕ, ◌≡◌, ◌⊎◌, List, length, unwrap_or, if◌then◌else◌, IsTrue}
use Rattle.sve_clients.specs.declared.runs.Order.{Order}
use Rattle.sve_clients.specs.declared.runs.Order.TheVariants.{AtOnce, InTurn}
use Rattle.sve_command.specs.declared.commands.Command.{Command}
use Rattle.sve_script.specs.declared.sessions.Script.{Script}
use Rattle.sve_report.specs.declared.entry.Entry.{Entry}
use Rattle.sve_report.specs.declared.record.Record.{Record}
use Rattle.sve_runner.specs.declared.terms.Terms.{Terms}
use Rattle.sve_runner.specs.Honest.{AreHonest}
use Rattle.sve_words.specs.declared.request.Options.{Options}
use Rattle.sve_serve.specs.Answers.{IsAnswerAt}

-- the budget of an ask that gives none, where the words say none
abbrev pub default_budget : ℕ
default_budget = 1000000

-- the budget of asks that give none, in a run with these options
abbrev pub run_budget : Options → ℕ
run_budget options = unwrap_or options.budget default_budget

-- how its clients run
abbrev pub run_order : Options → Order
run_order options = if options.serial then InTurn else AtOnce

abbrev pub terms_of : Options → Terms
terms_of options = record { budget = run_budget options; order = run_order options }

-- The records are honest for the history, in a run of the session with these options: the history is legal and holds its commits alone, and each client's
-- records tell of it. An answer is that of its query at the files of the revision that it names.
abbrev pub Honest : Options → Script → List Entry → List (List Record) → Type 0
Honest options script entries records = AreHonest IsAnswerAt (terms_of options) script.files script.clients entries records

-- the clients of a run run one after another: the words say so, or there is one client
abbrev pub AreInTurn : Options → List (List Command) → Type 0
AreInTurn options clients = IsTrue options.serial ⊎ (length clients ≡ 1)
