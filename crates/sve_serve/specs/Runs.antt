-- The output of a run, and the status with which it ends (own).
use Rattle.std.specs.Prelude.{ℕ, ◌≡◌, ◌<◌, ◌≤◌, ◌⊎◌, ◌++◌, List, Option, Some, length, IfSome, codes, decimal}
use Rattle.sve_script.specs.declared.sessions.Script.{Script}
use Rattle.sve_script.specs.declared.sessions.Which.{Which}
use Rattle.sve_script.specs.declared.sessions.Which.TheVariants.{Files, Bytes, Clients, Commands, Edits, Budget}
use Rattle.sve_script.specs.Session.{IsSession, IsMisshapen, IsBeyondLimit, IsNotJson}
use Rattle.sve_report.specs.declared.entry.Entry.{Entry}
use Rattle.sve_report.specs.declared.record.Record.{Record}
use Rattle.sve_serve.specs.declared.status.Status.{Status}
use Rattle.sve_serve.specs.declared.status.Status.TheVariants.{Done, Usage, BadSession, ReadFault, WriteFault, TooLarge, NoMemory}
use Rattle.sve_serve.specs.Honest.{Honest, default_budget, run_budget, AreInTurn}
use Rattle.sve_serve.specs.Serial.{AreInTurnOver, AreRecordsInTurn, opened}
use Rattle.sve_serve.specs.Summary.{summary}
use Rattle.sve_serve.specs.Texts.{IsTextOf, last_files}
use Rattle.sve_script.specs.Made.{made_session}
use Rattle.sve_lint.specs.Rules.{RuleState}
use Rattle.sve_report.specs.Lines.{ended}
use Rattle.sve_words.specs.declared.request.Options.{Options}
use Rattle.sve_words.specs.declared.request.Spoken.TheVariants.{Usage as NoRun}
use Rattle.sve_words.specs.Words.{spoken}
use Rattle.sve_serve.specs.Words.{IsRun, IsMade}

-- the most bytes of a session
abbrev pub max_session : ℕ
max_session = 16777216

abbrev pub usage_line : List ℕ
usage_line = ended (codes "usage: svserve run [--budget N] [--serial] [--lint] | svserve make N")

abbrev pub not_json_line : List ℕ
not_json_line = ended (codes "bad session: not JSON")

abbrev pub shape_line : List ℕ → List ℕ
shape_line path = ended (codes "bad session: shape at " ++ path)

abbrev pub word_of : Which → List ℕ
word_of Files = codes "files"
word_of Bytes = codes "bytes"
word_of Clients = codes "clients"
word_of Commands = codes "commands"
word_of Edits = codes "edits"
word_of Budget = codes "budget"

abbrev pub limit_line : Which → ℕ → List ℕ
limit_line which number = ended (codes "bad session: limit " ++ word_of which ++ codes " " ++ decimal number)

abbrev pub too_large_line : List ℕ
too_large_line = ended (codes "bad session: more than 16777216 bytes")

-- The bytes are a session, and the text reports a history of it with records that are honest in a run with these options, and where these say so what the rules
-- find in its last revision. Where its clients run one after another, history and records are those of clients in turn: each command comes at the newest
-- revision, and no ask is cancelled.
pub record IsReportOf (options : Options) (rules : List RuleState) (bytes text : List ℕ) : Type 0 where
  pub script : Script
  pub entries : List Entry
  pub records : List (List Record)
  pub session : IsSession bytes script
  pub honest : Honest options script entries records
  pub in_turn : AreInTurn options script.clients → AreInTurnOver (run_budget options) script.files script.clients entries records
  pub written : IsTextOf options rules (last_files script entries) entries records text

-- The text is the summary of the run of the generated session of n modules: of records that its one client is told, each of whose commands comes at the newest
-- revision. So `tree` and `diagnostics` tell of the opening files, and `type` of those that the commit leaves.
abbrev pub IsSummaryOf : ℕ → List ℕ → Type 0
IsSummaryOf n text =
    (records : List (List Record))
    × AreRecordsInTurn default_budget (opened (made_session n).files) 1 (made_session n).clients records
    × (text ≡ summary n records)

-- the line for bytes that are no session
abbrev pub IsRefusalOf : List ℕ → List ℕ → Type 0
IsRefusalOf bytes text =
    (IsNotJson bytes × (text ≡ not_json_line))
    ⊎ ((path : List ℕ) × IsMisshapen bytes path × (text ≡ shape_line path))
    ⊎ ((which : Which) × (number : ℕ) × IsBeyondLimit bytes which number × (text ≡ limit_line which number))

-- the bytes are refused with such a line
abbrev pub IsBad : List ℕ → Type 0
IsBad bytes =
    IsNotJson bytes
    ⊎ ((path : List ℕ) × IsMisshapen bytes path)
    ⊎ ((which : Which) × (number : ℕ) × IsBeyondLimit bytes which number)

-- The output for the bytes of a session that was read to its end in a run with these options, and the status with which the run then ends.
abbrev pub IsOutputForSession : Options → List RuleState → List ℕ → Status → List ℕ → Type 0
IsOutputForSession options rules bytes Done text = IsReportOf options rules bytes text
IsOutputForSession options rules bytes BadSession text = IsRefusalOf bytes text
IsOutputForSession options rules bytes Usage text = ⊥
IsOutputForSession options rules bytes ReadFault text = ⊥
IsOutputForSession options rules bytes WriteFault text = ⊥
IsOutputForSession options rules bytes TooLarge text = ⊥
IsOutputForSession options rules bytes NoMemory text = ⊥

-- The output for these words, these rules and these bytes of the source, and the status with which the run ends once it is written. A generated session needs
-- neither rules nor bytes.
abbrev pub IsOutputFor : List (List ℕ) → List RuleState → List ℕ → Status → List ℕ → Type 0
IsOutputFor words rules bytes Done text = ((asked : IsRun words) × (length bytes ≤ max_session) × IsReportOf asked.0 rules bytes text) ⊎ ((asked : IsMade words) × IsSummaryOf asked.0 text)
IsOutputFor words rules bytes Usage text = (spoken words ≡ NoRun) × (text ≡ usage_line)
IsOutputFor words rules bytes BadSession text = IsRun words × (length bytes ≤ max_session) × IsRefusalOf bytes text
IsOutputFor words rules bytes TooLarge text = IsRun words × (max_session < length bytes) × (text ≡ too_large_line)
IsOutputFor words rules bytes ReadFault text = ⊥
IsOutputFor words rules bytes WriteFault text = ⊥
IsOutputFor words rules bytes NoMemory text = ⊥

-- the statuses of a run whose whole output was written
abbrev pub WritesItsOutput : Status → Type 0
WritesItsOutput Done = Unit {0}
WritesItsOutput Usage = Unit {0}
WritesItsOutput BadSession = Unit {0}
WritesItsOutput TooLarge = Unit {0}
WritesItsOutput ReadFault = ⊥
WritesItsOutput WriteFault = ⊥
WritesItsOutput NoMemory = ⊥

-- the bytes are those that a source has left, where it tells them
abbrev pub AreLeft : Option (List ℕ) → List ℕ → Type 0
AreLeft left bytes = IfSome left (λ told. told ≡ bytes)

-- the words ask for a run over a source that tells these bytes
abbrev pub IsRunOver : List (List ℕ) → Option (List ℕ) → List ℕ → Type 0
IsRunOver words left bytes = IsRun words × (left ≡ Some bytes)
