-- How one call of the program went: what it read, wrote and counted, whether or not source and sink tell their bytes.
use Rattle.std.specs.Prelude.{ℕ, ◌≡◌, ◌+◌, ◌≤◌, ◌⊎◌, List, Option, length, take}
use Rattle.sve_io.specs.Faults.{HasRisen}
use Rattle.sve_io.specs.Moves.{Loses, Gains}
use Rattle.sve_lint.specs.Rules.{RuleState}
use Rattle.sve_serve.specs.declared.status.Status.{Status}
use Rattle.sve_serve.specs.declared.status.Status.TheVariants.{Done, Usage, BadSession, ReadFault, WriteFault, TooLarge, NoMemory}
use Rattle.sve_serve.specs.Runs.{max_session, usage_line, too_large_line, AreLeft, IsOutputForSession, IsSummaryOf}
use Rattle.sve_words.specs.declared.request.Options.{Options}
use Rattle.sve_words.specs.declared.request.Spoken.TheVariants.{Usage as NoRun}
use Rattle.sve_words.specs.Words.{spoken}
use Rattle.sve_serve.specs.Words.{IsRun, IsMade}

-- A source or a sink at one moment: the bytes that it tells, and its count of faults.
pub record Seen : Type 0 where
  pub bytes : Option (List ℕ)
  pub faults : ℕ

-- at most so many bytes were read
abbrev pub IsReadUpTo : Seen → Seen → ℕ → Type 0
IsReadUpTo before after most = (moved : List ℕ) × (length moved ≤ most) × Loses before.bytes after.bytes moved

-- one byte more was read than a session may have
abbrev pub IsReadPast : Seen → Seen → Type 0
IsReadPast before after = (moved : List ℕ) × (length moved ≡ max_session + 1) × Loses before.bytes after.bytes moved

-- the source gave these bytes, which are not too many, and has no more
pub record IsReadWhole (before after : Seen) (bytes : List ℕ) : Type 0 where
  pub in_limit : length bytes ≤ max_session
  pub read : Loses before.bytes after.bytes bytes
  pub all : AreLeft before.bytes bytes

-- a session was read whole, and the text is the output for it in a run with these options, to which these rules were handed
abbrev pub HasReadSession : Options → List RuleState → Seen → Seen → Status → List ℕ → Type 0
HasReadSession options rules before after status text = (bytes : List ℕ) × IsReadWhole before after bytes × IsOutputForSession options rules bytes status text

-- The output for what was read, before the run ends with this status; `unread` says that it left the source alone.
abbrev pub IsOutputForRead : List (List ℕ) → List RuleState → Type 0 → Seen → Seen → Status → List ℕ → Type 0
IsOutputForRead words rules unread before after Usage text = (spoken words ≡ NoRun) × unread × (text ≡ usage_line)
IsOutputForRead words rules unread before after TooLarge text = IsRun words × IsReadPast before after × (text ≡ too_large_line)
IsOutputForRead words rules unread before after Done text = ((asked : IsRun words) × HasReadSession asked.0 rules before after Done text) ⊎ ((asked : IsMade words) × unread × IsSummaryOf asked.0 text)
IsOutputForRead words rules unread before after BadSession text = (asked : IsRun words) × HasReadSession asked.0 rules before after BadSession text
IsOutputForRead words rules unread before after ReadFault text = ⊥
IsOutputForRead words rules unread before after WriteFault text = ⊥
IsOutputForRead words rules unread before after NoMemory text = ⊥

-- the sink has the whole text
abbrev pub IsWritten : Seen → Seen → List ℕ → Type 0
IsWritten before after text = Gains before.bytes after.bytes text × (after.faults ≡ before.faults)

-- the sink failed within the text
abbrev pub IsCutShort : Seen → Seen → List ℕ → Type 0
IsCutShort before after text = ((count : ℕ) × (count ≤ length text) × Gains before.bytes after.bytes (take count text)) × HasRisen before.faults after.faults

-- the run ends with this status where the output is written, and else the sink failed within it
abbrev pub IsWrittenOrCutShort : Seen → Seen → List ℕ → Status → Status → Type 0
IsWrittenOrCutShort before after text status result = ((result ≡ status) × IsWritten before after text) ⊎ ((result ≡ WriteFault) × IsCutShort before after text)

-- the summary of the generated session of n modules is written, or the sink failed within it, or memory was wanting and the sink was left alone
abbrev pub IsMadeOrCutShort : ℕ → Type 0 → Seen → Seen → Status → Type 0
IsMadeOrCutShort n unwritten before after result = ((text : List ℕ) × IsSummaryOf n text × IsWrittenOrCutShort before after text Done result) ⊎ ((result ≡ NoMemory) × unwritten)

-- the output before this status is written
abbrev pub HasWrittenOutput : List (List ℕ) → List RuleState → Type 0 → Seen → Seen → Seen → Seen → Status → Type 0
HasWrittenOutput words rules unread source source' sink sink' status = (text : List ℕ) × IsOutputForRead words rules unread source source' status text × IsWritten sink sink' text

-- How the call went where it ends with this status; `unread` and `unwritten` say that it left the source or the sink alone.
abbrev pub Ends : List (List ℕ) → List RuleState → Type 0 → Type 0 → Seen → Seen → Seen → Seen → Status → Type 0
Ends words rules unread unwritten source source' sink sink' Done = HasWrittenOutput words rules unread source source' sink sink' Done
Ends words rules unread unwritten source source' sink sink' Usage = HasWrittenOutput words rules unread source source' sink sink' Usage
Ends words rules unread unwritten source source' sink sink' BadSession = HasWrittenOutput words rules unread source source' sink sink' BadSession
Ends words rules unread unwritten source source' sink sink' TooLarge = HasWrittenOutput words rules unread source source' sink sink' TooLarge
Ends words rules unread unwritten source source' sink sink' ReadFault = IsRun words × unwritten × IsReadUpTo source source' max_session × HasRisen source.faults source'.faults
Ends words rules unread unwritten source source' sink sink' WriteFault = (status : Status) × (text : List ℕ) × IsOutputForRead words rules unread source source' status text × IsCutShort sink sink' text
Ends words rules unread unwritten source source' sink sink' NoMemory = unwritten × (unread ⊎ (IsRun words × IsReadUpTo source source' (max_session + 1)))
