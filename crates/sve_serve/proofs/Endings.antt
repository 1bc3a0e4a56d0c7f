-- How a call ends, from its output and what was written of it.
use Rattle.std.proofs.Common.{ℕ, inl, inr, List, sym, subst}
use Rattle.sve_lint.specs.Rules.{RuleState}
use Rattle.sve_serve.specs.declared.status.Status.{Status}
use Rattle.sve_serve.specs.declared.status.Status.TheVariants.{Done, Usage, BadSession, ReadFault, WriteFault, TooLarge, NoMemory}
use Rattle.sve_serve.specs.Endings.{Seen, IsReadWhole, IsOutputForRead, IsMadeOrCutShort, IsWrittenOrCutShort, HasWrittenOutput, Ends}
use Rattle.sve_serve.specs.Runs.{IsOutputForSession}
use Rattle.sve_serve.specs.Words.{IsRun, IsMade}

written_ends : (words : List (List ℕ)) (rules : List RuleState) (unread unwritten : Type 0) (s s' k k' : Seen) (status : Status) (text : List ℕ) → IsOutputForRead words rules unread s s' status text → HasWrittenOutput words rules unread s s' k k' status → Ends words rules unread unwritten s s' k k' status
written_ends words rules unread unwritten s s' k k' Done text output written = written
written_ends words rules unread unwritten s s' k k' Usage text output written = written
written_ends words rules unread unwritten s s' k k' BadSession text output written = written
written_ends words rules unread unwritten s s' k k' TooLarge text output written = written
written_ends words rules unread unwritten s s' k k' ReadFault text output written = absurd output
written_ends words rules unread unwritten s s' k k' WriteFault text output written = absurd output
written_ends words rules unread unwritten s s' k k' NoMemory text output written = absurd output

pub output_ends : (words : List (List ℕ)) (rules : List RuleState) (unread unwritten : Type 0) (s s' k k' : Seen) (status result : Status) (text : List ℕ) → IsOutputForRead words rules unread s s' status text → IsWrittenOrCutShort k k' text status result → Ends words rules unread unwritten s s' k k' result
output_ends words rules unread unwritten s s' k k' status result text output (inl (is, written)) = subst (Ends words rules unread unwritten s s' k k') (sym is) (written_ends words rules unread unwritten s s' k k' status text output (text, output, written))
output_ends words rules unread unwritten s s' k k' status result text output (inr (is, cut)) = subst (Ends words rules unread unwritten s s' k k') (sym is) (status, text, output, cut)

-- the output for a session that was read whole
pub session_output : (words : List (List ℕ)) (rules : List RuleState) (unread : Type 0) (s s' : Seen) (bytes : List ℕ) (status : Status) (text : List ℕ) (asked : IsRun words) → IsReadWhole s s' bytes → IsOutputForSession asked.0 rules bytes status text → IsOutputForRead words rules unread s s' status text
session_output words rules unread s s' bytes Done text asked whole reply = inl (asked, (bytes, whole, reply))
session_output words rules unread s s' bytes BadSession text asked whole reply = (asked, (bytes, whole, reply))
session_output words rules unread s s' bytes Usage text asked whole reply = absurd reply
session_output words rules unread s s' bytes TooLarge text asked whole reply = absurd reply
session_output words rules unread s s' bytes ReadFault text asked whole reply = absurd reply
session_output words rules unread s s' bytes WriteFault text asked whole reply = absurd reply
session_output words rules unread s s' bytes NoMemory text asked whole reply = absurd reply

-- a generated session, for which the source is left alone
pub made_ends : (words : List (List ℕ)) (rules : List RuleState) (unread unwritten : Type 0) (s s' k k' : Seen) (result : Status) (asked : IsMade words) → unread → IsMadeOrCutShort asked.0 unwritten k k' result → Ends words rules unread unwritten s s' k k' result
made_ends words rules unread unwritten s s' k k' result asked alone (inl (text, summary, written)) = output_ends words rules unread unwritten s s' k k' Done result text (inr (asked, alone, summary)) written
made_ends words rules unread unwritten s s' k k' result asked alone (inr (is, still)) = subst (Ends words rules unread unwritten s s' k k') (sym is) (still, inl alone)
