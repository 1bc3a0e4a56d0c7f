-- The machine and the parsers say the same of a chunk (own).
use Rattle.std.specs.Prelude.{Result, Ok, Err, ◌≡◌}
use Rattle.sve_grammar.specs.declared.stop.Stop.{Stop}
use Rattle.sve_grammar.specs.declared.stop.Stop.TheVariants as stops
use Rattle.sve_tree.specs.declared.element.Element.{Element}
use Rattle.sve_run.specs.declared.verdict.Verdict.{Verdict}
use Rattle.sve_run.specs.declared.verdict.Verdict.TheVariants as verdicts

-- Of an element the machine says that it accepts the chunk; of a stop, that it stops there. Want of memory is no answer.
abbrev pub Agree : Verdict → Result Element Stop → Type 0
Agree v (Ok element) = v ≡ verdicts.Accept
Agree v (Err (stops.At i deep)) = v ≡ verdicts.Stop i deep
Agree v (Err stops.NoMemory) = ⊥
