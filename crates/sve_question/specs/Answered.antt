-- Answers of questions as they lie in memory (own).
use Rattle.std.specs.Global.{Global}
use Rattle.std.specs.Prelude.{Option, Result, Ok, Err}
use Rattle.std.specs.Arc.{arc_value}
use Rattle.std.specs.declared.sync.Arc.{Arc}
use Rattle.sve_tree.specs.declared.element.Element.{Element}
use Rattle.sve_look.specs.Questions.{element_in}
use Rattle.sve_plan.specs.declared.stop.Stop.{Stop}

-- the end of a call with what its answer shares
abbrev pub shared_in : {X : Type 0} → Result (Arc X Global) Stop → Result X Stop
shared_in (Ok shared) = Ok (arc_value shared)
shared_in (Err stop) = Err stop

-- the end of a call with the tree of a chunk, where it has one
abbrev pub element_given : Result (Option (Arc Element Global)) Stop → Result (Option Element) Stop
element_given (Ok element) = Ok (element_in element)
element_given (Err stop) = Err stop
