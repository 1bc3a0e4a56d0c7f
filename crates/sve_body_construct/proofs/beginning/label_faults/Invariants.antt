-- What was found so far, and what is wrong with the labels that are left, is all that is wrong.
use Rattle.std.proofs.Common.{◌≡◌, ◌++◌, drop}
use Rattle.std.specs.List.{flat_map}
use Rattle.sve_body.specs.Body.{label_fault_of}
use Rattle.sve_body_construct.proofs.beginning.label_faults.Given as goal

abbrev pub invariant-names : goal.invariant-names
invariant-names g l = l.faults.items ++ flat_map (label_fault_of g.S.Work.steps l.number l.work) (drop l.name-index l.names) ≡ flat_map (label_fault_of g.S.Work.steps l.number l.work) l.names
