-- What was added so far, and the parameters that are left under the keyword in force, are all of them.
use Rattle.std.proofs.Common.{◌≡◌, ◌++◌, drop}
use Rattle.sve_tree.specs.declared.word.ParameterKeyword.TheVariants.{Parameter}
use Rattle.sve_formal.specs.Formals.{header_formals}
use Rattle.sve_formal.proofs.header.in_header.Given as goal

abbrev pub invariant-ports : goal.invariant-ports
invariant-ports l = l.found.items ++ header_formals l.keyword (drop l.port-index l.ports) ≡ l.fn.found.items ++ header_formals Parameter l.ports
