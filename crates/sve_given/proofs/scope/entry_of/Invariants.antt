use Rattle.std.proofs.Common.{◌≡◌, drop}
use Rattle.sve_given.specs.Names.{entry_of}
use Rattle.sve_given.proofs.scope.entry_of.Given as goal

abbrev pub invariant-names : goal.invariant-names
invariant-names l = entry_of (drop l.entry-index l.names) l.text ≡ entry_of l.names l.text
