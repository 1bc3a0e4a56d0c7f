use Rattle.std.proofs.Common.{◌≡◌, ◌++◌, replicate}
use Rattle.std.specs.Prelude.{codes}
use Rattle.sve_generate.proofs.naming.named.Given as goal

abbrev pub invariant-zeros : goal.invariant-zeros
invariant-zeros l = l.text.items ≡ codes "genblk" ++ replicate l.zero 48
