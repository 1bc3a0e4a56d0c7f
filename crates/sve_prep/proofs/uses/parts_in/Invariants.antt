use Rattle.std.proofs.Common.{◌≡◌, take, map}
use Rattle.sve_prep.specs.Uses.{part_in}
use Rattle.sve_prep.proofs.uses.parts_in.Given as goal

abbrev pub invariant-spans : goal.invariant-spans
invariant-spans l = l.parts.items ≡ map (part_in l.text) (take l.span-index l.spans)
