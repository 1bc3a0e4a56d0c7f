use Rattle.std.proofs.Common.{◌≡◌, take}
use Rattle.sve_bytes.specs.PathText.{path_text}
use Rattle.sve_bytes.proofs.path.Path.print.Given as goal

abbrev pub invariant-steps : goal.invariant-steps
invariant-steps l = l.text.items ≡ path_text (take l.i l.step-items)
