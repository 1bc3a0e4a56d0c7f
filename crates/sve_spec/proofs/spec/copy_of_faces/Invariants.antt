use Rattle.std.proofs.Common.{◌≡◌, take}
use Rattle.sve_spec.proofs.spec.copy_of_faces.Given as goal

abbrev pub invariant-faces : goal.invariant-faces
invariant-faces l = l.copies.items ≡ take l.face-index l.faces
