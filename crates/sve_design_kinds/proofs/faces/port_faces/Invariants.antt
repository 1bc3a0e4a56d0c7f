-- What the ports so far are connected to.
use Rattle.std.proofs.Common.{◌≡◌, take}
use Rattle.sve_design_kinds.specs.Faces.{port_faces}
use Rattle.sve_design_kinds.proofs.faces.port_faces.Given as goal

abbrev pub invariant-given : goal.invariant-given
invariant-given l = l.faces ≡ port_faces l.kinds (take l.one-index l.given)
