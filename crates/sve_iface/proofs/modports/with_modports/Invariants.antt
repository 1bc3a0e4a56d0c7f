-- The modports so far.
use Rattle.std.proofs.Common.{◌≡◌, take}
use Rattle.std.specs.List.{fold}
use Rattle.sve_iface.specs.Names.{with_modport}
use Rattle.sve_iface.proofs.modports.with_modports.Given as goal

abbrev pub invariant-modports : goal.invariant-modports
invariant-modports l = l.all ≡ fold (with_modport l.words) l.fn.all (take l.modport-index l.modports)
