-- What was done so far, and the modports that are left, are all that is done.
use Rattle.std.proofs.Common.{◌≡◌, drop}
use Rattle.std.specs.List.{fold}
use Rattle.sve_body_item.proofs.declaring.modports.Given as goal

abbrev pub invariant-all : goal.invariant-all
invariant-all g l = fold (λ t modport. g.S.Work.steps.modport modport t) l.work (drop l.one-index l.all) ≡ fold (λ t modport. g.S.Work.steps.modport modport t) l.fn.work l.all
