-- What was done so far, and the names that are left, are all that is done.
use Rattle.std.proofs.Common.{◌≡◌, drop}
use Rattle.std.specs.List.{fold}
use Rattle.sve_body_item.proofs.declaring.genvars.Given as goal

abbrev pub invariant-names : goal.invariant-names
invariant-names g l = fold (λ t name. g.S.Work.steps.genvar name t) l.work (drop l.name-index l.names) ≡ fold (λ t name. g.S.Work.steps.genvar name t) l.fn.work l.names
