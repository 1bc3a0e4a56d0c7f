use Rattle.std.proofs.Common.{◌≡◌}
use Rattle.sve_settled.proofs.Settled.{all_held}
use Rattle.sve_settled.specs.Settled.{told_all}
use Rattle.sve_project.specs.Replies.{reply_in}
use Rattle.sve_project.proofs.Settled.{body_is}
use Rattle.sve_project.proofs.elaborated.body_of.Goals as goal

pub returns-clause-found : goal.returns-clause-found
returns-clause-found c =
    let p = c.args.project.now in
    body_is p c.args.spec.now c.args.fuel c.elaborate.result (c.elaborate.ensures.found (told_all (reply_in p)) (all_held (reply_in p) (λ q a. a ≡ reply_in p q) (λ q a is. is)))
