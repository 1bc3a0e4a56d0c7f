use Rattle.std.proofs.Common.{◌≡◌}
use Rattle.sve_settled.proofs.Settled.{all_held}
use Rattle.sve_settled.specs.Settled.{told_all}
use Rattle.sve_project.specs.Replies.{reply_but_ports}
use Rattle.sve_project.proofs.Settled.{ports_are}
use Rattle.sve_project.proofs.world.ports_of.Goals as goal

pub returns-clause-ports : goal.returns-clause-ports
returns-clause-ports c =
    let p = c.args.project.now in
    ports_are p c.args.spec.now c.ports.result (c.ports.ensures.found (told_all (reply_but_ports p)) (all_held (reply_but_ports p) (λ q a. a ≡ reply_but_ports p q) (λ q a is. is)))
