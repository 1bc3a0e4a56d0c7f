-- All that the bodies of a project tell is so of its design.
use Rattle.sve_named.specs.Replies.{design_of}
use Rattle.sve_design_answers.proofs.linting.instances_seen.Goals as goal

pub returns-in-Ok : goal.returns-in-Ok
returns-in-Ok c = c.in-Ok.ensures.instances (design_of c.args.project.now) (λ question answer told. told)
