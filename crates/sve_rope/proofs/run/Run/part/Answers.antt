use Rattle.std.proofs.Common.{rules, ◌≡◌, ◌≤◌, ◌+◌, ◌-◌, ◌∙◌, ap, length, take, drop}
use Rattle.std.specs.Arc.{arc_value}
use Rattle.sve_rope.proofs.Runs.{part_of_run}
use Rattle.sve_rope.proofs.run.Run.part.Goals as goal

pub returns : goal.returns
returns c =
    let from = c.args.from in
    let to = c.args.to in
    let start = c.self.inside.start in
    let run = take c.self.inside.len (drop start (arc_value c.self.inside.held)) in
    let held : arc_value c.in_ok-try_clone.field-0 ≡ arc_value c.self.inside.held = search rules in
    let seen : run ≡ c.args.self.now = search rules in
    let within : to ≤ length run = rw seen c.requires.within in
    ap (λ held. take (to - from) (drop (start + from) held)) held
    ∙ part_of_run start c.self.inside.len from to (arc_value c.self.inside.held) c.requires.order within
    ∙ ap (λ run. take (to - from) (drop from run)) seen
