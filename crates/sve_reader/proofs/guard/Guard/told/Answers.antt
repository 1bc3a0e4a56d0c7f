use Rattle.std.proofs.Common.{rules, ◌≡◌, Err, ap, ◌∙◌, subst}
use Rattle.sve_io.specs.declared.halt.Halt.TheVariants.{Stopped}
use Rattle.sve_ask.specs.Watched.{look_gives, HasCause}
use Rattle.sve_reader.specs.Noted.{since}
use Rattle.sve_reader.proofs.Seen.{not_caused}
use Rattle.sve_reader.proofs.guard.Guard.told.Goals as goal

pub unreachable-requires : goal.unreachable-requires
unreachable-requires g c =
    let guard = c.args.self.now in
    let n = c.in-Err-Stopped.field-0-0 in
    let given = since (g.W.Watch.gave guard.begun.value) (g.W.Watch.gave guard.watch) in
    let is : c.args.came ≡ Err (Stopped n) = search rules in
    not_caused guard.revision given n (guard.noted ∙ ap look_gives c.in-None.is) (subst (λ o. HasCause o guard.revision given) is c.requires)
