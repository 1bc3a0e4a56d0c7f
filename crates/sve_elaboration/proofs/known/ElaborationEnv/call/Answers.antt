use Rattle.std.proofs.Common.{◌≡◌, IfOk, ap, subst, ◌∙◌}
use Rattle.sve_elaboration.specs.Scopes.{known_in}
use Rattle.sve_elaboration.proofs.known.ElaborationEnv.call.Goals as goal

pub returns-clause-value : goal.returns-clause-value
returns-clause-value c =
    subst (λ m. IfOk c.call.result (λ r. r ≡ m.call c.args.name c.args.arguments.now.arguments.items.items)) (c.around.ensures ∙ ap known_in c.self.view_is) c.call.ensures.value
