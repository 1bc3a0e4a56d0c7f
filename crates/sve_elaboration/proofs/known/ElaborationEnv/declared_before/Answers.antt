use Rattle.std.proofs.Common.{◌≡◌, IfOk, ap, subst, ◌∙◌}
use Rattle.sve_elaboration.specs.Scopes.{known_in}
use Rattle.sve_elaboration.proofs.known.ElaborationEnv.declared_before.Goals as goal

pub returns : goal.returns
returns c = subst (λ m. IfOk c.declared_before.result (λ r. r ≡ m.declared_before c.args.token)) (c.around.ensures ∙ ap known_in c.self.view_is) c.declared_before.ensures
