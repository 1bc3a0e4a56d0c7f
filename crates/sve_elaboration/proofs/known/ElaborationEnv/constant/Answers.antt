use Rattle.std.proofs.Common.{◌≡◌, IfOk, ap, subst, ◌∙◌}
use Rattle.sve_elaboration.specs.Scopes.{known_in}
use Rattle.sve_elaboration.proofs.known.ElaborationEnv.constant.Goals as goal

pub returns : goal.returns
returns c = subst (λ m. IfOk c.constant.result (λ r. r ≡ m.constant c.args.name)) (c.around.ensures ∙ ap known_in c.self.view_is) c.constant.ensures
