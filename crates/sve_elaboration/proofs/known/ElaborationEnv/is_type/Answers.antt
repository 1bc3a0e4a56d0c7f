use Rattle.std.proofs.Common.{◌≡◌, ap, subst, ◌∙◌}
use Rattle.sve_elaboration.specs.Scopes.{known_in}
use Rattle.sve_elaboration.proofs.known.ElaborationEnv.is_type.Goals as goal

pub returns : goal.returns
returns c = subst (λ m. c.is_type.result ≡ m.is_type c.args.name) (c.around.ensures ∙ ap known_in c.self.view_is) c.is_type.ensures
