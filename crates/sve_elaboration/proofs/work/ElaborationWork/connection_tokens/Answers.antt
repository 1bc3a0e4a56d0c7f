-- What the tokens are found in is seen as one value.
use Rattle.std.proofs.Common.{◌≡◌, IfOk, subst}
use Rattle.sve_elaboration.specs.State.{Found}
use Rattle.sve_elaboration.specs.Instances.{connection_tokens_in}
use Rattle.sve_elaboration.proofs.work.ElaborationWork.connection_tokens.Goals as goal

pub returns : goal.returns
returns c = subst (λ (s : Found). IfOk c.net_tokens.result (λ tokens. tokens.items ≡ connection_tokens_in c.args.ports.now c.args.instance.now s)) c.self.view_is c.net_tokens.ensures
