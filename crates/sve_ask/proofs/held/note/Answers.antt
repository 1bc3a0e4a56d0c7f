use Rattle.std.proofs.Common.{[], ◌∷◌, ◌++◌, ap, ◌∙◌}
use Rattle.sve_ask.proofs.held.note.Goals as goal

pub returns : goal.returns
returns g c = (c.in_ok-push.ensures.items ∙ ap (λ (k : g.row.K-Key.Denot). c.args.reads.now.items ++ ((k, c.args.stamp) ∷ [])) c.in_ok-copy_key.ensures, c.in_ok-put.ensures.put)
