use Rattle.std.proofs.Common.{◌∙◌, sym, ap, subst}
use Rattle.sve_board.specs.Log.{AreOfClients}
use Rattle.sve_board.specs.Values.{BoardValue}
use Rattle.sve_session.proofs.Closes.{ends, ends_pass}
use Rattle.sve_session.proofs.session.Session.close.Goals as goal

pub close-requires-clause-boards : goal.close-requires-clause-boards
close-requires-clause-boards g c = λ i pass at. (c.requires i pass at).board ∙ ap (λ (b : BoardValue). b.table) (sym c.args.self.of_board)

pub returns-clause-history : goal.returns-clause-history
returns-clause-history g c =
    let parts = c.into_parts-history.ensures in
    let theirs = subst (λ (b : BoardValue). AreOfClients b.clients c.into_parts-history.result.1.log) c.args.self.of_board c.close.ensures.clients in
    ends g.P.Plan.opening g.P.Plan.table c.into_parts-history.result.1.log c.into_parts-history.result.0 parts.history g.P.Plan.board.clients parts.legal theirs

pub returns-clause-passes : goal.returns-clause-passes
returns-clause-passes g c =
    let parts = c.into_parts-history.ensures in
    λ i pass at.
    ends_pass g.P.Plan.opening g.P.Plan.table c.into_parts-history.result.1.log c.into_parts-history.result.0 parts.history g.P.Plan.board.table pass (c.requires i pass at) (c.close.ensures.passes i pass at)
