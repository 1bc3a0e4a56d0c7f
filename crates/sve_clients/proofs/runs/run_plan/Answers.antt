use Rattle.std.proofs.Common.{ℕ, sym, ◌∙◌, subst}
use Rattle.sve_text.specs.Files.{FilesValue}
use Rattle.sve_clients.specs.Runs.{HaveLeft}
use Rattle.sve_clients.proofs.Places.{are_ready, have_left}
use Rattle.sve_clients.proofs.runs.run_plan.Goals as goal

pub close-history-requires : goal.close-history-requires
close-history-requires g c =
    let leaves = g.C.Client.leaves c.args.client.now g.P.Plan.opening g.P.Plan.most in
    are_ready leaves c.args.order g.P.Plan.board.table c.in_ok-rans.rans.items c.in_ok-passes.passes.items c.in_ok-rans.ensures.done c.in_ok-passes.ensures.0

-- what the clients leave of the plan is what they leave of these files and this number of entries
pub returns-clause-left : goal.returns-clause-left
returns-clause-left g c =
    let leaves = g.C.Client.leaves c.args.client.now g.P.Plan.opening g.P.Plan.most in
    let history = c.close-history.result in
    let all : HaveLeft leaves c.args.order history 1 0 c.of.result =
    have_left leaves c.args.order g.P.Plan.board.table history c.in_ok-rans.rans.items c.in_ok-passes.passes.items c.of.result c.in_ok-rans.ensures.done c.in_ok-passes.ensures.0 (c.of.ensures ∙ c.in_ok-passes.ensures.1) c.close-history.ensures.passes in
    subst (λ (f : FilesValue). HaveLeft (g.C.Client.leaves c.args.client.now f c.args.most) c.args.order history 1 0 c.of.result) (sym c.requires.plan.1)
    (subst (λ (n : ℕ). HaveLeft (g.C.Client.leaves c.args.client.now g.P.Plan.opening n) c.args.order history 1 0 c.of.result) (sym c.requires.plan.2) all)
