use Rattle.std.proofs.Common.{ap, sym, ◌∙◌}
use Rattle.sve_env.specs.Nodes.{nodes, nodes_of_expressions}
use Rattle.sve_measure.specs.Constants.{is_bare}
use Rattle.sve_measure.proofs.Selects.{bare_nodes, counts_then}
use Rattle.sve_measure.proofs.+measure.Goals as goal

pub operands::bare-returns-clause-count : goal.operands::bare-returns-clause-count
operands::bare-returns-clause-count g t c =
    counts_then c.replicated.result _ _ _ _ 1 (nodes (g.E.Env.told c.args.env.now) c.in-Replication.count.value) (nodes_of_expressions (g.E.Env.told c.args.env.now) c.in-Replication.operands) _
    c.in_ok-spend-in-Replication.ensures.counts
    (rw c.deref.ensures at c.in_ok-number-in-Replication.ensures.count)
    c.replicated.ensures.count
    (ap (nodes (g.E.Env.told c.args.env.now)) c.in-Replication.is
    ∙ bare_nodes (g.E.Env.told c.args.env.now) c.in-Replication.opening c.in-Replication.count c.in-Replication.inner_opening c.in-Replication.operands c.in-Replication.inner_closing c.in-Replication.closing c.in-Replication.selects (sym (ap is_bare c.in-Replication.is) ∙ c.requires.bare))
