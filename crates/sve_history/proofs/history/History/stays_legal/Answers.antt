use Rattle.std.proofs.Common.{subst}
use Rattle.sve_history.specs.Histories.{HistoryValue, IsOpening, IsLegal}
use Rattle.sve_history.proofs.history.History.stays_legal.Goals as goal

pub returns-clause-legal : goal.returns-clause-legal
returns-clause-legal c = subst IsLegal c.self.view_is c.self.invariant.legal

pub returns-clause-opening : goal.returns-clause-opening
returns-clause-opening c = subst (λ (h : HistoryValue). IsOpening h.opening) c.self.view_is c.self.invariant.untouched
