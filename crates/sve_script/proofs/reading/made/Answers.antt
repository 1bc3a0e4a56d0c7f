use Rattle.std.proofs.Common.{sym, subst}
use Rattle.sve_text.specs.Files.{TextsFit}
use Rattle.sve_script.proofs.Fitting.{in_limits}
use Rattle.sve_script.proofs.reading.made.Goals as goal

pub settled_clients-requires : goal.settled_clients-requires
settled_clients-requires c = (in_limits c.args.parts.files c.args.parts.clients c.requires.limits_kept).fair_budgets

pub of-requires-clause-texts_in_limit : goal.of-requires-clause-texts_in_limit
of-requires-clause-texts_in_limit c = subst TextsFit (sym c.into_vec.ensures) (in_limits c.args.parts.files c.args.parts.clients c.requires.limits_kept).texts
