use Rattle.sve_diag.proofs.DiagsAreExact.{diags_exact}
use Rattle.sve_diagnostics.proofs.gathering.all_diags.Goals as goal

pub ordered-requires : goal.ordered-requires
ordered-requires c = diags_exact
