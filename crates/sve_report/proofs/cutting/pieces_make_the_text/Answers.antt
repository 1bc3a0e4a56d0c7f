use Rattle.sve_report.proofs.Cuts.{pieces_make_text}
use Rattle.sve_report.proofs.cutting.pieces_make_the_text.Goals as goal

pub returns : goal.returns
returns c = pieces_make_text
