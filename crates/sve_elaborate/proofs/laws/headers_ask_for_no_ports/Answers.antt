use Rattle.sve_elaborate.proofs.Asking.{headers_only}
use Rattle.sve_elaborate.proofs.laws.headers_ask_for_no_ports.Goals as goal

pub returns : goal.returns
returns c = λ spec. headers_only spec
