use Rattle.std.proofs.lemmas.Map.Lookups.{exact_bytes}
use Rattle.sve_gathered.proofs.naming.in_order.Goals as goal

pub ordered-requires : goal.ordered-requires
ordered-requires c = exact_bytes
