use Rattle.sve_type_rule.proofs.Taken.{taken_by}
use Rattle.sve_type_rule.proofs.names.is_taken.Goals as goal

pub returns : goal.returns
returns c = taken_by c.args.names.now.names.items c.args.names.now.values c.args.value c.args.digits.now c.is_among.result c.args.names.now.values_are c.requires c.is_among.ensures
