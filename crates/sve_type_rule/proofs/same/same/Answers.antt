use Rattle.sve_type_rule.proofs.Alike.{test_is}
use Rattle.sve_type_rule.proofs.same.same.Goals as goal

pub returns : goal.returns
returns c = test_is c.is_same.result c.args.a c.args.b c.is_same.ensures
