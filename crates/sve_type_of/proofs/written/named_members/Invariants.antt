use Rattle.std.proofs.Common.{◌≡◌, drop}
use Rattle.sve_type_rule.specs.Members.{membered}
use Rattle.sve_type_of.specs.TypeOf.{named_members}
use Rattle.sve_type_of.proofs.written.named_members.Given as goal

abbrev pub invariant-names : goal.invariant-names
invariant-names g l = named_members (g.E.Env.told l.env) l.ty (membered l.before) (drop l.name-index l.names) ≡ named_members (g.E.Env.told l.env) l.ty (membered l.fn.before) l.names
