use Rattle.sve_select.proofs.Types.{member_found}
use Rattle.sve_select.proofs.members.member_of.Goals as goal

pub returns-then-eq : goal.returns-then-eq
returns-then-eq c = member_found _ _ _ _ c.index-members-i.result _ _ _ c.members-test.true c.index-members-i.is c.bytes.ensures.bytes c.eq.ensures c.if-eq.true c.bits_of.ensures c.members.invariant
