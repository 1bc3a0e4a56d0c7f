use Rattle.std.proofs.Common.{sym, ◌∙◌}
use Rattle.sve_shape.proofs.ManyMembers.{count_members-members_view}
use Rattle.sve_shape.proofs.member.member_count.Goals as goal

pub returns : goal.returns
returns c = c.len.ensures.len ∙ sym (count_members-members_view c.args.object.now.entries)
