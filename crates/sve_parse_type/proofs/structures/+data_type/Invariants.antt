use Rattle.std.proofs.Common.{◌≤◌, ◌-◌, ◌+◌, ◌*◌, length}
use Rattle.sve_grammar.specs.Types.{member, members}
use Rattle.sve_grammar.specs.Reading.{at_depth}
use Rattle.sve_grammar.proofs.Loops.{Keeps}
use Rattle.sve_tree.specs.Shape.{others_tree, BeginsWith}
use Rattle.sve_tree.specs.Types.{members_tree}
use Rattle.sve_parse_type.proofs.structures.+data_type.Given as goal

-- the depth that is left, and at one depth the rank: a structure calls its members, they their type

abbrev pub decreases-data_type : goal.decreases-data_type
decreases-data_type l = (513 - l.depth) * 8

abbrev pub decreases-type_reference : goal.decreases-type_reference
decreases-type_reference l = (513 - l.depth) * 8 + 1

abbrev pub decreases-member : goal.decreases-member
decreases-member l = (513 - l.depth) * 8 + 2

abbrev pub decreases-more_members : goal.decreases-more_members
decreases-more_members l = (513 - l.depth) * 8 + 3

abbrev pub decreases-structure : goal.decreases-structure
decreases-structure l = (513 - l.depth) * 8 + 4

abbrev pub invariant-more_members-turns : goal.invariant-more_members-turns
invariant-more_members-turns l = Keeps l.tokens l.depth member (others_tree members_tree l.items.items) l.at (at_depth l.tokens l.depth members l.from) × BeginsWith l.fn.first l.items.items × (l.from ≤ l.at)

abbrev pub decreases-more_members-turns : goal.decreases-more_members-turns
decreases-more_members-turns l = length l.tokens - l.at
