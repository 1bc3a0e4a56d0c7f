use Rattle.std.proofs.Common.{◌≤◌, ◌-◌, length}
use Rattle.sve_grammar.specs.Rule.{◌∙◌}
use Rattle.sve_grammar.specs.Items.{event_separator, event_expression, more_events}
use Rattle.sve_grammar.specs.Reading.{at_depth}
use Rattle.sve_grammar.proofs.Loops.{Keeps}
use Rattle.sve_tree.specs.Shape.{further_tree, IsRow, mark_tree}
use Rattle.sve_tree.specs.Words.{event_separator_tree}
use Rattle.sve_tree.specs.Items.{event_tree}
use Rattle.sve_parse_procedure.proofs.events.more_events.Given as goal

abbrev pub invariant-turns : goal.invariant-turns
invariant-turns l = Keeps l.tokens l.depth (event_separator ∙ event_expression) (further_tree event_tree (mark_tree event_separator_tree) l.items.items l.separators.items) l.at (at_depth l.tokens l.depth more_events l.from) × IsRow l.fn.first l.items.items l.separators.items × (l.from ≤ l.at)

abbrev pub decreases-turns : goal.decreases-turns
decreases-turns l = length l.tokens - l.at
