use Rattle.std.proofs.Common.{◌≤◌, ◌-◌, length}
use Rattle.sve_token.specs.declared.kind.Kind.TheVariants.{Comma}
use Rattle.sve_grammar.specs.Rule.{tok, ◌∙◌}
use Rattle.sve_grammar.specs.Statements.{formal, more_formals}
use Rattle.sve_grammar.specs.Reading.{leaf, at_depth}
use Rattle.sve_grammar.proofs.Loops.{Keeps}
use Rattle.sve_tree.specs.Shape.{further_tree, IsRow}
use Rattle.sve_tree.specs.Statements.{formal_tree}
use Rattle.sve_parse_formal.proofs.functions.more_formals.Given as goal

abbrev pub invariant-turns : goal.invariant-turns
invariant-turns l = Keeps l.tokens l.depth (tok Comma ∙ formal) (further_tree formal_tree leaf l.items.items l.separators.items) l.at (at_depth l.tokens l.depth more_formals l.from) × IsRow l.fn.first l.items.items l.separators.items × (l.from ≤ l.at)

abbrev pub decreases-turns : goal.decreases-turns
decreases-turns l = length l.tokens - l.at
