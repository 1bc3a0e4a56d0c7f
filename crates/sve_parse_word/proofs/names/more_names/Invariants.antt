use Rattle.std.proofs.Common.{◌≤◌, ◌-◌, length}
use Rattle.sve_token.specs.declared.kind.Kind.TheVariants.{Comma, Identifier}
use Rattle.sve_grammar.specs.Rule.{tok, ◌∙◌}
use Rattle.sve_grammar.specs.Types.{more_identifiers}
use Rattle.sve_grammar.specs.Reading.{leaf, at_depth}
use Rattle.sve_grammar.proofs.Loops.{Keeps}
use Rattle.sve_tree.specs.Shape.{IsRow, further_tree}
use Rattle.sve_parse_word.proofs.names.more_names.Given as goal

abbrev pub invariant-turns : goal.invariant-turns
invariant-turns l =
    Keeps l.tokens l.depth (tok Comma ∙ tok Identifier) (further_tree leaf leaf l.items.items l.separators.items) l.at (at_depth l.tokens l.depth more_identifiers l.from)
    × IsRow l.first l.items.items l.separators.items × (l.from ≤ l.at)

abbrev pub decreases-turns : goal.decreases-turns
decreases-turns l = length l.tokens - l.at
