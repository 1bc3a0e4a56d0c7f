-- The rule that stands for each of the seven symbols (IEEE 1800-2017, Annex A).
use Rattle.sve_grammar.specs.declared.symbol.Symbol.{Symbol}
use Rattle.sve_grammar.specs.declared.symbol.Symbol.TheVariants.{Expression, Conditional, Unary, DataType, LeftSide, Statement, Item}
use Rattle.sve_grammar.specs.Rule.{Rule}
use Rattle.sve_grammar.specs.Expressions.{expression, conditional, unary}
use Rattle.sve_grammar.specs.Types.{data_type}
use Rattle.sve_grammar.specs.Statements.{left_side, statement}
use Rattle.sve_grammar.specs.Items.{item}

unfoldable pub rule : Symbol → Rule
rule Expression = expression
rule Conditional = conditional
rule Unary = unary
rule DataType = data_type
rule LeftSide = left_side
rule Statement = statement
rule Item = item
