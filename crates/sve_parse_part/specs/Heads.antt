-- What stands in front of a last part, whatever that part is (own).
use Rattle.std.specs.Prelude.{ℕ, List, Result, Ok, Err, ◌≡◌}
use Rattle.sve_token.specs.declared.kind.Kind.TheVariants.{Identifier, LeftParen, RightParen, LeftBracket, RightBracket, Semicolon}
use Rattle.sve_token.specs.declared.keywords.Keyword.TheVariants.{KwFor, KwForeach}
use Rattle.sve_token.specs.declared.token.Token.{Token}
use Rattle.sve_grammar.specs.declared.symbol.Symbol.TheVariants.{Expression}
use Rattle.sve_grammar.specs.declared.stop.Stop.{Stop}
use Rattle.sve_grammar.specs.Rule.{Rule, tok, sym, ◌∙◌, opt, word}
use Rattle.sve_grammar.specs.Types.{more_identifiers}
use Rattle.sve_grammar.specs.Statements.{for_initialization, for_steps}
use Rattle.sve_grammar.specs.Machine.{Halt}
use Rattle.sve_grammar.specs.Reading.{Tree, leaf, at_depth}
use Rattle.sve_grammar.specs.Gives.{Fails}
use Rattle.sve_tree.specs.Shape.{◌▸◌, optional_tree, optional_row, row_first, row_rest}
use Rattle.sve_tree.specs.Expressions.{expression_tree}
use Rattle.sve_tree.specs.Statements.{for_initialization_tree, for_step_tree}
use Rattle.sve_parse_part.specs.declared.heads.ForHead.{ForHead}
use Rattle.sve_parse_part.specs.declared.heads.ForeachHead.{ForeachHead}

-- Where the front was taken, the whole is the front's tree before that of the last part, and stops where the last part stops; else it stops in the front.
abbrev pub Heads : {X : Type 0} → (X → Tree → Tree) → List Token → ℕ → (Rule → Rule) → ℕ → Result (X × ℕ) Stop → Type 0
Heads view ts d front i (Ok x) =
    ((last : Rule) (t : Tree) (j : ℕ) → at_depth ts d last x.1 ≡ Ok (t, j) → at_depth ts d (front last) i ≡ Ok (view x.0 t, j))
    × ((last : Rule) (h : Halt) → at_depth ts d last x.1 ≡ Err h → at_depth ts d (front last) i ≡ Err h)
Heads view ts d front i (Err e) = (last : Rule) → Fails e (at_depth ts d (front last) i)

-- for and what stands in its parentheses
abbrev pub for_front : Rule → Rule
for_front last =
    word KwFor ∙ tok LeftParen ∙ for_initialization ∙ tok Semicolon ∙ opt (sym Expression) ∙ tok Semicolon ∙ opt for_steps ∙ tok RightParen ∙ last

abbrev pub for_head_tree : ℕ → ForHead → Tree → Tree
for_head_tree keyword x t = leaf keyword ▸ leaf x.opening ▸ for_initialization_tree x.initialization ▸ leaf x.first_semicolon ▸ optional_tree expression_tree x.condition ▸ leaf x.second_semicolon ▸ optional_row for_step_tree leaf x.steps ▸ leaf x.closing ▸ t

-- foreach, the array and the names of the loop
abbrev pub foreach_front : Rule → Rule
foreach_front last =
    word KwForeach ∙ tok LeftParen ∙ tok Identifier ∙ tok LeftBracket ∙ tok Identifier ∙ more_identifiers ∙ tok RightBracket ∙ tok RightParen ∙ last

abbrev pub foreach_head_tree : ℕ → ForeachHead → Tree → Tree
foreach_head_tree keyword x t = leaf keyword ▸ leaf x.opening ▸ leaf x.array ▸ leaf x.opening_bracket ▸ row_first leaf x.names ▸ row_rest leaf leaf x.names ▸ leaf x.closing_bracket ▸ leaf x.closing ▸ t
