-- What the seven symbols begin with is what their rules begin with.
use Rattle.std.proofs.Common.{◌≡◌, Bool, true, false, cond, List, [], ◌∷◌, ◌++◌, Option, None, refl, sym as flip}
use Rattle.std.specs.Prelude.{◌||◌, ◌&&◌}
use Rattle.sve_token.specs.declared.kind.Kind.{Kind}
use Rattle.sve_grammar.specs.declared.symbol.Symbol.{Symbol}
use Rattle.sve_grammar.specs.declared.symbol.Symbol.TheVariants.{Expression, Conditional, Unary, DataType, LeftSide, Statement, Item}
use Rattle.sve_grammar.specs.Token.{has_kind}
use Rattle.sve_grammar.specs.Rule.{Rule, tok, sym, ◌∙◌, ◌∣◌, nothing, many, starts, empties, opens, is_among, firsts}
use Rattle.sve_grammar.specs.Grammar.{rule}
use Rattle.sve_grammar.specs.Expressions.{expression, conditional, unary, unary_operator, primary, decimal, parenthesized, pattern, concatenation, signing, typed_primary, integer_type, integer_atom_type, integer_vector_type, system_call, scoped_name, operations, operation}
use Rattle.sve_grammar.specs.Types.{data_type, atom_type, vector_type, enumeration, structure, net_type, parameter_keyword}
use Rattle.sve_grammar.specs.Declarations.{import_declaration, parameter_declaration, type_declaration, net_declaration, variable_declaration, data_declaration}
use Rattle.sve_grammar.specs.Statements.{left_side, left_concatenation, statement, block, uniqueness, choice, if_statement, case_statement, case_keyword, for_statement, foreach_statement, loop_statement, loop_keyword, do_statement, return_statement, system_task, void_call, increment_statement, increment_operator, concatenation_assignment, name_statement, function_declaration}
use Rattle.sve_grammar.specs.Items.{item, genvar_declaration, continuous_assign, clocked_procedure, clocked_keyword, plain_procedure, plain_keyword, generate_region, loop_generate, if_generate, case_generate, modport_declaration}

-- the kinds that a rule begins with, in the order in which they stand in it
abbrev pub heads : Rule → List Kind
heads (tok k) = k ∷ []
heads (sym s) = firsts s
heads (a ∙ b) = heads a ++ cond (empties a) (heads b) []
heads (a ∣ b) = heads a ++ heads b
heads nothing = []
heads (many a) = heads a

pub or_none : (b : Bool) → (b || false) ≡ b
or_none true = refl
or_none false = refl

pub or_or : (a b c : Bool) → ((a || b) || c) ≡ (a || (b || c))
or_or true b c = refl
or_or false b c = refl

is_among-append : (xs ys : List Kind) (k : Option Kind) → is_among (xs ++ ys) k ≡ (is_among xs k || is_among ys k)
is_among-append [] ys k = refl
is_among-append (x ∷ xs) ys k = rw (is_among-append xs ys k) (flip (or_or (has_kind k x) (is_among xs k) (is_among ys k)))

-- the search among them is FIRST
pub starts_heads : (r : Rule) (k : Option Kind) → starts r k ≡ is_among (heads r) k
unfolding opens
starts_heads (tok x) k = flip (or_none (has_kind k x))
starts_heads (sym s) k = refl
starts_heads (a ∙ b) k = rw (starts_heads a k, starts_heads b k, is_among-append (heads a) (cond (empties a) (heads b) []) k) (by_cases (empties a))
  where
    by_cases : (e : Bool) → (is_among (heads a) k || (e && is_among (heads b) k)) ≡ (is_among (heads a) k || is_among (cond e (heads b) []) k)
    by_cases true = refl
    by_cases false = refl
starts_heads (a ∣ b) k = rw (starts_heads a k, starts_heads b k, is_among-append (heads a) (heads b) k) refl
starts_heads nothing k = refl
starts_heads (many a) k = starts_heads a k

rule_heads : (s : Symbol) → heads (rule s) ≡ firsts s
unfolding rule expression conditional unary unary_operator primary decimal parenthesized pattern concatenation signing typed_primary integer_type integer_atom_type integer_vector_type system_call scoped_name operations operation data_type atom_type vector_type enumeration structure net_type parameter_keyword import_declaration parameter_declaration type_declaration net_declaration variable_declaration data_declaration left_side left_concatenation statement block uniqueness choice if_statement case_statement case_keyword for_statement foreach_statement loop_statement loop_keyword do_statement return_statement system_task void_call increment_statement increment_operator concatenation_assignment name_statement function_declaration item genvar_declaration continuous_assign clocked_procedure clocked_keyword plain_procedure plain_keyword generate_region loop_generate if_generate case_generate modport_declaration
rule_heads Expression = refl
rule_heads Conditional = refl
rule_heads Unary = refl
rule_heads DataType = refl
rule_heads LeftSide = refl
rule_heads Statement = refl
rule_heads Item = refl

-- FIRST as it is given for a symbol is FIRST of its rule
pub opens_is : (s : Symbol) (k : Option Kind) → opens s k ≡ starts (rule s) k
unfolding opens
opens_is s k = flip (rw (← rule_heads s) (starts_heads (rule s) k))

-- no symbol begins behind the last token
pub opens_none : (s : Symbol) → opens s None ≡ false
unfolding opens
opens_none Expression = refl
opens_none Conditional = refl
opens_none Unary = refl
opens_none DataType = refl
opens_none LeftSide = refl
opens_none Statement = refl
opens_none Item = refl
