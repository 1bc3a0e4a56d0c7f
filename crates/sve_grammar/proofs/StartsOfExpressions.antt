-- What the rules of expressions begin with, and that they are not empty: what a caller that tests the next token needs.
use Rattle.std.proofs.Common.{◌≡◌, false, Option, refl}
use Rattle.std.specs.Prelude.{◌||◌}
use Rattle.sve_token.specs.declared.kind.Kind.{Kind}
use Rattle.sve_token.specs.declared.kind.Kind.TheVariants.{Keyword, Ampersand, Apostrophe, ApostropheLeftBrace, Arrow, Bang, Caret, CaretTilde, Colon, Comma, Decimal, Dot, DotStar, DoubleArrow, Identifier, LeftBrace, LeftBracket, LeftParen, Minus, MinusColon, Pipe, Plus, PlusColon, SystemName, Tilde, TildeAmpersand, TildeCaret, TildePipe}
use Rattle.sve_token.specs.declared.keywords.Keyword.TheVariants.{KwBit, KwByte, KwDefault, KwInside, KwInt, KwInteger, KwLogic, KwLongint, KwReg, KwShortint, KwSigned, KwTime, KwUnsigned}
use Rattle.sve_grammar.specs.declared.symbol.Symbol.TheVariants.{Expression}
use Rattle.sve_grammar.specs.Token.{has_kind}
use Rattle.sve_grammar.specs.Rule.{starts, empties, opens}
use Rattle.sve_grammar.specs.Expressions.{signing, integer_atom_type, integer_vector_type, integer_type, dimension, dimensions, scoped_name, parenthesized, more_expressions, braced_expressions, connection, argument, more_arguments, arguments, argument_list, range_end, range, bracket_select, bracket_selects, select, selects, cast, pattern_item_end, pattern_item, more_pattern_items, pattern, concatenation_end, concatenation, decimal, typed_primary, system_call, postfix, postfixes, unary_operator, value_range, more_value_ranges, membership, implication_operator}
use Rattle.sve_grammar.proofs.Begins.{or_none, or_or}

pub signing_starts : (k : Option Kind) → starts signing k ≡ (has_kind k (Keyword KwSigned) || has_kind k (Keyword KwUnsigned))
unfolding signing
signing_starts k = refl

pub signing_full : empties signing ≡ false
unfolding signing
signing_full = refl

pub integer_atom_type_starts : (k : Option Kind) → starts integer_atom_type k ≡ (has_kind k (Keyword KwByte) || (has_kind k (Keyword KwShortint) || (has_kind k (Keyword KwInt) || (has_kind k (Keyword KwLongint) || (has_kind k (Keyword KwInteger) || has_kind k (Keyword KwTime))))))
unfolding integer_atom_type
integer_atom_type_starts k = refl

pub integer_atom_type_full : empties integer_atom_type ≡ false
unfolding integer_atom_type
integer_atom_type_full = refl

pub integer_vector_type_starts : (k : Option Kind) → starts integer_vector_type k ≡ (has_kind k (Keyword KwBit) || (has_kind k (Keyword KwLogic) || has_kind k (Keyword KwReg)))
unfolding integer_vector_type
integer_vector_type_starts k = refl

pub integer_vector_type_full : empties integer_vector_type ≡ false
unfolding integer_vector_type
integer_vector_type_full = refl

pub integer_type_starts : (k : Option Kind) → starts integer_type k ≡ (has_kind k (Keyword KwByte) || (has_kind k (Keyword KwShortint) || (has_kind k (Keyword KwInt) || (has_kind k (Keyword KwLongint) || (has_kind k (Keyword KwInteger) || (has_kind k (Keyword KwTime) || (has_kind k (Keyword KwBit) || (has_kind k (Keyword KwLogic) || has_kind k (Keyword KwReg)))))))))
unfolding integer_type integer_atom_type integer_vector_type
integer_type_starts k = simp or_or

pub integer_type_full : empties integer_type ≡ false
unfolding integer_type integer_atom_type integer_vector_type
integer_type_full = refl

pub dimension_starts : (k : Option Kind) → starts dimension k ≡ has_kind k LeftBracket
unfolding dimension
dimension_starts k = or_none (has_kind k LeftBracket)

pub dimension_full : empties dimension ≡ false
unfolding dimension
dimension_full = refl

pub dimensions_starts : (k : Option Kind) → starts dimensions k ≡ has_kind k LeftBracket
unfolding dimensions dimension
dimensions_starts k = or_none (has_kind k LeftBracket)

pub scoped_name_starts : (k : Option Kind) → starts scoped_name k ≡ has_kind k Identifier
unfolding scoped_name
scoped_name_starts k = or_none (has_kind k Identifier)

pub scoped_name_full : empties scoped_name ≡ false
unfolding scoped_name
scoped_name_full = refl

pub parenthesized_starts : (k : Option Kind) → starts parenthesized k ≡ has_kind k LeftParen
unfolding parenthesized
parenthesized_starts k = or_none (has_kind k LeftParen)

pub parenthesized_full : empties parenthesized ≡ false
unfolding parenthesized
parenthesized_full = refl

pub more_expressions_starts : (k : Option Kind) → starts more_expressions k ≡ has_kind k Comma
unfolding more_expressions
more_expressions_starts k = or_none (has_kind k Comma)

pub braced_expressions_starts : (k : Option Kind) → starts braced_expressions k ≡ has_kind k LeftBrace
unfolding braced_expressions
braced_expressions_starts k = or_none (has_kind k LeftBrace)

pub braced_expressions_full : empties braced_expressions ≡ false
unfolding braced_expressions
braced_expressions_full = refl

pub connection_starts : (k : Option Kind) → starts connection k ≡ has_kind k LeftParen
unfolding connection
connection_starts k = or_none (has_kind k LeftParen)

pub connection_full : empties connection ≡ false
unfolding connection
connection_full = refl

pub argument_starts : (k : Option Kind) → starts argument k ≡ (has_kind k DotStar || (has_kind k Dot || opens Expression k))
unfolding argument
argument_starts k = simp or_none

pub more_arguments_starts : (k : Option Kind) → starts more_arguments k ≡ has_kind k Comma
unfolding more_arguments
more_arguments_starts k = or_none (has_kind k Comma)

pub arguments_starts : (k : Option Kind) → starts arguments k ≡ (has_kind k DotStar || (has_kind k Dot || (opens Expression k || has_kind k Comma)))
unfolding arguments argument more_arguments
arguments_starts k = simp (or_none, or_or)

pub argument_list_starts : (k : Option Kind) → starts argument_list k ≡ has_kind k LeftParen
unfolding argument_list
argument_list_starts k = or_none (has_kind k LeftParen)

pub argument_list_full : empties argument_list ≡ false
unfolding argument_list
argument_list_full = refl

pub range_end_starts : (k : Option Kind) → starts range_end k ≡ (has_kind k Colon || (has_kind k PlusColon || has_kind k MinusColon))
unfolding range_end
range_end_starts k = simp or_none

pub range_end_full : empties range_end ≡ false
unfolding range_end
range_end_full = refl

pub range_starts : (k : Option Kind) → starts range k ≡ opens Expression k
unfolding range
range_starts k = or_none (opens Expression k)

pub range_full : empties range ≡ false
unfolding range
range_full = refl

pub bracket_select_starts : (k : Option Kind) → starts bracket_select k ≡ has_kind k LeftBracket
unfolding bracket_select
bracket_select_starts k = or_none (has_kind k LeftBracket)

pub bracket_select_full : empties bracket_select ≡ false
unfolding bracket_select
bracket_select_full = refl

pub bracket_selects_starts : (k : Option Kind) → starts bracket_selects k ≡ has_kind k LeftBracket
unfolding bracket_selects bracket_select
bracket_selects_starts k = or_none (has_kind k LeftBracket)

pub select_starts : (k : Option Kind) → starts select k ≡ (has_kind k Dot || has_kind k LeftBracket)
unfolding select bracket_select
select_starts k = simp or_none

pub select_full : empties select ≡ false
unfolding select bracket_select
select_full = refl

pub selects_starts : (k : Option Kind) → starts selects k ≡ (has_kind k Dot || has_kind k LeftBracket)
unfolding selects select bracket_select
selects_starts k = simp or_none

pub cast_starts : (k : Option Kind) → starts cast k ≡ has_kind k Apostrophe
unfolding cast
cast_starts k = or_none (has_kind k Apostrophe)

pub cast_full : empties cast ≡ false
unfolding cast
cast_full = refl

pub pattern_item_end_starts : (k : Option Kind) → starts pattern_item_end k ≡ (has_kind k Colon || has_kind k LeftBrace)
unfolding pattern_item_end braced_expressions
pattern_item_end_starts k = simp or_none

pub pattern_item_end_full : empties pattern_item_end ≡ false
unfolding pattern_item_end braced_expressions
pattern_item_end_full = refl

pub pattern_item_starts : (k : Option Kind) → starts pattern_item k ≡ (has_kind k (Keyword KwDefault) || opens Expression k)
unfolding pattern_item
pattern_item_starts k = simp or_none

pub pattern_item_full : empties pattern_item ≡ false
unfolding pattern_item
pattern_item_full = refl

pub more_pattern_items_starts : (k : Option Kind) → starts more_pattern_items k ≡ has_kind k Comma
unfolding more_pattern_items
more_pattern_items_starts k = or_none (has_kind k Comma)

pub pattern_starts : (k : Option Kind) → starts pattern k ≡ has_kind k ApostropheLeftBrace
unfolding pattern
pattern_starts k = or_none (has_kind k ApostropheLeftBrace)

pub pattern_full : empties pattern ≡ false
unfolding pattern
pattern_full = refl

pub concatenation_end_starts : (k : Option Kind) → starts concatenation_end k ≡ (has_kind k LeftBrace || has_kind k Comma)
unfolding concatenation_end braced_expressions more_expressions
concatenation_end_starts k = simp or_none

pub concatenation_starts : (k : Option Kind) → starts concatenation k ≡ has_kind k LeftBrace
unfolding concatenation
concatenation_starts k = or_none (has_kind k LeftBrace)

pub concatenation_full : empties concatenation ≡ false
unfolding concatenation
concatenation_full = refl

pub decimal_starts : (k : Option Kind) → starts decimal k ≡ has_kind k Decimal
unfolding decimal
decimal_starts k = or_none (has_kind k Decimal)

pub decimal_full : empties decimal ≡ false
unfolding decimal
decimal_full = refl

pub typed_primary_starts : (k : Option Kind) → starts typed_primary k ≡ (has_kind k (Keyword KwByte) || (has_kind k (Keyword KwShortint) || (has_kind k (Keyword KwInt) || (has_kind k (Keyword KwLongint) || (has_kind k (Keyword KwInteger) || (has_kind k (Keyword KwTime) || (has_kind k (Keyword KwBit) || (has_kind k (Keyword KwLogic) || has_kind k (Keyword KwReg)))))))))
unfolding typed_primary integer_type integer_atom_type integer_vector_type
typed_primary_starts k = simp (or_none, or_or)

pub typed_primary_full : empties typed_primary ≡ false
unfolding typed_primary integer_type integer_atom_type integer_vector_type
typed_primary_full = refl

pub system_call_starts : (k : Option Kind) → starts system_call k ≡ has_kind k SystemName
unfolding system_call
system_call_starts k = or_none (has_kind k SystemName)

pub system_call_full : empties system_call ≡ false
unfolding system_call
system_call_full = refl

pub postfix_starts : (k : Option Kind) → starts postfix k ≡ (has_kind k Dot || (has_kind k LeftBracket || (has_kind k LeftParen || (has_kind k Apostrophe || has_kind k ApostropheLeftBrace))))
unfolding postfix select bracket_select argument_list cast pattern
postfix_starts k = simp (or_none, or_or)

pub postfix_full : empties postfix ≡ false
unfolding postfix select bracket_select argument_list cast pattern
postfix_full = refl

pub postfixes_starts : (k : Option Kind) → starts postfixes k ≡ (has_kind k Dot || (has_kind k LeftBracket || (has_kind k LeftParen || (has_kind k Apostrophe || has_kind k ApostropheLeftBrace))))
unfolding postfixes postfix select bracket_select argument_list cast pattern
postfixes_starts k = simp (or_none, or_or)

pub unary_operator_starts : (k : Option Kind) → starts unary_operator k ≡ (has_kind k Plus || (has_kind k Minus || (has_kind k Bang || (has_kind k Tilde || (has_kind k Ampersand || (has_kind k TildeAmpersand || (has_kind k Pipe || (has_kind k TildePipe || (has_kind k Caret || (has_kind k TildeCaret || has_kind k CaretTilde))))))))))
unfolding unary_operator
unary_operator_starts k = refl

pub unary_operator_full : empties unary_operator ≡ false
unfolding unary_operator
unary_operator_full = refl

pub value_range_starts : (k : Option Kind) → starts value_range k ≡ (has_kind k LeftBracket || opens Expression k)
unfolding value_range
value_range_starts k = simp or_none

pub value_range_full : empties value_range ≡ false
unfolding value_range
value_range_full = refl

pub more_value_ranges_starts : (k : Option Kind) → starts more_value_ranges k ≡ has_kind k Comma
unfolding more_value_ranges
more_value_ranges_starts k = or_none (has_kind k Comma)

pub membership_starts : (k : Option Kind) → starts membership k ≡ has_kind k (Keyword KwInside)
unfolding membership
membership_starts k = or_none (has_kind k (Keyword KwInside))

pub membership_full : empties membership ≡ false
unfolding membership
membership_full = refl

pub implication_operator_starts : (k : Option Kind) → starts implication_operator k ≡ (has_kind k Arrow || has_kind k DoubleArrow)
unfolding implication_operator
implication_operator_starts k = refl

pub implication_operator_full : empties implication_operator ≡ false
unfolding implication_operator
implication_operator_full = refl
