-- What the rules of types and ports begin with, and that they are not empty.
use Rattle.std.proofs.Common.{◌≡◌, false, Option, refl}
use Rattle.std.specs.Prelude.{◌||◌}
use Rattle.sve_token.specs.declared.kind.Kind.{Kind}
use Rattle.sve_token.specs.declared.kind.Kind.TheVariants.{Keyword, Assign, ColonColon, Comma, Dot, Hash, Identifier, LeftBracket, LeftParen}
use Rattle.sve_token.specs.declared.keywords.Keyword.TheVariants.{KwBit, KwByte, KwEnum, KwInout, KwInput, KwInt, KwInteger, KwLocalparam, KwLogic, KwLongint, KwOutput, KwParameter, KwReg, KwShortint, KwSigned, KwStruct, KwSupply0, KwSupply1, KwTime, KwTri, KwTri0, KwTri1, KwTriand, KwTrior, KwUnsigned, KwUwire, KwVar, KwWand, KwWire, KwWor}
use Rattle.sve_grammar.specs.declared.symbol.Symbol.TheVariants.{DataType}
use Rattle.sve_grammar.specs.Token.{has_kind}
use Rattle.sve_grammar.specs.Rule.{starts, empties, opens}
use Rattle.sve_grammar.specs.Expressions.{signing, integer_atom_type, integer_vector_type, dimension, dimensions, scoped_name}
use Rattle.sve_grammar.specs.Types.{more_identifiers, declared_name, initializer, more_declarators, declaration_end, atom_type, vector_type, named_type, enum_base, enum_name, more_enum_names, enumeration, type_reference, member, members, structure, declared_type_end, declared_type, direction, net_type, port_type_end, port_type, port_kind, port, more_ports, port_row, ports, parameter_keyword, parameter_port, more_parameter_ports, parameter_port_row, parameter_ports}
use Rattle.sve_grammar.proofs.Begins.{or_none, or_or}
use Rattle.sve_grammar.proofs.StartsOfExpressions.{integer_atom_type_full, integer_vector_type_full}

pub more_identifiers_starts : (k : Option Kind) → starts more_identifiers k ≡ has_kind k Comma
unfolding more_identifiers
more_identifiers_starts k = or_none (has_kind k Comma)

pub declared_name_starts : (k : Option Kind) → starts declared_name k ≡ has_kind k Identifier
unfolding declared_name
declared_name_starts k = or_none (has_kind k Identifier)

pub declared_name_full : empties declared_name ≡ false
unfolding declared_name
declared_name_full = refl

pub initializer_starts : (k : Option Kind) → starts initializer k ≡ has_kind k Assign
unfolding initializer
initializer_starts k = or_none (has_kind k Assign)

pub initializer_full : empties initializer ≡ false
unfolding initializer
initializer_full = refl

pub more_declarators_starts : (k : Option Kind) → starts more_declarators k ≡ has_kind k Comma
unfolding more_declarators
more_declarators_starts k = or_none (has_kind k Comma)

pub declaration_end_starts : (k : Option Kind) → starts declaration_end k ≡ (has_kind k Assign || has_kind k Comma)
unfolding declaration_end initializer more_declarators
declaration_end_starts k = simp or_none

pub atom_type_starts : (k : Option Kind) → starts atom_type k ≡ (has_kind k (Keyword KwByte) || (has_kind k (Keyword KwShortint) || (has_kind k (Keyword KwInt) || (has_kind k (Keyword KwLongint) || (has_kind k (Keyword KwInteger) || has_kind k (Keyword KwTime))))))
unfolding atom_type integer_atom_type
atom_type_starts k = or_none ((has_kind k (Keyword KwByte) || (has_kind k (Keyword KwShortint) || (has_kind k (Keyword KwInt) || (has_kind k (Keyword KwLongint) || (has_kind k (Keyword KwInteger) || has_kind k (Keyword KwTime)))))))

pub atom_type_full : empties atom_type ≡ false
unfolding atom_type integer_atom_type
atom_type_full = refl

-- it begins as the keyword alone does
pub atom_type_begins : (k : Option Kind) → starts atom_type k ≡ starts integer_atom_type k
unfolding atom_type
atom_type_begins k = rw integer_atom_type_full (or_none (starts integer_atom_type k))

pub vector_type_starts : (k : Option Kind) → starts vector_type k ≡ (has_kind k (Keyword KwBit) || (has_kind k (Keyword KwLogic) || has_kind k (Keyword KwReg)))
unfolding vector_type integer_vector_type
vector_type_starts k = or_none ((has_kind k (Keyword KwBit) || (has_kind k (Keyword KwLogic) || has_kind k (Keyword KwReg))))

pub vector_type_begins : (k : Option Kind) → starts vector_type k ≡ starts integer_vector_type k
unfolding vector_type
vector_type_begins k = rw integer_vector_type_full (or_none (starts integer_vector_type k))

pub vector_type_full : empties vector_type ≡ false
unfolding vector_type integer_vector_type
vector_type_full = refl

pub named_type_starts : (k : Option Kind) → starts named_type k ≡ has_kind k Identifier
unfolding named_type scoped_name
named_type_starts k = simp or_none

pub named_type_full : empties named_type ≡ false
unfolding named_type scoped_name
named_type_full = refl

pub enum_base_starts : (k : Option Kind) → starts enum_base k ≡ (has_kind k (Keyword KwByte) || (has_kind k (Keyword KwShortint) || (has_kind k (Keyword KwInt) || (has_kind k (Keyword KwLongint) || (has_kind k (Keyword KwInteger) || (has_kind k (Keyword KwTime) || (has_kind k (Keyword KwBit) || (has_kind k (Keyword KwLogic) || (has_kind k (Keyword KwReg) || has_kind k Identifier)))))))))
unfolding enum_base atom_type integer_atom_type vector_type integer_vector_type named_type scoped_name
enum_base_starts k = simp (or_none, or_or)

pub enum_base_full : empties enum_base ≡ false
unfolding enum_base atom_type integer_atom_type vector_type integer_vector_type named_type scoped_name
enum_base_full = refl

pub enum_name_starts : (k : Option Kind) → starts enum_name k ≡ has_kind k Identifier
unfolding enum_name
enum_name_starts k = or_none (has_kind k Identifier)

pub enum_name_full : empties enum_name ≡ false
unfolding enum_name
enum_name_full = refl

pub more_enum_names_starts : (k : Option Kind) → starts more_enum_names k ≡ has_kind k Comma
unfolding more_enum_names
more_enum_names_starts k = or_none (has_kind k Comma)

pub enumeration_starts : (k : Option Kind) → starts enumeration k ≡ has_kind k (Keyword KwEnum)
unfolding enumeration
enumeration_starts k = or_none (has_kind k (Keyword KwEnum))

pub enumeration_full : empties enumeration ≡ false
unfolding enumeration
enumeration_full = refl

pub type_reference_starts : (k : Option Kind) → starts type_reference k ≡ (opens DataType k || has_kind k Identifier)
unfolding type_reference named_type scoped_name
type_reference_starts k = simp or_none

pub type_reference_full : empties type_reference ≡ false
unfolding type_reference named_type scoped_name
type_reference_full = refl

pub member_starts : (k : Option Kind) → starts member k ≡ (opens DataType k || has_kind k Identifier)
unfolding member type_reference named_type scoped_name
member_starts k = simp or_none

pub member_full : empties member ≡ false
unfolding member type_reference named_type scoped_name
member_full = refl

pub members_starts : (k : Option Kind) → starts members k ≡ (opens DataType k || has_kind k Identifier)
unfolding members member type_reference named_type scoped_name
members_starts k = simp or_none

pub structure_starts : (k : Option Kind) → starts structure k ≡ has_kind k (Keyword KwStruct)
unfolding structure
structure_starts k = or_none (has_kind k (Keyword KwStruct))

pub structure_full : empties structure ≡ false
unfolding structure
structure_full = refl

pub declared_type_end_starts : (k : Option Kind) → starts declared_type_end k ≡ (has_kind k ColonColon || (has_kind k LeftBracket || has_kind k Identifier))
unfolding declared_type_end dimensions dimension declared_name
declared_type_end_starts k = simp or_none

pub declared_type_starts : (k : Option Kind) → starts declared_type k ≡ (opens DataType k || (has_kind k (Keyword KwSigned) || (has_kind k (Keyword KwUnsigned) || (has_kind k LeftBracket || has_kind k Identifier))))
unfolding declared_type signing dimension
declared_type_starts k = simp (or_none, or_or)

pub declared_type_full : empties declared_type ≡ false
unfolding declared_type signing dimension
declared_type_full = refl

pub direction_starts : (k : Option Kind) → starts direction k ≡ (has_kind k (Keyword KwInput) || (has_kind k (Keyword KwOutput) || has_kind k (Keyword KwInout)))
unfolding direction
direction_starts k = refl

pub direction_full : empties direction ≡ false
unfolding direction
direction_full = refl

pub net_type_starts : (k : Option Kind) → starts net_type k ≡ (has_kind k (Keyword KwWire) || (has_kind k (Keyword KwTri) || (has_kind k (Keyword KwUwire) || (has_kind k (Keyword KwWand) || (has_kind k (Keyword KwWor) || (has_kind k (Keyword KwTriand) || (has_kind k (Keyword KwTrior) || (has_kind k (Keyword KwTri0) || (has_kind k (Keyword KwTri1) || (has_kind k (Keyword KwSupply0) || has_kind k (Keyword KwSupply1)))))))))))
unfolding net_type
net_type_starts k = refl

pub net_type_full : empties net_type ≡ false
unfolding net_type
net_type_full = refl

pub port_type_end_starts : (k : Option Kind) → starts port_type_end k ≡ (has_kind k ColonColon || (has_kind k Dot || (has_kind k LeftBracket || has_kind k Identifier)))
unfolding port_type_end dimensions dimension declared_name
port_type_end_starts k = simp or_none

pub port_type_starts : (k : Option Kind) → starts port_type k ≡ (opens DataType k || (has_kind k (Keyword KwSigned) || (has_kind k (Keyword KwUnsigned) || (has_kind k LeftBracket || has_kind k Identifier))))
unfolding port_type signing dimension
port_type_starts k = simp (or_none, or_or)

pub port_type_full : empties port_type ≡ false
unfolding port_type signing dimension
port_type_full = refl

pub port_kind_starts : (k : Option Kind) → starts port_kind k ≡ (has_kind k (Keyword KwVar) || (has_kind k (Keyword KwWire) || (has_kind k (Keyword KwTri) || (has_kind k (Keyword KwUwire) || (has_kind k (Keyword KwWand) || (has_kind k (Keyword KwWor) || (has_kind k (Keyword KwTriand) || (has_kind k (Keyword KwTrior) || (has_kind k (Keyword KwTri0) || (has_kind k (Keyword KwTri1) || (has_kind k (Keyword KwSupply0) || has_kind k (Keyword KwSupply1))))))))))))
unfolding port_kind net_type
port_kind_starts k = refl

pub port_kind_full : empties port_kind ≡ false
unfolding port_kind net_type
port_kind_full = refl

pub port_starts : (k : Option Kind) → starts port k ≡ (has_kind k (Keyword KwInput) || (has_kind k (Keyword KwOutput) || (has_kind k (Keyword KwInout) || (has_kind k (Keyword KwVar) || (has_kind k (Keyword KwWire) || (has_kind k (Keyword KwTri) || (has_kind k (Keyword KwUwire) || (has_kind k (Keyword KwWand) || (has_kind k (Keyword KwWor) || (has_kind k (Keyword KwTriand) || (has_kind k (Keyword KwTrior) || (has_kind k (Keyword KwTri0) || (has_kind k (Keyword KwTri1) || (has_kind k (Keyword KwSupply0) || (has_kind k (Keyword KwSupply1) || (opens DataType k || (has_kind k (Keyword KwSigned) || (has_kind k (Keyword KwUnsigned) || (has_kind k LeftBracket || has_kind k Identifier)))))))))))))))))))
unfolding port direction port_kind net_type port_type signing dimension
port_starts k = simp (or_none, or_or)

pub port_full : empties port ≡ false
unfolding port direction port_kind net_type port_type signing dimension
port_full = refl

pub more_ports_starts : (k : Option Kind) → starts more_ports k ≡ has_kind k Comma
unfolding more_ports
more_ports_starts k = or_none (has_kind k Comma)

pub port_row_starts : (k : Option Kind) → starts port_row k ≡ (has_kind k (Keyword KwInput) || (has_kind k (Keyword KwOutput) || (has_kind k (Keyword KwInout) || (has_kind k (Keyword KwVar) || (has_kind k (Keyword KwWire) || (has_kind k (Keyword KwTri) || (has_kind k (Keyword KwUwire) || (has_kind k (Keyword KwWand) || (has_kind k (Keyword KwWor) || (has_kind k (Keyword KwTriand) || (has_kind k (Keyword KwTrior) || (has_kind k (Keyword KwTri0) || (has_kind k (Keyword KwTri1) || (has_kind k (Keyword KwSupply0) || (has_kind k (Keyword KwSupply1) || (opens DataType k || (has_kind k (Keyword KwSigned) || (has_kind k (Keyword KwUnsigned) || (has_kind k LeftBracket || has_kind k Identifier)))))))))))))))))))
unfolding port_row port direction port_kind net_type port_type signing dimension
port_row_starts k = simp (or_none, or_or)

pub port_row_full : empties port_row ≡ false
unfolding port_row port direction port_kind net_type port_type signing dimension
port_row_full = refl

pub ports_starts : (k : Option Kind) → starts ports k ≡ has_kind k LeftParen
unfolding ports
ports_starts k = or_none (has_kind k LeftParen)

pub ports_full : empties ports ≡ false
unfolding ports
ports_full = refl

pub parameter_keyword_starts : (k : Option Kind) → starts parameter_keyword k ≡ (has_kind k (Keyword KwParameter) || has_kind k (Keyword KwLocalparam))
unfolding parameter_keyword
parameter_keyword_starts k = refl

pub parameter_keyword_full : empties parameter_keyword ≡ false
unfolding parameter_keyword
parameter_keyword_full = refl

pub parameter_port_starts : (k : Option Kind) → starts parameter_port k ≡ (has_kind k (Keyword KwParameter) || (has_kind k (Keyword KwLocalparam) || (opens DataType k || (has_kind k (Keyword KwSigned) || (has_kind k (Keyword KwUnsigned) || (has_kind k LeftBracket || has_kind k Identifier))))))
unfolding parameter_port parameter_keyword declared_type signing dimension
parameter_port_starts k = simp (or_none, or_or)

pub parameter_port_full : empties parameter_port ≡ false
unfolding parameter_port parameter_keyword declared_type signing dimension
parameter_port_full = refl

pub more_parameter_ports_starts : (k : Option Kind) → starts more_parameter_ports k ≡ has_kind k Comma
unfolding more_parameter_ports
more_parameter_ports_starts k = or_none (has_kind k Comma)

pub parameter_port_row_starts : (k : Option Kind) → starts parameter_port_row k ≡ (has_kind k (Keyword KwParameter) || (has_kind k (Keyword KwLocalparam) || (opens DataType k || (has_kind k (Keyword KwSigned) || (has_kind k (Keyword KwUnsigned) || (has_kind k LeftBracket || has_kind k Identifier))))))
unfolding parameter_port_row parameter_port parameter_keyword declared_type signing dimension
parameter_port_row_starts k = simp (or_none, or_or)

pub parameter_port_row_full : empties parameter_port_row ≡ false
unfolding parameter_port_row parameter_port parameter_keyword declared_type signing dimension
parameter_port_row_full = refl

pub parameter_ports_starts : (k : Option Kind) → starts parameter_ports k ≡ has_kind k Hash
unfolding parameter_ports
parameter_ports_starts k = or_none (has_kind k Hash)

pub parameter_ports_full : empties parameter_ports ≡ false
unfolding parameter_ports
parameter_ports_full = refl
