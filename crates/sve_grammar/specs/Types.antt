-- The rules of data types, of names that are declared, and of ports (IEEE 1800-2017, A.2.2.1, A.2.3, A.2.5 and A.1.3); each comment names the production of Annex A.
use Rattle.sve_token.specs.declared.kind.Kind.TheVariants.{Identifier, LeftParen, RightParen, LeftBrace, RightBrace, Semicolon, Comma, Dot, Hash, Assign, ColonColon}
use Rattle.sve_token.specs.declared.keywords.Keyword.TheVariants.{KwString, KwEnum, KwStruct, KwPacked, KwParameter, KwLocalparam, KwInput, KwOutput, KwInout, KwVar, KwWire, KwTri, KwUwire, KwWand, KwWor, KwTriand, KwTrior, KwTri0, KwTri1, KwSupply0, KwSupply1}
use Rattle.sve_grammar.specs.declared.symbol.Symbol.TheVariants.{Expression, DataType}
use Rattle.sve_grammar.specs.Rule.{Rule, tok, sym, ◌∙◌, ◌∣◌, many, opt, word}
use Rattle.sve_grammar.specs.Expressions.{signing, integer_atom_type, integer_vector_type, dimension, dimensions, scoped_name}

-- ---- names

-- { , identifier }
unfoldable pub more_identifiers : Rule
more_identifiers = many (tok Comma ∙ tok Identifier)

-- a name that is declared, with its unpacked dimensions
unfoldable pub declared_name : Rule
declared_name = tok Identifier ∙ dimensions

-- = expression
unfoldable pub initializer : Rule
initializer = tok Assign ∙ sym Expression

-- { , name [ = expression ] }
unfoldable pub more_declarators : Rule
more_declarators = many (tok Comma ∙ declared_name ∙ opt initializer)

-- behind the first declared name, its value and the other names: list_of_variable_decl_assignments (A.2.3)
unfoldable pub declaration_end : Rule
declaration_end = opt initializer ∙ more_declarators

-- ---- types

-- an integer type of a width of its own, and its signing: data_type (A.2.2.1)
unfoldable pub atom_type : Rule
atom_type = integer_atom_type ∙ opt signing

-- an integer type of one bit for each place, its signing and its packed dimensions: data_type (A.2.2.1)
unfoldable pub vector_type : Rule
vector_type = integer_vector_type ∙ opt signing ∙ dimensions

-- a type by its name: type_identifier with package scope and packed dimensions (A.2.2.1)
unfoldable pub named_type : Rule
named_type = scoped_name ∙ dimensions

-- enum_base_type (A.2.2.1)
unfoldable pub enum_base : Rule
enum_base = atom_type ∣ vector_type ∣ named_type

-- enum_name_declaration (A.2.2.1)
unfoldable pub enum_name : Rule
enum_name = tok Identifier ∙ opt initializer

unfoldable pub more_enum_names : Rule
more_enum_names = many (tok Comma ∙ enum_name)

-- an enumeration: data_type (A.2.2.1)
unfoldable pub enumeration : Rule
enumeration = word KwEnum ∙ opt enum_base ∙ tok LeftBrace ∙ enum_name ∙ more_enum_names ∙ tok RightBrace ∙ dimensions

-- any type: data_type (A.2.2.1)
unfoldable pub type_reference : Rule
type_reference = sym DataType ∣ named_type

-- struct_union_member (A.2.2.1)
unfoldable pub member : Rule
member = type_reference ∙ tok Identifier ∙ more_identifiers ∙ tok Semicolon

-- { struct_union_member }
unfoldable pub members : Rule
members = many member

-- a packed structure: data_type (A.2.2.1)
unfoldable pub structure : Rule
structure = word KwStruct ∙ word KwPacked ∙ opt signing ∙ tok LeftBrace ∙ member ∙ members ∙ tok RightBrace ∙ dimensions

-- data_type that begins with a keyword (A.2.2.1)
unfoldable pub data_type : Rule
data_type = atom_type ∣ vector_type ∣ word KwString ∣ enumeration ∣ structure

-- behind an identifier that is the name of a type, of a package or what is declared
unfoldable pub declared_type_end : Rule
declared_type_end = tok ColonColon ∙ tok Identifier ∙ dimensions ∙ declared_name ∣ dimensions ∙ opt declared_name

-- a name with its type, which may be left out: data_type_or_implicit and an identifier (A.2.2.1)
unfoldable pub declared_type : Rule
declared_type =
    sym DataType ∙ declared_name
    ∣ signing ∙ dimensions ∙ declared_name
    ∣ dimension ∙ dimensions ∙ declared_name
    ∣ tok Identifier ∙ declared_type_end

-- ---- ports

-- port_direction (A.1.3)
unfoldable pub direction : Rule
direction = word KwInput ∣ word KwOutput ∣ word KwInout

-- net_type (A.2.2.1)
unfoldable pub net_type : Rule
net_type =
    word KwWire ∣ word KwTri ∣ word KwUwire ∣ word KwWand ∣ word KwWor ∣ word KwTriand ∣ word KwTrior ∣ word KwTri0 ∣ word KwTri1 ∣ word KwSupply0 ∣ word KwSupply1

-- behind an identifier that is a type, a package, an interface or the port
unfoldable pub port_type_end : Rule
port_type_end =
    tok ColonColon ∙ tok Identifier ∙ dimensions ∙ declared_name
    ∣ tok Dot ∙ tok Identifier ∙ declared_name
    ∣ dimensions ∙ opt declared_name

-- the type and the name of a port: net_port_type, variable_port_type, interface_port_header (A.1.3)
unfoldable pub port_type : Rule
port_type =
    sym DataType ∙ declared_name
    ∣ signing ∙ dimensions ∙ declared_name
    ∣ dimension ∙ dimensions ∙ declared_name
    ∣ tok Identifier ∙ port_type_end

-- whether a port is a variable or which net it is
unfoldable pub port_kind : Rule
port_kind = word KwVar ∣ net_type

-- ansi_port_declaration (A.1.3)
unfoldable pub port : Rule
port = opt direction ∙ opt port_kind ∙ port_type

unfoldable pub more_ports : Rule
more_ports = many (tok Comma ∙ port)

unfoldable pub port_row : Rule
port_row = port ∙ more_ports

-- list_of_port_declarations (A.1.3)
unfoldable pub ports : Rule
ports = tok LeftParen ∙ opt port_row ∙ tok RightParen

-- ---- parameters of a header

unfoldable pub parameter_keyword : Rule
parameter_keyword = word KwParameter ∣ word KwLocalparam

-- parameter_port_declaration (A.1.3)
unfoldable pub parameter_port : Rule
parameter_port = opt parameter_keyword ∙ declared_type ∙ opt initializer

unfoldable pub more_parameter_ports : Rule
more_parameter_ports = many (tok Comma ∙ parameter_port)

unfoldable pub parameter_port_row : Rule
parameter_port_row = parameter_port ∙ more_parameter_ports

-- parameter_port_list (A.1.3)
unfoldable pub parameter_ports : Rule
parameter_ports = tok Hash ∙ tok LeftParen ∙ opt parameter_port_row ∙ tok RightParen
