-- The rules of declarations and of the header of a module or an interface (IEEE 1800-2017, A.1.2, A.2.1, A.2.6 and A.2.9); each comment names the production of Annex A.
use Rattle.sve_token.specs.declared.kind.Kind.TheVariants.{Identifier, LeftParen, RightParen, Semicolon, Colon, Comma, Star, ColonColon}
use Rattle.sve_token.specs.declared.keywords.Keyword.TheVariants.{KwAutomatic, KwStatic, KwImport, KwTypedef, KwVar}
use Rattle.sve_grammar.specs.declared.symbol.Symbol.TheVariants.{DataType}
use Rattle.sve_grammar.specs.Rule.{Rule, tok, sym, ◌∙◌, ◌∣◌, many, opt, word}
use Rattle.sve_grammar.specs.Types.{declared_name, declared_type, declaration_end, initializer, type_reference, parameter_keyword, parameter_ports, ports, direction, net_type}

-- lifetime (A.2.1.3)
unfoldable pub lifetime : Rule
lifetime = word KwAutomatic ∣ word KwStatic

-- the name again behind an end or a begin: : identifier
unfoldable pub label : Rule
label = tok Colon ∙ tok Identifier

-- the one name, or all of them
unfoldable pub imported_name : Rule
imported_name = tok Identifier ∣ tok Star

-- package_import_item (A.2.1.3)
unfoldable pub import_item : Rule
import_item = tok Identifier ∙ tok ColonColon ∙ imported_name

unfoldable pub more_import_items : Rule
more_import_items = many (tok Comma ∙ import_item)

-- package_import_declaration (A.2.1.3)
unfoldable pub import_declaration : Rule
import_declaration = word KwImport ∙ import_item ∙ more_import_items ∙ tok Semicolon

-- { package_import_declaration }
unfoldable pub imports : Rule
imports = many import_declaration

-- the header of a module or an interface behind its keyword: module_ansi_header, interface_ansi_header (A.1.2)
unfoldable pub header : Rule
header = opt lifetime ∙ tok Identifier ∙ imports ∙ opt parameter_ports ∙ opt ports ∙ tok Semicolon

-- { , name = expression }
unfoldable pub more_parameters : Rule
more_parameters = many (tok Comma ∙ declared_name ∙ initializer)

-- parameter_declaration, local_parameter_declaration (A.2.1.1)
unfoldable pub parameter_declaration : Rule
parameter_declaration = parameter_keyword ∙ declared_type ∙ initializer ∙ more_parameters ∙ tok Semicolon

-- type_declaration (A.2.1.3)
unfoldable pub type_declaration : Rule
type_declaration = word KwTypedef ∙ type_reference ∙ declared_name ∙ tok Semicolon

-- net_declaration (A.2.1.3)
unfoldable pub net_declaration : Rule
net_declaration = net_type ∙ declared_type ∙ declaration_end ∙ tok Semicolon

-- data_declaration with var (A.2.1.3)
unfoldable pub variable_declaration : Rule
variable_declaration = word KwVar ∙ declared_type ∙ declaration_end ∙ tok Semicolon

-- data_declaration that begins with its type (A.2.1.3)
unfoldable pub data_declaration : Rule
data_declaration = sym DataType ∙ declared_name ∙ declaration_end ∙ tok Semicolon

-- a further port of a modport: modport_simple_port (A.2.9)
unfoldable pub modport_port : Rule
modport_port = opt direction ∙ tok Identifier

unfoldable pub more_modport_ports : Rule
more_modport_ports = many (tok Comma ∙ modport_port)

-- modport_item (A.2.9)
unfoldable pub modport_item : Rule
modport_item = tok Identifier ∙ tok LeftParen ∙ direction ∙ tok Identifier ∙ more_modport_ports ∙ tok RightParen
