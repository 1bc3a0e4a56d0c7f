-- The alternatives of item (IEEE 1800-2017, A.1.4) and of unit_item (A.1.11) by their numbers from 0, and to which of them a token leads (own).
use Rattle.std.specs.Prelude.{ℕ, List, [], ◌∷◌, Option, Some, None, Result, Ok, Err, true, false, ◌≡◌}
use Rattle.sve_token.specs.declared.kind.Kind.{Kind}
use Rattle.sve_token.specs.declared.kind.Kind.TheVariants.{Semicolon, Identifier}
use Rattle.sve_token.specs.declared.token.Token.{Token}
use Rattle.sve_grammar.specs.Token.{kind_at, has_kind}
use Rattle.sve_grammar.specs.Rule.{Rule, tok, ◌∙◌, starts, opens}
use Rattle.sve_grammar.specs.Declarations.{import_declaration, parameter_declaration, type_declaration, net_declaration, variable_declaration, data_declaration}
use Rattle.sve_grammar.specs.Statements.{system_task, function_declaration}
use Rattle.sve_grammar.specs.Items.{item, genvar_declaration, continuous_assign, clocked_procedure, plain_procedure, generate_region, loop_generate, if_generate, case_generate, modport_declaration, named_item, unit_item}
use Rattle.sve_grammar.specs.declared.symbol.Symbol.TheVariants.{Item}
use Rattle.sve_grammar.specs.declared.stop.Stop.{Stop}
use Rattle.sve_grammar.specs.Reading.{Answer, reads, symbol}
use Rattle.sve_grammar.specs.Gives.{Enters}
use Rattle.sve_parse_expr.specs.Alternatives.{alternative, last_alternative}
use Rattle.sve_parse_form.specs.Forms.{first_begun}
use Rattle.sve_parse_flat_item.specs.declared.begins.PackageForm.{PackageForm}
use Rattle.sve_parse_flat_item.specs.declared.begins.DeclarationForm.{DeclarationForm}
use Rattle.sve_parse_flat_item.specs.declared.begins.ProcessForm.{ProcessForm}
use Rattle.sve_parse_flat_item.specs.declared.begins.ConstructForm.{ConstructForm}
use Rattle.sve_parse_flat_item.specs.declared.begins.ItemForm.{ItemForm}
use Rattle.sve_parse_flat_item.specs.declared.begins.PackageForm.TheVariants as package_forms
use Rattle.sve_parse_flat_item.specs.declared.begins.DeclarationForm.TheVariants as declarations
use Rattle.sve_parse_flat_item.specs.declared.begins.ProcessForm.TheVariants as processes
use Rattle.sve_parse_flat_item.specs.declared.begins.ConstructForm.TheVariants as constructs
use Rattle.sve_parse_flat_item.specs.declared.begins.ItemForm.TheVariants as forms

-- the alternatives of item
abbrev pub item_alternatives : List Rule
item_alternatives =
    tok Semicolon ∷ import_declaration ∷ parameter_declaration ∷ type_declaration ∷ function_declaration
    ∷ genvar_declaration ∷ net_declaration ∷ variable_declaration ∷ data_declaration
    ∷ continuous_assign ∷ clocked_procedure ∷ plain_procedure
    ∷ generate_region ∷ loop_generate ∷ if_generate ∷ case_generate
    ∷ modport_declaration ∷ system_task ∷ (tok Identifier ∙ named_item) ∷ []

-- the number of each
abbrev pub package_number : PackageForm → ℕ
package_number package_forms.Empty = 0
package_number package_forms.Import = 1
package_number package_forms.Parameters = 2
package_number package_forms.Typedef = 3
package_number package_forms.Function = 4

abbrev pub number_of : ItemForm → ℕ
number_of (forms.Package form) = package_number form
number_of (forms.Declaration declarations.Genvars) = 5
number_of (forms.Declaration declarations.Net) = 6
number_of (forms.Declaration declarations.Variable) = 7
number_of (forms.Declaration declarations.Data) = 8
number_of (forms.Process processes.Assign) = 9
number_of (forms.Process processes.Clocked) = 10
number_of (forms.Process processes.Plain) = 11
number_of (forms.Construct constructs.Region) = 12
number_of (forms.Construct constructs.Loop) = 13
number_of (forms.Construct constructs.If) = 14
number_of (forms.Construct constructs.Case) = 15
number_of (forms.Declaration declarations.Modports) = 16
number_of (forms.Process processes.SystemTask) = 17
number_of (forms.Process processes.Named) = 18

-- the form is that of the first alternative that can begin with this kind, or there is none
abbrev pub IsFormOf : Option Kind → Option ItemForm → Type 0
IsFormOf k None = first_begun item_alternatives k ≡ 19
IsFormOf k (Some form) = first_begun item_alternatives k ≡ number_of form

-- the rule of each
abbrev pub package_rule : PackageForm → Rule
package_rule package_forms.Empty = tok Semicolon
package_rule package_forms.Import = import_declaration
package_rule package_forms.Parameters = parameter_declaration
package_rule package_forms.Typedef = type_declaration
package_rule package_forms.Function = function_declaration

-- the way of each in unit_item, which has no others
abbrev pub unit_way : PackageForm → Answer → Answer
unit_way package_forms.Function = last_alternative 4
unit_way form = alternative (package_number form)

-- a rule is read here by one of its alternatives, at every depth
abbrev pub Leads : List Token → ℕ → Rule → (Answer → Answer) → Rule → Type 0
Leads ts i whole way r = (n : ℕ) → reads ts (symbol ts n) whole i ≡ way (reads ts (symbol ts n) r i)

abbrev pub PackageLeads : List Token → ℕ → PackageForm → Type 0
PackageLeads ts i form = Leads ts i item (alternative (package_number form)) (package_rule form)

abbrev pub DeclarationLeads : List Token → ℕ → DeclarationForm → Type 0
DeclarationLeads ts i declarations.Genvars = Leads ts i item (alternative 5) genvar_declaration
DeclarationLeads ts i declarations.Net = Leads ts i item (alternative 6) net_declaration
DeclarationLeads ts i declarations.Variable = Leads ts i item (alternative 7) variable_declaration
DeclarationLeads ts i declarations.Data = Leads ts i item (alternative 8) data_declaration
DeclarationLeads ts i declarations.Modports = Leads ts i item (alternative 16) modport_declaration

abbrev pub ProcessLeads : List Token → ℕ → ProcessForm → Type 0
ProcessLeads ts i processes.Assign = Leads ts i item (alternative 9) continuous_assign
ProcessLeads ts i processes.Clocked = Leads ts i item (alternative 10) clocked_procedure
ProcessLeads ts i processes.Plain = Leads ts i item (alternative 11) plain_procedure
ProcessLeads ts i processes.SystemTask = Leads ts i item (alternative 17) system_task
ProcessLeads ts i processes.Named = has_kind (kind_at ts i) Identifier ≡ true

abbrev pub ConstructLeads : List Token → ℕ → ConstructForm → Type 0
ConstructLeads ts i constructs.Region = Leads ts i item (alternative 12) generate_region
ConstructLeads ts i constructs.Loop = Leads ts i item (alternative 13) loop_generate
ConstructLeads ts i constructs.If = Leads ts i item (alternative 14) if_generate
ConstructLeads ts i constructs.Case = Leads ts i item (alternative 15) case_generate

abbrev pub LeadsTo : List Token → ℕ → ItemForm → Type 0
LeadsTo ts i (forms.Package form) = PackageLeads ts i form
LeadsTo ts i (forms.Declaration form) = DeclarationLeads ts i form
LeadsTo ts i (forms.Process form) = ProcessLeads ts i form
LeadsTo ts i (forms.Construct form) = ConstructLeads ts i form

-- an item begins here, and has this form; or none does
abbrev pub FindsItem : List Token → ℕ → Option ItemForm → Type 0
FindsItem ts i None = opens Item (kind_at ts i) ≡ false
FindsItem ts i (Some form) = (opens Item (kind_at ts i) ≡ true) × LeadsTo ts i form

-- the item that begins here gives way to its rule, one deeper, and has this form
abbrev pub EntersItem : List Token → ℕ → ℕ → Result (ItemForm × ℕ) Stop → Type 0
EntersItem ts d i (Ok x) = Enters ts d Item i (Ok x.1) × LeadsTo ts i x.0
EntersItem ts d i (Err e) = Enters ts d Item i (Err e)

abbrev pub UnitLeads : List Token → ℕ → PackageForm → Type 0
UnitLeads ts i form = Leads ts i unit_item (unit_way form) (package_rule form)

-- the form of the item of a package that begins here, or none does
abbrev pub FindsUnitItem : List Token → ℕ → Option PackageForm → Type 0
FindsUnitItem ts i None = starts unit_item (kind_at ts i) ≡ false
FindsUnitItem ts i (Some form) = (starts unit_item (kind_at ts i) ≡ true) × UnitLeads ts i form
