-- The specializations of the tops of a design (IEEE 1800-2017, 23.3.1 and 23.10).
use Rattle.std.specs.Prelude.{◌≡◌, ℕ, List, [], Option, Some, None, map}
use Rattle.std.specs.List.{filter}
use Rattle.sve_table.specs.Tables.{item_of}
use Rattle.sve_tree.specs.declared.element.Definition.{Definition}
use Rattle.sve_tree.specs.declared.element.Element.{Element}
use Rattle.sve_tree.specs.Elements.{element_definition}
use Rattle.sve_index.specs.declared.def.Def.{Def}
use Rattle.sve_index.specs.Defs.{def_name}
use Rattle.sve_spec.specs.declared.given.Given.{Given}
use Rattle.sve_spec.specs.declared.given.Given.TheVariants.{Default}
use Rattle.sve_spec.specs.declared.spec.Spec.{Spec}
use Rattle.sve_formal.specs.declared.formal.Formal.{Formal}
use Rattle.sve_formal.specs.Formals.{can_be_overridden, formals_of}
use Rattle.sve_project.specs.Projects.{ProjectValue, tree_in}

-- each parameter that can be overridden has its default
abbrev pub defaults_of : List Formal → List Given
defaults_of formals = map (λ formal. Default) (filter can_be_overridden formals)

abbrev pub values_by : Option Definition → List Given
values_by None = []
values_by (Some definition) = defaults_of (formals_of definition)

abbrev pub values_in : Option Element → List Given
values_in None = []
values_in (Some tree) = values_by (element_definition tree)

-- by where the definition stands
abbrev pub values_at : ProjectValue → Option Def → List Given
values_at p None = []
values_at p (Some def) = values_in (tree_in p def.file def.chunk)

-- a module that overrides nothing, and whose interface ports are given nothing
unfoldable pub top_spec : ProjectValue → List ℕ → Spec
top_spec p name = record { definition = name; values = values_at p (item_of def_name name p.index.definitions); faces = [] }
