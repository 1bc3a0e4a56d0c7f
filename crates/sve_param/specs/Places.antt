-- The names of the parameters of a module or an interface, and the places of those that an instance may override (IEEE 1800-2017, 23.10).
use Rattle.std.specs.Prelude.{ℕ, List, [], ◌∷◌, ◌++◌, length, Option, Some, None, if◌then◌else◌}
use Rattle.std.specs.List.{fold}
use Rattle.sve_table.specs.Tables.{with_item}
use Rattle.sve_tree.specs.declared.element.Definition.{Definition}
use Rattle.sve_tree.specs.declared.element.Element.{Element}
use Rattle.sve_tree.specs.declared.token_word.Word.{Word}
use Rattle.sve_tree.specs.Elements.{element_definition}
use Rattle.sve_known.specs.Naming.{name_at}
use Rattle.sve_spec.specs.declared.given.Given.TheVariants.{Default}
use Rattle.sve_formal.specs.declared.formal.Formal.{Formal}
use Rattle.sve_formal.specs.Formals.{formals_of}
use Rattle.sve_param.specs.declared.numbered.Numbered.{Numbered}
use Rattle.sve_param.specs.declared.numbered.Parameter.{Parameter}

abbrev pub parameter_name : Parameter → List ℕ
parameter_name p = p.name

-- a place is the number of those before it that can be overridden
abbrev pub place_of : Formal → ℕ → Option ℕ
place_of formal before = if formal.is_local then None else Some before

abbrev pub with_required : Numbered → Formal → Option ℕ → Numbered
with_required n formal place = if formal.has_value then n else record n { required = n.required ++ (record { token = formal.token; place = place }) ∷ [] }

abbrev pub with_default : Numbered → Formal → Numbered
with_default n formal = if formal.is_local then n else record n { given = n.given ++ Default ∷ [] }

-- of two parameters of one name the first stays
abbrev pub with_name : Numbered → Option (List ℕ) → Option ℕ → Numbered
with_name n None place = n
with_name n (Some name) place = record n { parameters = with_item parameter_name n.parameters (record { name = name; place = place }) }

abbrev pub with_formal : List Word → Numbered → Formal → Numbered
with_formal words n formal =
    with_name (with_default (with_required n formal (place_of formal (length n.given))) formal) (name_at words formal.token) (place_of formal (length n.given))

abbrev pub no_parameters : Numbered
no_parameters = record { parameters = []; given = []; required = [] }

-- the parameters of an element in the order of the text
abbrev pub formals_by : Option Definition → List Formal
formals_by None = []
formals_by (Some definition) = formals_of definition

abbrev pub formals_in : Element → List Formal
formals_in element = formals_by (element_definition element)

abbrev pub numbered : Element → Numbered
numbered element = fold (with_formal element.words.items) no_parameters (formals_in element)
