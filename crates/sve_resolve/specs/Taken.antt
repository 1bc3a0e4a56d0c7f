-- Which of the things that are given the parameters of a header take (own): one that an instance may override takes the one at the place of as many as can be overridden before it, and no other is looked at.
use Rattle.std.specs.Prelude.{◌≡◌, ◌<◌, ℕ, ◌^◌, true, if◌then◌else◌, List, [], ◌∷◌, ◌++◌, slice_get, is_some}
use Rattle.sve_tree.specs.declared.word.ParameterKeyword.TheVariants.{Parameter}
use Rattle.sve_tree.specs.declared.element.Definition.{Definition}
use Rattle.sve_tree.specs.declared.header.Header.{Header}
use Rattle.sve_tree.specs.declared.header.ParameterPort.{ParameterPort}
use Rattle.sve_spec.specs.declared.given.Given.{Given}
use Rattle.sve_spec.specs.declared.given.Given.TheVariants.{Default}
use Rattle.sve_env.specs.Told.{Told}
use Rattle.sve_formal.specs.declared.formal.Formal.{Formal}
use Rattle.sve_formal.specs.Formals.{formals_of, header_formals, keyword_after, list_formals, overridable_count}
use Rattle.sve_resolve.specs.declared.resolving.Resolving.{Resolving}
use Rattle.sve_resolve.specs.Within.{told_within}
use Rattle.sve_resolve.specs.Values.{found, given_or_default}
use Rattle.sve_resolve.specs.Resolving.{no_parameters, resolved, resolved_by, resolved_nodes, with_parameters}

-- what one of several parameters takes: nothing where it is local, else what stands at the place of as many as can be overridden before it
abbrev pub taken_by : List Given → List Formal → Formal → Given
taken_by given before formal = if formal.is_local then Default else given_or_default (slice_get given (overridable_count before))

-- a parameter behind those that are found, where it takes this
abbrev pub with_taken : Told → List Given → Given → Resolving → ParameterPort → Resolving
with_taken m given taken r port = resolved_by m given r port (keyword_after r.keyword port.keyword) (found (told_within m r.known) r.form r.is_array taken port)

-- a parameter of the list of a header takes what stands at its place
abbrev pub TakeInOrder : Type 0
TakeInOrder = (m : Told) (given : List Given) (before : List ParameterPort) (port : ParameterPort) (formal : Formal) →
    header_formals Parameter (before ++ port ∷ []) ≡ header_formals Parameter before ++ formal ∷ [] →
    overridable_count (header_formals Parameter before) < 2 ^ 64 →
    with_parameters m given no_parameters (before ++ port ∷ []) ≡ with_taken m given (taken_by given (header_formals Parameter before) formal) (with_parameters m given no_parameters before) port

-- what is given at another place changes nothing of what is found, nor of what is counted
abbrev pub TakeNoOthers : Type 0
TakeNoOthers = (m : Told) (given others : List Given) (header : Header) →
    ((place : ℕ) → place < overridable_count (list_formals header.parameters) → slice_get given place ≡ slice_get others place) →
    (resolved m given header ≡ resolved m others header) × (resolved_nodes m given header ≡ resolved_nodes m others header)

-- where a header has a list, the parameters of it are all that an instance may override
abbrev pub ListsHaveAll : Type 0
ListsHaveAll = (d : Definition) → is_some d.header.parameters ≡ true → overridable_count (formals_of d) ≡ overridable_count (list_formals d.header.parameters)
