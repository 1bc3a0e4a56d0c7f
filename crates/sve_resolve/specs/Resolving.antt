-- The parameters of a header in the order of the text, each over those before it (IEEE 1800-2017, 6.20 and 23.10).
use Rattle.std.specs.Prelude.{ℕ, ◌+◌, ◌-◌, ◌^◌, min, Bool, false, if◌then◌else◌, List, [], ◌∷◌, ◌++◌, slice_get, Option, Some, None}
use Rattle.sve_tree.specs.declared.word.ParameterKeyword.{ParameterKeyword}
use Rattle.sve_tree.specs.declared.word.ParameterKeyword.TheVariants.{Parameter}
use Rattle.sve_tree.specs.declared.header.Header.{Header}
use Rattle.sve_tree.specs.declared.header.ParameterPort.{ParameterPort}
use Rattle.sve_tree.specs.declared.header.ParameterPorts.{ParameterPorts}
use Rattle.sve_types.specs.DataType.{DataType}
use Rattle.sve_types.specs.declared.value.Value.{Value}
use Rattle.sve_fault.specs.Faults.{argument_of}
use Rattle.sve_spec.specs.declared.given.Given.{Given}
use Rattle.sve_spec.specs.declared.given.Given.TheVariants.{Default}
use Rattle.sve_env.specs.Told.{Told}
use Rattle.sve_formal.specs.Formals.{is_local_keyword, keyword_after}
use Rattle.sve_assigned.specs.declared.form.Form.TheVariants.{Free}
use Rattle.sve_resolve.specs.declared.found.Found.{Found}
use Rattle.sve_resolve.specs.declared.known.Known.{Known}
use Rattle.sve_resolve.specs.declared.resolving.Params.{Params}
use Rattle.sve_resolve.specs.declared.resolving.Resolving.{Resolving}
use Rattle.sve_resolve.specs.Known.{with_resolved}
use Rattle.sve_resolve.specs.Within.{told_within}
use Rattle.sve_resolve.specs.Values.{found, found_nodes, given_or_default}

abbrev pub no_parameters : Resolving
no_parameters = record { keyword = Parameter; place = 0; form = Free; is_array = false; known = record { names = []; parameters = [] }; notes = [] }

-- what a parameter is given; a local one is given nothing
abbrev pub given_for : List Given → Bool → ℕ → Given
given_for given local place = if local then Default else given_or_default (slice_get given place)

abbrev pub next_place : Bool → ℕ → ℕ
next_place local place = if local then place else min (place + 1) (2 ^ 64 - 1)

abbrev pub called_by : Option (List ℕ) → Known → ℕ → Bool → Option DataType → Option Value → Known
called_by None k token local t v = k
called_by (Some name) k token local t v = with_resolved k (record { name = name; token = token; is_local = local; ty = t; value = v })

abbrev pub called : Told → Known → ℕ → Bool → Option DataType → Option Value → Known
called m k token local t v = called_by (argument_of (m.text token)) k token local t v

abbrev pub parameters_in : Option ParameterPorts → List ParameterPort
parameters_in None = []
parameters_in (Some list) = list.parameters.items.items

module _ (m : Told) (given : List Given) where
  abbrev pub resolved_by : Resolving → ParameterPort → ParameterKeyword → Found → Resolving
  resolved_by r port keyword f = record {
    keyword = keyword;
    place = next_place (is_local_keyword keyword) r.place;
    form = f.form;
    is_array = f.is_array;
    known = called m r.known port.parameter.declarator.name (is_local_keyword keyword) f.ty f.value;
    notes = r.notes ++ f.notes;
  }

  abbrev pub resolved_under : Resolving → ParameterPort → ParameterKeyword → Resolving
  resolved_under r port keyword = resolved_by r port keyword (found (told_within m r.known) r.form r.is_array (given_for given (is_local_keyword keyword) r.place) port)

  abbrev pub with_parameter : Resolving → ParameterPort → Resolving
  with_parameter r port = resolved_under r port (keyword_after r.keyword port.keyword)

  abbrev pub parameter_nodes : Resolving → ParameterPort → ℕ
  parameter_nodes r port = found_nodes (told_within m r.known) (given_for given (is_local_keyword (keyword_after r.keyword port.keyword)) r.place) port

  -- ---- all of them

  unfoldable pub with_parameters : Resolving → List ParameterPort → Resolving
  with_parameters r [] = r
  with_parameters r (port ∷ ports) = with_parameters (with_parameter r port) ports

  unfoldable pub nodes_of_parameters : Resolving → List ParameterPort → ℕ
  nodes_of_parameters r [] = 0
  nodes_of_parameters r (port ∷ ports) = parameter_nodes r port + nodes_of_parameters (with_parameter r port) ports

  abbrev pub params_of : Resolving → Params
  params_of r = record { parameters = r.known.parameters; notes = r.notes }

  abbrev pub resolved : Header → Params
  resolved header = params_of (with_parameters no_parameters (parameters_in header.parameters))

  abbrev pub resolved_nodes : Header → ℕ
  resolved_nodes header = nodes_of_parameters no_parameters (parameters_in header.parameters)
