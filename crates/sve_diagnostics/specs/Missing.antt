-- The hierarchical names of a design that are not found (IEEE 1800-2017, 23.6 and 23.8): they are sought among all its instances.
use Rattle.std.specs.Prelude.{ℕ, if◌then◌else◌, List, [], ◌∷◌, Option, Some, None, map}
use Rattle.std.specs.List.{flat_map}
use Rattle.sve_bytes.specs.declared.path.Path.{Path}
use Rattle.sve_bytes.specs.declared.path.Step.{Step}
use Rattle.sve_diag.specs.declared.code.Code.TheVariants.{N10}
use Rattle.sve_diag.specs.declared.diag.Note.{Note}
use Rattle.sve_facts.specs.declared.facts.BodyScope.{BodyScope}
use Rattle.sve_facts.specs.declared.facts.HierarchicalUse.{HierarchicalUse}
use Rattle.sve_design.specs.Walk.{inside}
use Rattle.sve_hier.specs.Instances.{InstanceValue}
use Rattle.sve_hier.specs.Places.{Places, place_at, places}
use Rattle.sve_hier.specs.Uses.{is_found}
use Rattle.sve_survey.specs.Surveyed.{SurveyedValue}

-- the instances and their generate blocks, by their paths
abbrev pub instance_of : SurveyedValue → InstanceValue
instance_of s = record { path = s.visit.path; module_name = s.visit.spec.definition; facts = s.facts }

abbrev pub places_among : List SurveyedValue → Places
places_among instances = place_at (places (map instance_of instances))

-- what is to be said of a name: N10 at its first token, by its first step
abbrev pub first_name : List Step → Option (List ℕ)
first_name [] = None
first_name (s ∷ rest) = Some s.name

abbrev pub missing_note : BodyScope → HierarchicalUse → Note
missing_note own used = record { file = own.scope.file; chunk = own.scope.chunk; token = used.token; code = N10; arg = first_name used.name.steps }

-- of a name in the body of the instance at a path, where it is not found from the scope in which it is used
abbrev pub missing_in : Places → Path → BodyScope → HierarchicalUse → List Note
missing_in at path own used = if is_found at (inside path used.scope) used.name then [] else missing_note own used ∷ []

-- the text of a body is that of its own scope
abbrev pub missing_by : Places → Path → List HierarchicalUse → List BodyScope → List Note
missing_by at path uses [] = []
missing_by at path uses (own ∷ blocks) = flat_map (missing_in at path own) uses

abbrev pub missing_of : Places → SurveyedValue → List Note
missing_of at s = missing_by at s.visit.path s.facts.hierarchical s.facts.scopes

-- of all names in all bodies
abbrev pub all_missing : List SurveyedValue → List Note
all_missing instances = flat_map (missing_of (places_among instances)) instances
