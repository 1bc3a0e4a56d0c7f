-- The answers about the instances of a design, and about what is declared in them (own; IEEE 1800-2017, clauses 6 and 23).
use Rattle.std.specs.Prelude.{◌≡◌, ℕ, Option, Some, None, List, [], ◌∷◌}
use Rattle.sve_bytes.specs.declared.path.Path.{Path}
use Rattle.sve_bytes.specs.declared.path.Step.{Step}
use Rattle.sve_diag.specs.declared.diag.Place.{Place}
use Rattle.sve_text.specs.Rows.{Row}
use Rattle.sve_scope.specs.declared.declared.Declared.{Declared}
use Rattle.sve_design.specs.declared.visits.Visit.{Visit}
use Rattle.sve_design.specs.Walk.{walk}
use Rattle.sve_find.specs.Ends.{FindValue, FoundValue, Here, Nowhere, Spent}
use Rattle.sve_find.specs.Along.{find}
use Rattle.sve_listing.specs.Files.{none}
use Rattle.sve_listing.specs.Lists.{file_text}
use Rattle.sve_facts_lines.specs.Instances.{instance_lines}
use Rattle.sve_facts_lines.specs.Things.{param_lines, type_lines}
use Rattle.sve_tree_lines.specs.Tree.{tree_lines}
use Rattle.sve_store.specs.declared.answer.Answer.{Answer}
use Rattle.sve_store.specs.declared.answer.Answer.TheVariants as is_answer
use Rattle.sve_named.specs.Projects.{ProjectValue}
use Rattle.sve_named.specs.Replies.{design_of}
use Rattle.sve_named.specs.Named.{named_at}
use Rattle.sve_design_answers.specs.Paths.{IsPathOf, plain_name}
use Rattle.sve_design_answers.specs.Places.{instance_place, place_of}

-- where the way along a path ends; what is no path leads nowhere, and costs nothing
abbrev pub found_on : ProjectValue → Option Path → ℕ → FindValue
found_on p None budget = Nowhere
found_on p (Some path) budget = find (design_of p) budget path

-- An answer is spent exactly where the instances on the way cost more than the budget. A path that names nothing is answered as a thing that is not there.
abbrev pub answered_by : (FoundValue → List (List ℕ)) → FindValue → Answer
answered_by lines (Here found) = is_answer.Done (lines found)
answered_by lines Nowhere = is_answer.Done none
answered_by lines Spent = is_answer.Spent

-- ---- an instance

abbrev pub lines_at : List Row → FoundValue → Option Place → List (List ℕ)
lines_at rows found None = none
lines_at rows found (Some place) = instance_lines found.visit.spec.definition place (file_text rows place.file) found.facts

-- a generate block is no instance
abbrev pub lines_of_rest : List Row → ProjectValue → FoundValue → List Step → List (List ℕ)
lines_of_rest rows p found [] = lines_at rows found (instance_place p found)
lines_of_rest rows p found (step ∷ steps) = none

abbrev pub lines_of_instance : List Row → ProjectValue → FoundValue → List (List ℕ)
lines_of_instance rows p found = lines_of_rest rows p found found.rest

abbrev pub instance_answer : List Row → ProjectValue → Option Path → ℕ → Answer
instance_answer rows p path budget = answered_by (lines_of_instance rows p) (found_on p path budget)

-- ---- what a name is declared as

-- What a plain name stands for at the end of the way; what is no name stands for nothing.
abbrev pub declared_at : ProjectValue → Option (List ℕ) → FoundValue → Option Declared
declared_at p None found = None
declared_at p (Some n) found = named_at p found n

abbrev pub type_at : List Row → Declared → Option Place → List (List ℕ)
type_at rows d None = none
type_at rows d (Some place) = type_lines d.what place (file_text rows place.file)

abbrev pub lines_of_type : List Row → ProjectValue → Option Declared → List (List ℕ)
lines_of_type rows p None = none
lines_of_type rows p (Some d) = type_at rows d (place_of p d.at)

abbrev pub type_answer : List Row → ProjectValue → Option Path → Option Path → ℕ → Answer
type_answer rows p path name budget = answered_by (λ found. lines_of_type rows p (declared_at p (plain_name name) found)) (found_on p path budget)

-- ---- a parameter's value

abbrev pub lines_of_param : Option Declared → List (List ℕ)
lines_of_param None = none
lines_of_param (Some d) = param_lines d.what

abbrev pub param_answer : ProjectValue → Option Path → Option Path → ℕ → Answer
param_answer p path name budget = answered_by (λ found. lines_of_param (declared_at p (plain_name name) found)) (found_on p path budget)

-- ---- all instances

-- where the budget is enough for them
abbrev pub answer_of_walk : Option (List Visit) → Answer
answer_of_walk None = is_answer.Spent
answer_of_walk (Some visits) = is_answer.Done (tree_lines visits)

abbrev pub tree_answer : ProjectValue → ℕ → Answer
tree_answer p budget = answer_of_walk (walk (design_of p) budget)

-- ---- over the texts of a query

-- the answer about the instance at the path that a text spells
abbrev pub IsInstanceAnswer : List Row → ProjectValue → List ℕ → ℕ → Answer → Type 0
IsInstanceAnswer rows p path budget answer = (at : Option Path) × IsPathOf path at × (answer ≡ instance_answer rows p at budget)

-- the answers about the name that a second text spells there
abbrev pub IsTypeAnswer : List Row → ProjectValue → List ℕ → List ℕ → ℕ → Answer → Type 0
IsTypeAnswer rows p path name budget answer =
    (at : Option Path) × (called : Option Path) × IsPathOf path at × IsPathOf name called × (answer ≡ type_answer rows p at called budget)

abbrev pub IsParamAnswer : ProjectValue → List ℕ → List ℕ → ℕ → Answer → Type 0
IsParamAnswer p path name budget answer =
    (at : Option Path) × (called : Option Path) × IsPathOf path at × IsPathOf name called × (answer ≡ param_answer p at called budget)
