-- The instances of a design with what is found of their bodies, wherever that lies in memory (IEEE 1800-2017, 23.3).
use Rattle.std.specs.Prelude.{List, [], ◌∷◌, refl}
use Rattle.std.specs.Coded.{Coded, code_by, coded×}
use Rattle.sve_facts.specs.declared.facts.Facts.{Facts}
use Rattle.sve_facts.specs.contracts.facts.Facts as facts
use Rattle.sve_design.specs.declared.visits.Visit.{Visit}
use Rattle.sve_design.specs.contracts.visits.Visit as visit
use Rattle.sve_survey.specs.Seen.{Instance}
use Rattle.sve_survey.specs.Visitors.{VisitorState}

pub record SurveyedValue : Type 0 where
  pub visit : Visit
  pub facts : Facts

-- they are told apart by both
abbrev pub surveyed_code : Coded SurveyedValue
surveyed_code = code_by (Visit × Facts) (coded× visit.the_row.coded facts.the_row.coded) (λ s. (s.visit, s.facts)) (λ p. record { visit = p.0; facts = p.1 }) (λ _. refl)

-- each instance gives itself
abbrev pub surveyed_of : Instance → List SurveyedValue
surveyed_of instance = record { visit = instance.visit; facts = instance.facts } ∷ []

-- the visitor that holds these instances
abbrev pub surveyor : List SurveyedValue → VisitorState SurveyedValue
surveyor instances = record { meaning = surveyed_of; held = instances }
