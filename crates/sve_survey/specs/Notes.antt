-- What is to be said of the instances of a design (own).
use Rattle.std.specs.Prelude.{List, ◌++◌}
use Rattle.sve_diag.specs.declared.diag.Note.{Note}
use Rattle.sve_design.specs.Places.{deep_notes}
use Rattle.sve_survey.specs.Surveyed.{SurveyedValue}

-- what is to be said of an instance: of its body, and then of the instances in it that would stand too deep
abbrev pub notes_of : SurveyedValue → List Note
notes_of instance = instance.facts.notes ++ deep_notes instance.visit instance.facts
