-- All that is wrong in a design, by clauses 3, 22, 23, 26 and 27 of IEEE 1800-2017 and its Annex A.
use Rattle.std.specs.Prelude.{ℕ, Bool, true, false, if◌then◌else◌, List, [], ◌∷◌, ◌++◌, Option, Some, None, option_map}
use Rattle.std.specs.List.{flat_map}
use Rattle.sve_diag.specs.declared.code.Code.{Code}
use Rattle.sve_diag.specs.declared.code.Code.TheVariants.{N10}
use Rattle.sve_diag.specs.declared.diag.Diag.{Diag}
use Rattle.sve_diag.specs.declared.diag.Note.{Note}
use Rattle.sve_diag.specs.declared.diag.Place.{Place}
use Rattle.sve_diag.specs.DiagOrder.{diag_cmp}
use Rattle.sve_ordered.specs.Ordered.{ordered}
use Rattle.sve_facts.specs.Bodies.{Design}
use Rattle.sve_known.specs.Packages.{Known}
use Rattle.sve_front.specs.declared.unit.Unit.{Unit}
use Rattle.sve_front.specs.Places.{token_place_in}
use Rattle.sve_survey.specs.Notes.{notes_of}
use Rattle.sve_survey.specs.Surveyed.{SurveyedValue, surveyed_of}
use Rattle.sve_survey.specs.Visitors.{given_by_all}
use Rattle.sve_diagnostics.specs.Missing.{all_missing}

-- what a note says, where its token has a place
abbrev pub diags_at : Note → Option Place → List Diag
diags_at note None = []
diags_at note (Some place) = record { place = place; code = note.code; arg = note.arg } ∷ []

-- Of a body a note with N10 says no more than that the first of several names stands for nothing there: it may be found around the instance (23.8).
abbrev pub is_told : Code → Bool
is_told N10 = false
is_told code = true

module _ (units : List Unit) where
  -- what a note says, at the place of its token
  unfoldable pub note_diags : Note → List Diag
  note_diags note = diags_at note (token_place_in units note.file note.chunk note.token)

  -- the same of a note of an instance, where that is told
  abbrev pub told_diags : Note → List Diag
  told_diags note = if is_told note.code then note_diags note else []

  abbrev pub package_diags : Known → List Diag
  package_diags known = flat_map note_diags known.facts.notes

  -- What there is to say of texts, what these notes of an index say, the notes of each of these packages, and of the instances, of which the last are
  -- the notes and what is said of hierarchical names.
  unfoldable pub gathered : List Diag → List Note → List Known → List Note → List Note → List Diag
  gathered texts index packages notes missing =
      (((texts ++ flat_map note_diags index) ++ flat_map package_diags packages) ++ flat_map told_diags notes) ++ flat_map note_diags missing

  -- the same in order, each once
  abbrev pub all_diags : List Diag → List Note → List Known → List SurveyedValue → List Diag
  all_diags texts index packages instances = ordered diag_cmp (gathered texts index packages (flat_map notes_of instances) (all_missing instances))

  abbrev pub with_instances : List Diag → List Note → List Known → Option (List SurveyedValue) → Option (List Diag)
  with_instances texts index packages instances = option_map (all_diags texts index packages) instances

  -- all diagnostics of a design, where the budget is enough for its instances
  abbrev pub diagnostics : List Diag → List Note → List Known → Design → ℕ → Option (List Diag)
  diagnostics texts index packages design budget = with_instances texts index packages (given_by_all surveyed_of design budget)
