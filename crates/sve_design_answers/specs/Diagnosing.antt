-- The answer about all that is wrong in a design (own).
use Rattle.std.specs.Prelude.{ℕ, List, Option, Some, None}
use Rattle.sve_diag.specs.declared.diag.Diag.{Diag}
use Rattle.sve_text.specs.Rows.{Row}
use Rattle.sve_listing.specs.Lists.{diags_lines}
use Rattle.sve_store.specs.declared.answer.Answer.{Answer}
use Rattle.sve_store.specs.declared.answer.Answer.TheVariants.{Done, Spent}
use Rattle.sve_diagnostics.specs.Diagnostics.{diagnostics}
use Rattle.sve_named.specs.Projects.{ProjectValue, known_in}
use Rattle.sve_named.specs.Replies.{design_of}

-- the lines of these diagnostics, over the texts of the files
abbrev pub answer_with : List Row → Option (List Diag) → Answer
answer_with files None = Spent
answer_with files (Some diags) = Done (diags_lines files diags)

-- of the texts of the units, of the index, of all packages, and of all instances, where the budget is enough for these
abbrev pub diagnostics_answer : List Row → ProjectValue → ℕ → Answer
diagnostics_answer files p budget = answer_with files (diagnostics p.units p.diags p.index.diags (known_in p) (design_of p) budget)
