-- What is elaborated of files is elaborated of all that have the same names and texts.
use Rattle.std.proofs.Common.{◌≡◌, ℕ, List, refl, ◌∙◌}
use Rattle.sve_text.specs.Rows.{Row, IsInOrder, text_of}
use Rattle.sve_command.specs.declared.commands.Query.{Query}
use Rattle.sve_store.specs.declared.answer.Answer.{Answer}
use Rattle.sve_key.specs.Parts.{names_there}
use Rattle.sve_design_answers.specs.Queries.{IsDesignAnswer}
use Rattle.sve_query.specs.AnswersAt.{IsElaborated}

-- files that stand in order have their own names and texts
pub over_these : (rows : List Row) (query : Query) (budget : ℕ) (answer : Answer) → IsInOrder rows → IsDesignAnswer rows query budget answer → IsElaborated rows query budget answer
over_these rows query budget answer order answered = record {
  files = rows;
  same = record { order = order; texts = λ name. refl; names = refl };
  answered = answered;
}

pub of_the_same : (a b : List Row) → ((name : List ℕ) → text_of a name ≡ text_of b name) → names_there a ≡ names_there b → (query : Query) (budget : ℕ) (answer : Answer) → IsElaborated a query budget answer → IsElaborated b query budget answer
of_the_same a b texts names query budget answer of = record {
  files = of.files;
  same = record { order = of.same.order; texts = λ name. of.same.texts name ∙ texts name; names = of.same.names ∙ names };
  answered = of.answered;
}
