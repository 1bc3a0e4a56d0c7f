-- What a query may be answered at the files of a revision, within a budget (own).
use Rattle.std.specs.Prelude.{ℕ}
use Rattle.sve_text.specs.Files.{FilesValue}
use Rattle.sve_command.specs.declared.commands.Query.{Query}
use Rattle.sve_store.specs.declared.answer.Answer.{Answer}
use Rattle.sve_query.specs.AnswersAt.{Answers}

-- The lines that the query has at these files, or that it costs more than the budget there. For what depends on the files' texts alone there is one answer.
abbrev pub IsAnswerAt : FilesValue → Query → ℕ → Answer → Type 0
IsAnswerAt files query budget answer = Answers files.rows query budget answer
