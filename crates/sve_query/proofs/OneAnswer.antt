-- A query that elaborates nothing has one answer at some files.
use Rattle.std.proofs.Common.{◌≡◌, ℕ, List, IsTrue, sym, ◌∙◌}
use Rattle.sve_text.specs.Rows.{Row}
use Rattle.sve_command.specs.declared.commands.Query.{Query}
use Rattle.sve_command.specs.declared.commands.Query.TheVariants as asks
use Rattle.sve_store.specs.declared.answer.Answer.{Answer}
use Rattle.sve_query.specs.AnswersAt.{Answers, has_one_answer}

pub one_answer : (rows : List Row) (query : Query) → IsTrue (has_one_answer query) → (budget other : ℕ) (answer another : Answer) → Answers rows query budget answer → Answers rows query other another → answer ≡ another
one_answer rows (asks.File name) one budget other answer another is is' = is ∙ sym is'
one_answer rows (asks.Expand name) one budget other answer another is is' = is ∙ sym is'
one_answer rows asks.Tops one budget other answer another is is' = is ∙ sym is'
one_answer rows (asks.Instance path) one budget other answer another is is' = absurd (cc)
one_answer rows asks.Tree one budget other answer another is is' = absurd (cc)
one_answer rows (asks.TypeOf path name) one budget other answer another is is' = absurd (cc)
one_answer rows (asks.Param path name) one budget other answer another is is' = absurd (cc)
one_answer rows (asks.Resolve path name) one budget other answer another is is' = absurd (cc)
one_answer rows asks.Diagnostics one budget other answer another is is' = absurd (cc)
