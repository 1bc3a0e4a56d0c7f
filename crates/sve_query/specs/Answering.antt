-- The answers of queries over a table of the values of all keys, and the keys that they ask for (own).
use Rattle.std.specs.Prelude.{ℕ, ◌≡◌}
use Rattle.sve_command.specs.declared.commands.Query.{Query}
use Rattle.sve_command.specs.declared.commands.Query.TheVariants.{File, Expand}
use Rattle.sve_store.specs.declared.answer.Answer.{Answer}
use Rattle.sve_store.specs.declared.answer.Answer.TheVariants.{Done}
use Rattle.sve_key.specs.declared.key.Key.{Key}
use Rattle.sve_key.specs.declared.key.Key.TheVariants.{Text}
use Rattle.sve_key.specs.declared.value.Value.{Value}
use Rattle.sve_kinds.specs.Asked.{IsText}
use Rattle.sve_answer.specs.Answers.{file_lines, expand_lines}
use Rattle.sve_gathered.specs.Gathered.{IsInput, rows_by}
use Rattle.sve_query.specs.AnswersAt.{Answers}

-- What a query may be answered within a budget. A file and its expansion are those that the table tells, and all else is answered at the files that it tells.
abbrev pub answers_by : (Key → ℕ → Value) → Query → ℕ → Answer → Type 0
answers_by table (File name) budget answer = answer ≡ Done (file_lines table name)
answers_by table (Expand name) budget answer = answer ≡ Done (expand_lines table name)
answers_by table query budget answer = Answers (rows_by table) query budget answer

-- the keys that a query asks for: all are inputs, whose values are read off the files
abbrev pub IsAskedFor : Query → Key → Type 0
IsAskedFor (File name) k = k ≡ Text name
IsAskedFor (Expand name) k = IsText k
IsAskedFor query k = IsInput k

-- each of them with no fuel
abbrev pub asks_by : (Key → ℕ → Value) → Query → ℕ → Key → ℕ → Type 0
asks_by table query budget k fuel = IsAskedFor query k × (fuel ≡ 0)
