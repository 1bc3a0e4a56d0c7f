-- The answers of queries about the design that some files are (own).
use Rattle.std.specs.Prelude.{ℕ, ◌≡◌, List}
use Rattle.sve_text.specs.Rows.{Row}
use Rattle.sve_listing.specs.Files.{none}
use Rattle.sve_command.specs.declared.commands.Query.{Query}
use Rattle.sve_command.specs.declared.commands.Query.TheVariants.{Instance, Tree, TypeOf, Param, Resolve, Diagnostics}
use Rattle.sve_store.specs.declared.answer.Answer.{Answer}
use Rattle.sve_store.specs.declared.answer.Answer.TheVariants.{Done}
use Rattle.sve_named.specs.Projects.{IsProjectOf, ProjectValue}
use Rattle.sve_design_answers.specs.Answers.{IsInstanceAnswer, IsParamAnswer, IsTypeAnswer, tree_answer}
use Rattle.sve_design_answers.specs.Diagnosing.{diagnostics_answer}
use Rattle.sve_design_answers.specs.Resolving.{IsResolveAnswer}

-- the answer over a project of these files; that of a query which asks for nothing of it is that of a thing that is not there
abbrev pub OverProject : List Row → ProjectValue → Query → ℕ → Answer → Type 0
OverProject files p (Instance path) budget answer = IsInstanceAnswer files p path budget answer
OverProject files p Tree budget answer = answer ≡ tree_answer p budget
OverProject files p (TypeOf path name) budget answer = IsTypeAnswer files p path name budget answer
OverProject files p (Param path name) budget answer = IsParamAnswer p path name budget answer
OverProject files p (Resolve path name) budget answer = IsResolveAnswer files p path name budget answer
OverProject files p Diagnostics budget answer = answer ≡ diagnostics_answer files p budget
OverProject files p query budget answer = answer ≡ Done none

-- A project is read from the files: their units, with the trees of their chunks and what there is to say of their texts, and the index. It is elaborated from nothing. Of all that, where a tree lies
-- in memory alone is free.
pub record IsDesignAnswer (files : List Row) (query : Query) (budget : ℕ) (answer : Answer) : Type 0 where
  pub project : ProjectValue
  pub read : IsProjectOf files project
  pub over : OverProject files project query budget answer
