-- The name of a function in the scope around, and the type of its result (own).
use Rattle.std.specs.Prelude.{ℕ, List}
use Rattle.sve_env.specs.Told.{Told}
use Rattle.sve_tree.specs.declared.token_word.Word.{Word}
use Rattle.sve_tree.specs.declared.statement.FunctionResult.{FunctionResult}
use Rattle.sve_contents.specs.declared.contents.Contents.{Contents}
use Rattle.sve_function.specs.declared.functions.Headed.{Headed}
use Rattle.sve_function.specs.Functions.{result_in, with_result_type}

-- what is known in the scope, as far as its text was read
abbrev pub with_head : (Contents → Told) → List Word → Contents → ℕ → FunctionResult → Headed
with_head known ws c keyword r = record { contents = with_result_type known ws c keyword r; ty = result_in (known c) r }
