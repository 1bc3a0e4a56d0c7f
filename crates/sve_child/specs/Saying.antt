-- Names of which something is said (own).
use Rattle.std.specs.Prelude.{ℕ, List, Option, Some, None}
use Rattle.std.specs.List.{fold}
use Rattle.sve_diag.specs.declared.code.Code.{Code}
use Rattle.sve_tree.specs.declared.token_word.Word.{Word}
use Rattle.sve_known.specs.Naming.{name_at}
use Rattle.sve_contents.specs.declared.contents.Contents.{Contents}
use Rattle.sve_contents.specs.Reading.{remarked}

abbrev pub name_said : Code → Contents → ℕ → Option (List ℕ) → Contents
name_said code c token None = c
name_said code c token (Some n) = remarked c token code (Some n)

abbrev pub token_said : List Word → Code → Contents → ℕ → Contents
token_said ws code c token = name_said code c token (name_at ws token)

abbrev pub all_said : List Word → Code → Contents → List ℕ → Contents
all_said ws code c tokens = fold (token_said ws code) c tokens
