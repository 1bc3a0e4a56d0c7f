-- The plain names that were found so far.
use Rattle.std.specs.Prelude.{ℕ, List, ◌++◌}
use Rattle.sve_use.specs.Use.{Use}
use Rattle.sve_body.specs.Items.{plain_tokens}

abbrev pub after : List ℕ → Use → List ℕ
after tokens name = tokens ++ plain_tokens name
