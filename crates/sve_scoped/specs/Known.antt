-- What is known where a scope's own text stands (own): the scope as far as its text was read, those around it, and the packages.
use Rattle.std.specs.Prelude.{List, ◌∷◌}
use Rattle.sve_env.specs.Told.{Told}
use Rattle.sve_tree.specs.declared.token_word.Word.{Word}
use Rattle.sve_known.specs.Packages.{Known}
use Rattle.sve_contents.specs.declared.contents.Contents.{Contents}
use Rattle.sve_here.specs.Told.{known_here}

abbrev pub told_in : List Known → List Word → Contents → Told
told_in packages ws c = known_here c.scope.file c.scope.chunk ws (c.scope ∷ c.around) packages
