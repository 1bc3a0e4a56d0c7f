-- What is known around an instance in the scope in which it stands (own): the scope as far as its text was read, those around it, and the packages.
use Rattle.std.specs.Prelude.{ℕ, List, ◌∷◌, Option}
use Rattle.sve_tree.specs.declared.token_word.Word.{Word}
use Rattle.sve_scope.specs.declared.declared.Declared.{Declared}
use Rattle.sve_known.specs.Packages.{Known}
use Rattle.sve_contents.specs.declared.contents.Contents.{Contents}
use Rattle.sve_connect.specs.declared.around.Net.{Net}
use Rattle.sve_connect.specs.Seen.{Seen}
use Rattle.sve_around.specs.Around.{seen_around}

-- at the token of the instance
abbrev pub seen_in : List Known → List Word → (Declared → Option (List ℕ)) → ℕ → Contents → Seen
seen_in packages ws interfaces at c = seen_around c.scope.file c.scope.chunk ws (c.scope ∷ c.around) packages at interfaces

abbrev pub token_of_net : Net → ℕ
token_of_net net = net.token
