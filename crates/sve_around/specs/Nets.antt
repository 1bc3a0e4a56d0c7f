-- The uses of names that declare nets (IEEE 1800-2017, 6.10).
use Rattle.std.specs.Prelude.{ℕ, List, [], ◌∷◌, ◌++◌, Option, Some, None}
use Rattle.sve_tree.specs.declared.token_word.Word.{Word}
use Rattle.sve_tree.specs.declared.word.PackageScope.{PackageScope}
use Rattle.sve_tree.specs.declared.word.ScopedName.{ScopedName}
use Rattle.sve_scope.specs.declared.scope.Scope.{Scope}
use Rattle.sve_scope.specs.Lookup.{Meaning, local, imported, two, nothing, looked_up}
use Rattle.sve_known.specs.Naming.{name_at}
use Rattle.sve_use.specs.Use.{Use, Named, Called, Dotted}
use Rattle.sve_connect.specs.declared.around.Net.{Net}
use Rattle.sve_around.specs.declared.gathering.Gathering.{Gathering}

-- a name that stands for nothing
abbrev pub net_unless : Meaning → List ℕ → ℕ → List Net
net_unless nothing n token = record { name = n; token = token } ∷ []
net_unless (local d) n token = []
net_unless (imported p m through) n token = []
net_unless (two p q) n token = []

module _ (words : List Word) (chain : List Scope) where
  abbrev pub net_at : Option (List ℕ) → ℕ → List Net
  net_at (Some n) token = net_unless (looked_up chain n token) n token
  net_at None token = []

  abbrev pub net_named : ℕ → List Net
  net_named token = net_at (name_at words token) token

  -- of no package
  abbrev pub net_in : Option PackageScope → ℕ → List Net
  net_in None token = net_named token
  net_in (Some scope) token = []

  abbrev pub net_of : ScopedName → List Net
  net_of name = net_in name.scope name.name

  -- neither the name of a function that is called nor the first of a name with members
  abbrev pub net_of_use : Use → List Net
  net_of_use (Named name) = net_of name
  net_of_use (Called name) = []
  net_of_use (Dotted name postfixes) = []

-- the scopes that see the names, from the innermost outward
abbrev pub seen_by : Gathering → List Scope
seen_by g = g.scope.now ∷ g.around.now

abbrev pub gathered : Gathering → Use → Gathering
gathered g (Named name) = record g { nets = g.nets ++ net_of g.words.now (seen_by g) name }
gathered g (Called name) = g
gathered g (Dotted name postfixes) = g
