-- What is known around an instance, by the scopes that see it and the packages (own).
use Rattle.std.specs.Prelude.{ℕ, List, Option, Some, None}
use Rattle.std.specs.List.{flat_map}
use Rattle.sve_tree.specs.declared.token_word.Word.{Word}
use Rattle.sve_scope.specs.declared.declared.Declared.{Declared}
use Rattle.sve_scope.specs.declared.scope.Scope.{Scope}
use Rattle.sve_scope.specs.Lookup.{looked_up}
use Rattle.sve_known.specs.Packages.{Known}
use Rattle.sve_known.specs.Naming.{name_at}
use Rattle.sve_use.specs.Uses.{uses}
use Rattle.sve_connect.specs.Seen.{Seen}
use Rattle.sve_around.specs.Things.{face_in, stands_found}
use Rattle.sve_around.specs.References.{reference_of}
use Rattle.sve_around.specs.Nets.{net_of_use}

module _ (words : List Word) (chain : List Scope) (packages : List Known) (interfaces : Declared → Option (List ℕ)) where
  -- the name at a token stands for what it does there
  abbrev pub face_named : Option (List ℕ) → ℕ → Option (List ℕ)
  face_named None token = None
  face_named (Some n) token = face_in (stands_found packages interfaces token (looked_up chain n token))

  abbrev pub face_at : Option ℕ → Option (List ℕ)
  face_at None = None
  face_at (Some token) = face_named (name_at words token) token

-- an instance at this token of a chunk, which stands in the text of the innermost scope
abbrev pub seen_around : List ℕ → ℕ → List Word → List Scope → List Known → ℕ → (Declared → Option (List ℕ)) → Seen
seen_around file chunk words chain packages at interfaces = record {
  file = file;
  chunk = chunk;
  name = name_at words;
  thing = λ n. stands_found packages interfaces at (looked_up chain n at);
  interface = λ e. face_at words chain packages interfaces (reference_of e);
  nets = λ e. flat_map (net_of_use words chain) (uses e);
}
