-- What a plain name stands for (IEEE 1800-2017, 6.5, 23.9 and 26.3).
use Rattle.std.specs.Prelude.{◌≡◌, ℕ, ◌+◌, List, [], ◌∷◌, drop, filter, Option, Some, None, is_some, if◌then◌else◌}
use Rattle.std.proofs.lemmas.Map.Entries.{option_filter}
use Rattle.sve_table.specs.Tables.{item_of}
use Rattle.sve_scope.specs.declared.spot.Spot.{Spot}
use Rattle.sve_scope.specs.declared.declared.Declared.{Declared}
use Rattle.sve_scope.specs.declared.import.Explicit.{Explicit}
use Rattle.sve_scope.specs.declared.scope.Scope.{Scope}
use Rattle.sve_scope.specs.declared.found.Found.{Found}
use Rattle.sve_scope.specs.declared.found.Found.TheVariants as is_found
use Rattle.sve_scope.specs.declared.found.Through.{Through}
use Rattle.sve_scope.specs.declared.found.Through.TheVariants as is_through
use Rattle.sve_scope.specs.Spots.{spot, stands_before}
use Rattle.sve_scope.specs.Declarations.{is_seen}
use Rattle.sve_scope.specs.Imports.{WildcardImport}
use Rattle.sve_scope.specs.Scopes.{declaration_in, import_of, itself}

pub data Meaning : Type 0 where
  -- a declaration
  local : Declared → Meaning
  -- a name of a package: the package, the name, and the kind of import
  imported : List ℕ → List ℕ → Through → Meaning
  -- the name is in these two packages, all of whose names are imported
  two : List ℕ → List ℕ → Meaning
  nothing : Meaning

-- the answer, wherever it lies in memory
abbrev pub meaning_of : Found → Meaning
meaning_of (is_found.Local d) = local d.now
meaning_of (is_found.Imported from name through) = imported from.now name.now through
meaning_of (is_found.Two first second) = two first.now second.now
meaning_of is_found.None = nothing

-- where a name is used, and the name
module _ (place : Spot) (n : List ℕ) where
  -- the declaration of the name, where the use sees it
  abbrev pub seen_declaration : Scope → Option Declared
  seen_declaration s = option_filter (λ d. is_seen d place) (declaration_in s n)

  -- the import of the name, where it stands before the use
  abbrev pub seen_import : Scope → Option Explicit
  seen_import s = option_filter (λ i. stands_before i.at place) (import_of n s.explicit)

  -- the name in a package of which all names are imported before the use
  abbrev pub candidate : WildcardImport → Option (List ℕ)
  candidate w = if stands_before w.at place then item_of itself n w.names else None

  abbrev pub candidates : List WildcardImport → List WildcardImport
  candidates ws = filter (λ w. is_some (candidate w)) ws

  -- the candidates from a place on, by the first of them: the place behind it, its package, and the name
  abbrev pub Begin : List WildcardImport → ℕ → Option (ℕ × List ℕ × List ℕ) → Type 0
  Begin ws k None = candidates (drop k ws) ≡ []
  Begin ws k (Some c) = (w : WildcardImport) × (candidates (drop k ws) ≡ w ∷ candidates (drop c.0 ws)) × (c.1 ≡ w.from) × (c.2 ≡ n)

-- One package, or two. A scope imports all names of a package once, so two of these are of two packages.
abbrev pub from_candidates : List ℕ → ℕ → List WildcardImport → Meaning
from_candidates n index [] = nothing
from_candidates n index (w ∷ []) = imported w.from n (is_through.Package index)
from_candidates n index (w ∷ v ∷ ws) = two w.from v.from

module _ (place : Spot) (n : List ℕ) where
  -- in a scope a declaration first, then an import of the name, then the packages of which all names are imported
  abbrev pub in_imports : ℕ → Scope → Option Explicit → Meaning
  in_imports index s (Some i) = imported i.from i.name is_through.Name
  in_imports index s None = from_candidates n index (candidates place n s.wild)

  abbrev pub in_declared : ℕ → Scope → Option Declared → Meaning
  in_declared index s (Some d) = local d
  in_declared index s None = in_imports index s (seen_import place n s)

  abbrev pub in_scope : ℕ → Scope → Meaning
  in_scope index s = in_declared index s (seen_declaration place n s)

  -- the first, unless it is nothing
  abbrev pub or_else : Meaning → Meaning → Meaning
  or_else nothing m = m
  or_else (local d) m = local d
  or_else (imported from name through) m = imported from name through
  or_else (two first second) m = two first second

  -- from the innermost scope outward
  abbrev pub in_scopes : ℕ → List Scope → Meaning
  in_scopes index [] = nothing
  in_scopes index (s ∷ ss) = or_else (in_scope index s) (in_scopes (index + 1) ss)

-- the use stands in the text of the innermost scope
abbrev pub looked_up : List Scope → List ℕ → ℕ → Meaning
looked_up [] n token = nothing
looked_up (here ∷ outer) n token = in_scopes (spot here.file here.chunk token) n 0 (here ∷ outer)
