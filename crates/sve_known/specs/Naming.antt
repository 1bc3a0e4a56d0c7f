-- What names stand for where scopes and packages are known (IEEE 1800-2017, 6.5, 23.9 and 26.3).
use Rattle.std.specs.Prelude.{ℕ, List, [], Option, Some, None, Result, Ok, Err, slice_get}
use Rattle.sve_diag.specs.declared.code.Code.{Code}
use Rattle.sve_diag.specs.declared.code.Code.TheVariants.{N01, N04, N05, N06}
use Rattle.sve_fault.specs.declared.fault.Fault.{Fault}
use Rattle.sve_fault.specs.declared.fault.Said.TheVariants.{Here}
use Rattle.sve_fault.specs.Faults.{fault_at}
use Rattle.sve_table.specs.Tables.{item_of}
use Rattle.sve_scope.specs.declared.declared.Declared.{Declared}
use Rattle.sve_scope.specs.declared.scope.Scope.{Scope}
use Rattle.sve_scope.specs.declared.what.What.{What}
use Rattle.sve_scope.specs.Lookup.{Meaning, local, imported, two, nothing, looked_up}
use Rattle.sve_tree.specs.declared.token_word.Word.{Word}
use Rattle.sve_tree.specs.declared.word.PackageScope.{PackageScope}
use Rattle.sve_tree.specs.declared.word.ScopedName.{ScopedName}
use Rattle.sve_tree.specs.TokenWords.{bytes_in, name_in}
use Rattle.sve_known.specs.Packages.{Known, member, package_name}

-- a fault at a token that says a name
abbrev pub named_fault : ℕ → Code → List ℕ → Fault
named_fault token code n = record { token = token; said = Here code (Some n) }

-- the name at a token
abbrev pub name_of_word : Option Word → Option (List ℕ)
name_of_word None = None
name_of_word (Some w) = name_in w

abbrev pub name_at : List Word → ℕ → Option (List ℕ)
name_at ws token = name_of_word (slice_get ws token)

-- the bytes of a token
abbrev pub bytes_of_word : Option Word → List ℕ
bytes_of_word None = []
bytes_of_word (Some w) = bytes_in w

abbrev pub text_at : List Word → ℕ → List ℕ
text_at ws token = bytes_of_word (slice_get ws token)

-- what a package declares by a name, which stands at this token
abbrev pub of_member : ℕ → List ℕ → Option Declared → Result What Fault
of_member token n None = Err (named_fault token N05 n)
of_member token n (Some d) = Ok d.what

-- where a package of this name is known, whose name stands at this token
abbrev pub of_package : ℕ → List ℕ → ℕ → List ℕ → Option Known → Result What Fault
of_package at p token n None = Err (named_fault at N04 p)
of_package at p token n (Some k) = of_member token n (member n k.facts)

module _ (packages : List Known) where
  abbrev pub of_known : ℕ → List ℕ → ℕ → List ℕ → Result What Fault
  of_known at p token n = of_package at p token n (item_of package_name p packages)

  -- a plain name: a declaration, a name of a package, one of two packages, or nothing
  abbrev pub of_meaning : ℕ → List ℕ → Meaning → Result What Fault
  of_meaning token n (local d) = Ok d.what
  of_meaning token n (imported p m through) = of_known token p token m
  of_meaning token n (two p q) = Err (named_fault token N06 n)
  of_meaning token n nothing = Err (named_fault token N01 n)

  -- where each token is an identifier
  abbrev pub of_plain : List Scope → ℕ → Option (List ℕ) → Result What Fault
  of_plain chain token None = Err (fault_at token N01)
  of_plain chain token (Some n) = of_meaning token n (looked_up chain n token)

  abbrev pub of_scoped : ℕ → Option (List ℕ) → ℕ → Option (List ℕ) → Result What Fault
  of_scoped at None token n = Err (fault_at at N04)
  of_scoped at (Some p) token None = Err (fault_at token N05)
  of_scoped at (Some p) token (Some n) = of_known at p token n

  abbrev pub of_name_in : List Word → List Scope → Option PackageScope → ℕ → Result What Fault
  of_name_in ws chain None token = of_plain chain token (name_at ws token)
  of_name_in ws chain (Some scope) token = of_scoped scope.name (name_at ws scope.name) token (name_at ws token)

  -- what a name stands for: the words of the chunk, the scopes from the innermost outward
  abbrev pub of_name : List Word → List Scope → ScopedName → Result What Fault
  of_name ws chain name = of_name_in ws chain name.scope name.name
