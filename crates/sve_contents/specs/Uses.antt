-- Uses of names, through which imports of all names of a package take effect (IEEE 1800-2017, 23.9 and 26.3).
use Rattle.std.specs.Prelude.{ℕ, zero, suc, List, ◌∷◌, Option, Some, None, Result, Ok, Err}
use Rattle.sve_fault.specs.declared.fault.Fault.{Fault}
use Rattle.sve_scope.specs.declared.found.Through.{Through}
use Rattle.sve_scope.specs.declared.found.Through.TheVariants as is_through
use Rattle.sve_scope.specs.declared.what.What.{What}
use Rattle.sve_scope.specs.Lookup.{Meaning, local, imported, two, nothing, looked_up}
use Rattle.sve_scope.specs.Scopes.{taking, taking_at}
use Rattle.sve_tree.specs.declared.token_word.Word.{Word}
use Rattle.sve_tree.specs.declared.word.PackageScope.{PackageScope}
use Rattle.sve_tree.specs.declared.word.ScopedName.{ScopedName}
use Rattle.sve_known.specs.Packages.{Known}
use Rattle.sve_known.specs.Naming.{name_at, of_name}
use Rattle.sve_contents.specs.declared.contents.Contents.{Contents}
use Rattle.sve_contents.specs.Reading.{said, with_scope}

-- the place of the scope, counted outward, through whose import of all names of a package a name is found
abbrev pub place_through : Through → Option ℕ
place_through is_through.Name = None
place_through (is_through.Package place) = Some place

abbrev pub place_taken : Meaning → Option ℕ
place_taken (local d) = None
place_taken (imported p n through) = place_through through
place_taken (two p q) = None
place_taken nothing = None

-- that import takes effect, in the scope itself or in one around it
abbrev pub taking_in : Contents → ℕ → List ℕ → Contents
taking_in c zero n = with_scope c (taking c.scope n)
taking_in c (suc place) n = record c { around = taking_at c.around place n }

abbrev pub taking_if : Contents → List ℕ → Option ℕ → Contents
taking_if c n None = c
taking_if c n (Some place) = taking_in c place n

-- a use of a plain name at a token
abbrev pub with_use : Contents → ℕ → Option (List ℕ) → Contents
with_use c token None = c
with_use c token (Some n) = taking_if c n (place_taken (looked_up (c.scope ∷ c.around) n token))

-- what is wrong with a name is said
abbrev pub wrong_in : Result What Fault → Option Fault
wrong_in (Ok what) = None
wrong_in (Err fault) = Some fault

abbrev pub said_if : Contents → Option Fault → Contents
said_if c None = c
said_if c (Some fault) = said c fault

-- and a plain name is used
abbrev pub with_plain : List Word → Contents → Option PackageScope → ℕ → Contents
with_plain ws c None token = with_use c token (name_at ws token)
with_plain ws c (Some scope) token = c

abbrev pub named_use : List Known → List Word → Contents → ScopedName → Contents
named_use packages ws c name = with_plain ws (said_if c (wrong_in (of_name packages ws (c.scope ∷ c.around) name))) name.scope name.name
