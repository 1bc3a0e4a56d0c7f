-- Packages that are known (IEEE 1800-2017, clause 26).
use Rattle.std.specs.Prelude.{ℕ, List, [], ◌∷◌, map, Option, Some, None, refl}
use Rattle.std.specs.Coded.{Coded, code_by, coded×, coded_list, coded_ℕ}
use Rattle.sve_table.specs.Tables.{table_of}
use Rattle.sve_scope.specs.declared.declared.Declared.{Declared}
use Rattle.sve_scope.specs.declared.scope.Scope.{Scope}
use Rattle.sve_scope.specs.Declarations.{declared_name}
use Rattle.sve_scope.specs.Scopes.{declaration_of, itself}
use Rattle.sve_facts.specs.declared.facts.BodyScope.{BodyScope}
use Rattle.sve_facts.specs.declared.facts.Facts.{Facts}
use Rattle.sve_facts.specs.contracts.facts.Facts as facts

-- a package that is known: its name, and what is found of it
pub record Known : Type 0 where
  pub name : List ℕ
  pub facts : Facts

-- packages are told apart by their names and by what is found of them
abbrev pub known_code : Coded Known
known_code = code_by (List ℕ × Facts) (coded× (coded_list coded_ℕ) facts.the_row.coded) (λ k. (k.name, k.facts)) (λ p. record { name = p.0; facts = p.1 }) (λ _. refl)

abbrev pub package_name : Known → List ℕ
package_name k = k.name

-- its own scope is the first, where there is one
abbrev pub first_scope : List BodyScope → Option Scope
first_scope [] = None
first_scope (s ∷ ss) = Some s.scope

abbrev pub own_scope : Facts → Option Scope
own_scope facts = first_scope facts.scopes

-- what a scope declares by a name, where there is one
abbrev pub member_of : List ℕ → Option Scope → Option Declared
member_of n None = None
member_of n (Some s) = declaration_of n s.declared

abbrev pub member : List ℕ → Facts → Option Declared
member n facts = member_of n (own_scope facts)

-- the names of declarations, and those of a scope, where there is one
abbrev pub names_in : List Declared → List (List ℕ)
names_in ds = table_of itself (map declared_name ds)

abbrev pub names_of : Option Scope → List (List ℕ)
names_of None = []
names_of (Some s) = names_in s.declared
