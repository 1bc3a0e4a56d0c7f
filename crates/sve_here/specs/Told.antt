-- What is known where an expression stands (IEEE 1800-2017, 6.5, 11.2.1, 23.9 and 26.3).
use Rattle.std.specs.Prelude.{ℕ, Bool, true, false, List, [], ◌∷◌, Option, Some, None, Result, Ok, Err}
use Rattle.sve_diag.specs.declared.code.Code.TheVariants.{C01}
use Rattle.sve_fault.specs.declared.fault.Fault.{Fault}
use Rattle.sve_fault.specs.Faults.{after, fault_at}
use Rattle.sve_env.specs.Told.{Told}
use Rattle.sve_scope.specs.declared.declared.Declared.{Declared}
use Rattle.sve_scope.specs.declared.scope.Scope.{Scope}
use Rattle.sve_scope.specs.declared.spot.Spot.{Spot}
use Rattle.sve_scope.specs.Scopes.{declaration_of}
use Rattle.sve_scope.specs.Spots.{spot, stands_before}
use Rattle.sve_scope.specs.declared.what.What.{What}
use Rattle.sve_scope.specs.declared.what.What.TheVariants as is_what
use Rattle.sve_tree.specs.declared.token_word.Word.{Word}
use Rattle.sve_tree.specs.declared.word.ScopedName.{ScopedName}
use Rattle.sve_known.specs.Packages.{Known}
use Rattle.sve_known.specs.Naming.{name_at, of_name, text_at}
use Rattle.sve_known.specs.Constants.{first_token, type_of, value_of}

abbrev pub is_type_name : What → Bool
is_type_name (is_what.TypeName ty) = true
is_type_name what = false

abbrev pub names_type : Result What Fault → Bool
names_type (Ok what) = is_type_name what
names_type (Err fault) = false

-- what a scope declares by a name stands before a place
abbrev pub is_earlier : Spot → Option Declared → Bool
is_earlier place None = false
is_earlier place (Some d) = stands_before d.at place

abbrev pub declares_before : Spot → Option (List ℕ) → List Scope → Bool
declares_before place None chain = false
declares_before place (Some n) [] = false
declares_before place (Some n) (s ∷ chain) = is_earlier place (declaration_of n s.declared)

-- What is known at a place: its file and its chunk, the words of the chunk, the scopes that see it, from the innermost outward, and
-- the packages. The value and the type of a name are those of what it stands for at the place of its use. A call is no constant (own):
-- what is wrong with the name of its function is said first.
abbrev pub known_here : List ℕ → ℕ → List Word → List Scope → List Known → Told
known_here file chunk ws chain packages = record {
  file = file;
  chunk = chunk;
  text = text_at ws;
  declared_before = λ token. declares_before (spot file chunk token) (name_at ws token) chain;
  constant = λ name. after (of_name packages ws chain name) (value_of (first_token name) name.name (name_at ws name.name));
  is_type = λ name. names_type (of_name packages ws chain name);
  ty = λ name. after (of_name packages ws chain name) (type_of (first_token name));
  call = λ name arguments. after (of_name packages ws chain name) (λ what. Err (fault_at (first_token name) C01));
  steps = λ name arguments. 0;
}
