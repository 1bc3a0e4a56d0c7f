-- Genvars outside of their loops (IEEE 1800-2017, 27.4).
use Rattle.std.specs.Prelude.{ℕ, ◌∷◌, List, Option, Some, None, Result, Ok, Err}
use Rattle.sve_diag.specs.declared.code.Code.TheVariants.{N11}
use Rattle.sve_fault.specs.declared.fault.Fault.{Fault}
use Rattle.sve_scope.specs.declared.what.What.{What}
use Rattle.sve_scope.specs.declared.what.What.TheVariants as is_what
use Rattle.sve_tree.specs.declared.token_word.Word.{Word}
use Rattle.sve_known.specs.Packages.{Known}
use Rattle.sve_known.specs.Naming.{name_at, named_fault, of_name}
use Rattle.sve_use.specs.Use.{plain}
use Rattle.sve_contents.specs.declared.contents.Contents.{Contents}
use Rattle.sve_contents.specs.Reading.{declaring_in, spot_in}

abbrev pub declaring_genvar : Contents → ℕ → Option (List ℕ) → Contents
declaring_genvar c token None = c
declaring_genvar c token (Some n) = declaring_in c (record { name = n; what = is_what.Genvar; at = spot_in c token; from = token })

-- a genvar of a loop that declares none stands for one
abbrev pub wrong_kind : ℕ → Option (List ℕ) → Option Fault
wrong_kind token None = None
wrong_kind token (Some n) = Some (named_fault token N11 n)

abbrev pub unless_genvar : ℕ → Option (List ℕ) → Result What Fault → Option Fault
unless_genvar token n (Ok is_what.Genvar) = None
unless_genvar token n (Ok what) = wrong_kind token n
unless_genvar token n (Err fault) = Some fault

abbrev pub sought_genvar : List Known → List Word → Contents → ℕ → Option Fault
sought_genvar packages ws c token = unless_genvar token (name_at ws token) (of_name packages ws (c.scope ∷ c.around) (plain token))

abbrev pub genvar_fault_in : List Known → List Word → Contents → Option ℕ → ℕ → Option Fault
genvar_fault_in packages ws c (Some keyword) token = None
genvar_fault_in packages ws c None token = sought_genvar packages ws c token
