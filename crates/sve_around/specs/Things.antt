-- What a name stands for that may be connected to a port (IEEE 1800-2017, 23.3.2, 23.9, 25.3 and 26.3).
use Rattle.std.specs.Prelude.{ℕ, List, Option, Some, None, Result, Ok, Err}
use Rattle.sve_types.specs.DataType.{DataType}
use Rattle.sve_fault.specs.declared.fault.Fault.{Fault}
use Rattle.sve_scope.specs.declared.declared.Declared.{Declared}
use Rattle.sve_scope.specs.declared.what.Constant.{Constant}
use Rattle.sve_scope.specs.declared.what.What.{What}
use Rattle.sve_scope.specs.declared.what.What.TheVariants as is_what
use Rattle.sve_scope.specs.Lookup.{Meaning, local, imported, two, nothing}
use Rattle.sve_known.specs.Packages.{Known}
use Rattle.sve_known.specs.Naming.{of_known}
use Rattle.sve_connect.specs.Seen.{Stands, unknown, typed, faced, other}

-- a constant of a known type
abbrev pub typed_or_other : Option DataType → Stands
typed_or_other (Some t) = typed t
typed_or_other None = other

abbrev pub constant_stands : Constant → Stands
constant_stands c = typed_or_other c.ty

-- an instance of an interface
abbrev pub face_or_other : Option (List ℕ) → Stands
face_or_other (Some interface) = faced interface
face_or_other None = other

abbrev pub stands_by : Option (List ℕ) → What → Stands
stands_by interface (is_what.Net t) = typed t
stands_by interface (is_what.Variable t) = typed t
stands_by interface (is_what.Parameter c) = constant_stands c
stands_by interface (is_what.LocalParameter c) = constant_stands c
stands_by interface (is_what.EnumName c) = constant_stands c
stands_by interface is_what.Instance = face_or_other interface
stands_by interface (is_what.InterfacePort face) = faced face.name.interface
stands_by interface what = other

abbrev pub stands_of : Result What Fault → Stands
stands_of (Ok what) = stands_by None what
stands_of (Err fault) = unknown

-- a name of a package
abbrev pub stands_in : List Known → ℕ → List ℕ → List ℕ → Stands
stands_in packages at p n = stands_of (of_known packages at p at n)

-- a name of two packages stands for something, but for nothing that may be connected
abbrev pub stands_found : List Known → (Declared → Option (List ℕ)) → ℕ → Meaning → Stands
stands_found packages interfaces at (local d) = stands_by (interfaces d) d.what
stands_found packages interfaces at (imported p n through) = stands_in packages at p n
stands_found packages interfaces at (two p q) = other
stands_found packages interfaces at nothing = unknown

-- the interface of an instance or of an interface port
abbrev pub face_in : Stands → Option (List ℕ)
face_in (faced interface) = Some interface
face_in unknown = None
face_in (typed t) = None
face_in other = None
