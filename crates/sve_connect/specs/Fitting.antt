-- What may be connected to a port by its name (IEEE 1800-2017, 23.3.2.3, 23.3.2.4 and 25.3).
use Rattle.std.specs.Prelude.{ℕ, Bool, true, false, ◌&&◌, if◌then◌else◌, List, Option, Some, None, nat_eq}
use Rattle.std.specs.Cmp.Lexicographic.{pointwise}
use Rattle.sve_diag.specs.declared.code.Code.{Code}
use Rattle.sve_diag.specs.declared.code.Code.TheVariants.{E09, E10}
use Rattle.sve_types.specs.DataType.{DataType}
use Rattle.sve_types.specs.Widths.{bits_of, counted}
use Rattle.sve_types.specs.States.{has_four_states}
use Rattle.sve_types.specs.Signs.{is_signed}
use Rattle.sve_types.specs.Equivalence.{declaration, unpacked_sizes}
use Rattle.sve_scope.specs.declared.what.FaceName.{FaceName}
use Rattle.sve_facts.specs.declared.facts.Port.{Port}
use Rattle.sve_connect.specs.Seen.{Stands, unknown, typed, faced, other}

abbrev pub same_bool : Bool → Bool → Bool
same_bool true b = b
same_bool false true = false
same_bool false false = true

abbrev pub same_text : List ℕ → List ℕ → Bool
same_text a b = pointwise nat_eq a b

-- one declaration of an enumeration, or none
abbrev pub same_declaration : Option (List ℕ × ℕ × ℕ) → Option (List ℕ × ℕ × ℕ) → Bool
same_declaration None None = true
same_declaration None (Some b) = false
same_declaration (Some a) None = false
same_declaration (Some a) (Some b) = same_text a.0 b.0 && (nat_eq a.1 b.1 && nat_eq a.2 b.2)

-- whether two types are equivalent (6.22.2)
abbrev pub are_equivalent : DataType → DataType → Bool
are_equivalent a b =
    same_text (unpacked_sizes a) (unpacked_sizes b) && (nat_eq (counted (bits_of a)) (counted (bits_of b))
    && (same_bool (has_four_states a) (has_four_states b) && (same_bool (is_signed a) (is_signed b) && same_declaration (declaration a) (declaration b))))

abbrev pub is_interface : List ℕ → Option (List ℕ) → Bool
is_interface interface None = false
is_interface interface (Some found) = same_text interface found

-- what is wrong with a name as the connection of a port that is no interface port: it must be declared, with an equivalent type
abbrev pub data_misfit : DataType → Stands → Option Code
data_misfit t unknown = Some E09
data_misfit t (typed u) = if are_equivalent t u then None else Some E09
data_misfit t (faced i) = Some E09
data_misfit t other = Some E09

-- and as that of an interface port: it must be declared, and stand for the interface
abbrev pub face_misfit : List ℕ → Stands → Option Code
face_misfit interface unknown = Some E09
face_misfit interface (typed u) = Some E10
face_misfit interface (faced i) = if same_text interface i then None else Some E10
face_misfit interface other = Some E10

abbrev pub misfit_by : DataType → Option FaceName → Stands → Option Code
misfit_by t None s = data_misfit t s
misfit_by t (Some face) s = face_misfit face.interface s

abbrev pub misfit : Port → Stands → Option Code
misfit port s = misfit_by port.ty port.face s
