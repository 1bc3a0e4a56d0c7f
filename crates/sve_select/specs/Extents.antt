-- Types by their names with packed dimensions before their own (IEEE 1800-2017, 7.4.1, 6.18 and 20.6.2).
use Rattle.std.specs.Prelude.{ℕ, ◌*◌, nat_lt, Bool, true, false, if◌then◌else◌, List, [], ◌∷◌, Result, Ok, Err}
use Rattle.sve_diag.specs.declared.code.Code.TheVariants.{C06, N11}
use Rattle.sve_types.specs.declared.ty.Range.{Range}
use Rattle.sve_types.specs.Dimensions.{place_count, element_count}
use Rattle.sve_types.specs.DataType.{DataType, Form, atom, vector, enumeration, structure, text, form_of_type, packed_dimensions, unpacked_dimensions}
use Rattle.sve_types.specs.Widths.{bits_of, counted}
use Rattle.sve_fault.specs.Faults.{fault_at, fault_about, after, pair}
use Rattle.sve_fault.specs.declared.fault.Fault.{Fault}
use Rattle.sve_select.specs.declared.extent.Extent.{Extent}

-- packed dimensions stand before vectors, enumerations and packed structures without unpacked dimensions
abbrev pub form_can_be_packed : Form → List Range → Bool
form_can_be_packed (atom a s) unpacked = false
form_can_be_packed (vector v s) [] = true
form_can_be_packed (vector v s) (r ∷ rs) = false
form_can_be_packed (enumeration id of names) [] = true
form_can_be_packed (enumeration id of names) (r ∷ rs) = false
form_can_be_packed (structure s ms) [] = true
form_can_be_packed (structure s ms) (r ∷ rs) = false
form_can_be_packed text unpacked = false

abbrev pub can_be_packed : DataType → Bool
can_be_packed t = form_can_be_packed (form_of_type t) (unpacked_dimensions t)

-- the places of all packed dimensions together, and all bits
abbrev pub own_extent : DataType → Extent
own_extent t = record { places = counted (element_count (packed_dimensions t)); bits = counted (bits_of t) }

abbrev pub extent_of : ℕ → List ℕ → DataType → Result Extent Fault
extent_of token name t = if can_be_packed t then Ok (own_extent t) else Err (fault_about token N11 name)

-- a type by its name, with dimensions before its own
unfoldable pub extent_judged : ℕ → List ℕ → Result DataType Fault → Result Extent Fault
extent_judged token name ty = after ty (λ t. extent_of token name t)

-- all packed dimensions have 65,536 places together at the most (own); the one with which there are more has the fault
abbrev pub enlarged_by : ℕ → Extent → Range → Result Extent Fault
enlarged_by opening e r =
    if nat_lt 65536 (e.places * place_count r) then Err (fault_at opening C06)
    else Ok (record { places = e.places * place_count r; bits = counted (e.bits * place_count r) })

unfoldable pub enlarged_judged : ℕ → Result Extent Fault → Result Range Fault → Result Extent Fault
enlarged_judged opening before range = pair before range (λ e r. enlarged_by opening e r)

abbrev pub extent_bits : Result Extent Fault → Result ℕ Fault
extent_bits a = after a (λ e. Ok e.bits)
