-- What selects of a constant have led to (IEEE 1800-2017, 7.2.1, 7.4.5 and 11.5.1): a value, and what can be selected of it.
use Rattle.std.specs.Prelude.{ℕ, Bool, false, not, List, [], ◌∷◌, drop, Option, Some, None, Result, Ok, Err, pos, ◌-ℤ◌}
use Rattle.sve_value.specs.Vector.{Vector}
use Rattle.sve_types.specs.declared.ty.Range.{Range}
use Rattle.sve_types.specs.DataType.{DataType, data_type, Form, atom, vector, enumeration, structure, text, form_of_type, packed_dimensions}
use Rattle.sve_types.specs.States.{form_has_four_states}
use Rattle.sve_fault.specs.declared.fault.Fault.{Fault}
use Rattle.sve_select.specs.declared.part.Rest.{Rest}
use Rattle.sve_select.specs.declared.part.Rest.TheVariants as is_rest
use Rattle.sve_select.specs.declared.part.Part.{Part}
use Rattle.sve_select.specs.declared.places.Places as places

pub data Selectable : Type 0 where
  -- what a type says: its form, and the packed dimensions that are left of it
  typed : Form → List Range → Selectable
  -- bits one after another, as a concatenation has
  row : Selectable
  -- one bit
  bit : Selectable
  -- some bits of more
  run : Selectable

pub record Piece : Type 0 where
  pub value : Vector
  pub rest : Selectable

-- what the program holds of it
abbrev pub selectable_of : Rest → Selectable
selectable_of (is_rest.Typed ty taken) = typed (form_of_type ty.now) (drop taken (packed_dimensions ty.now))
selectable_of is_rest.Row = row
selectable_of is_rest.Bit = bit
selectable_of is_rest.Run = run

abbrev pub piece_of : Part → Piece
piece_of part = record { value = part.value; rest = selectable_of part.rest }

abbrev pub pieced : Result Part Fault → Result Piece Fault
pieced (Ok part) = Ok (piece_of part)
pieced (Err f) = Err f

-- whether x and z are no bits of it
abbrev pub has_two_states : Selectable → Bool
has_two_states (typed f packed) = not (form_has_four_states f)
has_two_states row = false
has_two_states bit = false
has_two_states run = false

-- ---- the places of which a select takes some, and what each of them is

pub record Places : Type 0 where
  pub range : Range
  pub each : Selectable

-- bits from the highest place to 0
abbrev pub plain : ℕ → Range
plain width = record { left = pos width -ℤ pos 1; right = pos 0 }

abbrev pub bits_in : ℕ → Selectable → Places
bits_in width each = record { range = plain width; each = each }

-- The leftmost packed dimension. Without one an integer type with a width of its own and a structure are vectors of their bits, and an
-- enumeration is as its base; one bit and a string have no places.
unfoldable mutual
  pub type_places : ℕ → DataType → Option Places
  type_places width (data_type f [] unpacked) = form_places width f
  type_places width (data_type f (r ∷ rs) unpacked) = Some (record { range = r; each = typed f rs })

  pub form_places : ℕ → Form → Option Places
  form_places width (atom a s) = Some (bits_in width bit)
  form_places width (vector v s) = None
  form_places width (enumeration id of names) = type_places width of
  form_places width (structure s ms) = Some (bits_in width bit)
  form_places width text = None

abbrev pub packed_places : ℕ → Form → List Range → Option Places
packed_places width f [] = form_places width f
packed_places width f (r ∷ rs) = Some (record { range = r; each = typed f rs })

abbrev pub places_of : ℕ → Selectable → Option Places
places_of width (typed f packed) = packed_places width f packed
places_of width row = Some (bits_in width run)
places_of width bit = None
places_of width run = None

-- what the program holds of places
abbrev pub seen_places : places.Places → Places
seen_places d = record { range = d.range; each = selectable_of d.each }
