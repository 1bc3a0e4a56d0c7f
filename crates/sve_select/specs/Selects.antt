-- Selects of places (IEEE 1800-2017, 11.5.1): `[i]`, `[l:r]`, `[b+:w]` and `[b-:w]`.
use Rattle.std.specs.Prelude.{ℕ, ◌+◌, ◌-◌, ◌*◌, ◌/◌, ◌==◌, nat_lt, Bool, false, if◌then◌else◌, ℤ, pos, ◌+ℤ◌, ◌-ℤ◌, ◌*ℤ◌, int_lt, unsigned_abs, List, length, Option, Some, None, Result, Ok, Err}
use Rattle.std.specs.Option.{option_map}
use Rattle.sve_diag.specs.declared.code.Code.TheVariants.{C01, C03, N11}
use Rattle.sve_value.specs.Vector.{Vector}
use Rattle.sve_value.specs.Numbers.{known_integer, short_integer}
use Rattle.sve_value.specs.Moves.{filled_of, outside_bit, select_of}
use Rattle.sve_types.specs.Dimensions.{place_count}
use Rattle.sve_types.specs.DataType.{DataType, form_of_type, packed_dimensions}
use Rattle.sve_types.specs.declared.ty.Range.{Range}
use Rattle.sve_types.specs.declared.value.Value.{Value}
use Rattle.sve_types.specs.declared.value.Value.TheVariants as is_value
use Rattle.sve_operand.specs.Meaning.{own_value, settled_meaning}
use Rattle.sve_fault.specs.Faults.{fault_at, fault_about, after, pair}
use Rattle.sve_fault.specs.declared.fault.Fault.{Fault}
use Rattle.sve_rule.specs.Judged.{Judged}
use Rattle.sve_rule.specs.Rules.{count_of}
use Rattle.sve_select.specs.declared.choice.Choice.{Choice}
use Rattle.sve_select.specs.declared.choice.Choice.TheVariants as is_choice
use Rattle.sve_select.specs.Pieces.{Selectable, typed, row, bit, run, Piece, Places, has_two_states, places_of}

-- ---- where selects begin, and where they end

-- A constant by its name, with its value and its type. Selects of strings are left out, and a type is no value.
abbrev pub begun : ℕ → ℕ → List ℕ → Value → DataType → Result Piece Fault
begun first token name (is_value.Bits v) t = Ok (record { value = v; rest = typed (form_of_type t) (packed_dimensions t) })
begun first token name (is_value.Text bytes) t = Err (fault_at first C01)
begun first token name (is_value.OfType u) t = Err (fault_about token N11 name)

unfoldable pub begun_judged : ℕ → ℕ → List ℕ → Result Value Fault → Result DataType Fault → Result Piece Fault
begun_judged first token name value ty = pair value ty (λ v t. begun first token name v t)

-- bits one after another
unfoldable pub row_judged : Judged → Result Piece Fault
row_judged a = after a (λ x. Ok (record { value = own_value x; rest = row }))

unfoldable pub ended_judged : Result Piece Fault → Judged
ended_judged a = after a (λ p. Ok (settled_meaning p.value))

-- ---- places

-- a place that is outside of 64 signed bits is outside of every dimension, as one with x or z is
abbrev pub place_at : Vector → Option ℤ
place_at v = short_integer (known_integer v)

-- whether the places rise to the right
abbrev pub is_rising : Range → Bool
is_rising r = int_lt r.left r.right

-- how far a place is above the rightmost one
abbrev pub above : Range → ℤ → ℤ
above r i = if is_rising r then r.right -ℤ i else i -ℤ r.right

-- the rightmost of the places from a lowest to a highest
abbrev pub rightmost : Range → ℤ → ℤ → ℤ
rightmost r low high = if is_rising r then high else low

abbrev pub is_reversed : Range → ℤ → ℤ → Bool
is_reversed r a b = if is_rising r then int_lt b a else int_lt a b

-- So many bits, from a place on that is so far above the rightmost one. All are outside where the place is unknown.
abbrev pub cut : Piece → ℕ → ℕ → Option ℤ → Vector
cut p each width (Some z) = select_of p.value (z *ℤ pos each) width (has_two_states p.rest)
cut p each width None = filled_of width false (outside_bit (has_two_states p.rest))

-- so many places of so many bits each, which are 128 bits at the most
abbrev pub several : ℕ → Piece → ℕ → ℕ → Option ℤ → Selectable → Result Piece Fault
several first p each count low rest =
    if nat_lt 128 (count * each) then Err (fault_at first C03)
    else Ok (record { value = cut p each (count * each) low; rest = rest })

-- `[l:r]`: its bounds are known, and in the order of the dimension
abbrev pub from_to : ℕ → Piece → Range → ℕ → ℕ → ℤ → ℤ → Result Piece Fault
from_to first p r each token a b =
    if is_reversed r a b then Err (fault_at token C01)
    else several first p each (unsigned_abs (a -ℤ b) + 1) (Some (above r b)) run

abbrev pub between : ℕ → Piece → Range → ℕ → ℕ → Option ℤ → ℕ → Option ℤ → Result Piece Fault
between first p r each left_token None right_token b = Err (fault_at left_token C01)
between first p r each left_token (Some a) right_token None = Err (fault_at right_token C01)
between first p r each left_token (Some a) right_token (Some b) = from_to first p r each left_token a b

-- `[b+:w]`: as many places as the width says, which is known and 1 at least, of which the base is the lowest
abbrev pub upward : ℕ → Piece → Range → ℕ → Option ℤ → ℕ → Option ℕ → Result Piece Fault
upward first p r each base token None = Err (fault_at token C01)
upward first p r each base token (Some w) =
    if w == 0 then Err (fault_at token C01)
    else several first p each w (option_map (λ b. above r (rightmost r b (b +ℤ pos (w - 1)))) base) run

-- `[b-:w]`: those of which the base is the highest
abbrev pub downward : ℕ → Piece → Range → ℕ → Option ℤ → ℕ → Option ℕ → Result Piece Fault
downward first p r each base token None = Err (fault_at token C01)
downward first p r each base token (Some w) =
    if w == 0 then Err (fault_at token C01)
    else several first p each w (option_map (λ b. above r (rightmost r (b -ℤ pos (w - 1)) b)) base) run

abbrev pub chosen : ℕ → Piece → Places → ℕ → Choice → Result Piece Fault
chosen first p d each (is_choice.Place i) = several first p each 1 (option_map (λ z. above d.range z) (place_at i)) d.each
chosen first p d each (is_choice.Between left_token l right_token r) = between first p d.range each left_token (place_at l) right_token (place_at r)
chosen first p d each (is_choice.Upward b token w) = upward first p d.range each (place_at b) token (count_of w)
chosen first p d each (is_choice.Downward b token w) = downward first p d.range each (place_at b) token (count_of w)

-- each place has as many bits as any other
abbrev pub bits_of_place : Piece → Range → ℕ
bits_of_place p r = length p.value.bits / place_count r

abbrev pub chosen_of : ℕ → Piece → Places → Choice → Result Piece Fault
chosen_of first p d c = if bits_of_place p d.range == 0 then Err (fault_at first C01) else chosen first p d (bits_of_place p d.range) c

-- what has no places: what a name stands for, or some bits of more
abbrev pub no_places : ℕ → ℕ → List ℕ → Selectable → Fault
no_places first token name (typed f packed) = fault_about token N11 name
no_places first token name row = fault_at first C01
no_places first token name bit = fault_about token N11 name
no_places first token name run = fault_at first C01

abbrev pub chosen_in : ℕ → ℕ → List ℕ → Piece → Choice → Option Places → Result Piece Fault
chosen_in first token name p c None = Err (no_places first token name p.rest)
chosen_in first token name p c (Some d) = chosen_of first p d c

-- A select of what earlier ones have led to. The tokens are the first one of the whole, and that of the name.
unfoldable pub selected_judged : ℕ → ℕ → List ℕ → Result Piece Fault → Result Choice Fault → Result Piece Fault
selected_judged first token name before choice =
    pair before choice (λ p c. chosen_in first token name p c (places_of (length p.value.bits) p.rest))
