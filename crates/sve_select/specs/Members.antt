-- Selects of members of packed structures (IEEE 1800-2017, 7.2.1).
use Rattle.std.specs.Prelude.{ℕ, ◌==◌, nat_lt, nat_le, min, Bool, if◌then◌else◌, pos, bytes_eq, List, [], ◌∷◌, Option, Some, None, Result, Ok, Err}
use Rattle.sve_diag.specs.declared.code.Code.TheVariants.{C01, C03, E12}
use Rattle.sve_value.specs.Vector.{Vector}
use Rattle.sve_value.specs.Moves.{extend_of, select_of}
use Rattle.sve_types.specs.declared.ty.Range.{Range}
use Rattle.sve_types.specs.DataType.{DataType, Form, atom, vector, enumeration, structure, text, Members, no_member, member, form_of_type, packed_dimensions}
use Rattle.sve_types.specs.Widths.{bits_of, members_bits, counted}
use Rattle.sve_types.specs.Signs.{is_signed}
use Rattle.sve_fault.specs.Faults.{fault_at, fault_about}
use Rattle.sve_fault.specs.declared.fault.Fault.{Fault}
use Rattle.sve_fault.specs.declared.fault.Said.{Said}
use Rattle.sve_fault.specs.declared.fault.Said.TheVariants as is_said
use Rattle.sve_select.specs.Pieces.{Selectable, typed, row, bit, run, Piece, has_two_states}
use Rattle.sve_select.specs.declared.members.FoundMember.{FoundMember}

-- The first member of a name: how many bits stand behind it, as many as are counted, and its type. The first member is the most
-- significant one.
unfoldable pub member_of : List ℕ → Members → Option (ℕ × DataType)
member_of name no_member = None
member_of name (member n t ms) = if bytes_eq n name then Some (counted (members_bits ms), t) else member_of name ms

-- what the program holds of one
abbrev pub seen_member : FoundMember → ℕ × DataType
seen_member m = (m.behind, m.ty.now)

-- the members of a structure of which every packed dimension was selected
abbrev pub form_members : Form → Option Members
form_members (atom a s) = None
form_members (vector v s) = None
form_members (enumeration id of names) = None
form_members (structure s ms) = Some ms
form_members text = None

abbrev pub packed_members : Form → List Range → Option Members
packed_members f [] = form_members f
packed_members f (r ∷ rs) = None

abbrev pub members_in : Selectable → Option Members
members_in (typed f packed) = packed_members f packed
members_in row = None
members_in bit = None
members_in run = None

-- a member has its own size and sign; all places above 128 are outside of a value alike
abbrev pub member_piece : ℕ → Vector → Bool → ℕ → DataType → Result Piece Fault
member_piece first value two_states behind t =
    if counted (bits_of t) == 0 then Err (fault_at first C01)
    else (if nat_lt 128 (counted (bits_of t)) then Err (fault_at first C03)
    else Ok (record {
      value = extend_of (counted (bits_of t)) (is_signed t) (select_of value (pos (min behind 128)) (counted (bits_of t)) two_states);
      rest = typed (form_of_type t) (packed_dimensions t);
    }))

abbrev pub found_member : ℕ → ℕ → List ℕ → Piece → Option (ℕ × DataType) → Result Piece Fault
found_member first token name p None = Err (fault_about token E12 name)
found_member first token name p (Some m) = member_piece first p.value (has_two_states p.rest) m.0 m.1

abbrev pub in_members : ℕ → ℕ → List ℕ → Piece → Option Members → Result Piece Fault
in_members first token name p None = Err (fault_at first C01)
in_members first token name p (Some ms) = found_member first token name p (member_of name ms)

-- What is wrong with a name is not said where a dot stands behind it, since such a name is no constant unless it is a structure.
abbrev pub unsaid : Fault → Fault → Said → Fault
unsaid outside f is_said.Nothing = f
unsaid outside f (is_said.Here code arg) = outside
unsaid outside f (is_said.Elsewhere note) = outside

abbrev pub dotted : ℕ → ℕ → Fault → Fault
dotted first last f = if nat_le f.token last then unsaid (fault_at first C01) f f.said else f

-- A member of what earlier selects have led to. The tokens are the first one of the whole, the last one of its name, and that of the
-- member.
abbrev pub member_behind : ℕ → ℕ → ℕ → List ℕ → Result Piece Fault → Result Piece Fault
member_behind first last token name (Ok p) = in_members first token name p (members_in p.rest)
member_behind first last token name (Err f) = Err (dotted first last f)

unfoldable pub member_judged : ℕ → ℕ → ℕ → List ℕ → Result Piece Fault → Result Piece Fault
member_judged first last token name before = member_behind first last token name before
