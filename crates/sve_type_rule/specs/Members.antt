-- The members of a packed structure (IEEE 1800-2017, 7.2.1).
use Rattle.std.specs.Prelude.{ℕ, Bool, true, false, List, [], ◌∷◌, ◌++◌, Option, Some, None}
use Rattle.sve_diag.specs.declared.code.Code.TheVariants.{E06}
use Rattle.sve_types.specs.declared.ty.Range.{Range}
use Rattle.sve_types.specs.DataType.{DataType, Form, atom, vector, enumeration, structure, text, form_of_type, unpacked_dimensions}
use Rattle.sve_fault.specs.Faults.{argument_of, fault_about}
use Rattle.sve_fault.specs.declared.fault.Fault.{Fault}
use Rattle.sve_type_rule.specs.Ranges.{noted}
use Rattle.sve_type_rule.specs.declared.members.Members.{Members}

pub record Membered : Type 0 where
  pub members : List (List ℕ × DataType)
  pub faults : List Fault

-- what the program holds of them
abbrev pub membered : Members → Membered
membered m = record { members = m.members.items; faults = m.faults.items }

abbrev pub no_members : List Fault → Membered
no_members faults = record { members = []; faults = faults }

-- a member is no string, and has no unpacked dimension
abbrev pub form_can_be_member : Form → List Range → Bool
form_can_be_member text unpacked = false
form_can_be_member (atom a s) [] = true
form_can_be_member (atom a s) (r ∷ rs) = false
form_can_be_member (vector v s) [] = true
form_can_be_member (vector v s) (r ∷ rs) = false
form_can_be_member (enumeration id of names) [] = true
form_can_be_member (enumeration id of names) (r ∷ rs) = false
form_can_be_member (structure s ms) [] = true
form_can_be_member (structure s ms) (r ∷ rs) = false

abbrev pub can_be_member : DataType → Bool
can_be_member t = form_can_be_member (form_of_type t) (unpacked_dimensions t)

abbrev pub with_member : List (List ℕ × DataType) → Option (List ℕ) → DataType → List (List ℕ × DataType)
with_member members None t = members
with_member members (Some name) t = members ++ (name, t) ∷ []

-- a name more, of a type; one of a type that is out for its place stays (E06, own)
unfoldable pub member_after : ℕ → List ℕ → DataType → Membered → Membered
member_after token name t b = record {
  members = with_member b.members (argument_of name) t;
  faults = noted (can_be_member t) (fault_about token E06 name) b.faults;
}
