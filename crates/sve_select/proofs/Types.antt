-- What is left of types, and their members.
use Rattle.std.proofs.Common.{add-one, ◌≡◌, ℕ, zero, suc, ◌+◌, ◌<◌, ◌≤◌, ◌*◌, ◌-◌, ◌^◌, Bool, true, false, List, [], ◌∷◌, length, take, drop, get_or, drop-cons, bytes_eq, Option, Some, None, if◌then◌else◌, refl, ap, sym, ◌∙◌, arith}
use Rattle.std.proofs.Math.ListN.{drop_of_length-le}
use Rattle.std.proofs.lemmas.List.{length-drop, take_all}
use Rattle.sve_types.specs.declared.ty.Range.{Range}
use Rattle.sve_types.specs.DataType.{DataType, data_type, Form, form_of_type, packed_dimensions}
use Rattle.sve_types.specs.Dimensions.{element_count}
use Rattle.sve_types.specs.View.{members_of}
use Rattle.sve_types.specs.Widths.{members_bits, counted}
use Rattle.sve_types.specs.States.{has_four_states, form_has_four_states}
use Rattle.sve_select.specs.Pieces.{typed, type_places, form_places, packed_places}
use Rattle.sve_select.specs.Members.{member_of, form_members, packed_members}

pub states_of_form : (t : DataType) → has_four_states t ≡ form_has_four_states (form_of_type t)
unfolding has_four_states
states_of_form (data_type f packed unpacked) = refl

-- ---- places

pub places_of_type : (width : ℕ) (t : DataType) → type_places width t ≡ packed_places width (form_of_type t) (packed_dimensions t)
unfolding type_places
places_of_type width (data_type f [] unpacked) = refl
places_of_type width (data_type f (r ∷ rs) unpacked) = refl

-- the leftmost dimension that is left
pub places_taken : (width : ℕ) (f : Form) (packed : List Range) (n : ℕ) (r : Range) → n < length packed → packed_places width f (drop n packed) ≡ Some (record { range = get_or packed n r; each = typed f (drop (n + 1) packed) })
places_taken width f packed n r h = rw (drop-cons packed n r h, add-one) refl

-- no dimension is left
pub places_left : (width : ℕ) (f : Form) (packed : List Range) (n : ℕ) → length packed ≤ n → packed_places width f (drop n packed) ≡ form_places width f
places_left width f packed n h = rw (drop_of_length-le packed h) refl

-- ---- members

pub members_taken : (f : Form) (packed : List Range) (n : ℕ) → n < length packed → packed_members f (drop n packed) ≡ None
members_taken f [] n h = absurd (omega arith)
members_taken f (r ∷ rs) zero h = refl
members_taken f (r ∷ rs) (suc n) h = members_taken f rs n (omega arith)

pub members_left : (f : Form) (packed : List Range) (n : ℕ) → length packed ≤ n → packed_members f (drop n packed) ≡ form_members f
members_left f packed n h = rw (drop_of_length-le packed h) refl

tested : {X : Type 0} (b : Bool) (x y : X) → b ≡ true → (if b then x else y) ≡ x
tested true x y e = refl
tested false x y e = cc

failed : {X : Type 0} (b : Bool) (x y : X) → b ≡ false → (if b then x else y) ≡ y
failed false x y e = refl
failed true x y e = cc

pub member_here : (name : List ℕ) (ms : List (List ℕ × DataType)) (i : ℕ) (m : List ℕ × DataType) → i < length ms → m ≡ get_or ms i m → bytes_eq m.0 name ≡ true →
    member_of name (members_of (drop i ms)) ≡ Some (counted (members_bits (members_of (drop (i + 1) ms))), m.1)
unfolding member_of
member_here name ms i m h e t = rw (drop-cons ms i m h, ← e, add-one) (tested (bytes_eq m.0 name) _ _ t)

pub member_found : (name : List ℕ) (ms : List (List ℕ × DataType)) (whole : Option (ℕ × DataType)) (i : ℕ) (m : List ℕ × DataType) (other : List ℕ) (found : Bool) (behind : ℕ) →
    i < length ms → m ≡ get_or ms i m → other ≡ m.0 → found ≡ bytes_eq other name → found ≡ true →
    behind ≡ counted (members_bits (members_of (take (length ms - (i + 1)) (drop (i + 1) ms)))) →
    member_of name (members_of (drop i ms)) ≡ whole → Some (behind, m.1) ≡ whole
member_found name ms whole i m other found behind h e o q t b w =
    let t' : bytes_eq m.0 name ≡ true = cc in
    let rest : take (length ms - (i + 1)) (drop (i + 1) ms) ≡ drop (i + 1) ms = take_all (length ms - (i + 1)) (drop (i + 1) ms) (omega (arith, length-drop (i + 1) ms)) in
    let here : member_of name (members_of (drop i ms)) ≡ Some (counted (members_bits (members_of (drop (i + 1) ms))), m.1) = member_here name ms i m h e t' in
    let b' : behind ≡ counted (members_bits (members_of (drop (i + 1) ms))) = b ∙ ap (λ (xs : List (List ℕ × DataType)). counted (members_bits (members_of xs))) rest in
    ap (λ (n : ℕ). Some (n, m.1)) b' ∙ sym here ∙ w

pub member_further : (name : List ℕ) (ms : List (List ℕ × DataType)) (i : ℕ) (m : List ℕ × DataType) → i < length ms → m ≡ get_or ms i m → bytes_eq m.0 name ≡ false →
    member_of name (members_of (drop i ms)) ≡ member_of name (members_of (drop (i + 1) ms))
unfolding member_of
member_further name ms i m h e t = rw (drop-cons ms i m h, ← e, add-one) (failed (bytes_eq m.0 name) _ _ t)

pub member_nowhere : (name : List ℕ) (ms : List (List ℕ × DataType)) (i : ℕ) → length ms ≤ i → member_of name (members_of (drop i ms)) ≡ None
unfolding member_of
member_nowhere name ms i h = rw (drop_of_length-le ms h) refl

-- ---- elements

pub elements_all : (rs : List Range) (i total : ℕ) → length rs ≤ i → total ≤ 2 ^ 64 - 1 → counted (total * element_count (drop i rs)) ≡ counted (element_count rs) → total ≡ counted (element_count rs)
elements_all rs i total h l e =
    let a : counted (total * 1) ≡ counted (element_count rs) = rw (drop_of_length-le rs h) at e in
    let c : counted total ≡ total = omega arith in
    omega (arith, a, c)
