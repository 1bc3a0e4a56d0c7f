-- Rows of names and of members as lists, and the loops over them.
use Rattle.std.specs.Global.{Vec}
use Rattle.std.proofs.Common.{◌≡◌, ◌<◌, ◌≤◌, ℕ, ◌+◌, List, length, drop, get_or, Option, refl, ap, sym, ◌∙◌}
use Rattle.std.proofs.lemmas.List.{drop_more}
use Rattle.std.proofs.Math.ListN.{drop_of_length-le}
use Rattle.sve_tree.specs.declared.word.Mark.{Mark}
use Rattle.sve_tree.specs.declared.word.Sign.{Sign}
use Rattle.sve_tree.specs.declared.expression.Dimension.{Dimension}
use Rattle.sve_tree.specs.declared.data_type.Members.{Members}
use Rattle.sve_tree.specs.declared.data_type.Structure.{Structure, out-Structure, roll-Structure, roll-out-Structure, Row_of-Members, end_of-Members, more_of-Members, items-the_row-Members}
use Rattle.sve_tree.specs.declared.data_type.DataType.TheBlock.{hidden-the_row-Members-0, items_hidden-the_row-Members-0}
use denote.Hole.Carrier.{roll}
use Rattle.sve_types.specs.DataType.{DataType}
use Rattle.sve_type_rule.specs.Members.{Membered, no_members, member_after}
use Rattle.sve_fault.specs.declared.fault.Fault.{Fault}
use Rattle.sve_env.specs.Nodes.{dimension_count}
use Rattle.sve_env.specs.Told.{Told}
use Rattle.sve_type_of.specs.TypeOf.{named_members, members_with, members_after, members_from, members_behind, members_of_structure, referred, structure_typed, structure_over}
use Rattle.sve_type_of.specs.Nodes.{type_nodes, structure_nodes, members_row, members_count, nodes_of_members}

-- ---- loops

pub named_members_step : (m : Told) (t : DataType) (xs : List ℕ) (i x : ℕ) (before : Membered) → i < length xs → x ≡ get_or xs i 0 → named_members m t (member_after x (m.text x) t before) (drop (i + 1) xs) ≡ named_members m t before (drop i xs)
unfolding named_members
named_members_step m t xs i x before h e = rw (drop_more xs i 0 h, ← e) refl

pub named_members_end : (m : Told) (t : DataType) (xs : List ℕ) (i : ℕ) (before : Membered) → length xs ≤ i → named_members m t before (drop i xs) ≡ before
unfolding named_members
named_members_end m t xs i before h = rw (drop_of_length-le xs h) refl

pub members_step : (m : Told) (xs : List Members) (i : ℕ) (x : Members) (before : Membered) → i < length xs → x ≡ get_or xs i x →
    members_behind m (members_after m before x) (drop (i + 1) xs) ≡ members_behind m before (drop i xs)
unfolding members_behind
members_step m xs i x before h e = rw (drop_more xs i x h, ← e) refl

pub members_end : (m : Told) (xs : List Members) (i : ℕ) (before : Membered) → length xs ≤ i → members_behind m before (drop i xs) ≡ before
unfolding members_behind
members_end m xs i before h = rw (drop_of_length-le xs h) refl

pub members_count_step : (m : Told) (xs : List Members) (i : ℕ) (x : Members) → i < length xs → x ≡ get_or xs i x → members_count m (drop i xs) ≡ type_nodes m x.data_type + members_count m (drop (i + 1) xs)
unfolding members_count
members_count_step m xs i x h e = rw (drop_more xs i x h, ← e) refl

pub members_count_end : (m : Told) (xs : List Members) (i : ℕ) → length xs ≤ i → members_count m (drop i xs) ≡ 0
unfolding members_count
members_count_end m xs i h = rw (drop_of_length-le xs h) refl

-- ---- members as a row and as a list

members_are : {n : _} (m : Told) (before : Membered) (row : Row_of-Members n) → members_from m before row ≡ members_behind m before (items-the_row-Members n row)
unfolding referred members_behind members_after
members_are m before end_of-Members = refl
members_are m before (more_of-Members data_type names semicolon rest) = members_are m (members_with m names.items.items before.members (referred m data_type before.faults)) rest

pub members_of_vec : (m : Told) (before : Membered) (xs : Vec Members) → members_from m before (hidden-the_row-Members-0 xs) ≡ members_behind m before xs.items
members_of_vec m before xs = members_are m before (hidden-the_row-Members-0 xs) ∙ ap (members_behind m before) (items_hidden-the_row-Members-0 xs)

members_are_counted : {n : _} (m : Told) (row : Row_of-Members n) → members_row m row ≡ members_count m (items-the_row-Members n row)
unfolding type_nodes members_count
members_are_counted m end_of-Members = refl
members_are_counted m (more_of-Members data_type names semicolon rest) = ap (λ (n : ℕ). type_nodes m data_type + n) (members_are_counted m rest)

pub members_row_of : (m : Told) (xs : Vec Members) → members_row m (hidden-the_row-Members-0 xs) ≡ members_count m xs.items
members_row_of m xs = members_are_counted m (hidden-the_row-Members-0 xs) ∙ ap (members_count m) (items_hidden-the_row-Members-0 xs)

-- ---- a structure by what the program reads of it

structure_made : (m : Told) (keyword packed : ℕ) (sign : Option (Mark Sign)) (opening : ℕ) (members : Vec Members) (closing : ℕ) (dimensions : Vec Dimension) (faults : List Fault) →
    structure_typed m (roll-Structure (record { keyword = keyword; packed = packed; sign = sign; opening = opening; members = members; closing = closing; dimensions = dimensions })) faults ≡ structure_over m sign dimensions.items (members_of_structure m (no_members faults) members)
unfolding referred roll-Structure roll
structure_made m keyword packed sign opening members closing dimensions faults = refl

pub structure_is : (m : Told) (s : Structure) (faults : List Fault) → structure_typed m s faults ≡ structure_over m (out-Structure s).sign (out-Structure s).dimensions.items (members_of_structure m (no_members faults) (out-Structure s).members)
structure_is m s faults =
    ap (λ (t : Structure). structure_typed m t faults) (sym (roll-out-Structure s))
    ∙ structure_made m (out-Structure s).keyword (out-Structure s).packed (out-Structure s).sign (out-Structure s).opening (out-Structure s).members (out-Structure s).closing (out-Structure s).dimensions faults

counted_made : (m : Told) (keyword packed : ℕ) (sign : Option (Mark Sign)) (opening : ℕ) (members : Vec Members) (closing : ℕ) (dimensions : Vec Dimension) →
    structure_nodes m (roll-Structure (record { keyword = keyword; packed = packed; sign = sign; opening = opening; members = members; closing = closing; dimensions = dimensions })) ≡ nodes_of_members m members + dimension_count m dimensions.items
unfolding type_nodes roll-Structure roll
counted_made m keyword packed sign opening members closing dimensions = refl

pub structure_counts : (m : Told) (s : Structure) → structure_nodes m s ≡ nodes_of_members m (out-Structure s).members + dimension_count m (out-Structure s).dimensions.items
structure_counts m s =
    ap (structure_nodes m) (sym (roll-out-Structure s))
    ∙ counted_made m (out-Structure s).keyword (out-Structure s).packed (out-Structure s).sign (out-Structure s).opening (out-Structure s).members (out-Structure s).closing (out-Structure s).dimensions
