-- The names of an enumeration and the members of a structure, one by one.
use Rattle.std.specs.Global.{Vec}
use Rattle.std.proofs.Common.{◌≡◌, ◌<◌, ◌≤◌, ℕ, ◌+◌, List, length, drop, get_or, Option, refl, ap, sym, ◌∙◌}
use Rattle.std.proofs.lemmas.List.{drop_more}
use Rattle.std.proofs.Math.ListN.{drop_of_length-le}
use Rattle.sve_tree.specs.declared.word.Mark.{Mark}
use Rattle.sve_tree.specs.declared.word.Sign.{Sign}
use Rattle.sve_tree.specs.declared.expression.Dimension.{Dimension}
use Rattle.sve_tree.specs.declared.data_type.EnumName.{EnumName}
use Rattle.sve_tree.specs.declared.data_type.Members.{Members}
use Rattle.sve_tree.specs.declared.data_type.Structure.{Structure, out-Structure, roll-Structure, roll-out-Structure, Row_of-Members, end_of-Members, more_of-Members, items-the_row-Members}
use Rattle.sve_tree.specs.declared.data_type.DataType.TheBlock.{hidden-the_row-Members-0, items_hidden-the_row-Members-0}
use Rattle.sve_tree.specs.declared.token_word.Word.{Word}
use denote.Hole.Carrier.{roll}
use Rattle.sve_value.specs.Vector.{Vector}
use Rattle.sve_types.specs.DataType.{DataType}
use Rattle.sve_enumerated.specs.declared.passed.Passed.{Passed}
use Rattle.sve_enumerated.specs.declared.enumeration.Naming.{Naming}
use Rattle.sve_enumerated.specs.Names.{name_after, names_behind}
use Rattle.sve_enumerated.specs.Types.{named_after, named_behind, named_in_ref, named_in_row, named_in_structure, named_in_vec, past_members}

pub names_step : (ws : List Word) (ty : Option DataType) (vs : List (List ℕ × Vector)) (seps : List ℕ) (last : ℕ) (xs : List EnumName) (i : ℕ) (x : EnumName) (s : Naming) → i < length xs → x ≡ get_or xs i x →
    names_behind ws ty vs seps last (i + 1) (name_after ws ty vs seps last i s x) (drop (i + 1) xs) ≡ names_behind ws ty vs seps last i s (drop i xs)
unfolding names_behind
names_step ws ty vs seps last xs i x s h e = rw (drop_more xs i x h, ← e) refl

pub names_end : (ws : List Word) (ty : Option DataType) (vs : List (List ℕ × Vector)) (seps : List ℕ) (last : ℕ) (xs : List EnumName) (i : ℕ) (s : Naming) → length xs ≤ i → names_behind ws ty vs seps last i s (drop i xs) ≡ s
unfolding names_behind
names_end ws ty vs seps last xs i s h = rw (drop_of_length-le xs h) refl

pub members_step : (ws : List Word) (t : DataType) (xs : List Members) (i : ℕ) (x : Members) (p : Passed) → i < length xs → x ≡ get_or xs i x →
    named_behind ws t (named_after ws t p x) (drop (i + 1) xs) ≡ named_behind ws t p (drop i xs)
unfolding named_behind
members_step ws t xs i x p h e = rw (drop_more xs i x h, ← e) refl

pub members_end : (ws : List Word) (t : DataType) (xs : List Members) (i : ℕ) (p : Passed) → length xs ≤ i → named_behind ws t p (drop i xs) ≡ p
unfolding named_behind
members_end ws t xs i p h = rw (drop_of_length-le xs h) refl

members_are : {n : _} (ws : List Word) (t : DataType) (p : Passed) (row : Row_of-Members n) → named_in_row ws t p row ≡ named_behind ws t p (items-the_row-Members n row)
unfolding named_in_ref named_behind named_after
members_are ws t p end_of-Members = refl
members_are ws t p (more_of-Members data_type names semicolon rest) = members_are ws t (past_members ws (named_in_ref ws t p data_type) names.items.items semicolon) rest

pub members_of_vec : (ws : List Word) (t : DataType) (p : Passed) (xs : Vec Members) → named_in_row ws t p (hidden-the_row-Members-0 xs) ≡ named_behind ws t p xs.items
members_of_vec ws t p xs = members_are ws t p (hidden-the_row-Members-0 xs) ∙ ap (named_behind ws t p) (items_hidden-the_row-Members-0 xs)

structure_made : (ws : List Word) (t : DataType) (p : Passed) (keyword packed : ℕ) (sign : Option (Mark Sign)) (opening : ℕ) (members : Vec Members) (closing : ℕ) (dimensions : Vec Dimension) →
    named_in_structure ws t p (roll-Structure (record { keyword = keyword; packed = packed; sign = sign; opening = opening; members = members; closing = closing; dimensions = dimensions })) ≡ named_in_vec ws t p members
unfolding named_in_ref roll-Structure roll
structure_made ws t p keyword packed sign opening members closing dimensions = refl

pub structure_is : (ws : List Word) (t : DataType) (p : Passed) (s : Structure) → named_in_structure ws t p s ≡ named_in_vec ws t p (out-Structure s).members
structure_is ws t p s =
    ap (named_in_structure ws t p) (sym (roll-out-Structure s))
    ∙ structure_made ws t p (out-Structure s).keyword (out-Structure s).packed (out-Structure s).sign (out-Structure s).opening (out-Structure s).members (out-Structure s).closing (out-Structure s).dimensions
