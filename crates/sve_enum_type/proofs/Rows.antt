-- The loop over names.
use Rattle.std.proofs.Common.{◌≡◌, ◌<◌, ◌≤◌, ℕ, ◌+◌, List, length, drop, get_or, refl}
use Rattle.std.proofs.lemmas.List.{drop_more}
use Rattle.std.proofs.Math.ListN.{drop_of_length-le}
use Rattle.sve_tree.specs.declared.data_type.EnumName.{EnumName}
use Rattle.sve_types.specs.DataType.{DataType}
use Rattle.sve_env.specs.Told.{Told}
use Rattle.sve_enum_type.specs.Enumerations.{Listing, name_after, names_behind}
use Rattle.sve_enum_type.specs.Nodes.{value_nodes, name_count}

pub names_step : (m : Told) (base : DataType) (xs : List EnumName) (i : ℕ) (x : EnumName) (before : Listing) → i < length xs → x ≡ get_or xs i x → names_behind m base (name_after m base before x) (drop (i + 1) xs) ≡ names_behind m base before (drop i xs)
unfolding names_behind
names_step m base xs i x before h e = rw (drop_more xs i x h, ← e) refl

pub names_end : (m : Told) (base : DataType) (xs : List EnumName) (i : ℕ) (before : Listing) → length xs ≤ i → names_behind m base before (drop i xs) ≡ before
unfolding names_behind
names_end m base xs i before h = rw (drop_of_length-le xs h) refl

pub name_count_step : (m : Told) (xs : List EnumName) (i : ℕ) (x : EnumName) → i < length xs → x ≡ get_or xs i x → name_count m (drop i xs) ≡ value_nodes m x.value + name_count m (drop (i + 1) xs)
unfolding name_count
name_count_step m xs i x h e = rw (drop_more xs i x h, ← e) refl

pub name_count_end : (m : Told) (xs : List EnumName) (i : ℕ) → length xs ≤ i → name_count m (drop i xs) ≡ 0
unfolding name_count
name_count_end m xs i h = rw (drop_of_length-le xs h) refl
