-- The parameters of a declaration and of a region, as their fields are seen from outside.
use Rattle.std.specs.Global.{Box}
use Rattle.std.proofs.Common.{Bool, List, ◌++◌, ◌≡◌, refl, ap, ◌∙◌}
use Rattle.std.specs.List.{flat_map}
use Rattle.sve_tree.specs.declared.declaration.Parameters.{Parameters}
use Rattle.sve_tree.specs.declared.item.GenerateRegion.{GenerateRegion, Row_of-Item, end_of-Item, items-the_row-Item, more_of-Item}
use Rattle.sve_tree.specs.declared.item.CaseGenerateItem.TheBlock.{hidden-the_row-Item-0, items_hidden-the_row-Item-0}
use Rattle.sve_tree.specs.declared.item.Item.TheVariants as is_item
use Rattle.sve_formal.specs.declared.formal.Formal.{Formal}
use Rattle.sve_formal.specs.Formals.{item_formals, parameters_formals, row_formals}

pub of_parameters : (has_list : Bool) (declaration : Box Parameters) → item_formals has_list (is_item.Parameters declaration) ≡ parameters_formals has_list declaration.value
unfolding item_formals
of_parameters has_list declaration = refl

items_are : {n : _} (has_list : Bool) (row : Row_of-Item n) → row_formals has_list row ≡ flat_map (item_formals has_list) (items-the_row-Item n row)
unfolding item_formals
items_are has_list end_of-Item = refl
items_are has_list (more_of-Item item rest) = ap (λ (more : List Formal). item_formals has_list item ++ more) (items_are has_list rest)

pub of_region : (has_list : Bool) (region : Box GenerateRegion) → item_formals has_list (is_item.Region region) ≡ flat_map (item_formals has_list) region.value.items.items
unfolding item_formals
of_region has_list region = items_are has_list (hidden-the_row-Item-0 region.value.items) ∙ ap (flat_map (item_formals has_list)) (items_hidden-the_row-Item-0 region.value.items)
