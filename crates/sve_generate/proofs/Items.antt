-- Constructs of regions, and of items from one on.
use Rattle.std.specs.Global.{Box}
use Rattle.std.proofs.Common.{◌+◌, ◌≡◌, refl, ap, sym, ◌∙◌}
use Rattle.std.specs.List.{sum_by}
use Rattle.sve_tree.specs.declared.item.GenerateRegion.{GenerateRegion, Row_of-Item, end_of-Item, items-the_row-Item, more_of-Item}
use Rattle.sve_tree.specs.declared.item.CaseGenerateItem.TheBlock.{hidden-the_row-Item-0, items_hidden-the_row-Item-0}
use Rattle.sve_tree.specs.declared.item.Item.TheVariants as is_item
use Rattle.sve_generate.specs.Constructs.{constructs, row_constructs}
use Rattle.std.proofs.lemmas.List.Sums.{sum_by-cons}

items_are : {n : _} (row : Row_of-Item n) → row_constructs row ≡ sum_by constructs (items-the_row-Item n row)
unfolding constructs
items_are end_of-Item = refl
items_are (more_of-Item item rest) = ap (λ more. constructs item + more) (items_are rest) ∙ sym (sum_by-cons constructs item (items-the_row-Item _ rest))

pub of_region : (region : Box GenerateRegion) → constructs (is_item.Region region) ≡ sum_by constructs region.value.items.items
unfolding constructs
of_region region = items_are (hidden-the_row-Item-0 region.value.items) ∙ ap (sum_by constructs) (items_hidden-the_row-Item-0 region.value.items)
