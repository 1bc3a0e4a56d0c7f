-- Parameters without a value stand in the lists of headers.
use Rattle.std.proofs.Common.{Bool, true, false, not, List, [], ◌∷◌, ◌++◌, ◌||◌, map, Option, Some, None, is_some, ◌≡◌, refl, ◌∙◌, cond}
use Rattle.std.specs.List.{flat_map, list_any}
use Rattle.std.specs.Option.{is_none}
use Rattle.std.proofs.lemmas.List.Folds.{list_any-append}
use Rattle.sve_tree.specs.declared.word.ParameterKeyword.{ParameterKeyword}
use Rattle.sve_tree.specs.declared.word.ParameterKeyword.TheVariants.{Parameter}
use Rattle.sve_tree.specs.declared.declaration.ParameterAssignment.{ParameterAssignment}
use Rattle.sve_tree.specs.declared.header.ParameterPort.{ParameterPort}
use Rattle.sve_tree.specs.declared.header.ParameterPorts.{ParameterPorts}
use Rattle.sve_tree.specs.declared.element.Definition.{Definition}
use Rattle.sve_tree.specs.declared.item.Item.{Item}
use Rattle.sve_tree.specs.declared.item.Item.TheVariants as is_item
use Rattle.sve_tree.specs.declared.item.GenerateRegion.{Row_of-Item, end_of-Item, more_of-Item}
use Rattle.sve_mention.specs.InElements.{lacks_value, some_lacks_value, lacks_default}
use Rattle.sve_formal.specs.declared.formal.Formal.{Formal}
use Rattle.sve_formal.specs.Formals.{assignment_formal, formals_of, header_formals, is_local_keyword, item_formals, keyword_after, list_formals, row_formals}

no_value : {X : Type 0} (value : Option X) → not (is_some value) ≡ is_none value
no_value None = refl
no_value (Some value) = refl

-- ---- the body: all of its parameters have a value

none_of_assignments : (local : Bool) (assignments : List ParameterAssignment) → list_any (λ formal. not formal.has_value) (map (assignment_formal local) assignments) ≡ false
none_of_assignments local [] = refl
none_of_assignments local (assignment ∷ assignments) = none_of_assignments local assignments

neither : (xs ys : List Formal) → list_any (λ formal. not formal.has_value) xs ≡ false → list_any (λ formal. not formal.has_value) ys ≡ false → list_any (λ formal. not formal.has_value) (xs ++ ys) ≡ false
neither xs ys a b = list_any-append (λ formal. not formal.has_value) xs ys ∙ rw (a, b) refl

mutual
  unfolding item_formals

  none_of_item : (has_list : Bool) (item : Item) → list_any (λ formal. not formal.has_value) (item_formals has_list item) ≡ false
  none_of_item has_list (is_item.Parameters declaration) = none_of_assignments (cond has_list true (is_local_keyword declaration.value.keyword.kind)) declaration.value.assignments.items.items
  none_of_item has_list (is_item.Region' _ keyword _ items end) = none_of_row has_list items
  none_of_item has_list item = refl

  none_of_row : {n : _} (has_list : Bool) (row : Row_of-Item n) → list_any (λ formal. not formal.has_value) (row_formals has_list row) ≡ false
  none_of_row has_list end_of-Item = refl
  none_of_row has_list (more_of-Item item rest) = neither (item_formals has_list item) (row_formals has_list rest) (none_of_item has_list item) (none_of_row has_list rest)

none_of_items : (has_list : Bool) (items : List Item) → list_any (λ formal. not formal.has_value) (flat_map (item_formals has_list) items) ≡ false
none_of_items has_list [] = refl
none_of_items has_list (item ∷ items) = neither (item_formals has_list item) (flat_map (item_formals has_list) items) (none_of_item has_list item) (none_of_items has_list items)

-- ---- the list of the header

some_of_header : (before : ParameterKeyword) (ports : List ParameterPort) → list_any (λ formal. not formal.has_value) (header_formals before ports) ≡ list_any lacks_value ports
unfolding header_formals
some_of_header before [] = refl
some_of_header before (port ∷ ports) = rw (no_value port.value, some_of_header (keyword_after before port.keyword) ports) refl

some_of_list : (list : Option ParameterPorts) → list_any (λ formal. not formal.has_value) (list_formals list) ≡ some_lacks_value list
some_of_list None = refl
some_of_list (Some list) = some_of_header Parameter list.parameters.items.items

or_none : (a b c : Bool) → a ≡ c → b ≡ false → (a || b) ≡ c
or_none true b c a e = a
or_none false b c a e = e ∙ a

pub missing_values : (d : Definition) → list_any (λ formal. not formal.has_value) (formals_of d) ≡ lacks_default d
missing_values d =
    list_any-append (λ formal. not formal.has_value) (list_formals d.header.parameters) (flat_map (item_formals (is_some d.header.parameters)) d.items.items)
    ∙ or_none _ _ _ (some_of_list d.header.parameters) (none_of_items (is_some d.header.parameters) d.items.items)
