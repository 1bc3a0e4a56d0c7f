-- The names of an interface, by its text (IEEE 1800-2017, 25.3 and 25.5).
use Rattle.std.specs.Prelude.{ℕ, List, [], Option, Some, None}
use Rattle.std.specs.List.{fold}
use Rattle.sve_table.specs.Tables.{with_item}
use Rattle.sve_tree.specs.declared.declaration.Modport.{Modport}
use Rattle.sve_tree.specs.declared.declaration.ModportMember.{ModportMember}
use Rattle.sve_tree.specs.declared.element.Definition.{Definition}
use Rattle.sve_tree.specs.declared.item.Item.{Item}
use Rattle.sve_tree.specs.declared.item.Item.TheVariants as is_item
use Rattle.sve_tree.specs.declared.token_word.Word.{Word}
use Rattle.sve_scope.specs.declared.interface.InterfaceNames.{InterfaceNames}
use Rattle.sve_scope.specs.declared.interface.ModportNames.{ModportNames}
use Rattle.sve_scope.specs.Interfaces.{modport_name}
use Rattle.sve_scope.specs.Scopes.{itself}
use Rattle.sve_known.specs.Naming.{name_at}
use Rattle.sve_item_names.specs.Declarations.{header_headings}
use Rattle.sve_ahead.specs.Ahead.{names_declared}

abbrev pub with_name : List (List ℕ) → Option (List ℕ) → List (List ℕ)
with_name names None = names
with_name names (Some n) = with_item itself names n

module _ (ws : List Word) where
  -- the members of a modport
  abbrev pub with_member : List (List ℕ) → ModportMember → List (List ℕ)
  with_member names member = with_name names (name_at ws member.name)

  abbrev pub members_of : List ModportMember → List (List ℕ)
  members_of members = fold with_member [] members

  -- one modport more, of which the first of a name counts
  abbrev pub modport_named : List ModportNames → Modport → Option (List ℕ) → List ModportNames
  modport_named all modport None = all
  modport_named all modport (Some n) = with_item modport_name all (record { name = n; members = members_of modport.members.items.items })

  abbrev pub with_modport : List ModportNames → Modport → List ModportNames
  with_modport all modport = modport_named all modport (name_at ws modport.name)

  -- they stand among the items of the interface itself
  abbrev pub with_item_modports : List ModportNames → Item → List ModportNames
  with_item_modports all (is_item.Modports declaration) = fold with_modport all declaration.value.modports.items.items
  with_item_modports all item = all

  abbrev pub modports_of : List Item → List ModportNames
  modports_of items = fold with_item_modports [] items

  abbrev pub interface_names : Definition → InterfaceNames
  interface_names d = record { all = names_declared ws (header_headings d.header) d.items.items; modports = modports_of d.items.items }
