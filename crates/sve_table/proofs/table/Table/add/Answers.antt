-- In `there` and `absent` the map's answer for the item's name is that of the list.
use Rattle.std.proofs.Common.{◌≡◌, ◌∙◌, sym, ap, is_some, true, false, not, None, nat_eq}
use Rattle.std.specs.Cmp.Lexicographic.{pointwise}
use Rattle.std.specs.Map.{values_of}
use Rattle.indexmap.specs.IndexMap.{get}
use Rattle.indexmap.proofs.CallerLemmas.{insert_entry-new}
use Rattle.sve_table.specs.Tables.{item_of}
use Rattle.sve_table.proofs.Entries.{lookup-item_of, values_of-push, under_names-push, with_item-present, with_item-absent, none_there}
use Rattle.sve_table.proofs.table.Table.add.Goals as goal

pub returns-then-contains_key-clause-table : goal.returns-then-contains_key-clause-table
returns-then-contains_key-clause-table g c =
    let found = ap is_some (lookup-item_of g.T.Named.called c.name.result.now c.self.inside.items.entries c.self.invariant) in
    let there : is_some (item_of g.T.Named.called (g.T.Named.called c.args.item) (values_of c.self.inside.items.entries)) ≡ true =
    rw (← c.name.ensures) (sym found ∙ sym c.contains_key.ensures ∙ c.if-contains_key.true) in
    rw (← c.self.view_is) (sym (with_item-present g.T.Named.called (values_of c.self.inside.items.entries) c.args.item there))

pub returns-then-contains_key-clause-is_new : goal.returns-then-contains_key-clause-is_new
returns-then-contains_key-clause-is_new g c =
    let found = ap is_some (lookup-item_of g.T.Named.called c.name.result.now c.self.inside.items.entries c.self.invariant) in
    let there : is_some (item_of g.T.Named.called (g.T.Named.called c.args.item) (values_of c.self.inside.items.entries)) ≡ true =
    rw (← c.name.ensures) (sym found ∙ sym c.contains_key.ensures ∙ c.if-contains_key.true) in
    rw (← c.self.view_is) (sym (ap not there))

pub invariant_of-self-2 : goal.invariant_of-self-2
invariant_of-self-2 g c =
    let no = sym c.contains_key.ensures ∙ c.if-contains_key.false in
    let key : c.in_ok-copy.field-0 ≡ g.T.Named.called c.args.item = c.in_ok-copy.ensures ∙ c.name-2.ensures in
    let same : c.name.result.now ≡ c.in_ok-copy.field-0 = c.name.ensures ∙ sym key in
    let absent : get (pointwise nat_eq) c.self.inside.items c.in_ok-copy.field-0 ≡ None = rw (← same) (none_there _ no) in
    let entries = c.in_ok-insert.ensures.entries ∙ insert_entry-new (pointwise nat_eq) c.self.inside.items c.in_ok-copy.field-0 c.args.item absent in
    rw entries (under_names-push g.T.Named.called c.self.inside.items.entries c.in_ok-copy.field-0 c.args.item key c.self.invariant)

pub returns-clause-table : goal.returns-clause-table
returns-clause-table g c =
    let no = sym c.contains_key.ensures ∙ c.if-contains_key.false in
    let key : c.in_ok-copy.field-0 ≡ g.T.Named.called c.args.item = c.in_ok-copy.ensures ∙ c.name-2.ensures in
    let same : c.name.result.now ≡ c.in_ok-copy.field-0 = c.name.ensures ∙ sym key in
    let absent : get (pointwise nat_eq) c.self.inside.items c.in_ok-copy.field-0 ≡ None = rw (← same) (none_there _ no) in
    let entries = c.in_ok-insert.ensures.entries ∙ insert_entry-new (pointwise nat_eq) c.self.inside.items c.in_ok-copy.field-0 c.args.item absent in
    let found = ap is_some (lookup-item_of g.T.Named.called c.name.result.now c.self.inside.items.entries c.self.invariant) in
    let none : is_some (item_of g.T.Named.called (g.T.Named.called c.args.item) (values_of c.self.inside.items.entries)) ≡ false = rw (← c.name.ensures) (sym found ∙ no) in
    rw (← c.self.view_is)
    (ap values_of entries ∙ values_of-push g.T.Named.called c.self.inside.items.entries c.in_ok-copy.field-0 c.args.item
    ∙ sym (with_item-absent g.T.Named.called (values_of c.self.inside.items.entries) c.args.item none))

pub returns-clause-is_new : goal.returns-clause-is_new
returns-clause-is_new g c =
    let found = ap is_some (lookup-item_of g.T.Named.called c.name.result.now c.self.inside.items.entries c.self.invariant) in
    let none : is_some (item_of g.T.Named.called (g.T.Named.called c.args.item) (values_of c.self.inside.items.entries)) ≡ false =
    rw (← c.name.ensures) (sym found ∙ sym c.contains_key.ensures ∙ c.if-contains_key.false) in
    rw (← c.self.view_is) (sym (ap not none))
