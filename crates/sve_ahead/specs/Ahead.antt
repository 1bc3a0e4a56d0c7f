-- What the text of a scope declares that is seen in the whole scope, and how its blocks without a label are named (IEEE 1800-2017, 23.9, 27.5 and 27.6).
use Rattle.std.specs.Prelude.{ℕ, ◌-◌, Bool, true, not, ◌&&◌, List, [], ◌∷◌, ◌++◌, Option, Some, None, is_some, sum_by, if◌then◌else◌}
use Rattle.std.specs.List.{fold}
use Rattle.sve_table.specs.Tables.{item_of, with_item}
use Rattle.sve_scope.specs.Scopes.{itself}
use Rattle.sve_tree.specs.declared.item.Item.{Item}
use Rattle.sve_tree.specs.declared.token_word.Word.{Word}
use Rattle.sve_known.specs.Naming.{name_at}
use Rattle.sve_heading.specs.declared.heading.Heading.{Heading}
use Rattle.sve_item_names.specs.declared.name.ItemName.{ItemName}
use Rattle.sve_item_names.specs.declared.name.ItemName.TheVariants as is_name
use Rattle.sve_item_names.specs.Items.{names_of}
use Rattle.sve_generate.specs.BlockNames.{is_taken, names_from}
use Rattle.sve_generate.specs.Constructs.{constructs}
use Rattle.sve_ahead.specs.declared.gathering.Ahead.{Ahead}
use Rattle.sve_ahead.specs.declared.gathering.Announced.{Announced}
use Rattle.sve_ahead.specs.declared.gathering.Gathered.{Gathered}

-- the token of a name
abbrev pub name_token : ItemName → ℕ
name_token (is_name.Declared heading) = heading.token
name_token (is_name.Instance token) = token
name_token (is_name.Block token) = token

-- the first token of what it names: in front of a label stand `begin` and `:`
abbrev pub first_token : ItemName → ℕ
first_token (is_name.Declared heading) = heading.token
first_token (is_name.Instance token) = token
first_token (is_name.Block token) = token - 2

-- a function, an instance and a block are seen in their whole scope
abbrev pub is_whole : ItemName → Bool
is_whole (is_name.Declared heading) = heading.is_function
is_whole (is_name.Instance token) = true
is_whole (is_name.Block token) = true

-- one is seen ahead where it is the first of its name, since a second one declares nothing
abbrev pub is_ahead : ItemName → List (List ℕ) → List ℕ → Bool
is_ahead item names n = is_whole item && not (is_some (item_of itself n names))

abbrev pub with_announced : List Announced → Bool → ItemName → List ℕ → List Announced
with_announced list ahead item n = if ahead then list ++ record { name = n; item = item } ∷ [] else list

-- a name more of the text
abbrev pub with_name : Gathered → ItemName → List ℕ → Gathered
with_name g item n = record { announced = with_announced g.announced (is_ahead item g.names n) item n; names = with_item itself g.names n }

abbrev pub with_name_if : Gathered → ItemName → Option (List ℕ) → Gathered
with_name_if g item None = g
with_name_if g item (Some n) = with_name g item n

module _ (ws : List Word) where
  abbrev pub with_item_name : Gathered → ItemName → Gathered
  with_item_name g item = with_name_if g item (name_at ws (name_token item))

  abbrev pub with_heading : Gathered → Heading → Gathered
  with_heading g heading = with_item_name g (is_name.Declared heading)

  -- the names of a header and of items, in the order of the text
  abbrev pub gathered_in : List Heading → List Item → Gathered
  gathered_in headings items = fold with_item_name (fold with_heading (record { announced = []; names = [] }) headings) (names_of items)

-- all names that the text declares
abbrev pub names_declared : List Word → List Heading → List Item → List (List ℕ)
names_declared ws headings items = (gathered_in ws headings items).names

-- the names of the blocks without a label, for each generate construct of the scope, where these names are declared in it
abbrev pub unnamed_in : List (List ℕ) → List Item → List (List ℕ)
unnamed_in names items = names_from (is_taken itself names) 0 (sum_by constructs items)

abbrev pub ahead_of : Gathered → List Item → Ahead
ahead_of g items = record { announced = g.announced; unnamed = unnamed_in g.names items }

abbrev pub ahead_in : List Word → List Heading → List Item → Ahead
ahead_in ws headings items = ahead_of (gathered_in ws headings items) items
