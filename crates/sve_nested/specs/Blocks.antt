-- The scope of a body and those of its generate blocks (IEEE 1800-2017, 23.9, 27.4 and 27.6).
use Rattle.std.specs.Prelude.{ℕ, ◌-◌, nat_eq, Bool, true, false, ℤ, codes, set, List, [], ◌∷◌, ◌++◌, length, Option, Some, None, is_some, slice_get, if◌then◌else◌}
use Rattle.std.specs.List.{fold}
use Rattle.sve_bytes.specs.declared.path.Path.{Path}
use Rattle.sve_types.specs.declared.value.Value.TheVariants.{Bits}
use Rattle.sve_table.specs.Tables.{item_of, with_item}
use Rattle.sve_scope.specs.declared.declared.Declared.{Declared}
use Rattle.sve_scope.specs.declared.scope.Scope.{Scope}
use Rattle.sve_scope.specs.declared.what.What.{What}
use Rattle.sve_scope.specs.declared.what.What.TheVariants as is_what
use Rattle.sve_scope.specs.Declarations.{declared_name}
use Rattle.sve_scope.specs.Scopes.{empty_scope, itself}
use Rattle.sve_facts.specs.declared.facts.BodyScope.{BodyScope}
use Rattle.sve_tree.specs.declared.token_word.Word.{Word}
use Rattle.sve_tree.specs.declared.word.Label.{Label}
use Rattle.sve_known.specs.Naming.{name_at}
use Rattle.sve_contents.specs.declared.contents.Contents.{Contents}
use Rattle.sve_contents.specs.Nested.{entered, left}
use Rattle.sve_contents.specs.Reading.{announcing_in, declaring_in, spot_in, with_scope}
use Rattle.sve_genvar.specs.Genvar.{genvar_value, integer_type}
use Rattle.sve_item_names.specs.declared.name.ItemName.{ItemName}
use Rattle.sve_item_names.specs.declared.name.ItemName.TheVariants as is_name
use Rattle.sve_ahead.specs.declared.gathering.Ahead.{Ahead}
use Rattle.sve_ahead.specs.declared.gathering.Announced.{Announced}
use Rattle.sve_ahead.specs.Ahead.{first_token}
use Rattle.sve_nested.specs.declared.block.Block.{Block}
use Rattle.sve_nested.specs.declared.blocks.Blocks.{Blocks}
use Rattle.sve_nested.specs.declared.nested.Nested.{Nested}
use Rattle.sve_nested.specs.Labels.{label_of}

-- ---- what a scope announces when it begins; of a function the type of its result is not known before the text comes to it (own)

abbrev pub what_ahead : ItemName → What
what_ahead (is_name.Declared heading) = is_what.Function None
what_ahead (is_name.Instance token) = is_what.Instance
what_ahead (is_name.Block token) = is_what.Block

abbrev pub declared_ahead : Contents → Announced → Declared
declared_ahead c a = record { name = a.name; what = what_ahead a.item; at = spot_in c (first_token a.item); from = first_token a.item }

abbrev pub with_announced : Contents → Announced → Contents
with_announced c a = announcing_in c (declared_ahead c a)

abbrev pub announcing_all : Contents → List Announced → Contents
announcing_all c all = fold with_announced c all

-- ---- a scope begins, which has so many before it

abbrev pub new_block : Path → ℕ → List (List ℕ) → Block
new_block path place unnamed = record { path = path; place = place; next = 1; unnamed = unnamed; labels = []; entered = [] }

-- its place among the scopes is kept until it ends
abbrev pub begun_scope : Path → Contents → BodyScope
begun_scope path c = record { path = path; scope = empty_scope c.scope.file c.scope.chunk }

-- the scope of the body itself
abbrev pub own_path : Path
own_path = record { steps = [] }

abbrev pub own_blocks : Contents → List (List ℕ) → Blocks
own_blocks c unnamed = record { inner = new_block own_path 0 unnamed; around = []; scopes = begun_scope own_path c ∷ [] }

abbrev pub begun : Contents → Ahead → Nested
begun c ahead = record { contents = announcing_all c ahead.announced; blocks = own_blocks (announcing_all c ahead.announced) ahead.unnamed }

-- ---- a generate block is entered

-- the name of a construct's block without a label
abbrev pub name_or : List ℕ → Option (List ℕ) → List ℕ
name_or otherwise None = otherwise
name_or otherwise (Some n) = n

abbrev pub unnamed_at : List (List ℕ) → ℕ → List ℕ
unnamed_at names number = name_or (codes "genblk") (slice_get names (number - 1))

abbrev pub label_name : List Word → Option Label → Option (List ℕ)
label_name ws None = None
label_name ws (Some label) = name_at ws label.name

-- the name of a block: its label, or that of its construct
abbrev pub block_name : List Word → Block → ℕ → Option Label → List ℕ
block_name ws b number label = name_or (unnamed_at b.unnamed number) (label_name ws label)

abbrev pub turn_value : Option (ℕ × ℤ) → Option ℤ
turn_value None = None
turn_value (Some turn) = Some turn.1

abbrev pub path_to : Path → List ℕ → Option (ℕ × ℤ) → Path
path_to path n turn = record { steps = path.steps ++ record { name = n; index = turn_value turn } ∷ [] }

-- in a block of a loop the genvar is a local parameter of type `integer`, declared at its token in front of the block
abbrev pub genvar_declared : Contents → ℕ → ℤ → List ℕ → Declared
genvar_declared c token value n = record { name = n; what = is_what.LocalParameter (record { ty = Some integer_type; value = Some (Bits (genvar_value value)) }); at = spot_in c token; from = token }

abbrev pub with_genvar : Contents → ℕ → ℤ → Option (List ℕ) → Contents
with_genvar c token value None = c
with_genvar c token value (Some n) = declaring_in c (genvar_declared c token value n)

abbrev pub with_turn : List Word → Contents → Option (ℕ × ℤ) → Contents
with_turn ws c None = c
with_turn ws c (Some turn) = with_genvar c turn.0 turn.1 (name_at ws turn.0)

-- the scope around it knows that a block with a label was entered
abbrev pub with_entered : Block → List ℕ → Block
with_entered b n = if is_some (item_of label_of n b.labels) then record b { entered = with_item itself b.entered n } else b

abbrev pub blocks_within : Blocks → Path → List ℕ → List (List ℕ) → BodyScope → Blocks
blocks_within bs path n unnamed scope = record { inner = new_block path (length bs.scopes) unnamed; around = with_entered bs.inner n ∷ bs.around; scopes = bs.scopes ++ scope ∷ [] }

unfoldable pub entered_as : List Word → Nested → List ℕ → Path → Option (ℕ × ℤ) → Ahead → Nested
entered_as ws s n path turn ahead = record {
  contents = with_turn ws (announcing_all (entered s.contents) ahead.announced) turn;
  blocks = blocks_within s.blocks path n ahead.unnamed (begun_scope path s.contents);
}

abbrev pub inner_path : Nested → Path
inner_path s = s.blocks.inner.path

abbrev pub entered_by : List Word → Nested → List ℕ → Option (ℕ × ℤ) → Ahead → Nested
entered_by ws s n turn ahead = entered_as ws s n (path_to (inner_path s) n turn) turn ahead

abbrev pub entered_in : List Word → Nested → ℕ → Option (ℕ × ℤ) → Option Label → Ahead → Nested
entered_in ws s number turn label ahead = entered_by ws s (block_name ws s.blocks.inner number label) turn ahead

-- ---- a scope ends

abbrev pub is_block : What → Bool
is_block is_what.Block = true
is_block what = false

-- a block that was not entered is no name of its scope
abbrev pub is_kept : List (List ℕ) → Declared → Bool
is_kept entered d = if is_block d.what then is_some (item_of itself d.name entered) else true

abbrev pub with_kept : List (List ℕ) → List Declared → Declared → List Declared
with_kept entered all d = if is_kept entered d then with_item declared_name all d else all

abbrev pub kept : Block → List Declared → List Declared
kept b all = if nat_eq (length b.labels) (length b.entered) then all else fold (with_kept b.entered) [] all

-- nothing is ahead at the end of a text
abbrev pub ended : Block → Scope → Scope
ended b s = record s { declared = kept b s.declared; ahead = [] }

abbrev pub closed : Block → Scope → List BodyScope → List BodyScope
closed b s all = set all b.place (record { path = b.path; scope = ended b s })

abbrev pub emptied : Contents → Contents
emptied c = with_scope c (empty_scope c.scope.file c.scope.chunk)

abbrev pub left_to : Blocks → Scope → List Block → Blocks
left_to bs s [] = bs
left_to bs s (b ∷ more) = record { inner = b; around = more; scopes = closed bs.inner s bs.scopes }

-- the text goes on in the scope around it; that of the body itself has none
abbrev pub left_in : Nested → Nested
left_in s = if nat_eq (length s.blocks.around) 0 then s else record { contents = left (emptied s.contents); blocks = left_to s.blocks s.contents.scope s.blocks.around }
