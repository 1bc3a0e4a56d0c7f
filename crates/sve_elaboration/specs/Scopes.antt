-- The scopes of a body, as far as its text was gone over (IEEE 1800-2017, 23.9 and clause 27).
use Rattle.std.specs.Prelude.{ℕ, ℤ, Bool, List, [], ◌∷◌, length, Option}
use Rattle.sve_fault.specs.declared.fault.Fault.{Fault}
use Rattle.sve_tree.specs.declared.token_word.Word.{Word}
use Rattle.sve_tree.specs.declared.item.Item.{Item}
use Rattle.sve_tree.specs.declared.item.GenerateRegion.{items-the_row-Item}
use Rattle.sve_tree.specs.declared.item.GenerateBlock.{GenerateBlock}
use Rattle.sve_tree.specs.declared.item.GenerateBlock.TheVariants as is_generate_block
use Rattle.sve_item_names.specs.declared.name.ItemName.{ItemName}
use Rattle.sve_env.specs.Told.{Told}
use Rattle.sve_known.specs.Packages.{Known}
use Rattle.sve_contents.specs.declared.contents.Contents.{Contents}
use Rattle.sve_scope.specs.declared.declared.Declared.{Declared}
use Rattle.sve_scoped.specs.Known.{told_in}
use Rattle.sve_ahead.specs.Ahead.{ahead_in}
use Rattle.sve_nested.specs.declared.nested.Nested.{Nested}
use Rattle.sve_nested.specs.Blocks.{entered_in, left_in}
use Rattle.sve_nested.specs.Labels.{counted_in, label_fault_in}
use Rattle.sve_nested.specs.Genvars.{declaring_genvar, genvar_fault_in}
use Rattle.sve_known.specs.Naming.{name_at}
use Rattle.sve_design_kinds.specs.Designs.{interface_of, modport_of}
use Rattle.sve_plan.specs.Plan.{Counted}
use Rattle.sve_body.specs.Body.{block_label}
use Rattle.sve_elaboration.specs.State.{Found}
use Rattle.sve_elaboration.specs.Hierarchical.{uses_kept}

-- ---- where the text stands

abbrev pub packages_of : Found → List Known
packages_of s = s.packages

abbrev pub words_of : Found → List Word
words_of s = s.words

-- of which interface an instance is, and which modports that has
abbrev pub interfaces_of : Found → Declared → Option (List ℕ)
interfaces_of s = interface_of s.designs

abbrev pub modports_of : Found → Declared → List ℕ → Bool
modports_of s = modport_of s.designs

abbrev pub contents_of : Found → Contents
contents_of s = s.nested.contents

-- what is known in the innermost scope
abbrev pub known_in : Found → Told
known_in s = told_in (packages_of s) (words_of s) (contents_of s)

-- the innermost scope, and all scopes, as a step leaves them
abbrev pub with_contents : Found → Contents → Found
with_contents s c = record s { nested = record s.nested { contents = c } }

abbrev pub with_nested : Found → Nested → Found
with_nested s n = record s { nested = n }

-- a step with its cost, by what it leaves
abbrev pub costing : {X : Type 0} → (X → Found) → Counted X → Counted Found
costing leaves counted = (counted.0, leaves counted.1)

-- ---- generate constructs and their blocks

abbrev pub genvar_in : ℕ → Found → Found
genvar_in token s = with_contents s (declaring_genvar (contents_of s) token (name_at (words_of s) token))

abbrev pub genvar_fault_of : Option ℕ → ℕ → Found → Option Fault
genvar_fault_of keyword name s = genvar_fault_in (packages_of s) (words_of s) (contents_of s) keyword name

abbrev pub next_number_in : Found → ℕ
next_number_in s = s.nested.blocks.inner.next

abbrev pub construct_in : List ItemName → Found → Found
construct_in names s = with_nested s (counted_in (words_of s) s.nested names)

abbrev pub depth_in : Found → ℕ
depth_in s = length s.nested.blocks.around

abbrev pub label_fault_of : ℕ → ℕ → Found → Option Fault
label_fault_of number token s = label_fault_in (words_of s) s.nested number token

-- the items of a block
abbrev pub block_items : GenerateBlock → List Item
block_items (is_generate_block.Block' _ begin label _ items end last) = items-the_row-Item _ items
block_items (is_generate_block.Item' _ i) = i ∷ []

-- what a block declares further on is announced in it
abbrev pub into_block : ℕ → Option (ℕ × ℤ) → GenerateBlock → Found → Found
into_block number turn block s = with_nested s (entered_in (words_of s) s.nested number turn (block_label block) (ahead_in (words_of s) [] (block_items block)))

abbrev pub entered_block : ℕ → Option (ℕ × ℤ) → GenerateBlock → Found → Found
entered_block number turn block s = into_block number turn block (uses_kept s)

abbrev pub out_of_block : Found → Found
out_of_block s = with_nested s (left_in s.nested)

abbrev pub left_block : Found → Found
left_block s = out_of_block (uses_kept s)
