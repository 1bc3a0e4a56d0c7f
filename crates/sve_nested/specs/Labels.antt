-- Generate constructs of a scope and their labels (IEEE 1800-2017, 27.5 and 27.6).
use Rattle.std.specs.Prelude.{ℕ, ◌+◌, nat_eq, Bool, List, Option, Some, None, is_some, if◌then◌else◌}
use Rattle.std.specs.List.{fold}
use Rattle.sve_diag.specs.declared.code.Code.TheVariants.{N02}
use Rattle.sve_fault.specs.declared.fault.Fault.{Fault}
use Rattle.sve_table.specs.Tables.{item_of, with_item}
use Rattle.sve_scope.specs.declared.declared.Declared.{Declared}
use Rattle.sve_scope.specs.declared.what.What.TheVariants as is_what
use Rattle.sve_scope.specs.Scopes.{declaration_of}
use Rattle.sve_tree.specs.declared.token_word.Word.{Word}
use Rattle.sve_known.specs.Naming.{name_at, named_fault}
use Rattle.sve_contents.specs.declared.contents.Contents.{Contents}
use Rattle.sve_contents.specs.Reading.{declaring_in, spot_in}
use Rattle.sve_item_names.specs.declared.name.ItemName.{ItemName}
use Rattle.sve_item_names.specs.declared.name.ItemName.TheVariants as is_name
use Rattle.sve_ahead.specs.Ahead.{first_token}
use Rattle.sve_nested.specs.declared.block.Block.{Block}
use Rattle.sve_nested.specs.declared.block.Labelled.{Labelled}
use Rattle.sve_nested.specs.declared.nested.Nested.{Nested}

abbrev pub label_of : Labelled → List ℕ
label_of l = l.name

-- ---- what is wrong with a label: its name is declared, and not by another block of the same construct

abbrev pub by_declared : ℕ → List ℕ → Option Declared → Option Fault
by_declared token n None = None
by_declared token n (Some d) = Some (named_fault token N02 n)

abbrev pub by_label : ℕ → ℕ → List ℕ → Option Fault → Option Labelled → Option Fault
by_label number token n otherwise None = otherwise
by_label number token n otherwise (Some l) = if nat_eq l.number number then None else Some (named_fault token N02 n)

abbrev pub clash_in : Nested → ℕ → ℕ → List ℕ → Option Fault
clash_in s number token n = by_label number token n (by_declared token n (declaration_of n s.contents.scope.declared)) (item_of label_of n s.blocks.inner.labels)

abbrev pub fault_of_name : Nested → ℕ → ℕ → Option (List ℕ) → Option Fault
fault_of_name s number token None = None
fault_of_name s number token (Some n) = clash_in s number token n

abbrev pub label_fault_in : List Word → Nested → ℕ → ℕ → Option Fault
label_fault_in ws s number token = fault_of_name s number token (name_at ws token)

-- ---- a construct begins: its labels are declared, selected or not, and the next one has the next number

abbrev pub labelled_block : Contents → ItemName → List ℕ → Declared
labelled_block c item n = record { name = n; what = is_what.Block; at = spot_in c (first_token item); from = first_token item }

abbrev pub with_labelled : Block → List ℕ → Block
with_labelled b n = record b { labels = with_item label_of b.labels (record { name = n; number = b.next }) }

abbrev pub with_new_label : Nested → ItemName → List ℕ → Nested
with_new_label s item n = record s { contents = declaring_in s.contents (labelled_block s.contents item n); blocks = record s.blocks { inner = with_labelled s.blocks.inner n } }

abbrev pub with_label_unless : Bool → Nested → ItemName → List ℕ → Nested
with_label_unless declared s item n = if declared then s else with_new_label s item n

abbrev pub is_declared : Contents → List ℕ → Bool
is_declared c n = is_some (declaration_of n c.scope.declared)

abbrev pub with_label : Nested → ItemName → Option (List ℕ) → Nested
with_label s item None = s
with_label s item (Some n) = with_label_unless (is_declared s.contents n) s item n

-- what is no label changes nothing
abbrev pub with_name : List Word → Nested → ItemName → Nested
with_name ws s (is_name.Declared heading) = s
with_name ws s (is_name.Instance token) = s
with_name ws s (is_name.Block token) = with_label s (is_name.Block token) (name_at ws token)

abbrev pub numbered : Nested → Nested
numbered s = record s { blocks = record s.blocks { inner = record s.blocks.inner { next = s.blocks.inner.next + 1 } } }

abbrev pub counted_in : List Word → Nested → List ItemName → Nested
counted_in ws s names = numbered (fold (with_name ws) s names)
