-- A declaration that begins with its type's keyword, as an item of a block and as one of a module.
use Rattle.std.proofs.Common.{◌≡◌, ℕ, refl}
use Rattle.sve_tree.specs.Shape.{way}
use Rattle.sve_tree.specs.Statements.{block_data_tree}
use Rattle.sve_tree.specs.Items.{data_item_tree}
use Rattle.sve_tree.specs.declared.row.Row.{Row}
use Rattle.sve_tree.specs.declared.data_type.TypeRef.{TypeRef}
use Rattle.sve_tree.specs.declared.declaration.InitializedDeclarator.{InitializedDeclarator}
use Rattle.sve_tree.specs.declared.data_type.TypeRef.TheVariants as is_type_ref
use Rattle.sve_parse_data.specs.Written.{IsWritten, written_tree}

pub block_data_view : (data_type : TypeRef) (row : Row InitializedDeclarator ℕ) (semicolon : ℕ) → IsWritten data_type → block_data_tree data_type row semicolon ≡ way 2 (written_tree data_type row semicolon)
block_data_view (is_type_ref.Written data_type) row semicolon w = refl
block_data_view (is_type_ref.Named named) row semicolon w = absurd w

pub data_item_view : (data_type : TypeRef) (row : Row InitializedDeclarator ℕ) (semicolon : ℕ) → IsWritten data_type → data_item_tree data_type row semicolon ≡ way 8 (written_tree data_type row semicolon)
data_item_view (is_type_ref.Written data_type) row semicolon w = refl
data_item_view (is_type_ref.Named named) row semicolon w = absurd w
