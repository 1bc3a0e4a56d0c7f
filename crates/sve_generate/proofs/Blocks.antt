-- The first token of a block.
use Rattle.std.specs.Global.{Box}
use Rattle.std.proofs.Common.{ℕ, Some, ◌≡◌, refl, ap}
use Rattle.sve_tree.specs.Items.{item_tree}
use Rattle.sve_tree.specs.Shape.{first_token_of}
use Rattle.sve_tree.specs.declared.item.GenerateBody.{GenerateBody}
use Rattle.sve_tree.specs.declared.item.Item.{Item}
use Rattle.sve_tree.specs.declared.item.GenerateBlock.TheVariants as is_generate_block
use Rattle.sve_generate.specs.Constructs.{block_token, token_or}

pub of_block : (block : Box GenerateBody) → block_token (is_generate_block.Block block) ≡ block.value.begin
unfolding item_tree
of_block block = refl

pub of_item : (item : Box Item) (token : ℕ) → first_token_of (item_tree item.value) ≡ Some token → block_token (is_generate_block.Item item) ≡ token
unfolding item_tree
of_item item token is = ap token_or is
