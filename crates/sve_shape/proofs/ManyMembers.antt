-- How many members an object has.
use Rattle.std.proofs.Common.{◌≡◌, List, [], ◌∷◌, length, String, Global, refl, add-one}
use Rattle.serde_json.specs.View.{members_view}
use Rattle.serde_json.specs.declared.value.Value.{Value}
use Rattle.sve_shape.specs.Shapes.{count_members}

pub count_members-members_view : (entries : List (String Global × Value)) → count_members (members_view entries) ≡ length entries
count_members-members_view [] = refl
count_members-members_view (e ∷ es) = rw (add-one, count_members-members_view es)
