-- What a JSON value is taken for as a command (own).
use Rattle.std.specs.Prelude.{◌&&◌, not, [], ◌∷◌, Err, is_some, if◌then◌else◌, codes}
use Rattle.serde_json.specs.Data.{Data, Members}
use Rattle.serde_json.specs.Find.{get_member}
use Rattle.sve_shape.specs.Shapes.{Shaped, shaped_map, has_exactly, member_as, object_as, array_as}
use Rattle.sve_command.specs.declared.commands.Command.{Command}
use Rattle.sve_command.specs.declared.commands.Command.TheVariants.{Commit}
use Rattle.sve_command.specs.Edits.{edit_of}
use Rattle.sve_command.specs.Asks.{ask_from}

-- `{"commit": [edit, ..]}`
abbrev pub commit_from : Members → Shaped Command
commit_from members = shaped_map Commit (member_as (array_as edit_of) (codes "commit") members)

abbrev pub command_from : Members → Shaped Command
command_from members =
    if has_exactly (codes "commit" ∷ []) members then commit_from members
    else if is_some (get_member (codes "ask") members) && not (is_some (get_member (codes "commit") members)) then ask_from members
    else Err []

abbrev pub command_of : Data → Shaped Command
command_of value = object_as command_from value
