-- What a JSON value is taken for as an edit (own).
use Rattle.std.specs.Prelude.{ℕ, List, [], ◌∷◌, Ok, Err, if◌then◌else◌, codes}
use Rattle.serde_json.specs.Data.{Data, Members}
use Rattle.sve_bytes.specs.FileName.{is_file_name_of}
use Rattle.sve_shape.specs.Shapes.{Shaped, shaped_map, shaped_then, string_of, whole_to, has_exactly, member_as, object_as}
use Rattle.sve_text.specs.declared.edit.Edit.{Edit}
use Rattle.sve_text.specs.declared.edit.Edit.TheVariants.{Put, Drop, Splice}

abbrev pub file_name : List ℕ → Shaped (List ℕ)
file_name name = if is_file_name_of name then Ok name else Err []

abbrev pub file_name_of : Data → Shaped (List ℕ)
file_name_of value = shaped_then file_name (string_of value)

-- `{"put": name, "text": text}`
abbrev pub put_from : Members → Shaped Edit
put_from members =
    shaped_then (λ name. shaped_map (Put name) (member_as string_of (codes "text") members))
    (member_as file_name_of (codes "put") members)

-- `{"drop": name}`
abbrev pub drop_from : Members → Shaped Edit
drop_from members = shaped_map Drop (member_as file_name_of (codes "drop") members)

-- `{"splice": name, "base": stamp, "at": offset, "cut": length, "text": text}`
abbrev pub splice_from : Members → Shaped Edit
splice_from members =
    shaped_then (λ name.
    shaped_then (λ base.
    shaped_then (λ at.
    shaped_then (λ cut.
    shaped_map (Splice name base at cut)
    (member_as string_of (codes "text") members))
    (member_as (whole_to 4294967295) (codes "cut") members))
    (member_as (whole_to 4294967295) (codes "at") members))
    (member_as (whole_to 9223372036854775807) (codes "base") members))
    (member_as file_name_of (codes "splice") members)

abbrev pub edit_from : Members → Shaped Edit
edit_from members =
    if has_exactly (codes "put" ∷ codes "text" ∷ []) members then put_from members
    else if has_exactly (codes "drop" ∷ []) members then drop_from members
    else if has_exactly (codes "splice" ∷ codes "base" ∷ codes "at" ∷ codes "cut" ∷ codes "text" ∷ []) members then splice_from members
    else Err []

abbrev pub edit_of : Data → Shaped Edit
edit_of value = object_as edit_from value
