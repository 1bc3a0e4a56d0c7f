-- The session that bytes are, over the value that they have as JSON (own).
use Rattle.std.specs.Prelude.{ℕ, ◌≡◌, ◌+◌, ◌||◌, Bool, false, List, [], ◌∷◌, Option, Some, None, Result, Ok, Err, decimal, if◌then◌else◌, IsUtf8, codes, bytes_eq}
use Rattle.serde_json.specs.Data.{Data, Items, no_items, item, Members}
use Rattle.serde_json.specs.Find.{as_array}
use Rattle.serde_json.specs.Read.{read}
use Rattle.sve_shape.specs.Shapes.{Shaped, under, shaped_map, shaped_then, shaped_of, string_of, has_exactly, member_as, object_as, items_as, array_as}
use Rattle.sve_text.specs.Files.{opening_files}
use Rattle.sve_command.specs.declared.commands.Command.{Command}
use Rattle.sve_command.specs.Commands.{command_of}
use Rattle.sve_command.specs.Edits.{file_name}
use Rattle.sve_script.specs.declared.sessions.Script.{Script}
use Rattle.sve_script.specs.declared.sessions.BadSession.{BadSession}
use Rattle.sve_script.specs.declared.sessions.Which.{Which}
use Rattle.sve_script.specs.declared.parts.Parts.{Parts}
use Rattle.sve_script.specs.declared.limits.Beyond.{Beyond}
use Rattle.sve_script.specs.Limits.{limit_of}

-- the bytes are JSON with this value, by the reading of `serde_json`
abbrev pub IsJson : List ℕ → Data → Type 0
IsJson bytes value = IsUtf8 bytes × (read bytes ≡ Some value)

-- ---- clients

-- the items, of which there is one at least
abbrev pub some_items : Items → Shaped Items
some_items no_items = Err []
some_items (item value rest) = Ok (item value rest)

abbrev pub clients_of : Data → Shaped (List (List Command))
clients_of value = shaped_then (items_as (array_as command_of) 0) (shaped_then some_items (shaped_of (as_array value)))

-- ---- opening files

abbrev pub new_name : (List ℕ → Bool) → List ℕ → Shaped (List ℕ)
new_name is_used name = if is_used name then Err [] else file_name name

abbrev pub new_name_of : (List ℕ → Bool) → Data → Shaped (List ℕ)
new_name_of is_used value = shaped_then (new_name is_used) (string_of value)

-- `{"name": name, "text": text}`, where the name is none of those before it
abbrev pub file_from : (List ℕ → Bool) → Members → Shaped (List ℕ × List ℕ)
file_from is_used members =
    if has_exactly (codes "name" ∷ codes "text" ∷ []) members
    then shaped_then (λ name. shaped_map (λ text. (name, text)) (member_as string_of (codes "text") members)) (member_as (new_name_of is_used) (codes "name") members)
    else Err []

abbrev pub file_of : (List ℕ → Bool) → Data → Shaped (List ℕ × List ℕ)
file_of is_used value = object_as (file_from is_used) value

-- the same names, and this one
abbrev pub or_named : List ℕ → (List ℕ → Bool) → List ℕ → Bool
or_named name is_used other = bytes_eq name other || is_used other

-- the files from this index on, where these names are used before it
abbrev pub files_as : (List ℕ → Bool) → ℕ → Items → Shaped (List (List ℕ × List ℕ))
files_as is_used index no_items = Ok []
files_as is_used index (item value rest) =
    shaped_then (λ file. shaped_map (λ others. file ∷ others) (files_as (or_named file.0 is_used) (index + 1) rest)) (under (decimal index) (file_of is_used value))

abbrev pub files_of : Data → Shaped (List (List ℕ × List ℕ))
files_of value = shaped_then (files_as (λ name. false) 0) (shaped_of (as_array value))

-- ---- the session

-- `{"files": [file, ..], "clients": [[command, ..], ..]}`
abbrev pub parts_from : Members → Shaped Parts
parts_from members =
    if has_exactly (codes "files" ∷ codes "clients" ∷ []) members
    then shaped_then (λ files. shaped_map (λ clients. record { files = files; clients = clients }) (member_as clients_of (codes "clients") members)) (member_as files_of (codes "files") members)
    else Err []

abbrev pub parts_of : Data → Shaped Parts
parts_of value = object_as parts_from value

abbrev pub within : Parts → Option Beyond → Result Script BadSession
within parts None = Ok (record { files = opening_files parts.files; clients = parts.clients })
within parts (Some beyond) = Err (BadSession.Limit beyond.which beyond.number)

abbrev pub session_from : Shaped Parts → Result Script BadSession
session_from (Err path) = Err (BadSession.Shape path)
session_from (Ok parts) = within parts (limit_of parts.files parts.clients)

-- the session that a JSON value is, or why it is none: all shapes are tested first, and then the limits
abbrev pub session_of : Data → Result Script BadSession
session_of value = session_from (parts_of value)

-- the bytes are JSON, and their value is this session
abbrev pub IsSession : List ℕ → Script → Type 0
IsSession bytes script = (value : Data) × IsJson bytes value × (session_of value ≡ Ok script)

-- the bytes are JSON, and at this path is the first value that is not as it should be
abbrev pub IsMisshapen : List ℕ → List ℕ → Type 0
IsMisshapen bytes path = (value : Data) × IsJson bytes value × (session_of value ≡ Err (BadSession.Shape path))

-- the bytes are JSON of the form of a session, which is beyond this limit with this number
abbrev pub IsBeyondLimit : List ℕ → Which → ℕ → Type 0
IsBeyondLimit bytes which number = (value : Data) × IsJson bytes value × (session_of value ≡ Err (BadSession.Limit which number))

-- the bytes are no JSON
abbrev pub IsNotJson : List ℕ → Type 0
IsNotJson bytes = (value : Data) → IsJson bytes value → ⊥
