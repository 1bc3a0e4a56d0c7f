-- What elements define by names, and the note of a name that is there already (IEEE 1800-2017, 3.13).
use Rattle.std.specs.Prelude.{ℕ, Bool, false, not, List, [], ◌∷◌, Option, Some, None, is_some, if◌then◌else◌}
use Rattle.sve_diag.specs.declared.code.Code.{Code}
use Rattle.sve_diag.specs.declared.code.Code.TheVariants.{N03}
use Rattle.sve_diag.specs.declared.diag.Note.{Note}
use Rattle.sve_table.specs.Tables.{item_of}
use Rattle.sve_index.specs.declared.def.Def.{Def}
use Rattle.sve_index.specs.declared.source.FileElement.{FileElement}
use Rattle.sve_index.specs.Sources.{words_in, name_at}

abbrev pub def_name : Def → List ℕ
def_name d = d.name

-- what an element defines by a name
abbrev pub def_of : FileElement → List ℕ → Def
def_of source name = record { name = name; file = source.file; chunk = source.chunk }

-- a note at a token of an element
abbrev pub note : FileElement → ℕ → Code → List ℕ → Note
note source token code arg = record { file = source.file; chunk = source.chunk; token = token; code = code; arg = Some arg }

-- whether none of these has the name
abbrev pub is_new : List Def → List ℕ → Bool
is_new known name = not (is_some (item_of def_name name known))

abbrev pub repeated : List Def → FileElement → ℕ → List ℕ → List Note
repeated known source token name = if is_new known name then [] else note source token N03 name ∷ []

-- what an element defines by the name at a token, if one stands there; whether that name is new; and the note if it is not
abbrev pub defs_named : FileElement → Option (List ℕ) → List Def
defs_named source None = []
defs_named source (Some name) = def_of source name ∷ []

abbrev pub defs_at : FileElement → Option ℕ → List Def
defs_at source None = []
defs_at source (Some token) = defs_named source (name_at (words_in source) token)

abbrev pub new_named : List Def → Option (List ℕ) → Bool
new_named known None = false
new_named known (Some name) = is_new known name

abbrev pub new_at : List Def → FileElement → Option ℕ → Bool
new_at known source None = false
new_at known source (Some token) = new_named known (name_at (words_in source) token)

abbrev pub repeated_named : List Def → FileElement → ℕ → Option (List ℕ) → List Note
repeated_named known source token None = []
repeated_named known source token (Some name) = repeated known source token name

abbrev pub repeated_at : List Def → FileElement → Option ℕ → List Note
repeated_at known source None = []
repeated_at known source (Some token) = repeated_named known source token (name_at (words_in source) token)
