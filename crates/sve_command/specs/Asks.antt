-- What the members of a JSON object are taken for as an ask (own).
use Rattle.std.specs.Prelude.{ℕ, ◌+◌, ◌&&◌, ◌==◌, Bool, List, [], ◌∷◌, Option, Some, None, Ok, Err, length, is_some, if◌then◌else◌, codes, bytes_eq}
use Rattle.std.specs.List.{list_all}
use Rattle.serde_json.specs.Data.{Data, Members}
use Rattle.serde_json.specs.Find.{get_member}
use Rattle.sve_shape.specs.Shapes.{Shaped, under, shaped_map, shaped_then, shaped_of, string_of, whole_of, count_members, member_as}
use Rattle.sve_text.specs.declared.edit.Mode.{Mode}
use Rattle.sve_text.specs.declared.edit.Mode.TheVariants.{Latest, Pinned}
use Rattle.sve_command.specs.declared.commands.Command.{Command}
use Rattle.sve_command.specs.declared.commands.Command.TheVariants.{Ask}
use Rattle.sve_command.specs.declared.commands.Query.{Query}
use Rattle.sve_command.specs.declared.commands.QueryKind.{QueryKind}

abbrev pub kind_named : List ℕ → Option QueryKind
kind_named word =
    if bytes_eq word (codes "file") then Some QueryKind.File
    else if bytes_eq word (codes "expand") then Some QueryKind.Expand
    else if bytes_eq word (codes "tops") then Some QueryKind.Tops
    else if bytes_eq word (codes "instance") then Some QueryKind.Instance
    else if bytes_eq word (codes "tree") then Some QueryKind.Tree
    else if bytes_eq word (codes "type") then Some QueryKind.TypeOf
    else if bytes_eq word (codes "param") then Some QueryKind.Param
    else if bytes_eq word (codes "resolve") then Some QueryKind.Resolve
    else if bytes_eq word (codes "diagnostics") then Some QueryKind.Diagnostics
    else None

abbrev pub kind_of : Data → Shaped QueryKind
kind_of value = shaped_then (λ word. shaped_of (kind_named word)) (string_of value)

-- the members that an ask of this kind has beside `ask`, `mode` and `budget`, in the order in which they are tested
abbrev pub operands : QueryKind → List (List ℕ)
operands QueryKind.File = codes "name" ∷ []
operands QueryKind.Expand = codes "name" ∷ []
operands QueryKind.Tops = []
operands QueryKind.Instance = codes "path" ∷ []
operands QueryKind.Tree = []
operands QueryKind.TypeOf = codes "path" ∷ codes "name" ∷ []
operands QueryKind.Param = codes "path" ∷ codes "name" ∷ []
operands QueryKind.Resolve = codes "path" ∷ codes "name" ∷ []
operands QueryKind.Diagnostics = []

abbrev pub times_there : List ℕ → Members → ℕ
times_there key members = if is_some (get_member key members) then 1 else 0

-- the object, which has `ask`, has these members too, and else at most `mode` and `budget`
abbrev pub has_operands : List (List ℕ) → Members → Bool
has_operands keys members =
    count_members members == 1 + length keys + times_there (codes "mode") members + times_there (codes "budget") members
    && list_all (λ key. is_some (get_member key members)) keys

abbrev pub with_name : (List ℕ → Query) → Members → Shaped Query
with_name query members = shaped_map query (member_as string_of (codes "name") members)

abbrev pub with_path_and_name : (List ℕ → List ℕ → Query) → Members → Shaped Query
with_path_and_name query members = shaped_then (λ path. with_name (query path) members) (member_as string_of (codes "path") members)

abbrev pub query_from : QueryKind → Members → Shaped Query
query_from QueryKind.File members = with_name Query.File members
query_from QueryKind.Expand members = with_name Query.Expand members
query_from QueryKind.Tops _ = Ok Query.Tops
query_from QueryKind.Instance members = shaped_map Query.Instance (member_as string_of (codes "path") members)
query_from QueryKind.Tree _ = Ok Query.Tree
query_from QueryKind.TypeOf members = with_path_and_name Query.TypeOf members
query_from QueryKind.Param members = with_path_and_name Query.Param members
query_from QueryKind.Resolve members = with_path_and_name Query.Resolve members
query_from QueryKind.Diagnostics _ = Ok Query.Diagnostics

-- what an optional member is taken for
abbrev pub given_or : {A : Type 0} → A → (Data → Shaped A) → Option Data → Shaped A
given_or other taken None = Ok other
given_or other taken (Some value) = taken value

abbrev pub member_or : {A : Type 0} → A → (Data → Shaped A) → List ℕ → Members → Shaped A
member_or other taken key members = under key (given_or other taken (get_member key members))

abbrev pub mode_named : List ℕ → Shaped Mode
mode_named word =
    if bytes_eq word (codes "latest") then Ok Latest
    else if bytes_eq word (codes "pinned") then Ok Pinned
    else Err []

abbrev pub mode_from : Members → Shaped Mode
mode_from members = member_or Latest (λ value. shaped_then mode_named (string_of value)) (codes "mode") members

abbrev pub budget_from : Members → Shaped (Option ℕ)
budget_from members = member_or None (λ value. shaped_map Some (shaped_of (whole_of value))) (codes "budget") members

abbrev pub ask_of_kind : Members → QueryKind → Shaped Command
ask_of_kind members kind =
    if has_operands (operands kind) members
    then shaped_then (λ query. shaped_then (λ mode. shaped_map (Ask query mode) (budget_from members)) (mode_from members)) (query_from kind members)
    else Err []

-- `{"ask": word, ..}`: a word that is no query is a fault of its own, whatever members stand beside it
abbrev pub ask_from : Members → Shaped Command
ask_from members = shaped_then (ask_of_kind members) (member_as kind_of (codes "ask") members)
