-- Includes (IEEE 1800-2017, 22.4).
use Rattle.std.specs.Prelude.{ℕ, ◌+◌, Bool, true, nat_le, if◌then◌else◌, List, Option, Some, None}
use Rattle.sve_bytes.specs.FileName.{is_file_name_of}
use Rattle.sve_diag.specs.declared.code.Code.TheVariants.{P08, P09}
use Rattle.sve_unread.specs.Head.{head_macros, head_level}
use Rattle.sve_directive.specs.Directives.{cut}
use Rattle.sve_prep.specs.Told.{Told, noted}
use Rattle.sve_prep.specs.State.{State, replace, refuse}
use Rattle.sve_prep.specs.Uses.{Next, Goes, Ends, Needs, passes, give_up}

-- an include of n bytes whose text is read in its place, one level further
abbrev pub include_text : List ℕ → ℕ → List ℕ → State → Next
include_text name n text s =
    if passes text s then Ends (give_up s)
    else Goes (replace n text (record { file = name; offset = 0; copied = true }) 1 (head_macros s.rest) (head_level s.rest + 1) s)

abbrev pub include_found : List ℕ → ℕ → Option (Option (List ℕ)) → State → Next
include_found name n None s = Needs name s
include_found name n (Some None) s = Goes (refuse P08 (Some name) n s)
include_found name n (Some (Some text)) s = include_text name n text s

abbrev pub ask : List ℕ → State → State
ask name s = record s { asked = noted name s.asked }

-- includes are nested 15 levels deep at most (22.4)
abbrev pub is_too_far : State → Bool
is_too_far s = nat_le 15 (head_level s.rest)

-- bytes that no file can have as its name are not asked for (own)
abbrev pub include : Told → List ℕ → ℕ → State → Next
include told name n s =
    if is_too_far s then Goes (refuse P09 (cut name) n s)
    else if is_file_name_of name then include_found name n (told name) (ask name s)
    else Goes (refuse P08 (cut name) n s)
