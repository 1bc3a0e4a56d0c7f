-- Uses of macros (IEEE 1800-2017, 22.5.1).
use Rattle.std.specs.Prelude.{ℕ, ◌+◌, ◌-◌, Bool, nat_lt, nat_le, if◌then◌else◌, List, [], ◌∷◌, ◌++◌, length, map, take, drop, Option, Some, None, bytes_eq}
use Rattle.std.specs.List.{list_any, prefix_len}
use Rattle.std.specs.Fmt.{decimal}
use Rattle.sve_bytes.specs.declared.span.Span.{Span}
use Rattle.sve_diag.specs.declared.code.Code.TheVariants.{P02, P04, P05, P06, P07, P12}
use Rattle.sve_unread.specs.Bytes.{ahead}
use Rattle.sve_unread.specs.Head.{head_origin, head_line, head_macros, head_level}
use Rattle.sve_macro.specs.declared.definition.Definition.{Definition}
use Rattle.sve_macro.specs.Macros.{macro_of}
use Rattle.sve_macro.specs.Parts.{actuals_of}
use Rattle.sve_macro.specs.Substitution.{accepts, substituted}
use Rattle.sve_bytes.specs.Bytes.{is_white_space}
use Rattle.sve_directive.specs.Bytes.{begins_with}
use Rattle.sve_directive.specs.declared.directive.SourceText.{SourceText}
use Rattle.sve_directive.specs.declared.directive.SourceText.TheVariants.{File, Line}
use Rattle.sve_prep.specs.State.{State, limit, replace, report, refuse, use_origin}

-- what a step comes to: the next state, the end, or a name of which nothing is told
pub data Next : Type 0 where
  Goes : State → Next
  Ends : State → Next
  Needs : List ℕ → State → Next

-- whether reading this text too would pass the work limit (own)
abbrev pub passes : List ℕ → State → Bool
passes text s = nat_lt limit (s.work + 1 + length text)

-- the rest is dropped, and nothing more is said (own)
abbrev pub give_up : State → State
give_up s = record (report P12 None s) { rest = []; conditions = [] }

-- whether the next byte comes from a result of the macro
abbrev pub is_inside : List ℕ → State → Bool
is_inside name s = list_any (bytes_eq name) (head_macros s.rest)

-- a use stands in the results of 64 macros at most (own)
abbrev pub is_too_deep : State → Bool
is_too_deep s = nat_le 64 (length (head_macros s.rest))

-- the result of a use of n bytes is read in its place (22.5.1)
abbrev pub read_result : List ℕ → ℕ → List ℕ → State → Next
read_result name n text s =
    if passes text s then Ends (give_up s)
    else Goes (replace n text (use_origin (head_origin s.rest)) (head_line s.rest) (name ∷ head_macros s.rest) (head_level s.rest) s)

-- a macro is not used inside itself (22.5.1)
abbrev pub use_text : List ℕ → ℕ → List ℕ → State → Next
use_text name n text s =
    if is_inside name s then Goes (refuse P06 (Some name) n s)
    else if is_too_deep s then Goes (refuse P07 (Some name) n s)
    else read_result name n text s

-- the bytes of a part of a text
abbrev pub part_in : List ℕ → Span → List ℕ
part_in text span = take (span.to - span.from) (drop span.from text)

-- a use with these actuals, which ends behind n bytes
abbrev pub use_with : List ℕ → Definition → List (List ℕ) → ℕ → State → Next
use_with name m actuals n s =
    if accepts m actuals then use_text name n (substituted m actuals) s
    else Goes (refuse P04 (Some name) n s)

-- a list of actuals that does not end takes what is left of its text (own)
abbrev pub use_listed : List ℕ → Definition → Option (List Span × ℕ) → State → Next
use_listed name m None s = Goes (refuse P05 (Some name) (length (ahead s.rest)) s)
use_listed name m (Some list) s = use_with name m (map (part_in (ahead s.rest)) list.0) list.1 s

-- the first place from n bytes on that is no white space
abbrev pub past_blanks : List ℕ → ℕ → ℕ
past_blanks text n = n + prefix_len is_white_space (drop n text)

-- the place behind the `(` that stands there, if one does
abbrev pub list_start : List ℕ → ℕ → Option ℕ
list_start text n = if begins_with 40 (drop (past_blanks text n) text) then Some (past_blanks text n + 1) else None

-- a macro with a list is used with one: without it only the name is dropped (own)
abbrev pub use_opened : List ℕ → Definition → ℕ → Option ℕ → State → Next
use_opened name m n None s = Goes (refuse P04 (Some name) n s)
use_opened name m n (Some from) s = use_listed name m (actuals_of (ahead s.rest) from) s

abbrev pub use_found : List ℕ → ℕ → Option Definition → State → Next
use_found name n None s = Goes (refuse P02 (Some name) n s)
use_found name n (Some m) s =
    if m.has_list then use_opened name m n (list_start (ahead s.rest) n) s
    else use_with name m [] n s

-- a use of a macro, by its backtick and name of n bytes
abbrev pub use_macro : List ℕ → ℕ → State → Next
use_macro name n s = use_found name n (macro_of s.table name) s

-- what `__FILE__ and `__LINE__ stand for (22.13): the name of the file in quotes, and the line of the outermost use
abbrev pub file_text : State → List ℕ
file_text s = 34 ∷ (head_origin s.rest).file ++ 34 ∷ []

abbrev pub line_text : State → List ℕ
line_text s = decimal (head_line s.rest)

abbrev pub source_text : SourceText → State → List ℕ
source_text File s = file_text s
source_text Line s = line_text s
