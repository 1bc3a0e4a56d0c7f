-- One step of an expansion: what stands leftmost is copied or replaced (IEEE 1800-2017, clause 22).
use Rattle.std.specs.Prelude.{ℕ, true, false, ◌||◌, nat_eq, if◌then◌else◌, List, [], ◌∷◌, Some, bytes_eq}
use Rattle.std.specs.BTreeMap.{insert_entry}
use Rattle.std.specs.Cmp.Lexicographic.{slice_cmp}
use Rattle.std.specs.Map.{remove_entry}
use Rattle.std.specs.Ordering.{nat_cmp}
use Rattle.sve_diag.specs.declared.code.Code.TheVariants.{P01, P02, P03}
use Rattle.sve_unread.specs.Bytes.{Byte, ahead}
use Rattle.sve_macro.specs.declared.definition.Definition.{Definition}
use Rattle.sve_directive.specs.declared.directive.Directive.{Directive}
use Rattle.sve_directive.specs.declared.directive.Directive.TheVariants.{Include, Local}
use Rattle.sve_directive.specs.declared.directive.LocalDirective.{LocalDirective}
use Rattle.sve_directive.specs.declared.directive.LocalDirective.TheVariants.{Conditional, Macros, NetType, Text, Ignored, Use, Refused}
use Rattle.sve_directive.specs.declared.directive.MacroDirective.{MacroDirective}
use Rattle.sve_directive.specs.declared.directive.MacroDirective.TheVariants.{Define, Undef, UndefineAll}
use Rattle.sve_directive.specs.declared.directive.MacroName.{MacroName}
use Rattle.sve_directive.specs.declared.directive.MacroName.TheVariants.{Name, TooLong}
use Rattle.sve_directive.specs.declared.directive.Refusal.{Refusal}
use Rattle.sve_directive.specs.declared.directive.Refusal.TheVariants.{Keywords, Malformed, LongUse}
use Rattle.sve_directive.specs.Pieces.{plain_length}
use Rattle.sve_directive.specs.Directives.{directive_at, is_conditional_at}
use Rattle.sve_prep.specs.Told.{Told}
use Rattle.sve_prep.specs.State.{State, is_reading, forward, copy, stand_for, refuse, set_net_type, is_left, close}
use Rattle.sve_prep.specs.Conditionals.{follow_conditional}
use Rattle.sve_prep.specs.Uses.{Next, Goes, Ends, use_macro, source_text}
use Rattle.sve_prep.specs.Includes.{include}

-- `define: a later definition takes the place of an earlier one (22.5.1)
abbrev pub define : List ℕ → Definition → ℕ → State → State
define name m n s = forward n (record s { table = insert_entry (slice_cmp nat_cmp) s.table name m })

-- `undef (22.5.2); no macro has a name above 1,024 bytes (own)
abbrev pub undefine : MacroName → ℕ → State → State
undefine (Name name) n s = forward n (record s { table = remove_entry (bytes_eq name) s.table })
undefine TooLong n s = forward n s

-- `undefineall (22.5.3)
abbrev pub undefine_all : ℕ → State → State
undefine_all n s = forward n (record s { table = [] })

abbrev pub change_macros : MacroDirective → ℕ → State → State
change_macros (Define name m) n s = define name m n s
change_macros (Undef name) n s = undefine name n s
change_macros UndefineAll n s = undefine_all n s

-- what is reported and dropped (own)
abbrev pub refuse_directive : Refusal → ℕ → State → State
refuse_directive (Keywords name) n s = refuse P03 (Some name) n s
refuse_directive (Malformed name) n s = refuse P01 name n s
refuse_directive (LongUse name) n s = refuse P02 (Some name) n s

-- a directive or a use of n bytes that needs no other file
abbrev pub follow : LocalDirective → ℕ → State → Next
follow (Conditional directive) n s = Goes (follow_conditional directive n s)
follow (Macros directive) n s = Goes (change_macros directive n s)
follow (NetType t) n s = Goes (set_net_type t n s)
follow (Text text) n s = Goes (stand_for n (source_text text s) s)
follow Ignored n s = Goes (forward n s)
follow (Use name) n s = use_macro name n s
follow (Refused refusal) n s = Goes (refuse_directive refusal n s)

-- also one that includes a file
abbrev pub step_head : Told → Directive → ℕ → State → Next
step_head told (Include name) n s = include told name n s
step_head told (Local directive) n s = follow directive n s

-- in a group that is skipped only conditional directives are followed (22.6); of all others the backtick is passed (own)
abbrev pub step_backtick : Told → List ℕ → State → Next
step_backtick told text s =
    if is_reading s.conditions || is_conditional_at text then step_head told (directive_at text).0 (directive_at text).1 s
    else Goes (forward 1 s)

-- comments, string literals, escaped identifiers and other bytes are copied unread, up to the next backtick
abbrev pub step_text : Told → List ℕ → State → Next
step_text told text s =
    if nat_eq (plain_length text) 0 then step_backtick told text s
    else Goes (copy (plain_length text) s)

abbrev pub step_rest : Told → List Byte → State → Next
step_rest told [] s = Ends s
step_rest told (b ∷ bs) s = step_text told (ahead s.rest) s

abbrev pub step : Told → State → Next
step told s = if is_left s.conditions s.rest then Goes (close s) else step_rest told s.rest s
