-- Conditional compilation (IEEE 1800-2017, 22.6).
use Rattle.std.specs.Prelude.{ℕ, Bool, true, false, not, ◌&&◌, ◌||◌, nat_eq, if◌then◌else◌, List, [], ◌∷◌, Some, is_some, codes}
use Rattle.sve_diag.specs.declared.code.Code.TheVariants.{P10}
use Rattle.sve_unread.specs.Head.{height}
use Rattle.sve_macro.specs.Macros.{macro_of}
use Rattle.sve_directive.specs.declared.directive.Conditional.{Conditional}
use Rattle.sve_directive.specs.declared.directive.Conditional.TheVariants.{Ifdef, Ifndef, Elsif, Else, Endif}
use Rattle.sve_directive.specs.declared.directive.MacroName.{MacroName}
use Rattle.sve_directive.specs.declared.directive.MacroName.TheVariants.{Name, TooLong}
use Rattle.sve_prep.specs.declared.condition.Condition.{Condition}
use Rattle.sve_prep.specs.State.{State, is_reading, forward, refuse, end_origin}

-- no macro has a name above 1,024 bytes (own)
abbrev pub is_defined : MacroName → State → Bool
is_defined (Name name) s = is_some (macro_of s.table name)
is_defined TooLong s = false

-- the condition of an `ifdef or `ifndef at the next byte
abbrev pub new_condition : Bool → State → Condition
new_condition holds s =
    let e = end_origin s.rest in
    record { depth = height s.rest; end_place = record { file = e.file; offset = e.offset }; outer = is_reading s.conditions; taken = holds; active = is_reading s.conditions && holds; after_else = false }

-- `ifdef and `ifndef: the group that follows is read where the condition holds
abbrev pub open_conditional : Bool → ℕ → State → State
open_conditional holds n s = forward n (record s { conditions = new_condition holds s ∷ s.conditions })

-- the group that follows is read where its condition holds and none before it was taken
abbrev pub in_next_group : Bool → Bool → Condition → Condition
in_next_group holds last c = record c { active = c.outer && (not c.taken && holds); taken = c.taken || holds; after_else = last }

-- whether a directive at the next byte may go on with or end the condition: it began in the text that is read (own)
abbrev pub is_own : Condition → State → Bool
is_own c s = nat_eq c.depth (height s.rest)

abbrev pub may_have_group : Condition → State → Bool
may_have_group c s = is_own c s && not c.after_else

-- `elsif and `else, the last one: without their condition, or behind its `else, they are reported and dropped
abbrev pub next_group : List ℕ → Bool → Bool → List Condition → ℕ → State → State
next_group word holds last [] n s = refuse P10 (Some word) n s
next_group word holds last (c ∷ cs) n s =
    if may_have_group c s then forward n (record s { conditions = in_next_group holds last c ∷ cs })
    else refuse P10 (Some word) n s

-- `endif, likewise
abbrev pub end_conditional : List Condition → ℕ → State → State
end_conditional [] n s = refuse P10 (Some (codes "endif")) n s
end_conditional (c ∷ cs) n s =
    if is_own c s then forward n (record s { conditions = cs })
    else refuse P10 (Some (codes "endif")) n s

-- a directive of conditional compilation of n bytes
abbrev pub follow_conditional : Conditional → ℕ → State → State
follow_conditional (Ifdef name) n s = open_conditional (is_defined name s) n s
follow_conditional (Ifndef name) n s = open_conditional (not (is_defined name s)) n s
follow_conditional (Elsif name) n s = next_group (codes "elsif") (is_defined name s) false s.conditions n s
follow_conditional Else n s = next_group (codes "else") true true s.conditions n s
follow_conditional Endif n s = end_conditional s.conditions n s
