-- The state of an expansion (IEEE 1800-2017, clause 22).
use Rattle.std.specs.Prelude.{ℕ, ◌+◌, Bool, true, false, nat_lt, if◌then◌else◌, List, [], ◌∷◌, ◌++◌, length, map, take, drop, Option, None}
use Rattle.sve_bytes.specs.declared.net_type.NetType.{NetType}
use Rattle.sve_diag.specs.declared.diag.Diag.{Diag}
use Rattle.sve_diag.specs.declared.code.Code.{Code}
use Rattle.sve_diag.specs.declared.code.Code.TheVariants.{P11}
use Rattle.sve_origin.specs.Origins.{Origin, Cell, moved, marked}
use Rattle.sve_unread.specs.Bytes.{Byte, laid, cell, depth, ahead}
use Rattle.sve_unread.specs.Head.{head_origin}
use Rattle.sve_macro.specs.Macros.{Entries}
use Rattle.sve_prep.specs.declared.condition.Condition.{Condition}

pub record State : Type 0 where
  -- the bytes that are left
  pub rest : List Byte
  -- the macros that are defined
  pub table : Entries
  -- the open conditions, the innermost first
  pub conditions : List Condition
  -- how many bytes were put up for reading, with one more for each use and include (own)
  pub work : ℕ
  -- the net type in force
  pub net_type : NetType
  -- what is written
  pub out : List Cell
  pub diags : List Diag
  -- the net type that was set at each byte
  pub net_types : List (ℕ × NetType)
  -- the names whose texts were asked for, where they are noted
  pub asked : Option (List (List ℕ))

-- an expansion does at most so much work (own)
abbrev pub limit : ℕ
limit = 4194304

-- whether bytes are read, and not skipped as those of a group that is not taken (22.6)
abbrev pub is_reading : List Condition → Bool
is_reading [] = true
is_reading (c ∷ cs) = c.active

-- n bytes are done with
abbrev pub forward : ℕ → State → State
forward n s = record s { rest = drop n s.rest }

-- the next n bytes as they are written: nothing in a group that is skipped
abbrev pub written : ℕ → State → List Cell
written n s = if is_reading s.conditions then map cell (take n s.rest) else []

abbrev pub copy : ℕ → State → State
copy n s = record s { rest = drop n s.rest; out = s.out ++ written n s }

-- the result of a use comes from the place of the use, and that of a use in a result from the place of the outermost one (own)
abbrev pub use_origin : Origin → Origin
use_origin o = record { file = o.file; offset = o.offset; copied = false }

-- bytes that stand for the next n bytes and are not read
abbrev pub stand_for : ℕ → List ℕ → State → State
stand_for n text s = record s { rest = drop n s.rest; out = s.out ++ marked text (use_origin (head_origin s.rest)) }

-- a text in the place of the next n bytes, to be read there
abbrev pub replace : ℕ → List ℕ → Origin → ℕ → List (List ℕ) → ℕ → State → State
replace n text o line macros level s =
    record s { rest = laid text o line macros level ++ drop n s.rest; work = s.work + 1 + length text }

abbrev pub diag_at : Origin → Code → Option (List ℕ) → Diag
diag_at o code arg = record { place = record { file = o.file; offset = o.offset }; code = code; arg = arg }

-- a diagnostic at the next byte
abbrev pub report : Code → Option (List ℕ) → State → State
report code arg s = record s { diags = s.diags ++ diag_at (head_origin s.rest) code arg ∷ [] }

-- a diagnostic, and n bytes are dropped
abbrev pub refuse : Code → Option (List ℕ) → ℕ → State → State
refuse code arg n s = forward n (report code arg s)

-- the net type from the next byte that is written on (22.8)
abbrev pub set_net_type : NetType → ℕ → State → State
set_net_type t n s = forward n (record s { net_type = t; net_types = s.net_types ++ (length s.out, t) ∷ [] })

-- the innermost condition began in a text that is at its end
abbrev pub is_left : List Condition → List Byte → Bool
is_left [] bs = false
is_left (c ∷ cs) [] = true
is_left (c ∷ cs) (b ∷ bs) = nat_lt (depth b) c.depth

-- a conditional ends in the text in which it began (own): one that is open at the end of it is reported there
abbrev pub close_with : List Condition → State → State
close_with [] s = s
close_with (c ∷ cs) s = record s { conditions = cs; diags = s.diags ++ record { place = c.end_place; code = P11; arg = None } ∷ [] }

abbrev pub close : State → State
close s = close_with s.conditions s

-- where the text that is read ends: the end of a file, or the place of a use
abbrev pub end_origin : List Byte → Origin
end_origin bs = moved (length (ahead bs)) (head_origin bs)
