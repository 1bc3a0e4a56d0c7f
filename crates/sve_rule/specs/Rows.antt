-- Bits one after another (IEEE 1800-2017, 11.4.12).
use Rattle.std.specs.Prelude.{ℕ, zero, suc, ◌+◌, ◌*◌, nat_lt, if◌then◌else◌, List, [], ◌++◌, length, Option, Some, None, Result, Ok, Err}
use Rattle.sve_value.specs.declared.bit.Bit.{Bit}
use Rattle.sve_fault.specs.declared.fault.Fault.{Fault}
use Rattle.sve_rule.specs.declared.row.Row.{Row}
use Rattle.sve_rule.specs.declared.row.Row.TheVariants as is_row

-- at most 128 bits, the least significant first; none where there are more (own)
abbrev pub Line : Type 0
Line = Option (List Bit)

-- what stands behind goes on the right, where the least significant bits are
abbrev pub appended : Line → Line → Line
appended (Some xs) (Some ys) = if nat_lt 128 (length xs + length ys) then None else Some (ys ++ xs)
appended (Some xs) None = None
appended None y = None

unfoldable pub copies : ℕ → List Bit → List Bit
copies zero xs = []
copies (suc n) xs = xs ++ copies n xs

abbrev pub repeated : ℕ → List Bit → Line
repeated n xs = if nat_lt 128 (n * length xs) then None else Some (copies n xs)

-- what the program holds of a row
abbrev pub line_of : Row → Line
line_of is_row.Empty = Some []
line_of (is_row.Bits v) = Some v.bits
line_of is_row.Wide = None

abbrev pub lined : Result Row Fault → Result Line Fault
lined (Ok row) = Ok (line_of row)
lined (Err f) = Err f
