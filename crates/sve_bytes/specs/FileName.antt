-- Which bytes are the name of a file (own).
use Rattle.std.specs.Prelude.{ℕ, ◌||◌, ◌&&◌, ◌==◌, Bool, List, length, nat_le}
use Rattle.std.specs.Char.{is_ascii_alphanumeric}
use Rattle.std.specs.List.{list_all}

-- letters, digits, `_`, `-`, `.` and `/`
abbrev pub may_stand_in_file_name : ℕ → Bool
may_stand_in_file_name b = is_ascii_alphanumeric b || b == 95 || b == 45 || b == 46 || b == 47

-- 1 to 255 such bytes
abbrev pub is_file_name_of : List ℕ → Bool
is_file_name_of bytes = nat_le 1 (length bytes) && nat_le (length bytes) 255 && list_all may_stand_in_file_name bytes
