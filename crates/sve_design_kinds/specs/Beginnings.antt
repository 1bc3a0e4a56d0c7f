-- Tokens as a set, and the last of them in front of another.
use Rattle.std.specs.Prelude.{ℕ, zero, suc, List, Option, Some, None, if◌then◌else◌}
use Rattle.std.specs.Coded.{Coded, coded_ℕ}
use Rattle.std.specs.FinSet as set
use Rattle.std.specs.Ordering.{nat_cmp}

abbrev pub Tokens : Type 0
Tokens = set.FinSet nat_cmp

abbrev pub tokens_code : Coded Tokens
tokens_code = set.code coded_ℕ

abbrev pub tokens_of : List ℕ → Tokens
tokens_of ts = set.from_list ts

unfoldable pub last_before : Tokens → ℕ → Option ℕ
last_before tokens zero = None
last_before tokens (suc k) = if set.contains tokens k then Some k else last_before tokens k
