-- Where a byte of a text stands, by lines and columns (own: lines end with a line feed, columns count bytes, both from 1).
use Rattle.std.specs.Prelude.{ℕ, ◌+◌, ◌==◌, Bool, not, List, take, reverse, count_by}
use Rattle.std.specs.List.{prefix_len}

abbrev pub is_line_feed : ℕ → Bool
is_line_feed b = b == 10

-- one more than the line feeds before the byte: a line feed belongs to the line that it ends
abbrev pub line_at : List ℕ → ℕ → ℕ
line_at text n = count_by is_line_feed (take n text) + 1

-- one more than the bytes that stand between the byte and the last line feed before it, or the start of the text
abbrev pub column_at : List ℕ → ℕ → ℕ
column_at text n = prefix_len (λ b. not (is_line_feed b)) (reverse (take n text)) + 1
