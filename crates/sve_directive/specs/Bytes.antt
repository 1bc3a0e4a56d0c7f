-- Bytes at the head and at both ends of a text (IEEE 1800-2017, 5.3 and 5.6).
use Rattle.std.specs.Prelude.{ℕ, ◌-◌, ◌==◌, Bool, false, not, List, [], ◌∷◌, length, take, drop}
use Rattle.std.specs.List.{prefix_len, suffix_len}
use Rattle.sve_bytes.specs.Bytes.{is_white_space, identifier_length}

-- any byte but the line feed
abbrev pub is_in_line : ℕ → Bool
is_in_line b = not (b == 10)

abbrev pub begins_with : ℕ → List ℕ → Bool
begins_with b [] = false
begins_with b (c ∷ cs) = c == b

-- how many bytes stand before the next line feed, or before the end (own: a line ends with a line feed)
abbrev pub line_length : List ℕ → ℕ
line_length text = prefix_len is_in_line text

-- the simple identifier at the head of a text (5.6)
abbrev pub identifier : List ℕ → List ℕ
identifier text = take (identifier_length text) text

-- a text from its first byte on that is no white space
abbrev pub without_front : List ℕ → List ℕ
without_front text = drop (prefix_len is_white_space text) text

-- a text up to its last byte that is no white space
abbrev pub without_back : List ℕ → List ℕ
without_back text = take (length text - suffix_len is_white_space text) text

abbrev pub trimmed : List ℕ → List ℕ
trimmed text = without_back (without_front text)
