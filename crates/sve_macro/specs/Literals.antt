-- How far string literals and escaped identifiers reach (IEEE 1800-2017, 5.9 and 5.6.1).
use Rattle.std.specs.Prelude.{ℕ, ◌+◌, ◌==◌, Bool, true, false, List, [], ◌∷◌, drop, if◌then◌else◌}
use Rattle.std.specs.Char.{is_ascii_graphic}
use Rattle.std.specs.List.{prefix_len}
use Rattle.sve_bytes.specs.Bytes.{is_white_space}

-- how many bytes a string literal has after these: up to its closing quote, or without one up to a line feed or the end;
-- after a backslash, `taken`, the next byte belongs to the literal whatever it is
abbrev pub string_rest : Bool → List ℕ → ℕ
string_rest taken [] = 0
string_rest true (v ∷ vs) = 1 + string_rest false vs
string_rest false (v ∷ vs) = if v == 34 then 1 else if v == 10 then 0 else 1 + string_rest (v == 92) vs

-- 1 where a white space byte stands there, else 0
abbrev pub blank_length : List ℕ → ℕ
blank_length [] = 0
blank_length (v ∷ vs) = if is_white_space v then 1 else 0

-- how many bytes an escaped identifier has after its backslash, with the white space byte that ends it: the bytes 0x21 to 0x7E;
-- a backslash before any other byte begins none
abbrev pub escaped_rest : List ℕ → ℕ
escaped_rest vs =
    if prefix_len is_ascii_graphic vs == 0 then 0
    else prefix_len is_ascii_graphic vs + blank_length (drop (prefix_len is_ascii_graphic vs) vs)
