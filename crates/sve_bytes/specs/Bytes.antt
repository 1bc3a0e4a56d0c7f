-- Which bytes stand between tokens and in identifiers (IEEE 1800-2017, 5.3 and 5.6).
use Rattle.std.specs.Prelude.{ℕ, ◌+◌, ◌==◌, Bool, ◌||◌, List, [], ◌∷◌, if◌then◌else◌}
use Rattle.std.specs.Char.{is_ascii_alphabetic, is_ascii_alphanumeric, is_ascii_whitespace}
use Rattle.std.specs.List.{prefix_len}

-- space, tab, line feed, form feed and, own, carriage return (5.3)
abbrev pub is_white_space : ℕ → Bool
is_white_space b = is_ascii_whitespace b

-- a letter or `_` (5.6)
abbrev pub begins_identifier : ℕ → Bool
begins_identifier b = is_ascii_alphabetic b || b == 95

-- a letter, a digit, `_` or `$` (5.6)
abbrev pub continues_identifier : ℕ → Bool
continues_identifier b = is_ascii_alphanumeric b || b == 95 || b == 36

-- how many bytes the identifier or keyword at the head of a text has (5.6): 0 where none stands there
abbrev pub identifier_length : List ℕ → ℕ
identifier_length [] = 0
identifier_length (b ∷ bs) = if begins_identifier b then 1 + prefix_len continues_identifier bs else 0
