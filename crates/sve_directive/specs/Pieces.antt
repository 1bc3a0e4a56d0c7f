-- The pieces of a text as the preprocessor sees them: comments, string literals, escaped identifiers, and each other byte by itself.
use Rattle.std.specs.Prelude.{ℕ, zero, suc, ◌+◌, ◌==◌, ◌&&◌, ◌||◌, Bool, true, false, not, nat_lt, if◌then◌else◌, List, [], ◌∷◌, length, take, drop}
use Rattle.std.specs.List.{prefix_len, take_while, sum_by, flat_map}
use Rattle.sve_macro.specs.Literals.{string_rest, escaped_rest}
use Rattle.sve_bytes.specs.Bytes.{is_white_space}
use Rattle.sve_directive.specs.Bytes.{is_in_line, begins_with, line_length}

-- how many bytes of a block comment follow its `/*`: up to and with the next `*/` (5.4), or to the end of the text (own).
-- star: a `*` of the comment stands before.
abbrev pub comment_rest : Bool → List ℕ → ℕ
comment_rest star [] = 0
comment_rest star (b ∷ bs) = if star && b == 47 then 1 else 1 + comment_rest (b == 42) bs

-- how many bytes of a comment follow its first `/`; none where no comment begins
abbrev pub slash_rest : List ℕ → ℕ
slash_rest [] = 0
slash_rest (b ∷ bs) =
    if b == 47 then 1 + prefix_len is_in_line bs
    else if b == 42 then 1 + comment_rest false bs
    else 0

-- the length of the first piece of a text: a string literal (5.9), an escaped identifier with the white space byte that ends
-- it (5.6.1), a comment (5.4), or one other byte
abbrev pub piece_length : List ℕ → ℕ
piece_length [] = 0
piece_length (b ∷ bs) =
    if b == 34 then 1 + string_rest false bs
    else if b == 92 then 1 + escaped_rest bs
    else if b == 47 then 1 + slash_rest bs
    else 1

-- at most n pieces
unfoldable pub pieces_in : ℕ → List ℕ → List (List ℕ)
pieces_in zero text = []
pieces_in (suc n) [] = []
pieces_in (suc n) (b ∷ bs) = take (piece_length (b ∷ bs)) (b ∷ bs) ∷ pieces_in n (drop (piece_length (b ∷ bs)) (b ∷ bs))

-- all pieces, in order; each has a byte, so a text has no more pieces than bytes
unfoldable pub pieces : List ℕ → List (List ℕ)
pieces text = pieces_in (length text) text

-- how many bytes the pieces at the head have that pass a test
unfoldable pub front_length : (List ℕ → Bool) → List ℕ → ℕ
front_length passes text = sum_by length (take_while passes (pieces text))

-- a piece that is copied unread: any but a backtick
abbrev pub is_plain : List ℕ → Bool
is_plain piece = not (begins_with 96 piece)

-- the end of a text, or a backtick
abbrev pub is_at_backtick : List ℕ → Bool
is_at_backtick [] = true
is_at_backtick (b ∷ bs) = b == 96

-- how many bytes are copied unread: the pieces before the first backtick (22.1)
unfoldable pub plain_length : List ℕ → ℕ
plain_length text = front_length is_plain text

-- a piece that may stand between the parts of a directive: white space or a block comment (5.3, 5.4)
abbrev pub is_gap : List ℕ → Bool
is_gap [] = false
is_gap (b ∷ bs) = is_white_space b || (b == 47 && begins_with 42 bs)

-- how many bytes of white space and block comments stand at the head of a text
unfoldable pub gap_length : List ℕ → ℕ
gap_length text = front_length is_gap text

-- whether a line ends in a piece: a line feed, or an escaped identifier that a line feed ends; a string literal or a block
-- comment in which a line feed stands is a piece of the line in which it begins (own)
abbrev pub ends_line : List ℕ → Bool
ends_line piece = begins_with 10 piece || (begins_with 92 piece && nat_lt (line_length piece) (length piece))

-- how many bytes pieces have before the line ends
abbrev pub before_line_end : List (List ℕ) → ℕ
before_line_end [] = 0
before_line_end (p ∷ ps) = if ends_line p then line_length p else length p + before_line_end ps

-- how many bytes the pieces have that begin in the line at the head of a text
unfoldable pub rest_of_line : List ℕ → ℕ
rest_of_line text = before_line_end (pieces text)

-- a piece with `//` at its head
abbrev pub is_one_line_comment : List ℕ → Bool
is_one_line_comment [] = false
is_one_line_comment (b ∷ bs) = b == 47 && begins_with 47 bs

abbrev pub unless_one_line_comment : List ℕ → List ℕ
unless_one_line_comment piece = if is_one_line_comment piece then [] else piece

-- a text without its one-line comments (5.4)
unfoldable pub uncommented : List ℕ → List ℕ
uncommented text = flat_map unless_one_line_comment (pieces text)
