-- The tokens of an expanded text.
use Rattle.std.specs.Prelude.{ℕ, ◌+◌, ◌≤◌, Bool, true, ◌&&◌, ◌==◌, nat_lt, if◌then◌else◌, List, [], ◌∷◌, ◌++◌, length, take, drop}
use Rattle.std.specs.Str.{bytes_eq}
use Rattle.sve_diag.specs.declared.diag.Place.{Place}
use Rattle.sve_origin.specs.Origins.{Origin, Cell, values}
use Rattle.sve_token.specs.declared.kind.Kind.{Kind}
use Rattle.sve_token.specs.declared.token.Token.{Token}
use Rattle.sve_lex.specs.declared.class.Class.{Class}
use Rattle.sve_lex.specs.declared.class.Class.TheVariants.{Separator, Lexeme}
use Rattle.sve_lex.specs.Pieces.{Piece, pieces}

-- p is the byte behind o in one file, and both are copied from there
abbrev pub follows : Origin → Origin → Bool
follows o p = o.copied && p.copied && bytes_eq p.file o.file && p.offset == o.offset + 1

abbrev pub goes_on_from : Origin → List Cell → Bool
goes_on_from o [] = true
goes_on_from o (c ∷ cs) = follows o c.1 && goes_on_from c.1 cs

-- all bytes are copied, from successive offsets of one file
abbrev pub are_copied : List Cell → Bool
are_copied [] = true
are_copied (c ∷ cs) = c.1.copied && goes_on_from c.1 cs

-- all bytes of a token, where they are more than a name may have
abbrev pub long_text : List ℕ → List ℕ
long_text s = if nat_lt 1024 (length s) then s else []

-- a token stands where its first byte comes from
abbrev pub token_at : Kind → List ℕ → Place → Bool → Token
token_at kind s place copied =
    record { kind = kind; spelling = take 1024 s; text = long_text s; place = place; copied = copied }

abbrev pub place_of : Origin → Place
place_of o = record { file = o.file; offset = o.offset }

-- the token of a piece, and none of a separator
abbrev pub token_of : Class → List Cell → List Token
token_of Separator cs = []
token_of (Lexeme kind) [] = []
token_of (Lexeme kind) (c ∷ cs) = token_at kind (values (c ∷ cs)) (place_of c.1) (are_copied (c ∷ cs)) ∷ []

abbrev pub cut : List Piece → List Cell → List Token
cut [] cs = []
cut (p ∷ ps) cs = token_of p.0 (take (length p.1) cs) ++ cut ps (drop (length p.1) cs)

-- the bytes are cut into their pieces, and the separators are left out
unfoldable pub tokens : List Cell → List Token
tokens cs = cut (pieces (values cs)) cs

-- where the token of a piece begins, and nothing for a separator
abbrev pub start_of : ℕ → Class → List ℕ
start_of at Separator = []
start_of at (Lexeme kind) = at ∷ []

-- the first of these pieces stands behind so many bytes
abbrev pub starts_from : ℕ → List Piece → List ℕ
starts_from at [] = []
starts_from at (p ∷ ps) = start_of at p.0 ++ starts_from (at + length p.1) ps

-- of each token, in order, how many bytes stand before it
unfoldable pub starts : List Cell → List ℕ
starts cs = starts_from 0 (pieces (values cs))

-- none is below this number, nor below the one before it
abbrev pub Rise : ℕ → List ℕ → Type 0
Rise least [] = Unit {0}
Rise least (n ∷ ns) = (least ≤ n) × Rise n ns
