-- The words of tokens: what they say, apart from their places (IEEE 1800-2017, 5.6.1, and own).
use Rattle.std.specs.Prelude.{ℕ, Bool, true, false, List, [], ◌∷◌, map, Option, Some, None, ◌==◌, if◌then◌else◌}
use Rattle.sve_token.specs.declared.kind.Kind.{Kind}
use Rattle.sve_token.specs.declared.token.Token.{Token}
use Rattle.sve_tree.specs.declared.token_word.Word.{Word}
use Rattle.sve_token.specs.declared.kind.Kind.TheVariants as is_kind

-- whether tokens of a kind differ in their bytes
abbrev pub is_spelled : Kind → Bool
is_spelled is_kind.Identifier = true
is_spelled is_kind.SystemName = true
is_spelled is_kind.Decimal = true
is_spelled is_kind.Based = true
is_spelled is_kind.Unbased = true
is_spelled is_kind.Text = true
is_spelled is_kind.Bad = true
is_spelled kind = false

abbrev pub is_identifier : Kind → Bool
is_identifier is_kind.Identifier = true
is_identifier kind = false

-- the bytes behind a backslash that is not alone, or all of them
abbrev pub unescaped : List ℕ → List ℕ
unescaped [] = []
unescaped (b ∷ []) = b ∷ []
unescaped (b ∷ c ∷ bytes) = if b == 92 then c ∷ bytes else b ∷ c ∷ bytes

-- the word of a token
abbrev pub word_of : Token → Word
word_of t = record {
  kind = t.kind;
  spelling = if is_spelled t.kind then Some (if is_identifier t.kind then unescaped t.spelling else t.spelling) else None;
  text = if is_spelled t.kind then t.text else [];
}

-- the words of a chunk
abbrev pub words_of : List Token → List Word
words_of ts = map word_of ts

-- the name that a word is
abbrev pub name_in : Word → Option (List ℕ)
name_in w = if is_identifier w.kind then w.spelling else None

abbrev pub spelled_bytes : List ℕ → Option (List ℕ) → List ℕ
spelled_bytes [] None = []
spelled_bytes [] (Some name) = name
spelled_bytes (b ∷ bytes) name = b ∷ bytes

-- the bytes of a literal
abbrev pub bytes_in : Word → List ℕ
bytes_in w = spelled_bytes w.text w.spelling
