-- The chunks of a file (IEEE 1800-2017, A.1.2, in this profile).
use Rattle.std.specs.Prelude.{ℕ, suc, ◌+◌, Bool, ◌&&◌, List, [], ◌∷◌, ◌++◌, length, Some, if◌then◌else◌}
use Rattle.sve_token.specs.declared.kind.Kind.{Kind}
use Rattle.sve_token.specs.declared.kind.Kind.TheVariants.{Keyword, Colon, Identifier}
use Rattle.sve_token.specs.declared.keywords.Keyword.TheVariants.{KwEndmodule, KwEndinterface, KwEndpackage}
use Rattle.sve_token.specs.declared.token.Token.{Token}
use Rattle.sve_grammar.specs.Token.{has_kind, kind_at}
use Rattle.sve_grammar.specs.Rule.{is_among}
use Rattle.sve_unit.specs.declared.chunk.Chunk.{Chunk}

-- the words that end a chunk
abbrev pub end_words : List Kind
end_words = Keyword KwEndmodule ∷ Keyword KwEndinterface ∷ Keyword KwEndpackage ∷ []

abbrev pub ends_chunk : Token → Bool
ends_chunk token = is_among end_words (Some token.kind)

abbrev pub ends_at : List Token → ℕ → Bool
ends_at tokens i = is_among end_words (kind_at tokens i)

-- whether two tokens are a label
abbrev pub is_label : Token → Token → Bool
is_label colon name = has_kind (Some colon.kind) Colon && has_kind (Some name.kind) Identifier

-- a token in front of the first chunk
abbrev pub with_first : Token → List (List Token) → List (List Token)
with_first token [] = (token ∷ []) ∷ []
with_first token (chunk ∷ chunks) = (token ∷ chunk) ∷ chunks

-- the tokens of each chunk
unfoldable pub parts : List Token → List (List Token)
parts [] = []
parts (t ∷ []) = (t ∷ []) ∷ []
parts (t ∷ u ∷ []) = if ends_chunk t then (t ∷ []) ∷ parts (u ∷ []) else with_first t (parts (u ∷ []))
parts (t ∷ u ∷ v ∷ ts) =
    if ends_chunk t
    then (if is_label u v then (t ∷ u ∷ v ∷ []) ∷ parts ts else (t ∷ []) ∷ parts (u ∷ v ∷ ts))
    else with_first t (parts (u ∷ v ∷ ts))

-- chunks by the numbers of their tokens, the first of which is the token of this number
unfoldable pub spans : ℕ → List (List Token) → List Chunk
spans from [] = []
spans from (chunk ∷ chunks) = record { from = from; to = from + length chunk } ∷ spans (from + length chunk) chunks

abbrev pub chunks_of : List Token → List Chunk
chunks_of tokens = spans 0 (parts tokens)

-- chunks one behind the other
abbrev pub joined : List (List Token) → List Token
joined [] = []
joined (chunk ∷ chunks) = chunk ++ joined chunks

-- how many tokens the label at the front has, where one stands there
abbrev pub label_size : List Token → ℕ
label_size [] = 0
label_size (u ∷ []) = 0
label_size (u ∷ v ∷ ts) = if is_label u v then 2 else 0

-- how many tokens the first chunk has
unfoldable pub first_size : List Token → ℕ
first_size [] = 0
first_size (t ∷ ts) = if ends_chunk t then suc (label_size ts) else suc (first_size ts)
