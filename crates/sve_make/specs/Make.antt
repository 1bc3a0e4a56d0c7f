-- The kinds of key that need no constants: what each is made of (own).
use Rattle.std.specs.Prelude.{ℕ, zero, suc, ◌+◌, ◌&&◌, nat_le, Bool, true, false, List, [], ◌∷◌, ◌++◌, length, Option, Some, None, Ok, Err, if◌then◌else◌}
use Rattle.std.specs.List.{filter, slice_get, slice_range}
use Rattle.sve_text.specs.Files.{FilesValue}
use Rattle.sve_text.specs.Rows.{text_of, stamp_of}
use Rattle.sve_prep.specs.State.{State}
use Rattle.sve_prep.specs.Expansion.{Outcome, Wants, expand, fresh}
use Rattle.sve_token.specs.declared.token.Token.{Token}
use Rattle.sve_lex.specs.Tokens.{tokens}
use Rattle.sve_unit.specs.declared.chunk.Chunk.{Chunk}
use Rattle.sve_unit.specs.Chunks.{chunks_of}
use Rattle.sve_grammar.specs.Reading.{Answer}
use Rattle.sve_tree.specs.TokenWords.{words_of}
use Rattle.sve_element.specs.Chunk.{read_whole}
use Rattle.sve_front.specs.Units.{is_unit_name}
use Rattle.sve_gist.specs.Gists.{Gist, gist_of_words}
use Rattle.sve_gist.specs.Index.{index_of_gists}
use Rattle.sve_told.specs.Seen.{seen_told}
use Rattle.sve_store.specs.Made.{Made, Needs, Done}
use Rattle.sve_key.specs.declared.key.Key.{Key}
use Rattle.sve_key.specs.declared.key.Key.TheVariants.{Text, Names, Tokens, Chunks, Element, Index}
use Rattle.sve_key.specs.declared.value.Value.{Value}
use Rattle.sve_key.specs.declared.value.Value.TheVariants as values
use Rattle.sve_key.specs.Parts.{ReadingValue, names_there}
use Rattle.sve_key.specs.Values.{text_in_value, names_in_value, file_in_value, chunks_in_value, reading_in_value, no_reading}

-- a definition that goes on with the value of a key
abbrev pub with_key : {V W : Type 0} → Key → Option V → (V → Made Key W) → Made Key W
with_key k None rest = Needs k
with_key k (Some v) rest = rest v

-- what is made, as it goes on
abbrev pub then_made : {V W : Type 0} → Made Key V → (V → W) → Made Key W
then_made (Needs k) f = Needs k
then_made (Done v) f = Done (f v)

-- what one makes, and what the others do
abbrev pub joined : {X : Type 0} → Made Key (List X) → Made Key (List X) → Made Key (List X)
joined (Needs k) m = Needs k
joined (Done xs) m = then_made m (λ ys. xs ++ ys)

-- ---- Tokens: the expansion over the texts that are told (IEEE 1800-2017, clauses 5 and 22)

abbrev pub read_text : (name : List ℕ) → Value → Option (List ℕ)
read_text name v = (text_in_value v).text

abbrev pub expansion_made : Outcome → Made Key State
expansion_made (Outcome.Done last) = Done last
expansion_made (Wants name halt) = Needs (Text name)

abbrev pub expanded : (Key → Option Value) → List ℕ → Made Key State
expanded told name = expansion_made (expand (seen_told Text read_text told) fresh None name)

abbrev pub tokens_made : State → Value
tokens_made last = values.Tokens (record { tokens = tokens last.out; diags = last.diags; net_types = last.net_types })

-- ---- Chunks (A.1.2)

abbrev pub chunks_made : Value → Value
chunks_made v = values.Chunks (chunks_of (file_in_value v).tokens)

-- ---- Element: the words of a chunk that the grammar accepts, or where it stops

abbrev pub read_as : List Token → Answer → ReadingValue
read_as ts (Ok read) = Ok (words_of ts)
read_as ts (Err halt) = Err halt

abbrev pub reading_of : List Token → ReadingValue
reading_of ts = read_as ts (read_whole ts)

-- the tokens of a chunk; one that does not lie among the tokens has none
abbrev pub part_of : List Token → Chunk → List Token
part_of ts c = if nat_le c.from c.to && nat_le c.to (length ts) then slice_range ts c.from c.to else []

-- of a chunk that is not there, that the grammar stops at its front
abbrev pub reading_at : List Token → Option Chunk → ReadingValue
reading_at ts None = no_reading
reading_at ts (Some c) = reading_of (part_of ts c)

-- ---- Index: what it takes from the elements of all units, in file order and then text order (3.13)

abbrev pub gists_in : List ℕ → ℕ → ReadingValue → List Gist
gists_in file n (Ok words) = gist_of_words file n words ∷ []
gists_in file n (Err halt) = []

-- of the chunk with this number
abbrev pub element_told : (Key → Option Value) → List ℕ → ℕ → Made Key (List Gist)
element_told told file n = with_key (Element file n) (told (Element file n)) (λ v. Done (gists_in file n (reading_in_value v)))

-- of so many chunks, from this one on
unfoldable pub elements_told : (Key → Option Value) → List ℕ → ℕ → ℕ → Made Key (List Gist)
elements_told told file n zero = Done []
elements_told told file n (suc left) = joined (element_told told file n) (elements_told told file (n + 1) left)

-- of all chunks of a unit
abbrev pub unit_told : (Key → Option Value) → List ℕ → Made Key (List Gist)
unit_told told file = with_key (Chunks file) (told (Chunks file)) (λ v. elements_told told file 0 (length (chunks_in_value v)))

unfoldable pub units_told : (Key → Option Value) → List (List ℕ) → Made Key (List Gist)
units_told told [] = Done []
units_told told (file ∷ files) = joined (unit_told told file) (units_told told files)

abbrev pub units_in : Value → List (List ℕ)
units_in v = filter is_unit_name (names_in_value v)

abbrev pub index_told : (Key → Option Value) → Made Key (List Gist)
index_told told = with_key Names (told Names) (λ v. units_told told (units_in v))

abbrev pub index_made : List Gist → Value
index_made gists = values.Index (index_of_gists gists)

-- ---- all kinds; an input is made of nothing, and no value of one is made

abbrev pub make_of : Key → ℕ → (Key → Option Value) → Made Key Value
make_of (Text name) fuel told = Done (values.Names [])
make_of Names fuel told = Done (values.Names [])
make_of (Tokens name) fuel told = then_made (expanded told name) tokens_made
make_of (Chunks name) fuel told = with_key (Tokens name) (told (Tokens name)) (λ v. Done (chunks_made v))
make_of (Element name n) fuel told =
    with_key (Tokens name) (told (Tokens name)) (λ v.
    with_key (Chunks name) (told (Chunks name)) (λ w.
    Done (values.Element (reading_at (file_in_value v).tokens (slice_get (chunks_in_value w) n)))))
make_of Index fuel told = then_made (index_told told) index_made

-- the value and the stamp of an input
abbrev pub given_of : FilesValue → Key → Option (Value × ℕ)
given_of files (Text name) = Some (values.Text (record { text = text_of files.rows name; stamp = stamp_of files.rows name }), stamp_of files.rows name)
given_of files Names = Some (values.Names (names_there files.rows), files.names_stamp)
given_of files key = None

abbrev pub input_of : Key → Bool
input_of (Text name) = true
input_of Names = true
input_of key = false
