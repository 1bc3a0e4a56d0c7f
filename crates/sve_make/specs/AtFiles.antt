-- The values of keys at some files, and the keys that each reads (own).
use Rattle.std.specs.Prelude.{ℕ, zero, suc, ◌+◌, List, [], ◌∷◌, length, map, Option, Some, None, unwrap_or}
use Rattle.std.specs.List.{filter, flat_map}
use Rattle.sve_token.specs.declared.token.Token.{Token}
use Rattle.sve_text.specs.Files.{FilesValue}
use Rattle.sve_text.specs.Rows.{Row}
use Rattle.sve_prep.specs.State.{State}
use Rattle.sve_prep.specs.Expansion.{expand, fresh}
use Rattle.sve_lex.specs.Tokens.{tokens}
use Rattle.sve_unit.specs.declared.chunk.Chunk.{Chunk}
use Rattle.sve_unit.specs.Chunks.{chunks_of}
use Rattle.sve_front.specs.Expansions.{told_by, state_in}
use Rattle.sve_front.specs.Units.{is_unit_name}
use Rattle.sve_store.specs.Made.{values_of}
use Rattle.sve_store.specs.Values.{IsValue, TellsValues}
use Rattle.sve_key.specs.KeyOrder.{key_cmp}
use Rattle.sve_key.specs.declared.key.Key.{Key}
use Rattle.sve_key.specs.declared.key.Key.TheVariants.{Text, Names, Tokens, Chunks, Element, Index}
use Rattle.sve_key.specs.declared.value.Value.{Value}
use Rattle.sve_key.specs.Parts.{names_there}
use Rattle.sve_make.specs.Make.{make_of, given_of}

-- the value of a key at the files
abbrev pub IsValueAt : FilesValue → Key → ℕ → Value → Type 0
IsValueAt files = IsValue key_cmp (values_of (given_of files)) make_of

abbrev pub TellsAt : FilesValue → (Key → Option Value) → Type 0
TellsAt files = TellsValues key_cmp (values_of (given_of files)) make_of

-- with what the expansion of a file ends
abbrev pub state_at : List Row → List ℕ → State
state_at rows file = state_in (expand (told_by rows) fresh None file)

abbrev pub tokens_at : List Row → List ℕ → List Token
tokens_at rows file = tokens (state_at rows file).out

abbrev pub chunks_at : List Row → List ℕ → List Chunk
chunks_at rows file = chunks_of (tokens_at rows file)

abbrev pub units_at : List Row → List (List ℕ)
units_at rows = filter is_unit_name (names_there rows)

-- the names for which the expansion of a file asks
abbrev pub names_asked : List Row → List ℕ → List (List ℕ)
names_asked rows file = unwrap_or (state_in (expand (told_by rows) fresh (Some []) file)).asked []

unfoldable pub chunk_keys : List ℕ → ℕ → ℕ → List Key
chunk_keys file n zero = []
chunk_keys file n (suc left) = Element file n ∷ chunk_keys file (n + 1) left

abbrev pub unit_keys : List Row → List ℕ → List Key
unit_keys rows file = Chunks file ∷ chunk_keys file 0 (length (chunks_at rows file))

-- the keys that a key reads, and no others
abbrev pub reads_of : FilesValue → Key → ℕ → List Key
reads_of files (Text name) fuel = []
reads_of files Names fuel = []
reads_of files (Tokens name) fuel = map Text (names_asked files.rows name)
reads_of files (Chunks name) fuel = Tokens name ∷ []
reads_of files (Element name n) fuel = Tokens name ∷ Chunks name ∷ []
reads_of files Index fuel = Names ∷ flat_map (unit_keys files.rows) (units_at files.rows)
