-- What a value holds of each kind: nothing, where it is of another kind (own).
use Rattle.std.specs.Prelude.{ℕ, Bool, false, List, [], Option, Some, None, Ok, Err}
use Rattle.sve_unit.specs.declared.chunk.Chunk.{Chunk}
use Rattle.sve_diag.specs.declared.diag.Note.{Note}
use Rattle.sve_key.specs.declared.value.Value.{Value}
use Rattle.sve_key.specs.declared.value.Value.TheVariants as values
use Rattle.sve_key.specs.Parts.{TextValue, TokensValue, ReadingValue}

abbrev pub no_text : TextValue
no_text = record { text = None; stamp = 0 }

abbrev pub no_tokens : TokensValue
no_tokens = record { tokens = []; diags = []; net_types = [] }

-- a chunk that is not there stops at its front
abbrev pub no_reading : ReadingValue
no_reading = Err (record { index = 0; deep = false })

abbrev pub text_in_value : Value → TextValue
text_in_value (values.Text text) = text
text_in_value value = no_text

abbrev pub names_in_value : Value → List (List ℕ)
names_in_value (values.Names names) = names
names_in_value value = []

abbrev pub file_in_value : Value → TokensValue
file_in_value (values.Tokens file) = file
file_in_value value = no_tokens

abbrev pub chunks_in_value : Value → List Chunk
chunks_in_value (values.Chunks chunks) = chunks
chunks_in_value value = []

abbrev pub reading_in_value : Value → ReadingValue
reading_in_value (values.Element reading) = reading
reading_in_value value = no_reading

abbrev pub tops_in_value : Value → List (List ℕ)
tops_in_value (values.Index index) = index.tops
tops_in_value value = []

abbrev pub notes_in_value : Value → List Note
notes_in_value (values.Index index) = index.diags
notes_in_value value = []

-- where the grammar stops in a chunk, and whether the nesting is too deep there
abbrev pub stop_in : ReadingValue → Option (ℕ × Bool)
stop_in (Ok words) = None
stop_in (Err halt) = Some (halt.index, halt.deep)
