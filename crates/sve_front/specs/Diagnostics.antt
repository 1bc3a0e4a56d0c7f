-- The diagnostics of the units of a revision (own).
use Rattle.std.specs.Prelude.{ℕ, List, [], ◌∷◌, ◌++◌, Ok, Err}
use Rattle.std.specs.List.{flat_map}
use Rattle.sve_diag.specs.declared.diag.Diag.{Diag}
use Rattle.sve_diag.specs.declared.diag.Place.{Place}
use Rattle.sve_token.specs.declared.token.Token.{Token}
use Rattle.sve_grammar.specs.Reading.{Answer}
use Rattle.sve_element.specs.Chunk.{read_whole}
use Rattle.sve_unit.specs.Chunks.{parts}
use Rattle.sve_unit.specs.Stops.{stop_diag}
use Rattle.sve_text.specs.Rows.{Row}
use Rattle.sve_front.specs.Expansions.{expanded}
use Rattle.sve_front.specs.Units.{unit_tokens, file_end}

-- the one diagnostic of a chunk that the grammar refuses
abbrev pub stop_of : List Token → Place → Answer → List Diag
stop_of ts end (Ok read) = []
stop_of ts end (Err halt) = stop_diag ts halt.index halt.deep end ∷ []

abbrev pub chunk_diags : Place → List Token → List Diag
chunk_diags end ts = stop_of ts end (read_whole ts)

-- the diagnostics of one unit: those of its expansion, and those of its chunks
abbrev pub unit_diags : List Row → List ℕ → List Diag
unit_diags rows name = (expanded rows name).diags ++ flat_map (chunk_diags (file_end rows name)) (parts (unit_tokens rows name))
