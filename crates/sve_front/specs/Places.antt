-- Where a token of a chunk stands, and which net type is in force there (own, and IEEE 1800-2017, 22.8).
use Rattle.std.specs.Prelude.{ℕ, ◌+◌, List, [], Option, Some, None, option_map}
use Rattle.std.specs.List.{slice_get, slice_index_or}
use Rattle.std.specs.Option.{option_map_or}
use Rattle.sve_bytes.specs.declared.net_type.NetType.{NetType}
use Rattle.sve_bytes.specs.declared.net_type.NetType.TheVariants.{Wire}
use Rattle.sve_diag.specs.declared.diag.Place.{Place}
use Rattle.sve_unit.specs.declared.chunk.Chunk.{Chunk}
use Rattle.sve_unit.specs.Chunks.{parts}
use Rattle.sve_unit.specs.Stops.{place_at}
use Rattle.sve_table.specs.Tables.{item_of}
use Rattle.sve_front.specs.declared.unit.Unit.{Unit}
use Rattle.sve_front.specs.Readings.{file_of}

-- the place of a token of a chunk, or behind its last token the end of the chunk
abbrev pub place_in : Unit → ℕ → ℕ → Place
place_in u n token = place_at (slice_index_or (parts u.tokens) n []) token u.end

-- the same of a file, where it is one of these units
abbrev pub token_place_in : List Unit → List ℕ → ℕ → ℕ → Option Place
token_place_in units file n token = option_map (λ u. place_in u n token) (item_of file_of file units)

-- the net type in force where a token of a chunk begins; where there is none, a wire
abbrev pub net_in : Unit → Option Chunk → ℕ → NetType
net_in u None token = Wire
net_in u (Some chunk) token = slice_index_or u.nets (chunk.from + token) Wire

-- the same of a file; of one that is none of these units, a wire
abbrev pub net_type_in : List Unit → List ℕ → ℕ → ℕ → NetType
net_type_in units file n token = option_map_or (λ u. net_in u (slice_get u.chunks n) token) (item_of file_of file units) Wire
