-- The index at some files: over what it takes from the chunks of all units, in file order and then text order (IEEE 1800-2017, 3.13).
use Rattle.std.specs.Prelude.{ℕ, zero, suc, ◌+◌, List, [], ◌++◌, length}
use Rattle.std.specs.List.{flat_map, slice_get}
use Rattle.sve_text.specs.Rows.{Row}
use Rattle.sve_gist.specs.Gists.{Gist}
use Rattle.sve_make.specs.Make.{gists_in, reading_at}
use Rattle.sve_make.specs.AtFiles.{tokens_at, chunks_at, units_at}

-- what the index takes from the chunk of this number, from so many, from a unit, and from all units
abbrev pub chunk_gist : List Row → List ℕ → ℕ → List Gist
chunk_gist rows file n = gists_in file n (reading_at (tokens_at rows file) (slice_get (chunks_at rows file) n))

unfoldable pub chunk_gists : List Row → List ℕ → ℕ → ℕ → List Gist
chunk_gists rows file n zero = []
chunk_gists rows file n (suc left) = chunk_gist rows file n ++ chunk_gists rows file (n + 1) left

abbrev pub unit_gists : List Row → List ℕ → List Gist
unit_gists rows file = chunk_gists rows file 0 (length (chunks_at rows file))

abbrev pub gists_at : List Row → List Gist
gists_at rows = flat_map (unit_gists rows) (units_at rows)
