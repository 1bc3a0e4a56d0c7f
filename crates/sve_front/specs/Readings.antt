-- What reading the units of a revision keeps (own).
use Rattle.std.specs.Prelude.{ℕ, ◌≡◌, ◌⊎◌, List, [], ◌∷◌, ◌++◌, ◌<◌, ◌^◌, length, map, Err}
use Rattle.std.specs.List.{AllByRecursion}
use Rattle.sve_token.specs.declared.token.Token.{Token}
use Rattle.sve_grammar.specs.Machine.{Halt}
use Rattle.sve_element.specs.Chunk.{read_whole}
use Rattle.sve_unit.specs.Chunks.{chunks_of, parts}
use Rattle.sve_table.specs.Tables.{table_of}
use Rattle.sve_index.specs.declared.source.FileElement.{FileElement}
use Rattle.sve_text.specs.Rows.{Row}
use Rattle.sve_front.specs.declared.unit.Unit.{Unit}
use Rattle.sve_front.specs.Units.{unit_names, unit_tokens, unit_nets, file_end}
use Rattle.sve_front.specs.Elements.{IsElementOf}
use Rattle.sve_front.specs.Trees.{tree_of, AreTreesOf}

-- the element of a chunk was added, or none was, where the grammar refuses the chunk
abbrev pub ReadsChunk : List ℕ → ℕ → List Token → List FileElement → List FileElement → Type 0
ReadsChunk file n ts old new =
    ((source : FileElement) × IsElementOf file n ts source × (new ≡ old ++ source ∷ []))
    ⊎ ((h : Halt) × (read_whole ts ≡ Err h) × (new ≡ old))

-- elements of which this holds were added
abbrev pub Adds : (List FileElement → Type 0) → List FileElement → List FileElement → Type 0
Adds P old new = (own : List FileElement) × (new ≡ old ++ own) × P own

-- a unit is what its file is read as
pub record IsUnitOf (rows : List Row) (u : Unit) : Type 0 where
  pub tokens : u.tokens ≡ unit_tokens rows u.file
  pub chunks : u.chunks ≡ chunks_of u.tokens
  pub end : u.end ≡ file_end rows u.file
  pub few : length u.tokens < 2 ^ 32
  pub nets : u.nets ≡ unit_nets rows u.file
  pub trees : AreTreesOf (parts u.tokens) (map tree_of u.trees)

abbrev pub file_of : Unit → List ℕ
file_of u = u.file

-- all are units of these files
abbrev pub AreUnitsOf : List Row → List Unit → Type 0
AreUnitsOf rows units = AllByRecursion (IsUnitOf rows) units

abbrev pub itself : List ℕ → List ℕ
itself name = name

-- they are all units of these files, in their order, of each name one
pub record AreUnits (rows : List Row) (units : List Unit) : Type 0 where
  pub names : map file_of units ≡ table_of itself (unit_names rows)
  pub each : AreUnitsOf rows units

-- the chunks of a unit are those of its tokens, whose numbers have 32 bits
pub record IsCut (u : Unit) : Type 0 where
  pub chunks : u.chunks ≡ chunks_of u.tokens
  pub few : length u.tokens < 2 ^ 32

abbrev pub AreCut : List Unit → Type 0
AreCut units = AllByRecursion IsCut units
