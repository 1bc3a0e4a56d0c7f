-- What is declared, and which uses see it (IEEE 1800-2017, 6.5 and 23.9).
use Rattle.std.specs.Prelude.{ℕ, Bool, true, false, List, if◌then◌else◌}
use Rattle.std.specs.Ordering.{is_le}
use Rattle.sve_scope.specs.declared.what.What.{What}
use Rattle.sve_scope.specs.declared.what.What.TheVariants as is_what
use Rattle.sve_scope.specs.declared.spot.Spot.{Spot}
use Rattle.sve_scope.specs.declared.declared.Declared.{Declared}
use Rattle.sve_scope.specs.Spots.{begins_by, spot, spot_cmp}

abbrev pub declared_name : Declared → List ℕ
declared_name d = d.name

-- functions, instances and generate blocks are seen in their whole scope
abbrev pub is_whole : What → Bool
is_whole (is_what.Function ty) = true
is_whole is_what.Instance = true
is_whole is_what.Block = true
is_whole what = false

-- the first token that sees a declaration
abbrev pub seen_from : Declared → Spot
seen_from d = spot d.at.file d.at.chunk d.from

-- A declaration is seen by a use that stands at that token or behind it, and one of a whole scope by any use in its chunk or in
-- a later one.
abbrev pub is_seen : Declared → Spot → Bool
is_seen d place = if is_whole d.what then begins_by d.at place else is_le (spot_cmp (seen_from d) place)
