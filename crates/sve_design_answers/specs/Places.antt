-- Where what a design names stands in its files (own).
use Rattle.std.specs.Prelude.{ℕ, Option, Some, None, List, option_and_then, option_map}
use Rattle.sve_diag.specs.declared.diag.Place.{Place}
use Rattle.sve_tree.specs.Elements.{element_name}
use Rattle.sve_table.specs.Tables.{item_of}
use Rattle.sve_index.specs.declared.def.Def.{Def}
use Rattle.sve_index.specs.Defs.{def_name}
use Rattle.sve_scope.specs.declared.spot.Spot.{Spot}
use Rattle.sve_scope.specs.Spots.{spot}
use Rattle.sve_find.specs.Ends.{FoundValue}
use Rattle.sve_front.specs.Places.{token_place_in}
use Rattle.sve_named.specs.Projects.{ProjectValue, tree_in}

module _ (p : ProjectValue) where
  -- the place of a token of a chunk
  abbrev pub place_of : Spot → Option Place
  place_of s = token_place_in p.units s.file s.chunk s.token

  -- the name of a module or an interface, where that is defined
  abbrev pub name_of : Def → Option Spot
  name_of def = option_map (spot def.file def.chunk) (option_and_then element_name (tree_in p def.file def.chunk))

  abbrev pub module_name : List ℕ → Option Spot
  module_name definition = option_and_then name_of (item_of def_name definition p.index.definitions)

  -- An instance stands where its own name stands, and a top, which has none, where that of its module stands.
  abbrev pub or_module : List ℕ → Option Spot → Option Spot
  or_module definition (Some at) = Some at
  or_module definition None = module_name definition

  abbrev pub instance_place : FoundValue → Option Place
  instance_place found = option_and_then place_of (or_module found.visit.spec.definition found.at)
