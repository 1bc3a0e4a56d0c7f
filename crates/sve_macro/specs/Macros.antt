-- The macros that are defined at a place (IEEE 1800-2017, 22.5.1 to 22.5.3).
use Rattle.std.specs.Prelude.{◌≡◌, ℕ, false, Option, List, bytes_eq}
use Rattle.std.specs.Map.{lookup}
use Rattle.sve_macro.specs.declared.definition.Definition.{Definition}

-- the macros in byte order of their names, each name once
abbrev pub Entries : Type 0
Entries = List (List ℕ × Definition)

-- the macro of a name, where it is defined
abbrev pub macro_of : Entries → List ℕ → Option Definition
macro_of entries name = lookup (bytes_eq name) entries

-- a name has this macro or none, and every other name what it had
pub record Sets (old new : Entries) (name : List ℕ) (m : Option Definition) : Type 0 where
  pub at : macro_of new name ≡ m
  pub others : (other : List ℕ) → bytes_eq name other ≡ false → macro_of new other ≡ macro_of old other
