-- The index of a design (IEEE 1800-2017, 3.13, 6.20.1 and 23.3.1).
use Rattle.std.specs.Prelude.{ℕ, not, List, [], ◌∷◌, ◌++◌}
use Rattle.std.specs.List.{flat_map, filter}
use Rattle.sve_diag.specs.declared.diag.Note.{Note}
use Rattle.sve_table.specs.Tables.{table_of}
use Rattle.sve_index.specs.declared.source.FileElement.{FileElement}
use Rattle.sve_index.specs.declared.whole.Index.{Index}
use Rattle.sve_index.specs.Defs.{def_name}
use Rattle.sve_index.specs.Designs.{definitions_in, packages_in}
use Rattle.sve_index.specs.Instances.{is_instantiated}
use Rattle.sve_index.specs.Gathered.{roots_in, notes_in}

-- the modules that are the first of their name and may be tops, in the order of the elements; some elements are before these
abbrev pub roots_of : List FileElement → List FileElement → List (List ℕ)
roots_of before [] = []
roots_of before (source ∷ sources) = roots_in (flat_map definitions_in before) source ++ roots_of (before ++ source ∷ []) sources

-- the notes of all elements, in their order
abbrev pub notes_of : List FileElement → List FileElement → List Note
notes_of before [] = []
notes_of before (source ∷ sources) =
    notes_in (flat_map definitions_in before) (flat_map packages_in before) source ++ notes_of (before ++ source ∷ []) sources

-- Of each name the first definition, and the first package; the modules that may be tops and that no element instantiates; and
-- the notes.
abbrev pub index_of : List FileElement → Index
index_of sources = record {
  definitions = table_of def_name (flat_map definitions_in sources);
  packages = table_of def_name (flat_map packages_in sources);
  tops = filter (λ name. not (is_instantiated sources name)) (roots_of [] sources);
  diags = notes_of [] sources;
}
