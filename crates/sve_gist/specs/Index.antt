-- The index of a design, over what it takes from the elements (IEEE 1800-2017, 3.13, 6.20.1 and 23.3.1). It is that of the elements themselves.
use Rattle.std.specs.Prelude.{ℕ, Bool, ◌&&◌, not, List, [], ◌∷◌, ◌++◌, Option, Some, None, if◌then◌else◌, nat_eq}
use Rattle.std.specs.Cmp.Lexicographic.{pointwise}
use Rattle.std.specs.List.{flat_map, filter, list_any}
use Rattle.sve_diag.specs.declared.code.Code.{Code}
use Rattle.sve_diag.specs.declared.code.Code.TheVariants.{N03, S04}
use Rattle.sve_diag.specs.declared.diag.Note.{Note}
use Rattle.sve_table.specs.Tables.{table_of}
use Rattle.sve_mention.specs.declared.mention.Mention.{Mention}
use Rattle.sve_mention.specs.declared.mention.Mention.TheVariants.{Instance, EndLabel}
use Rattle.sve_index.specs.declared.def.Def.{Def}
use Rattle.sve_index.specs.declared.whole.Index.{Index}
use Rattle.sve_index.specs.Sources.{name_at, called, listed}
use Rattle.sve_index.specs.Defs.{def_name, is_new, new_named}
use Rattle.sve_index.specs.Instances.{instantiated}
use Rattle.sve_index.specs.Labels.{is_called}
use Rattle.sve_gist.specs.Gists.{Gist}

-- a note at a token
abbrev pub note_at : Gist → ℕ → Code → List ℕ → Note
note_at g token code arg = record { file = g.file; chunk = g.chunk; token = token; code = code; arg = Some arg }

-- what is defined by the name at a token
abbrev pub defs_named : Gist → Option (List ℕ) → List Def
defs_named g None = []
defs_named g (Some name) = record { name = name; file = g.file; chunk = g.chunk } ∷ []

abbrev pub defs_at : Gist → Option ℕ → List Def
defs_at g token = defs_named g (called g.words token)

abbrev pub definitions_in : Gist → List Def
definitions_in g = defs_at g g.definition

abbrev pub packages_in : Gist → List Def
packages_in g = defs_at g g.of_package

-- the names that are instantiated
abbrev pub instances_in : Gist → List (List ℕ)
instances_in g = flat_map (instantiated g.words) g.mentions

abbrev pub instantiates : List ℕ → Gist → Bool
instantiates name g = list_any (λ instance. pointwise nat_eq name instance) (instances_in g)

abbrev pub is_instantiated : List Gist → List ℕ → Bool
is_instantiated gs name = list_any (instantiates name) gs

-- the name of the module, if that is new and may be a top
abbrev pub roots_in : List Def → Gist → List (List ℕ)
roots_in known g = if new_named known (called g.words g.definition) && g.alone then listed (called g.words g.definition) else []

abbrev pub roots_of : List Gist → List Gist → List (List ℕ)
roots_of before [] = []
roots_of before (g ∷ gs) = roots_in (flat_map definitions_in before) g ++ roots_of (before ++ g ∷ []) gs

-- the note of a name that is there already
abbrev pub repeated_named : List Def → Gist → ℕ → Option (List ℕ) → List Note
repeated_named known g token None = []
repeated_named known g token (Some name) = if is_new known name then [] else note_at g token N03 name ∷ []

abbrev pub repeated_at : List Def → Gist → Option ℕ → List Note
repeated_at known g None = []
repeated_at known g (Some token) = repeated_named known g token (name_at g.words token)

-- the note of a label behind an end word that is not the name of what ends
abbrev pub label_note : Gist → Option (List ℕ) → ℕ → Option (List ℕ) → List Note
label_note g name token None = []
label_note g name token (Some label) = if is_called name label then [] else note_at g token S04 label ∷ []

abbrev pub mention_note : Gist → Mention → List Note
mention_note g (Instance definition) = []
mention_note g (EndLabel name label) = label_note g (called g.words name) label (name_at g.words label)

abbrev pub notes_in : List Def → List Def → Gist → List Note
notes_in definitions packages g = repeated_at definitions g g.definition ++ repeated_at packages g g.of_package ++ flat_map (mention_note g) g.mentions

abbrev pub notes_of : List Gist → List Gist → List Note
notes_of before [] = []
notes_of before (g ∷ gs) = notes_in (flat_map definitions_in before) (flat_map packages_in before) g ++ notes_of (before ++ g ∷ []) gs

abbrev pub index_of_gists : List Gist → Index
index_of_gists gs = record {
  definitions = table_of def_name (flat_map definitions_in gs);
  packages = table_of def_name (flat_map packages_in gs);
  tops = filter (λ name. not (is_instantiated gs name)) (roots_of [] gs);
  diags = notes_of [] gs;
}
