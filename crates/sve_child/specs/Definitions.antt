-- The definition of which something is an instance (IEEE 1800-2017, 3.13 and 23.3): where it stands, and the specialization of
-- it.
use Rattle.std.specs.Global.{Global}
use Rattle.std.specs.Prelude.{ℕ, List, Option, Some, None, option_map}
use Rattle.std.specs.declared.sync.Arc.{Arc}
use Rattle.sve_table.specs.Tables.{item_of}
use Rattle.sve_tree.specs.declared.element.Element.{Element}
use Rattle.sve_tree.specs.declared.item.Instance.{Instance}
use Rattle.sve_tree.specs.declared.token_word.Word.{Word}
use Rattle.sve_index.specs.declared.def.Def.{Def}
use Rattle.sve_index.specs.declared.whole.Index.{Index}
use Rattle.sve_index.specs.Defs.{def_name}
use Rattle.sve_look.specs.Questions.{element_in}
use Rattle.sve_body.specs.declared.place.Place.{Place}
use Rattle.sve_known.specs.Naming.{name_at}
use Rattle.sve_contents.specs.declared.contents.Contents.{Contents}
use Rattle.sve_param.specs.declared.overriding.Override.{Override}
use Rattle.sve_override.specs.declared.specializing.Specialized.{Specialized}
use Rattle.sve_override.specs.Specializations.{with_specialization}

abbrev pub place_of_def : Def → Place
place_of_def d = record { file = d.file; chunk = d.chunk }

-- modules and interfaces share a name space, in which the first of each name is taken
abbrev pub place_in : Index → Option (List ℕ) → Option Place
place_in index None = None
place_in index (Some n) = option_map place_of_def (item_of def_name n index.definitions)

-- where the definition stands whose name is at a token
abbrev pub place_named : Index → List Word → ℕ → Option Place
place_named index ws token = place_in index (name_at ws token)

-- the specialization of an instance, wherever the tree of its definition lies in memory
abbrev pub specialized_in : List Word → Contents → List Override → ℕ → Option (Arc Element Global) → Instance → Specialized
specialized_in ws c overrides definition element i = with_specialization ws c overrides definition (element_in element) i
