-- What is known of a design once some of its elements have been seen (own).
use Rattle.std.specs.Prelude.{ℕ, Bool, ◌&&◌, not, List, [], ◌++◌, is_some, if◌then◌else◌}
use Rattle.std.specs.List.{filter}
use Rattle.sve_diag.specs.declared.diag.Note.{Note}
use Rattle.sve_table.specs.Tables.{item_of, with_items}
use Rattle.sve_index.specs.declared.def.Def.{Def}
use Rattle.sve_index.specs.declared.source.FileElement.{FileElement}
use Rattle.sve_index.specs.declared.gathered.Gathered.{Gathered}
use Rattle.sve_index.specs.declared.whole.Index.{Index}
use Rattle.sve_index.specs.Sources.{element_in, words_in, called, listed}
use Rattle.sve_index.specs.Defs.{def_name, new_at, repeated_at}
use Rattle.sve_index.specs.Designs.{definition_token, package_token, may_be_top, definitions_in, packages_in}
use Rattle.sve_index.specs.Instances.{itself, instances_in}
use Rattle.sve_index.specs.Labels.{label_notes}

-- the name of an element's module, if that is new and may be a top
abbrev pub root_in : Bool → FileElement → List (List ℕ)
root_in new source =
    if new && may_be_top (element_in source).design then listed (called (words_in source) (definition_token (element_in source).design)) else []

-- the same, where these are known
abbrev pub roots_in : List Def → FileElement → List (List ℕ)
roots_in known source = root_in (new_at known source (definition_token (element_in source).design)) source

-- the notes of an element: a name that is there already, then the labels
abbrev pub notes_in : List Def → List Def → FileElement → List Note
notes_in definitions packages source =
    repeated_at definitions source (definition_token (element_in source).design)
    ++ repeated_at packages source (package_token (element_in source).design)
    ++ label_notes source

abbrev pub nothing_gathered : Gathered
nothing_gathered = record { definitions = []; packages = []; instantiated = []; roots = []; notes = [] }

-- one element more
abbrev pub after : Gathered → FileElement → Gathered
after gathered source = record {
  definitions = with_items def_name gathered.definitions (definitions_in source);
  packages = with_items def_name gathered.packages (packages_in source);
  instantiated = with_items itself gathered.instantiated (instances_in source);
  roots = gathered.roots ++ roots_in gathered.definitions source;
  notes = gathered.notes ++ notes_in gathered.definitions gathered.packages source;
}

-- the index, once all elements have been seen
abbrev pub index_from : Gathered → Index
index_from gathered = record {
  definitions = gathered.definitions;
  packages = gathered.packages;
  tops = filter (λ name. not (is_some (item_of itself name gathered.instantiated))) gathered.roots;
  diags = gathered.notes;
}
