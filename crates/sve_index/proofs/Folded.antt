-- What is gathered one by one is what the definition says of the whole list.
use Rattle.std.proofs.Common.{◌≡◌, ◌∙◌, sym, ap, refl, ℕ, Bool, ◌||◌, true, false, cond, not, List, [], ◌∷◌, ◌++◌, Option, None, Some, is_some, nat_eq, append_assoc}
use Rattle.std.specs.Prelude.{if◌then◌else◌}
use Rattle.std.specs.Cmp.Lexicographic.{pointwise}
use Rattle.std.specs.List.{flat_map, filter, find, fold, list_any}
use Rattle.std.proofs.lemmas.List.Folds.{list_any-append}
use Rattle.std.proofs.lemmas.List.{append-nil}
use Rattle.std.proofs.lemmas.Grind.{flat_map-append}
use Rattle.sve_diag.specs.declared.code.Code.TheVariants.{N03}
use Rattle.sve_diag.specs.declared.diag.Note.{Note}
use Rattle.sve_table.specs.Tables.{item_of, with_items, table_of}
use Rattle.sve_table.proofs.Added.{item_of-with_items}
use Rattle.sve_index.specs.declared.def.Def.{Def}
use Rattle.sve_index.specs.declared.source.FileElement.{FileElement}
use Rattle.sve_index.specs.declared.gathered.Gathered.{Gathered}
use Rattle.sve_index.specs.Sources.{element_in, words_in, name_at}
use Rattle.sve_index.specs.Defs.{def_name, is_new, new_at, new_named, note, repeated_at, repeated_named}
use Rattle.sve_index.specs.Designs.{definition_token, package_token, definitions_in, packages_in}
use Rattle.sve_index.specs.Instances.{itself, instances_in, is_instantiated}
use Rattle.sve_index.specs.Labels.{label_notes}
use Rattle.sve_index.specs.Gathered.{root_in, roots_in, notes_in, nothing_gathered, after, index_from}
use Rattle.sve_index.specs.Whole.{roots_of, notes_of, index_of}
use Rattle.sve_index.proofs.Added.{with_items_append}

-- a table and the list it was made of have the same names
is_new-table : (known : List Def) (name : List ℕ) → is_new (table_of def_name known) name ≡ is_new known name
is_new-table known name = ap (λ (o : Option Def). not (is_some o)) (item_of-with_items def_name known [] name)

new_named-table : (known : List Def) (name : Option (List ℕ)) → new_named (table_of def_name known) name ≡ new_named known name
new_named-table known None = refl
new_named-table known (Some name) = is_new-table known name

new_at-table : (known : List Def) (source : FileElement) (token : Option ℕ) → new_at (table_of def_name known) source token ≡ new_at known source token
new_at-table known source None = refl
new_at-table known source (Some token) = new_named-table known (name_at (words_in source) token)

abbrev said : Bool → FileElement → ℕ → List ℕ → List Note
said new source token name = if new then [] else note source token N03 name ∷ []

repeated_named-table : (known : List Def) (source : FileElement) (token : ℕ) (name : Option (List ℕ)) → repeated_named (table_of def_name known) source token name ≡ repeated_named known source token name
repeated_named-table known source token None = refl
repeated_named-table known source token (Some name) = ap (λ (new : Bool). said new source token name) (is_new-table known name)

repeated_at-table : (known : List Def) (source : FileElement) (token : Option ℕ) → repeated_at (table_of def_name known) source token ≡ repeated_at known source token
repeated_at-table known source None = refl
repeated_at-table known source (Some token) = repeated_named-table known source token (name_at (words_in source) token)

roots_in-table : (known : List Def) (source : FileElement) → roots_in (table_of def_name known) source ≡ roots_in known source
roots_in-table known source = ap (λ (new : Bool). root_in new source) (new_at-table known source (definition_token (element_in source).design))

notes_in-table : (definitions packages : List Def) (source : FileElement) → notes_in (table_of def_name definitions) (table_of def_name packages) source ≡ notes_in definitions packages source
notes_in-table definitions packages source =
    let d = definition_token (element_in source).design in
    let p = package_token (element_in source).design in
    ap (λ (notes : List Note). notes ++ repeated_at (table_of def_name packages) source p ++ label_notes source) (repeated_at-table definitions source d)
    ∙ ap (λ (notes : List Note). repeated_at definitions source d ++ notes ++ label_notes source) (repeated_at-table packages source p)

-- what is known behind some elements
abbrev known_after : List FileElement → List (List ℕ) → List Note → Gathered
known_after sources roots notes = record {
  definitions = table_of def_name (flat_map definitions_in sources);
  packages = table_of def_name (flat_map packages_in sources);
  instantiated = table_of itself (flat_map instances_in sources);
  roots = roots;
  notes = notes;
}

table_more : {X : Type 0} (called : X → List ℕ) (f : FileElement → List X) (before : List FileElement) (source : FileElement) → with_items called (table_of called (flat_map f before)) (f source) ≡ table_of called (flat_map f (before ++ source ∷ []))
table_more {X = X} called f before source =
    sym (with_items_append called (flat_map f before) (f source) [])
    ∙ ap (table_of called) (sym (flat_map-append f before (source ∷ []) ∙ ap (λ (l : List X). flat_map f before ++ l) (append-nil (f source))))

one_more : (before : List FileElement) (roots : List (List ℕ)) (notes : List Note) (source : FileElement) → after (known_after before roots notes) source ≡ known_after (before ++ source ∷ []) (roots ++ roots_in (flat_map definitions_in before) source) (notes ++ notes_in (flat_map definitions_in before) (flat_map packages_in before) source)
one_more before roots notes source = λ k. record {
  definitions = table_more def_name definitions_in before source k;
  packages = table_more def_name packages_in before source k;
  instantiated = table_more itself instances_in before source k;
  roots = roots ++ roots_in-table (flat_map definitions_in before) source k;
  notes = notes ++ notes_in-table (flat_map definitions_in before) (flat_map packages_in before) source k;
}

from : (before sources : List FileElement) (roots : List (List ℕ)) (notes : List Note) → fold after (known_after before roots notes) sources ≡ known_after (before ++ sources) (roots ++ roots_of before sources) (notes ++ notes_of before sources)
from before [] roots notes = λ k. known_after (sym (append-nil before) k) (sym (append-nil roots) k) (sym (append-nil notes) k)
from before (source ∷ sources) roots notes =
    let more_roots = roots_in (flat_map definitions_in before) source in
    let more_notes = notes_in (flat_map definitions_in before) (flat_map packages_in before) source in
    ap (λ (g : Gathered). fold after g sources) (one_more before roots notes source)
    ∙ from (before ++ source ∷ []) sources (roots ++ more_roots) (notes ++ more_notes)
    ∙ (λ k. known_after (append_assoc before (source ∷ []) sources k) (append_assoc roots more_roots (roots_of (before ++ source ∷ []) sources) k) (append_assoc notes more_notes (notes_of (before ++ source ∷ []) sources) k))

all_gathered : (sources : List FileElement) → fold after nothing_gathered sources ≡ known_after sources (roots_of [] sources) (notes_of [] sources)
all_gathered sources = from [] sources [] []

pub some_found : {X : Type 0} (p : X → Bool) (xs : List X) → is_some (find p xs) ≡ list_any p xs
some_found p [] = refl
some_found p (x ∷ xs) = elim (p x) as (λ v. is_some (cond v (Some x) (find p xs)) ≡ (v || list_any p xs)) [ true ↦ refl | false ↦ some_found p xs ]

any_among : {X Y : Type 0} (p : Y → Bool) (f : X → List Y) (xs : List X) → list_any p (flat_map f xs) ≡ list_any (λ x. list_any p (f x)) xs
any_among p f [] = refl
any_among p f (x ∷ xs) = list_any-append p (f x) (flat_map f xs) ∙ ap (λ (b : Bool). list_any p (f x) || b) (any_among p f xs)

-- a name is in the table of those that are instantiated where an element instantiates it
in_table : (sources : List FileElement) (name : List ℕ) → is_some (item_of itself name (table_of itself (flat_map instances_in sources))) ≡ is_instantiated sources name
in_table sources name =
    ap is_some (item_of-with_items itself (flat_map instances_in sources) [] name)
    ∙ some_found (λ item. pointwise nat_eq name item) (flat_map instances_in sources)
    ∙ any_among (λ item. pointwise nat_eq name item) instances_in sources

filter_same : {X : Type 0} (p q : X → Bool) → ((x : X) → p x ≡ q x) → (xs : List X) → filter p xs ≡ filter q xs
filter_same p q h [] = refl
filter_same p q h (x ∷ xs) = λ k. cond (h x k) (x ∷ filter_same p q h xs k) (filter_same p q h xs k)

pub index_is : (sources : List FileElement) → index_from (fold after nothing_gathered sources) ≡ index_of sources
index_is sources =
    let there = λ (name : List ℕ). not (is_some (item_of itself name (table_of itself (flat_map instances_in sources)))) in
    let instantiated = λ (name : List ℕ). not (is_instantiated sources name) in
    ap index_from (all_gathered sources)
    ∙ (λ k. record {
      definitions = table_of def_name (flat_map definitions_in sources);
      packages = table_of def_name (flat_map packages_in sources);
      tops = filter_same there instantiated (λ (name : List ℕ). ap not (in_table sources name)) (roots_of [] sources) k;
      diags = notes_of [] sources;
    })
