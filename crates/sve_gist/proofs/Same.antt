-- The index over the gists of elements is that of the elements.
use Rattle.std.proofs.Common.{◌≡◌, ℕ, Bool, not, List, [], ◌∷◌, ◌++◌, map, Option, Some, None, refl, ap, ◌∙◌}
use Rattle.std.specs.List.{flat_map, filter, list_any}
use Rattle.sve_mention.specs.declared.mention.Mention.{Mention}
use Rattle.sve_mention.specs.declared.mention.Mention.TheVariants.{Instance, EndLabel}
use Rattle.sve_table.specs.Tables.{table_of}
use Rattle.sve_index.specs.declared.def.Def.{Def}
use Rattle.sve_index.specs.declared.source.FileElement.{FileElement}
use Rattle.sve_index.specs.Sources.{element_in, words_in, name_at, called}
use Rattle.sve_index.specs.Defs as whole
use Rattle.sve_index.specs.Designs as designs
use Rattle.sve_index.specs.Instances as instances
use Rattle.sve_index.specs.Labels as labels
use Rattle.sve_index.specs.Gathered as gathered
use Rattle.sve_index.specs.Whole.{index_of, roots_of, notes_of}
use Rattle.sve_gist.specs.Gists.{Gist, gist_of}
use Rattle.sve_gist.specs.Index as gists

defs_same : (s : FileElement) (t : Option ℕ) → whole.defs_at s t ≡ gists.defs_at (gist_of s) t
defs_same s None = refl
defs_same s (Some t) = named (name_at (words_in s) t)
  where
    named : (o : Option (List ℕ)) → whole.defs_named s o ≡ gists.defs_named (gist_of s) o
    named None = refl
    named (Some name) = refl

each_same : {X : Type 0} (f : FileElement → List X) (g : Gist → List X) → ((s : FileElement) → f s ≡ g (gist_of s)) → (ss : List FileElement) → flat_map f ss ≡ flat_map g (map gist_of ss)
each_same f g h [] = refl
each_same {X = X} f g h (s ∷ ss) = ap (λ (x : List X). x ++ flat_map f ss) (h s) ∙ ap (λ (x : List X). g (gist_of s) ++ x) (each_same f g h ss)

definitions_same : (s : FileElement) → designs.definitions_in s ≡ gists.definitions_in (gist_of s)
definitions_same s = defs_same s (designs.definition_token (element_in s).design)

packages_same : (s : FileElement) → designs.packages_in s ≡ gists.packages_in (gist_of s)
packages_same s = defs_same s (designs.package_token (element_in s).design)

definitions_all : (ss : List FileElement) → flat_map designs.definitions_in ss ≡ flat_map gists.definitions_in (map gist_of ss)
definitions_all = each_same designs.definitions_in gists.definitions_in definitions_same

packages_all : (ss : List FileElement) → flat_map designs.packages_in ss ≡ flat_map gists.packages_in (map gist_of ss)
packages_all = each_same designs.packages_in gists.packages_in packages_same

some_same : (f : FileElement → Bool) (g : Gist → Bool) → ((s : FileElement) → f s ≡ g (gist_of s)) → (ss : List FileElement) → list_any f ss ≡ list_any g (map gist_of ss)
some_same f g h [] = refl
some_same f g h (s ∷ ss) = rw (h s, some_same f g h ss) refl

is_instantiated_same : (ss : List FileElement) (name : List ℕ) → instances.is_instantiated ss name ≡ gists.is_instantiated (map gist_of ss) name
is_instantiated_same ss name = some_same (instances.instantiates name) (gists.instantiates name) (λ s. refl) ss

new_same : (known : List Def) (s : FileElement) (t : Option ℕ) → whole.new_at known s t ≡ whole.new_named known (called (words_in s) t)
new_same known s None = refl
new_same known s (Some t) = refl

roots_same : (known : List Def) (s : FileElement) → gathered.roots_in known s ≡ gists.roots_in known (gist_of s)
roots_same known s = ap (λ (b : Bool). gathered.root_in b s) (new_same known s (designs.definition_token (element_in s).design))

append_gist : (before : List FileElement) (s : FileElement) → map gist_of (before ++ s ∷ []) ≡ map gist_of before ++ gist_of s ∷ []
append_gist [] s = refl
append_gist (b ∷ before) s = ap (λ (gs : List Gist). gist_of b ∷ gs) (append_gist before s)

roots_all : (before ss : List FileElement) → roots_of before ss ≡ gists.roots_of (map gist_of before) (map gist_of ss)
roots_all before [] = refl
roots_all before (s ∷ ss) = rw (roots_same (flat_map designs.definitions_in before) s, definitions_all before, roots_all (before ++ s ∷ []) ss, append_gist before s) refl

repeated_same : (known : List Def) (s : FileElement) (t : Option ℕ) → whole.repeated_at known s t ≡ gists.repeated_at known (gist_of s) t
repeated_same known s None = refl
repeated_same known s (Some t) = named (name_at (words_in s) t)
  where
    named : (o : Option (List ℕ)) → whole.repeated_named known s t o ≡ gists.repeated_named known (gist_of s) t o
    named None = refl
    named (Some name) = refl

label_same : (s : FileElement) (name : Option (List ℕ)) (t : ℕ) (o : Option (List ℕ)) → labels.label_note s name t o ≡ gists.label_note (gist_of s) name t o
label_same s name t None = refl
label_same s name t (Some label) = refl

mention_same : (s : FileElement) (m : Mention) → labels.mention_note s m ≡ gists.mention_note (gist_of s) m
mention_same s (Instance definition) = refl
mention_same s (EndLabel name label) = label_same s (called (words_in s) name) label (name_at (words_in s) label)

mentions_same : (s : FileElement) (ms : List Mention) → flat_map (labels.mention_note s) ms ≡ flat_map (gists.mention_note (gist_of s)) ms
mentions_same s [] = refl
mentions_same s (m ∷ ms) = rw (mention_same s m, mentions_same s ms) refl

notes_same : (definitions packages : List Def) (s : FileElement) → gathered.notes_in definitions packages s ≡ gists.notes_in definitions packages (gist_of s)
notes_same definitions packages s = rw (repeated_same definitions s (designs.definition_token (element_in s).design), repeated_same packages s (designs.package_token (element_in s).design), mentions_same s (gist_of s).mentions) refl

notes_all : (before ss : List FileElement) → notes_of before ss ≡ gists.notes_of (map gist_of before) (map gist_of ss)
notes_all before [] = refl
notes_all before (s ∷ ss) = rw (notes_same (flat_map designs.definitions_in before) (flat_map designs.packages_in before) s, definitions_all before, packages_all before, notes_all (before ++ s ∷ []) ss, append_gist before s) refl

filter_same : (f g : List ℕ → Bool) → ((x : List ℕ) → f x ≡ g x) → (xs : List (List ℕ)) → filter f xs ≡ filter g xs
filter_same f g h [] = refl
filter_same f g h (x ∷ xs) = rw (h x, filter_same f g h xs) refl

pub same_index : (ss : List FileElement) → index_of ss ≡ gists.index_of_gists (map gist_of ss)
same_index ss = λ i. record {
  definitions = table_of whole.def_name (definitions_all ss i);
  packages = table_of whole.def_name (packages_all ss i);
  tops = (filter_same (λ name. not (instances.is_instantiated ss name)) (λ name. not (gists.is_instantiated (map gist_of ss) name)) (λ name. ap not (is_instantiated_same ss name)) (roots_of [] ss) ∙ ap (filter (λ name. not (gists.is_instantiated (map gist_of ss) name))) (roots_all [] ss)) i;
  diags = notes_all [] ss i;
}
