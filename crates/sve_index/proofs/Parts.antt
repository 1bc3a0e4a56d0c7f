-- What is known behind an element is known part by part.
use Rattle.std.proofs.Common.{◌≡◌, ◌∙◌, ap, ℕ, Bool, List, ◌++◌, Option, append_assoc}
use Rattle.std.specs.List.{flat_map}
use Rattle.sve_diag.specs.declared.diag.Note.{Note}
use Rattle.sve_table.specs.Tables.{with_items}
use Rattle.sve_tree.specs.declared.element.Element.{Element}
use Rattle.sve_tree.specs.declared.token_word.Word.{Word}
use Rattle.sve_mention.specs.declared.mention.Mention.{Mention}
use Rattle.sve_mention.specs.InElements.{element_mentions}
use Rattle.sve_index.specs.declared.def.Def.{Def}
use Rattle.sve_index.specs.declared.source.FileElement.{FileElement}
use Rattle.sve_index.specs.declared.gathered.Gathered.{Gathered}
use Rattle.sve_index.specs.Sources.{element_in}
use Rattle.sve_index.specs.Defs.{def_name, defs_at, new_at, repeated_at}
use Rattle.sve_index.specs.Designs.{definition_token, package_token}
use Rattle.sve_index.specs.Instances.{instantiated, itself}
use Rattle.sve_index.specs.Labels.{mention_note}
use Rattle.sve_index.specs.Gathered.{after, root_in}

-- what was read of the element
pub record IsRead (source : FileElement) (element : Element) (definition unit : Option ℕ) (words : List Word) (found first second : List Mention) : Type 0 where
  pub element_is : element ≡ element_in source
  pub definition_is : definition ≡ definition_token element.design
  pub package_is : unit ≡ package_token element.design
  pub words_are : words ≡ element.words.items
  pub found_are : found ≡ element_mentions element
  pub first_are : first ≡ found
  pub second_are : second ≡ found

-- what was added
pub record IsAdded (gathered : Gathered) (source : FileElement) (definition unit : Option ℕ) (is_new : Bool) (definitions packages : List Def) (names roots_1 roots_2 roots : List (List ℕ)) (notes_1 notes_2 notes_3 notes_4 notes : List Note) (words : List Word) (first second : List Mention) : Type 0 where
  pub definitions_are : definitions ≡ with_items def_name gathered.definitions (defs_at source definition)
  pub packages_are : packages ≡ with_items def_name gathered.packages (defs_at source unit)
  pub instantiated_are : names ≡ with_items itself gathered.instantiated (flat_map (instantiated words) first)
  pub is_new_is : is_new ≡ new_at gathered.definitions source definition
  pub roots_before : roots_1 ≡ gathered.roots
  pub roots_then : roots_2 ≡ roots_1 ++ root_in is_new source
  pub roots_are : roots ≡ roots_2
  pub notes_before : notes_1 ≡ gathered.notes
  pub notes_first : notes_2 ≡ notes_1 ++ repeated_at gathered.definitions source definition
  pub notes_then : notes_3 ≡ notes_2 ++ repeated_at gathered.packages source unit
  pub notes_last : notes_4 ≡ notes_3 ++ flat_map (mention_note source) second
  pub notes_are : notes ≡ notes_4

joined : {A : Type 0} (a b c d : List A) → ((a ++ b) ++ c) ++ d ≡ a ++ ((b ++ c) ++ d)
joined {A = A} a b c d = ap (λ (l : List A). l ++ d) (append_assoc a b c) ∙ append_assoc a (b ++ c) d

pub one_after : (gathered : Gathered) (source : FileElement) (element : Element) (definition unit : Option ℕ) (is_new : Bool) (definitions packages : List Def) (names roots_1 roots_2 roots : List (List ℕ)) (notes_1 notes_2 notes_3 notes_4 notes : List Note) (words : List Word) (found first second : List Mention)
    → IsRead source element definition unit words found first second
    → IsAdded gathered source definition unit is_new definitions packages names roots_1 roots_2 roots notes_1 notes_2 notes_3 notes_4 notes words first second
    → record { definitions = definitions; packages = packages; instantiated = names; roots = roots; notes = notes } ≡ after gathered source
one_after gathered source element definition unit is_new definitions packages names roots_1 roots_2 roots notes_1 notes_2 notes_3 notes_4 notes words found first second r a =
    let element_is : element ≡ element_in source = r.element_is in
    let definition_is : definition ≡ definition_token (element_in source).design = r.definition_is ∙ ap (λ (e : Element). definition_token e.design) element_is in
    let unit_is : unit ≡ package_token (element_in source).design = r.package_is ∙ ap (λ (e : Element). package_token e.design) element_is in
    let words_are : words ≡ (element_in source).words.items = r.words_are ∙ ap (λ (e : Element). e.words.items) element_is in
    let found_are : found ≡ element_mentions (element_in source) = r.found_are ∙ ap (λ (e : Element). element_mentions e) element_is in
    let first_are : first ≡ element_mentions (element_in source) = r.first_are ∙ found_are in
    let second_are : second ≡ element_mentions (element_in source) = r.second_are ∙ found_are in
    let is_new_is : is_new ≡ new_at gathered.definitions source (definition_token (element_in source).design) = a.is_new_is ∙ ap (λ (t : Option ℕ). new_at gathered.definitions source t) definition_is in
    let roots_are = a.roots_are ∙ a.roots_then ∙ (λ k. a.roots_before k ++ root_in (is_new_is k) source) in
    let notes_are =
    a.notes_are ∙ a.notes_last
    ∙ ap (λ (ns : List Note). ns ++ flat_map (mention_note source) second) (a.notes_then ∙ ap (λ (ns : List Note). ns ++ repeated_at gathered.packages source unit) (a.notes_first ∙ ap (λ (ns : List Note). ns ++ repeated_at gathered.definitions source definition) a.notes_before))
    ∙ joined gathered.notes (repeated_at gathered.definitions source definition) (repeated_at gathered.packages source unit) (flat_map (mention_note source) second)
    ∙ (λ k. gathered.notes ++ ((repeated_at gathered.definitions source (definition_is k) ++ repeated_at gathered.packages source (unit_is k)) ++ flat_map (mention_note source) (second_are k))) in
    λ k. record {
      definitions = (a.definitions_are ∙ ap (λ (t : Option ℕ). with_items def_name gathered.definitions (defs_at source t)) definition_is) k;
      packages = (a.packages_are ∙ ap (λ (t : Option ℕ). with_items def_name gathered.packages (defs_at source t)) unit_is) k;
      instantiated = (a.instantiated_are ∙ (λ j. with_items itself gathered.instantiated (flat_map (instantiated (words_are j)) (first_are j)))) k;
      roots = roots_are k;
      notes = notes_are k;
    }
