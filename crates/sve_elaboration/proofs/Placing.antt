-- What an instance leaves, where the scope was taken out of its place.
use Rattle.std.specs.Prelude.{Result}
use Rattle.std.proofs.Common.{◌≡◌, List, OnOk, ap, ◌∙◌}
use Rattle.std.proofs.lemmas.Result.{on_ok_weaker}
use Rattle.sve_tree.specs.declared.item.Instance.{Instance}
use Rattle.sve_spec.specs.declared.spec.Spec.{Spec}
use Rattle.sve_facts.specs.declared.facts.Child.{Child}
use Rattle.sve_facts.specs.declared.facts.Port.{Port}
use Rattle.sve_contents.specs.declared.contents.Contents.{Contents}
use Rattle.sve_nested.specs.Blocks.{inner_path}
use Rattle.sve_child.specs.declared.children.Placed.{Placed}
use Rattle.sve_child.specs.Children.{with_child}
use Rattle.sve_elaboration.specs.State.{Found}
use Rattle.sve_elaboration.specs.Names.{and_one}
use Rattle.sve_elaboration.specs.Scopes.{contents_of, interfaces_of, modports_of, packages_of, with_contents, words_of}
use Rattle.sve_elaboration.specs.Instances.{child_in, with_placed}

module _ (found now : Found) (taken : Contents) (spec : Spec) (ports : List Port) (i : Instance) (placed : Placed) where
  pub child_behind : (kids : List Child) → found ≡ now → taken ≡ contents_of found → placed ≡ with_child (packages_of found) (words_of found) (interfaces_of found) (modports_of found) taken (inner_path found.nested) spec ports i → kids ≡ and_one found.children placed.child →
      record (with_contents found placed.contents) { children = kids } ≡ child_in spec ports i now
  child_behind kids seen same left more =
      ap (λ (all : List Child). record (with_contents found placed.contents) { children = all }) more
      ∙ ap (with_placed found) (left ∙ ap (λ (d : Contents). with_child (packages_of found) (words_of found) (interfaces_of found) (modports_of found) d (inner_path found.nested) spec ports i) same)
      ∙ ap (child_in spec ports i) seen

-- where the child is added
pub child_ends : {T E : Type 0} (r : Result T E) (found now : Found) (taken : Contents) (spec : Spec) (ports : List Port) (i : Instance) (placed : Placed) (kids : List Child) → found ≡ now → taken ≡ contents_of found → placed ≡ with_child (packages_of found) (words_of found) (interfaces_of found) (modports_of found) taken (inner_path found.nested) spec ports i →
    OnOk r (kids ≡ and_one found.children placed.child) → OnOk r (record (with_contents found placed.contents) { children = kids } ≡ child_in spec ports i now)
child_ends r found now taken spec ports i placed kids seen same left = on_ok_weaker r (child_behind found now taken spec ports i placed kids seen same left)
