use Rattle.std.proofs.Common.{◌≡◌, inl, Ok, length, refl, sym, ap, ◌∙◌}
use Rattle.std.specs.Arc.{arc_value}
use Rattle.sve_tree.specs.declared.element.Element.{Element}
use Rattle.sve_tree.specs.Elements.{element_tree}
use Rattle.sve_front.proofs.reading.read_chunk.Goals as goal

pub returns-in_ok-push-in-Ok-clause-elements : goal.returns-in_ok-push-in-Ok-clause-elements
returns-in_ok-push-in-Ok-clause-elements c =
    let held : arc_value c.in_ok-try_clone-in-Ok.field-0 ≡ c.in-Ok.element = c.in_ok-try_clone-in-Ok.ensures ∙ c.in_ok-tree-in-Ok.ensures.ok in
    inl (
      record { file = c.in_ok-copy-in-Ok.field-0; chunk = c.args.n; element = c.in_ok-try_clone-in-Ok.field-0 },
      record {
        file_is = c.in_ok-copy-in-Ok.ensures;
        number_is = refl;
        tree = c.in-Ok.ensures.tree ∙ ap (λ (e : Element). Ok (element_tree e, length c.args.tokens.now)) (sym held);
        words = ap (λ (e : Element). e.words.items) held ∙ c.in-Ok.ensures.words;
      },
      c.in_ok-push-in-Ok.ensures.items,
    )

pub returns-in_ok-push-in-Ok-clause-tree : goal.returns-in_ok-push-in-Ok-clause-tree
returns-in_ok-push-in-Ok-clause-tree c =
    let held : arc_value c.in_ok-tree-in-Ok.tree ≡ c.in-Ok.element = c.in_ok-tree-in-Ok.ensures.ok in (
      c.in-Ok.ensures.tree ∙ ap (λ (e : Element). Ok (element_tree e, length c.args.tokens.now)) (sym held),
      ap (λ (e : Element). e.words.items) held ∙ c.in-Ok.ensures.words,
    )
