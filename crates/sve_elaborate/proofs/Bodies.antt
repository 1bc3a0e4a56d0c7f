-- What a body comes to, by what was found on the way.
use Rattle.std.proofs.Common.{◌≡◌, List, ap, sym, ◌∙◌}
use Rattle.sve_tree.specs.declared.element.Definition.{Definition}
use Rattle.sve_tree.specs.declared.item.Item.{Item}
use Rattle.sve_tree.specs.declared.token_word.Word.{Word}
use Rattle.sve_spec.specs.declared.given.Given.{Given}
use Rattle.sve_known.specs.Packages.{Known}
use Rattle.sve_contents.specs.declared.contents.Contents.{Contents}
use Rattle.sve_plan.specs.Plan.{Give, and_then}
use Rattle.sve_design_kinds.specs.Designs.{Designs}
use Rattle.sve_body.specs.Body.{body}
use Rattle.sve_elaboration.specs.State.{Found}
use Rattle.sve_elaboration.specs.Ends.{begun_body, facts_of}
use Rattle.sve_elaboration.specs.Elaborating.{elaborating}
use Rattle.sve_elaborate.specs.declared.extent.Extent.{Extent}
use Rattle.sve_elaborate.specs.Bodies.{body_in, items_to}

-- where it has begun
pub body_from : (extent : Extent) (packages : List Known) (ws : List Word) (designs : Designs) (given : List Given) (c : Contents) (d : Definition) (items : List Item) (s : Found) → items ≡ items_to extent d → s ≡ begun_body packages ws designs given c d → body_in extent packages ws designs given c d ≡ and_then (body elaborating d.header items s) (λ t. Give (facts_of t))
unfolding body_in
body_from extent packages ws designs given c d items s here is = ap (λ (l : List Item). and_then (body elaborating d.header l (begun_body packages ws designs given c d)) (λ u. Give (facts_of u))) (sym here) ∙ ap (λ t. and_then (body elaborating d.header items t) (λ u. Give (facts_of u))) (sym is)
