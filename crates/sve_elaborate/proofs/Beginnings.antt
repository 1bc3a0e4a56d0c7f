-- A body in the scope that was found for it.
use Rattle.std.proofs.Common.{◌≡◌, List, refl}
use Rattle.sve_tree.specs.declared.element.Definition.{Definition}
use Rattle.sve_tree.specs.declared.token_word.Word.{Word}
use Rattle.sve_spec.specs.declared.given.Given.{Given}
use Rattle.sve_known.specs.Packages.{Known}
use Rattle.sve_contents.specs.declared.contents.Contents.{Contents}
use Rattle.sve_design_kinds.specs.Designs.{Designs}
use Rattle.sve_elaborate.specs.declared.extent.Extent.{Extent}
use Rattle.sve_elaborate.specs.Bodies.{body_in}

pub begun_by : (extent : Extent) (packages : List Known) (ws words : List Word) (designs : Designs) (values given : List Given) (scope c : Contents) (d : Definition) → words ≡ ws → given ≡ values → c ≡ scope → body_in extent packages ws designs values scope d ≡ body_in extent packages words designs given c d
begun_by extent packages ws words designs values given scope c d text same found = rw (text, same, found) refl
