-- What can be read back from a tree, and shown as a tree again, is kept.
use Rattle.std.proofs.Common.{◌≡◌, Ok, Err, sym, ap, ◌∙◌, subst}
use Rattle.sve_grammar.specs.Reading.{Tree, none, Answer}
use Rattle.sve_outline.specs.Outline.{Outline, IsWhole, IsKept}
use Rattle.sve_outline.proofs.Whole.{whole}

abbrev tree_of_answer : Answer → Tree
tree_of_answer (Ok x) = x.0
tree_of_answer (Err h) = none

pub kept : {X : Type 0} (tree : X → Tree) (outline : X → Outline) (reader : Tree → Outline) (writer : Outline → Tree) → ((x : X) → IsWhole (tree x) → reader (tree x) ≡ outline x) → ((x : X) → writer (outline x) ≡ tree x) → IsKept tree outline
kept {X} tree outline reader writer f g = record {
  seen = seen;
  read = λ ts d r i j k x y p q. seen x y (whole ts d r i (tree x) j p) (ap tree_of_answer (sym p ∙ q));
  said = λ x y e. sym (g x) ∙ ap writer e ∙ g y;
}
  where
    seen : (x y : X) → IsWhole (tree x) → tree x ≡ tree y → outline x ≡ outline y
    seen x y w e = sym (f x w) ∙ ap reader e ∙ f y (let P : Tree → Type 0 = λ t. IsWhole t in subst P e w)
