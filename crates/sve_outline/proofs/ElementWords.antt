-- Chunks with the same words have the same tree.
use Rattle.std.proofs.Common.{◌≡◌, ℕ, List, Ok, ◌∙◌}
use Rattle.sve_token.specs.declared.token.Token.{Token}
use Rattle.sve_grammar.specs.Reading.{at_depth}
use Rattle.sve_grammar.specs.Items.{chunk}
use Rattle.sve_grammar.proofs.ByKind.{read_by_kinds}
use Rattle.sve_tree.specs.declared.element.Element.{Element}
use Rattle.sve_tree.specs.TokenWords.{words_of}
use Rattle.sve_tree.specs.Elements.{element_tree}
use Rattle.sve_tree.proofs.WordKinds.{same_kinds}
use Rattle.sve_outline.specs.Elements.{element_outline}
use Rattle.sve_outline.proofs.Laws.{element_kept}

pub decided : (ts us : List Token) (x y : Element) (j k : ℕ) → words_of ts ≡ words_of us → at_depth ts 0 chunk 0 ≡ Ok (element_tree x, j) → at_depth us 0 chunk 0 ≡ Ok (element_tree y, k) → element_outline x ≡ element_outline y
decided ts us x y j k e p q = element_kept.read ts 0 chunk 0 j k x y p (read_by_kinds ts us (same_kinds ts us e) 0 chunk 0 ∙ q)
