use Rattle.std.proofs.Common.{◌≡◌, ◌∙◌, ◌↔◌, ap, subst, sym}
use Rattle.std.specs.List.{Contains}
use Rattle.sve_index.specs.declared.whole.Index.{Index}
use Rattle.sve_index.specs.Gathered.{index_from}
use Rattle.sve_index.specs.Tops.{IsTop}
use Rattle.sve_index.specs.Whole.{index_of}
use Rattle.sve_index.proofs.Folded.{index_is}
use Rattle.sve_index.proofs.Tops.{tops_told}
use Rattle.sve_index.proofs.whole.index_of.Goals as goal

pub returns : goal.returns
returns c =
    let sources = c.args.elements.now in
    let is : c.in_ok-index.index ≡ index_of sources = c.in_ok-index.ensures ∙ ap index_from c.in_ok-gathered.ensures ∙ index_is sources in
    record {
      index = is;
      tops = λ name. subst (λ (i : Index). Contains i.tops name ↔ IsTop sources name) (sym is) (tops_told sources name);
    }
