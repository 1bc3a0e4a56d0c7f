use Rattle.std.specs.Global.{Global}
use Rattle.std.specs.declared.sync.Arc.{Arc}
use Rattle.std.proofs.Common.{◌≡◌, ◌<◌, ◌++◌, List, [], Option, length, map, drop, sym, ap, subst, ◌∙◌, arith}
use Rattle.std.specs.List.{slice_index_or, flat_map}
use Rattle.std.proofs.lemmas.List.{append-nil, drop_all}
use Rattle.sve_token.specs.declared.token.Token.{Token}
use Rattle.sve_tree.specs.declared.element.Element.{Element}
use Rattle.sve_unit.specs.Chunks.{parts}
use Rattle.sve_front.specs.Diagnostics.{chunk_diags}
use Rattle.sve_front.specs.Elements.{AreElements}
use Rattle.sve_front.specs.Readings.{ReadsChunk}
use Rattle.sve_front.specs.Trees.{tree_of, AreTreesOf, IsTreeOf}
use Rattle.sve_front.proofs.Parts.{as_many, few_chunks, part_next}
use Rattle.sve_front.proofs.Additions.{chunks_go_on, ends, gives_on}
use Rattle.sve_front.proofs.Trees.{trees_end, trees_go_on}
use Rattle.sve_front.proofs.reading.read_chunks.Goals as goal

pub overflow_cast-n-end : goal.overflow_cast-n-end
overflow_cast-n-end c = omega (arith, ap length c.items-chunks.ensures, ap length c.requires.cut, few_chunks c.args.unit.now.tokens, c.requires.few)

pub chunks-preserved : goal.chunks-preserved
chunks-preserved c =
    let u = c.args.unit.now in
    let ps = parts u.tokens in
    let n = c.chunks.n in
    let within : n < length ps = omega (arith, c.chunks-test.true, c.chunks.auto.n-end, ap length c.items-chunks.ensures, ap length c.requires.cut, as_many 0 ps) in
    let part : c.chunk_tokens-part.result.now ≡ slice_index_or ps n [] = c.chunk_tokens-part.ensures.tokens ∙ ap (λ (l : List Token). slice_index_or (parts l) n []) c.items-tokens.ensures in
    record {
      elements =
          chunks_go_on u.file ps n c.args.elements.now.items c.chunks.elements.items c.read_chunk.new.elements.items within c.chunks.invariant.elements
          (subst (λ (ts : List Token). ReadsChunk u.file n ts c.chunks.elements.items c.read_chunk.new.elements.items) part c.in_ok-tree.ensures.elements);
      diags =
          gives_on (chunk_diags u.end) ps n (slice_index_or ps n []) (c.args.diags.now.items ++ flat_map (chunk_diags u.end) ps) c.chunks.diags.items c.read_chunk.new.diags.items (part_next ps n within) c.chunks.invariant.diags
          (c.in_ok-tree.ensures.diags ∙ ap (λ (ts : List Token). c.chunks.diags.items ++ chunk_diags u.end ts) part);
      trees =
          trees_go_on ps n c.chunks.trees.items c.push.new.self.items c.in_ok-tree.tree within c.chunks.invariant.trees
          (subst (λ (ts : List Token). IsTreeOf ts (tree_of c.in_ok-tree.tree)) part c.in_ok-tree.ensures.tree) c.in_ok-push.ensures.items;
    }

pub returns-clause-elements : goal.returns-clause-elements
returns-clause-elements c =
    let u = c.args.unit.now in
    let ps = parts u.tokens in
    let none : drop c.chunks.n ps ≡ [] = drop_all c.chunks.n ps (omega (arith, c.chunks-test.false, c.chunks.auto.n-end, ap length c.items-chunks.ensures, ap length c.requires.cut, as_many 0 ps)) in
    ends (AreElements u.file 0 ps) (AreElements u.file c.chunks.n (drop c.chunks.n ps)) c.args.elements.now.items c.chunks.elements.items c.chunks.invariant.elements
    (subst (λ (l : List (List Token)). AreElements u.file c.chunks.n l []) (sym none) AreElements.none)

pub returns-clause-diags : goal.returns-clause-diags
returns-clause-diags c =
    let u = c.args.unit.now in
    let ps = parts u.tokens in
    let none : drop c.chunks.n ps ≡ [] = drop_all c.chunks.n ps (omega (arith, c.chunks-test.false, c.chunks.auto.n-end, ap length c.items-chunks.ensures, ap length c.requires.cut, as_many 0 ps)) in
    sym (append-nil c.chunks.diags.items) ∙ sym (ap (λ (l : List (List Token)). c.chunks.diags.items ++ flat_map (chunk_diags u.end) l) none) ∙ c.chunks.invariant.diags

pub returns-clause-trees : goal.returns-clause-trees
returns-clause-trees c =
    let ps = parts c.args.unit.now.tokens in
    let none : drop c.chunks.n ps ≡ [] = drop_all c.chunks.n ps (omega (arith, c.chunks-test.false, c.chunks.auto.n-end, ap length c.items-chunks.ensures, ap length c.requires.cut, as_many 0 ps)) in
    subst (λ (trees : List (Option (Arc Element Global))). AreTreesOf ps (map tree_of trees)) (sym c.of.ensures) (trees_end ps (drop c.chunks.n ps) c.chunks.trees.items none c.chunks.invariant.trees)
