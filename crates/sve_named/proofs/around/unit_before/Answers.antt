-- One chunk more.
use Rattle.std.proofs.Common.{List, [], ap, sym, ◌∙◌}
use Rattle.std.specs.List.{fold}
use Rattle.sve_scope.specs.Scopes.{empty_scope}
use Rattle.sve_contents.specs.declared.contents.Contents.{Contents}
use Rattle.sve_contents.specs.Reading.{empty_contents}
use Rattle.sve_function.specs.Readings.{readings}
use Rattle.sve_unit_scope.specs.Elements.{ChunkElement, with_element}
use Rattle.sve_unit_scope.specs.Units.{with_unit_items}
use Rattle.sve_project.specs.Projects.{known_in, tree_in}
use Rattle.sve_named.specs.Named.{elements_of}
use Rattle.sve_named.proofs.Chunks.{one_more, with_one}
use Rattle.sve_named.proofs.around.unit_before.Goals as goal

pub chunks-preserved : goal.chunks-preserved
chunks-preserved c =
    let p = c.args.project.now in
    let file = c.args.file.now in
    let k = c.chunks.before in
    let begin = empty_contents (empty_scope file c.args.chunk) in
    c.in_ok-contents.ensures
    ∙ ap (λ (s : Contents). fold (with_unit_items readings (known_in p) file) s (with_element [] k (tree_in p file k))) c.chunks.invariant
    ∙ sym (with_one readings (known_in p) file begin (elements_of p file k) k (tree_in p file k))
    ∙ ap (λ (es : List ChunkElement). fold (with_unit_items readings (known_in p) file) begin es) (sym (one_more p file k))
