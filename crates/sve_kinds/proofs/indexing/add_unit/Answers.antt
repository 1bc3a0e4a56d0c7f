use Rattle.std.proofs.Common.{◌≡◌, ◌∙◌, List, ap, sym}
use Rattle.std.specs.Arc.{arc_value}
use Rattle.std.specs.Prelude.{length}
use Rattle.sve_unit.specs.declared.chunk.Chunk.{Chunk}
use Rattle.sve_key.specs.declared.key.Key.TheVariants.{Chunks}
use Rattle.sve_key.specs.Values.{chunks_in_value}
use Rattle.sve_make.specs.Make.{elements_told, unit_told}
use Rattle.sve_kinds.proofs.Calls.{holds_on, matches_on, goes_on, needs_this, on_ok}
use Rattle.sve_kinds.proofs.indexing.add_unit.Goals as goal

pub returns-in_err-value-clause-halted : goal.returns-in_err-value-clause-halted
returns-in_err-value-clause-halted g c = λ told m none j is.
    let at = c.in_err-value.ensures.halted told m none j is in
    (c.from_residual.ensures.0, needs_this told (Chunks c.args.file.now) (λ v. elements_told told c.args.file.now 0 (length (chunks_in_value v))) j at.1)

pub returns-clause-made : goal.returns-clause-made
returns-clause-made g c = λ told h.
    let file = c.args.file.now in
    let v = arc_value c.in_ok-value.value in
    let count : length (chunks_in_value v) ≡ length c.chunks.result.now = ap (λ (l : List Chunk). length l) (sym (c.chunks.ensures.chunks ∙ ap chunks_in_value c.deref.ensures)) in
    let whole : unit_told told file ≡ elements_told told file 0 (length c.chunks.result.now) = goes_on told (Chunks file) (λ w. elements_told told file 0 (length (chunks_in_value w))) v (h (Chunks file) v c.in_ok-value.ensures.found) ∙ ap (elements_told told file 0) count in
    on_ok c.add_elements.result (λ added. (added.0, added.1, whole ∙ added.2))
    (c.add_elements.ensures.made told (holds_on told (g.F.Fetch.tells c.args.from.now) (g.F.Fetch.tells c.ask_chunks.new.from) c.in_ok-value.ensures.passes.same h))

pub returns-clause-halted : goal.returns-clause-halted
returns-clause-halted g c = λ told m none j is.
    let file = c.args.file.now in
    let v = arc_value c.in_ok-value.value in
    let count : length (chunks_in_value v) ≡ length c.chunks.result.now = ap (λ (l : List Chunk). length l) (sym (c.chunks.ensures.chunks ∙ ap chunks_in_value c.deref.ensures)) in
    let whole : unit_told told file ≡ elements_told told file 0 (length c.chunks.result.now) = goes_on told (Chunks file) (λ w. elements_told told file 0 (length (chunks_in_value w))) v ((m (Chunks file) 0 v).0 c.in_ok-value.ensures.found) ∙ ap (elements_told told file 0) count in
    let at = c.add_elements.ensures.halted told (matches_on told (g.F.Fetch.tells c.args.from.now) (g.F.Fetch.tells c.ask_chunks.new.from) c.in_ok-value.ensures.passes.same m) (c.in_ok-value.ensures.calm ∙ none) j is in
    (at.0, whole ∙ at.1)
