use Rattle.std.proofs.Common.{◌+◌, ◌-◌, ◌∙◌, List, refl, subst, arith}
use Rattle.sve_gist.specs.Gists.{Gist}
use Rattle.sve_store.specs.Made.{Made}
use Rattle.sve_key.specs.declared.key.Key.{Key}
use Rattle.sve_kinds.specs.Passes.{passes_itself, passes_on}
use Rattle.sve_kinds.specs.Asked.{SoFar}
use Rattle.sve_make.specs.Make.{elements_told, element_told}
use Rattle.sve_kinds.proofs.Adding.{so_at_first, so_on, so_needs, so_done}
use Rattle.sve_kinds.proofs.Calls.{holds_on, matches_on, matches_free, never_halted}
use Rattle.sve_kinds.proofs.Looped.{all_left, one_left, none_left}
use Rattle.sve_kinds.proofs.indexing.add_elements.Goals as goal

pub chunks-init : goal.chunks-init
chunks-init g c = record {
  passes = passes_itself (g.met.F.Fetch.keeps_itself c.args.from.now);
  calm = refl;
  went = refl;
  so_far = λ told h. subst (λ (m : Made Key (List Gist)). SoFar (elements_told told c.args.file.now 0 c.args.count) m c.args.elements.now.items c.args.elements.now.items) (all_left told c.args.file.now c.args.count) (so_at_first (elements_told told c.args.file.now 0 c.args.count) c.args.elements.now.items);
}

pub chunks-preserved : goal.chunks-preserved
chunks-preserved g c =
    let i = c.chunks.invariant in
    let e = c.in_ok-add_element.ensures in
    record {
      passes = passes_on (g.met.F.Fetch.keeps_on c.args.from.now c.chunks.from c.add_element.new.from) i.passes c.add_element.ensures.passes;
      calm = e.calm ∙ i.calm;
      went = e.went ∙ i.went;
      so_far = λ told h. so_on (elements_told told c.args.file.now 0 c.args.count) (element_told told c.args.file.now c.chunks.n) (elements_told told c.args.file.now (c.chunks.n + 1) (c.args.count - (c.chunks.n + 1))) c.args.elements.now.items c.chunks.elements.items c.add_element.new.elements.items
          (subst (λ (m : Made Key (List Gist)). SoFar (elements_told told c.args.file.now 0 c.args.count) m c.args.elements.now.items c.chunks.elements.items) (one_left told c.args.file.now c.chunks.n c.args.count c.chunks-test.true) (i.so_far told h))
          (e.made told (holds_on told (g.F.Fetch.tells c.args.from.now) (g.F.Fetch.tells c.chunks.from) i.passes.same h));
    }

pub returns-in_err-add_element-clause-passes : goal.returns-in_err-add_element-clause-passes
returns-in_err-add_element-clause-passes g c = passes_on (g.met.F.Fetch.keeps_on c.args.from.now c.chunks.from c.add_element.new.from) c.chunks.invariant.passes c.add_element.ensures.passes

pub returns-in_err-add_element-clause-halted : goal.returns-in_err-add_element-clause-halted
returns-in_err-add_element-clause-halted g c = λ told m none j h.
    let i = c.chunks.invariant in
    let at = c.add_element.ensures.halted told (matches_on told (g.F.Fetch.tells c.args.from.now) (g.F.Fetch.tells c.chunks.from) i.passes.same m) (i.calm ∙ none) j h in (
      c.from_residual.ensures.0,
      so_needs (elements_told told c.args.file.now 0 c.args.count) (element_told told c.args.file.now c.chunks.n) (elements_told told c.args.file.now (c.chunks.n + 1) (c.args.count - (c.chunks.n + 1))) c.args.elements.now.items c.chunks.elements.items j
          (subst (λ (x : Made Key (List Gist)). SoFar (elements_told told c.args.file.now 0 c.args.count) x c.args.elements.now.items c.chunks.elements.items) (one_left told c.args.file.now c.chunks.n c.args.count c.chunks-test.true) (i.so_far told (matches_free told (g.F.Fetch.tells c.args.from.now) m)))
          at.1,
    )

pub returns-clause-made : goal.returns-clause-made
returns-clause-made g c = λ told h. so_done (elements_told told c.args.file.now 0 c.args.count) c.args.elements.now.items c.chunks.elements.items
    (subst (λ (m : Made Key (List Gist)). SoFar (elements_told told c.args.file.now 0 c.args.count) m c.args.elements.now.items c.chunks.elements.items) (none_left told c.args.file.now c.chunks.n c.args.count (omega (arith, c.chunks-test.false, c.chunks.auto.n-end))) (c.chunks.invariant.so_far told h))

pub returns-clause-halted : goal.returns-clause-halted
returns-clause-halted g c = λ told m none j h. never_halted (g.F.Fetch.halted c.args.from.now) (g.F.Fetch.halted c.chunks.from) j none c.chunks.invariant.calm h
