use Rattle.std.proofs.Common.{◌+◌, ◌∙◌, List, [], drop, refl, subst, arith}
use Rattle.std.proofs.lemmas.List.{drop_all}
use Rattle.sve_gist.specs.Gists.{Gist}
use Rattle.sve_store.specs.Made.{Made}
use Rattle.sve_key.specs.declared.key.Key.{Key}
use Rattle.sve_kinds.specs.Passes.{passes_itself, passes_on}
use Rattle.sve_kinds.specs.Asked.{SoFar}
use Rattle.sve_make.specs.Make.{units_told, unit_told}
use Rattle.sve_kinds.proofs.Adding.{so_empty, so_on, so_needs, so_made}
use Rattle.sve_kinds.proofs.Calls.{holds_on, matches_on, matches_free, never_halted}
use Rattle.sve_kinds.proofs.Looped.{unit_left, no_unit_left}
use Rattle.sve_kinds.proofs.indexing.elements_of.Goals as goal

pub files-init : goal.files-init
files-init g c = record {
  passes = passes_itself (g.met.F.Fetch.keeps_itself c.args.from.now);
  calm = refl;
  went = refl;
  so_far = λ told h. so_empty (units_told told c.args.units.now) c.new-elements.result.items c.new-elements.ensures.items;
}

pub files-preserved : goal.files-preserved
files-preserved g c =
    let i = c.files.invariant in
    let e = c.in_ok-add_unit.ensures in
    record {
      passes = passes_on (g.met.F.Fetch.keeps_on c.args.from.now c.files.from c.add_unit.new.from) i.passes c.add_unit.ensures.passes;
      calm = e.calm ∙ i.calm;
      went = e.went ∙ i.went;
      so_far = λ told h. so_on (units_told told c.args.units.now) (unit_told told c.unit-item.result) (units_told told (drop (c.files.unit-index + 1) c.args.units.now)) [] c.files.elements.items c.add_unit.new.elements.items
          (subst (λ (m : Made Key (List Gist)). SoFar (units_told told c.args.units.now) m [] c.files.elements.items) (unit_left told c.args.units.now c.files.unit-index c.unit-item.result c.files-test.true c.unit-item.is) (i.so_far told h))
          (e.made told (holds_on told (g.F.Fetch.tells c.args.from.now) (g.F.Fetch.tells c.files.from) i.passes.same h));
    }

pub returns-in_err-add_unit-clause-passes : goal.returns-in_err-add_unit-clause-passes
returns-in_err-add_unit-clause-passes g c = passes_on (g.met.F.Fetch.keeps_on c.args.from.now c.files.from c.add_unit.new.from) c.files.invariant.passes c.add_unit.ensures.passes

pub returns-in_err-add_unit-clause-halted : goal.returns-in_err-add_unit-clause-halted
returns-in_err-add_unit-clause-halted g c = λ told m none j h.
    let i = c.files.invariant in
    let at = c.add_unit.ensures.halted told (matches_on told (g.F.Fetch.tells c.args.from.now) (g.F.Fetch.tells c.files.from) i.passes.same m) (i.calm ∙ none) j h in (
      c.from_residual.ensures.0,
      so_needs (units_told told c.args.units.now) (unit_told told c.unit-item.result) (units_told told (drop (c.files.unit-index + 1) c.args.units.now)) [] c.files.elements.items j
          (subst (λ (x : Made Key (List Gist)). SoFar (units_told told c.args.units.now) x [] c.files.elements.items) (unit_left told c.args.units.now c.files.unit-index c.unit-item.result c.files-test.true c.unit-item.is) (i.so_far told (matches_free told (g.F.Fetch.tells c.args.from.now) m)))
          at.1,
    )

pub returns-clause-made : goal.returns-clause-made
returns-clause-made g c = λ told h. so_made (units_told told c.args.units.now) c.files.elements.items
    (subst (λ (m : Made Key (List Gist)). SoFar (units_told told c.args.units.now) m [] c.files.elements.items) (no_unit_left told (drop c.files.unit-index c.args.units.now) (drop_all c.files.unit-index c.args.units.now (omega (arith, c.files-test.false)))) (c.files.invariant.so_far told h))

pub returns-clause-halted : goal.returns-clause-halted
returns-clause-halted g c = λ told m none j h. never_halted (g.F.Fetch.halted c.args.from.now) (g.F.Fetch.halted c.files.from) j none c.files.invariant.calm h
