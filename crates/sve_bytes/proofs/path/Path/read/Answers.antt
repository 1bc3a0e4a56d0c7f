use Rattle.std.proofs.Common.{ℕ, List, ◌≡◌, ◌∙◌, ◌+◌, length, sym, subst, arith}
use Rattle.std.proofs.lemmas.Bool.{eqb-false}
use Rattle.std.specs.List.{slice_range}
use Rattle.sve_bytes.specs.declared.path.Step.{Step}
use Rattle.sve_bytes.specs.PathReading.{Spells, StopsAt}
use Rattle.sve_bytes.specs.PathStages.{step_found}
use Rattle.sve_bytes.proofs.PathFronts.{printed_spells}
use Rattle.sve_bytes.proofs.PathLoop.{slice_none, slice_more, dotted_next, stops_inside, stops_after_all, spells_all, spells_only}
use Rattle.sve_bytes.proofs.StageBegins.{begins_step}
use Rattle.sve_bytes.proofs.path.Path.read.Goals as goal
use Rattle.sve_bytes.proofs.path.Path.read.Goals.{then-byte-eq46+in_default, else-byte-eq46, After-drop-steps-in-None, After-of-in-Some-whole}

pub bytes-preserved-in-Some : goal.bytes-preserved-in-Some
bytes-preserved-in-Some c = record {
  order = omega arith;
  stands = slice_none c.args.text.now (c.bytes.at + 1);
  front = rw c.in_ok-push_found.ensures (dotted_next c.args.text.now c.bytes.start c.bytes.at c.bytes.steps.items (step_found c.in-Some.found) c.bytes.invariant.order (omega arith) c.if-byte-eq46.true c.bytes.invariant.front c.in-Some.ensures);
}

pub bytes-preserved : goal.bytes-preserved
bytes-preserved c = record {
  order = omega arith;
  stands = rw (slice_more c.args.text.now c.bytes.start c.bytes.at c.bytes.invariant.order (omega arith)) c.in-Some-next.ensures;
  front = c.bytes.invariant.front;
}

stop : (c : After-drop-steps-in-None) → StopsAt c.args.text.now c.bytes.at
stop c =
    stops_inside c.args.text.now c.bytes.start c.bytes.at c.bytes.steps.items c.bytes.invariant.order (omega arith) c.bytes.invariant.front
    (begins_step (slice_range c.args.text.now c.bytes.start c.bytes.at) c.bytes.stage c.bytes.invariant.stands)
    c.in-None.ensures
    (elim c.if-byte-eq46.branch [
      | then-byte-eq46+in_default w ↦ λ _. w.in_default.ensures
      | else-byte-eq46 w ↦ λ dot. absurd (w.if-byte-eq46.false dot)
    ])

pub returns-in-None-clause-at : goal.returns-in-None-clause-at
returns-in-None-clause-at c = λ n e. let same : c.bytes.at ≡ n = cc in subst (λ (m : ℕ). StopsAt c.args.text.now m) same (stop c)

pub returns-in-None-clause-printed : goal.returns-in-None-clause-printed
returns-in-None-clause-printed c = λ steps readable e. (stop c).no_path steps (printed_spells c.args.text.now steps readable e)

pub returns-in_ok-push_found-in-Some-whole-clause-path :
    goal.returns-in_ok-push_found-in-Some-whole-clause-path
returns-in_ok-push_found-in-Some-whole-clause-path c =
    rw (c.of-in-Some-whole.ensures, c.in_ok-push_found-in-Some-whole.ensures)
    (spells_all c.args.text.now c.bytes.start c.bytes.steps.items (step_found c.in-Some-whole.found) (omega arith) c.bytes.invariant.front c.in-Some-whole.ensures)

only : (c : After-of-in-Some-whole) (steps : List Step) → Spells c.args.text.now steps → steps ≡ c.of-in-Some-whole.result
only c steps h =
    let some : length c.args.text.now ≡ 0 → ⊥ = eqb-false (length c.args.text.now) 0 (sym c.is_empty.ensures ∙ c.if-is_empty.false) in
    rw (c.of-in-Some-whole.ensures, c.in_ok-push_found-in-Some-whole.ensures)
    (spells_only c.args.text.now c.bytes.start c.bytes.steps.items (step_found c.in-Some-whole.found) (omega arith) (omega (arith, some)) c.bytes.invariant.front c.in-Some-whole.ensures steps h)

pub returns-in_ok-push_found-in-Some-whole-clause-only :
    goal.returns-in_ok-push_found-in-Some-whole-clause-only
returns-in_ok-push_found-in-Some-whole-clause-only c = only c

pub returns-in_ok-push_found-in-Some-whole-clause-printed :
    goal.returns-in_ok-push_found-in-Some-whole-clause-printed
returns-in_ok-push_found-in-Some-whole-clause-printed c = λ steps readable e. sym (only c steps (printed_spells c.args.text.now steps readable e))

pub returns-in-None-whole-clause-at : goal.returns-in-None-whole-clause-at
returns-in-None-whole-clause-at c = λ n e.
    let some : length c.args.text.now ≡ 0 → ⊥ = eqb-false (length c.args.text.now) 0 (sym c.is_empty.ensures ∙ c.if-is_empty.false) in
    let stop = stops_after_all c.args.text.now c.bytes.start c.bytes.at c.bytes.stage c.bytes.steps.items c.bytes.invariant.order (omega arith) some c.bytes.invariant.stands c.bytes.invariant.front c.in-None-whole.ensures in
    let same : length c.args.text.now ≡ n = cc in
    subst (λ (m : ℕ). StopsAt c.args.text.now m) same stop

pub returns-in-None-whole-clause-printed : goal.returns-in-None-whole-clause-printed
returns-in-None-whole-clause-printed c = λ steps readable e.
    let some : length c.args.text.now ≡ 0 → ⊥ = eqb-false (length c.args.text.now) 0 (sym c.is_empty.ensures ∙ c.if-is_empty.false) in
    let stop = stops_after_all c.args.text.now c.bytes.start c.bytes.at c.bytes.stage c.bytes.steps.items c.bytes.invariant.order (omega arith) some c.bytes.invariant.stands c.bytes.invariant.front c.in-None-whole.ensures in
    stop.no_path steps (printed_spells c.args.text.now steps readable e)
