use Rattle.std.proofs.Common.{ℤ, Bool, [], List, Option, Result, Err, SFits, w32, rules, ◌≡◌, refl, sym, ap, ◌∙◌, subst}
use Rattle.std.proofs.lemmas.Int.{to_z-of_z}
use Rattle.std.proofs.lemmas.Result.{err_from_is_err_and}
use Rattle.sve_fault.specs.declared.fault.Fault.{Fault}
use Rattle.sve_fault.specs.declared.fuel.Halted.{Halted}
use Rattle.sve_plan.specs.Plan.{Counted}
use Rattle.sve_plan.specs.Follows.{Meters}
use Rattle.sve_generate.specs.Loops.{repeated, turns, with_value}
use Rattle.sve_generate.proofs.Turns.{turn_goes, turn_ends, turn_halts, none_left, ready_on}
use Rattle.sve_generate.proofs.unrolling.turns.Goals as goal

pub returns-in_err-end : goal.returns-in_err-end
returns-in_err-end g c =
    let goes : ℤ → Counted (Result Bool Fault) = g.L.LoopExpressions.goes c.args.expressions.now in
    let steps : ℤ → Counted (Result (Option ℤ) Fault) = g.L.LoopExpressions.steps c.args.expressions.now in
    let again : Fault = repeated c.args.token c.args.genvar.now in
    let all : Counted (Result (List ℤ) Fault) = turns 4294967296 goes steps again [] c.args.start in
    let r = err_from_is_err_and c.from_residual.result c.from_residual.ensures.1 in
    subst (λ (end : Result (Result (List ℤ) Fault) Halted). Meters c.args.fuel.now c.take_turn.new.fuel all end) (sym (r.1 ∙ ap Err r.2))
    (turn_halts goes steps again 4294967296 c.turns.round c.turns.seen.keys c.turns.seen.keys c.turns.value c.args.fuel.now c.turns.fuel c.take_turn.new.fuel all c.in_err-end.field-0.0 c.turns-test.true refl c.turns.invariant.1 c.in_err-end.ensures)

pub returns-in-Ends : goal.returns-in-Ends
returns-in-Ends g c =
    let goes : ℤ → Counted (Result Bool Fault) = g.L.LoopExpressions.goes c.args.expressions.now in
    let steps : ℤ → Counted (Result (Option ℤ) Fault) = g.L.LoopExpressions.steps c.args.expressions.now in
    let again : Fault = repeated c.args.token c.args.genvar.now in
    turn_ends goes steps again 4294967296 c.turns.round c.turns.seen.keys c.turns.seen.keys c.turns.value c.args.fuel.now c.turns.fuel c.take_turn.new.fuel (turns 4294967296 goes steps again [] c.args.start) c.in_ok-end.field-0 c.in-Ends.end
    c.turns-test.true refl c.in-Ends.is c.turns.invariant.1 c.in_ok-end.ensures

pub turns-preserved : goal.turns-preserved
turns-preserved g c =
    let goes : ℤ → Counted (Result Bool Fault) = g.L.LoopExpressions.goes c.args.expressions.now in
    let steps : ℤ → Counted (Result (Option ℤ) Fault) = g.L.LoopExpressions.steps c.args.expressions.now in
    let again : Fault = repeated c.args.token c.args.genvar.now in
    let fits : SFits w32 c.in-Goes.number = search rules in
    let put = subst (λ (x : ℤ). c.put.new.seen.keys ≡ with_value c.turns.seen.keys x) (to_z-of_z w32 c.in-Goes.number fits) c.in_ok-put-in-Goes.ensures in (
      ready_on c.turns.fuel c.take_turn.new.fuel _ c.turns.invariant.0 c.in_ok-end.ensures.0,
      turn_goes goes steps again 4294967296 c.turns.round c.turns.seen.keys c.turns.seen.keys c.put.new.seen.keys c.turns.value c.args.fuel.now c.turns.fuel c.take_turn.new.fuel (turns 4294967296 goes steps again [] c.args.start) c.in_ok-end.field-0 c.in-Goes.number c.in-Goes.next
          c.turns-test.true refl c.in-Goes.is c.turns.invariant.1 c.in_ok-end.ensures put,
    )

pub returns : goal.returns
returns g c =
    let goes : ℤ → Counted (Result Bool Fault) = g.L.LoopExpressions.goes c.args.expressions.now in
    let steps : ℤ → Counted (Result (Option ℤ) Fault) = g.L.LoopExpressions.steps c.args.expressions.now in
    let again : Fault = repeated c.args.token c.args.genvar.now in
    let m = none_left goes steps again 4294967296 c.turns.round c.turns.seen.keys c.turns.value c.args.fuel.now c.turns.fuel (turns 4294967296 goes steps again [] c.args.start) c.turns-test.false c.turns.invariant.1 in
    (m.0, ap Err c.in_ok-repeated.ensures ∙ m.1)
