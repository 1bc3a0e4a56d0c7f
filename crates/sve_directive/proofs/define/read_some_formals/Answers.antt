use Rattle.std.proofs.Common.{sym, ◌∙◌, ap, drop, length, Some, List, ◌+◌, arith, length-drop}
use Rattle.sve_directive.specs.Bytes.{begins_with}
use Rattle.sve_directive.specs.Define.{Formal, formal_of}
use Rattle.sve_directive.proofs.FormalLemmas.{all_formals, with_front, formals_bad, formals_last, formals_step, formals_end}
use Rattle.sve_directive.proofs.define.read_some_formals.Goals as goal

pub returns-in_default-clause-value : goal.returns-in_default-clause-value
returns-in_default-clause-value c =
    formals_bad c.args.text.now c.formals.at c.formals.found.items (all_formals c.args.text.now) (omega (arith, length-drop c.formals.at c.args.text.now, c.formals-test.true))
    (ap formal_of (sym c.past-rest.ensures) ∙ sym c.in_ok-formal.ensures.value ∙ c.in_default.is) c.formals.invariant.same

pub returns-then-is_last-clause-value : goal.returns-then-is_last-clause-value
returns-then-is_last-clause-value c =
    ap (λ (xs : List Formal). Some (xs, c.formals.at + (c.in-Some.end + 1))) (c.of.ensures ∙ c.in_ok-push.ensures.items)
    ∙ formals_last c.args.text.now c.formals.at c.formals.found.items c.in-Some.formal c.in-Some.end (all_formals c.args.text.now) (omega (arith, length-drop c.formals.at c.args.text.now, c.formals-test.true))
    (ap formal_of (sym c.past-rest.ensures) ∙ sym c.in_ok-formal.ensures.value ∙ c.in-Some.is)
    (ap (λ x. begins_with 41 (drop c.in-Some.end x)) (sym c.past-rest.ensures) ∙ ap (begins_with 41) (sym c.past.ensures) ∙ sym c.begins-is_last.ensures ∙ c.if-is_last.true) c.formals.invariant.same

pub formals-preserved : goal.formals-preserved
formals-preserved c =
    record {
      within =
          (let end_within = rw c.in-Some.is at c.in_ok-formal.ensures.within in
          omega (arith, end_within, length-drop c.formals.at c.args.text.now, ap length c.past-rest.ensures, c.formals-test.true));
      same =
          ap (λ xs. with_front xs (c.formals.at + (c.in-Some.end + 1)) (all_formals (drop (c.formals.at + (c.in-Some.end + 1)) c.args.text.now))) c.in_ok-push.ensures.items
          ∙ formals_step c.args.text.now c.formals.at c.formals.found.items c.in-Some.formal c.in-Some.end (all_formals c.args.text.now) (omega (arith, length-drop c.formals.at c.args.text.now, c.formals-test.true))
          (ap formal_of (sym c.past-rest.ensures) ∙ sym c.in_ok-formal.ensures.value ∙ c.in-Some.is)
          (ap (λ x. begins_with 41 (drop c.in-Some.end x)) (sym c.past-rest.ensures) ∙ ap (begins_with 41) (sym c.past.ensures) ∙ sym c.begins-is_last.ensures ∙ c.if-is_last.false) c.formals.invariant.same;
    }

pub returns-clause-value : goal.returns-clause-value
returns-clause-value c = formals_end c.args.text.now c.formals.at c.formals.found.items (all_formals c.args.text.now) (omega (arith, c.formals-test.false)) c.formals.invariant.same
