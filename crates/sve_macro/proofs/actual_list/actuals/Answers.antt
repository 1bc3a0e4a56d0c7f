use Rattle.std.proofs.Common.{sym, ◌∙◌, ◌≡◌, ◌==◌, true, get_or}
use Rattle.sve_macro.proofs.Lists.{goes_on, ends, stays_open, test_true, test_false}
use Rattle.sve_macro.proofs.actual_list.actuals.Goals as goal

pub returns-then-text-part-eq41-clause-list : goal.returns-then-text-part-eq41-clause-list
returns-then-text-part-eq41-clause-list c =
    let t : (get_or c.args.text.now c.in-Some.part.end 0 == 41) ≡ true = test_true _ _ c.if-text-part-eq41.true in
    ends c.parts.found.items _ c.parts.at c.args.text.now c.args.from c.in-Some.part c.parts.invariant (sym c.in-Some.is ∙ c.in_ok-part.ensures.part) (c.of.ensures ∙ c.in_ok-push.ensures.items) t

pub parts-preserved : goal.parts-preserved
parts-preserved c =
    goes_on c.parts.found.items c.push.new.self.items c.parts.at c.args.text.now c.args.from c.in-Some.part c.parts.invariant (sym c.in-Some.is ∙ c.in_ok-part.ensures.part) (rw c.in-Some.is at c.in_ok-part.ensures.within) c.in_ok-push.ensures.items (test_false _ _ c.if-text-part-eq41.false)

pub returns-clause-open : goal.returns-clause-open
returns-clause-open c = λ _. stays_open c.parts.found.items c.parts.at c.args.text.now c.args.from c.parts.invariant (sym c.in_default.is ∙ c.in_ok-part.ensures.part)
