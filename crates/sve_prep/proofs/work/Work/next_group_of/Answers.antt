use Rattle.std.proofs.Common.{Some, List, sym, ap, ◌∙◌, reverse, ◌∷◌, []}
use Rattle.std.proofs.lemmas.Result.{on_ok_weaker}
use Rattle.std.proofs.lemmas.List.{reverse-append}
use Rattle.sve_diag.specs.declared.code.Code.TheVariants.{P10}
use Rattle.sve_prep.specs.declared.condition.Condition.{Condition}
use Rattle.sve_prep.specs.State.{refuse, forward}
use Rattle.sve_prep.specs.View.{view}
use Rattle.sve_prep.proofs.Cases.{next_group_taken, next_group_refused}
use Rattle.sve_prep.proofs.work.Work.next_group_of.Goals as goal

pub returns-then-may_have_group : goal.returns-then-may_have_group
returns-then-may_have_group c =
    on_ok_weaker c.push_condition.result (λ h. λ asked. h asked
    ∙ ap (λ (k : Condition). forward c.args.count (record (view c.args.self.now asked) { conditions = k ∷ (view c.args.self.now asked).conditions })) c.in_next_group.ensures
    ∙ sym (next_group_taken c.args.word.now c.args.holds c.args.last c.args.condition c.args.count (view c.args.self.now asked) (c.may_have_group.ensures asked) c.if-may_have_group.true)) c.push_condition.ensures

pub returns : goal.returns
returns c =
    let old = c.args.self.now.conditions.items in
    on_ok_weaker c.refuse_alone.result (λ h. λ asked. h asked
    ∙ ap (λ (k : List Condition). refuse P10 (Some c.args.word.now) c.args.count (record (view c.args.self.now asked) { conditions = k })) (ap reverse c.in_ok-push.ensures.items ∙ reverse-append old (c.args.condition ∷ []))
    ∙ sym (next_group_refused c.args.word.now c.args.holds c.args.last c.args.condition c.args.count (view c.args.self.now asked) (c.may_have_group.ensures asked) c.if-may_have_group.false)) c.refuse_alone.ensures
