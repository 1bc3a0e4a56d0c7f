use Rattle.std.proofs.Common.{Some, List, sym, codes, ap, ◌∙◌, reverse, ◌∷◌, []}
use Rattle.std.proofs.lemmas.Result.{on_ok_weaker}
use Rattle.std.proofs.lemmas.List.{reverse-append}
use Rattle.sve_diag.specs.declared.code.Code.TheVariants.{P10}
use Rattle.sve_unread.specs.Bytes.{Byte}
use Rattle.sve_prep.specs.declared.condition.Condition.{Condition}
use Rattle.sve_prep.specs.State.{refuse}
use Rattle.sve_prep.specs.View.{view}
use Rattle.sve_prep.proofs.Cases.{ends_own, end_refused}
use Rattle.sve_prep.proofs.work.Work.end_condition.Goals as goal

pub returns-then-is_own : goal.returns-then-is_own
returns-then-is_own c = λ asked.
    ap (λ (r : List Byte). record (view c.args.self.now asked) { rest = r }) c.skip.ensures.rest
    ∙ sym (ends_own c.args.condition c.args.count (view c.args.self.now asked) (c.is_own.ensures asked) c.if-is_own.true)

pub returns : goal.returns
returns c =
    let old = c.args.self.now.conditions.items in
    on_ok_weaker c.refuse_alone.result (λ h. λ asked. h asked
    ∙ ap (λ (k : List Condition). refuse P10 (Some (codes "endif")) c.args.count (record (view c.args.self.now asked) { conditions = k })) (ap reverse c.in_ok-push.ensures.items ∙ reverse-append old (c.args.condition ∷ []))
    ∙ sym (end_refused c.args.condition c.args.count (view c.args.self.now asked) (c.is_own.ensures asked) c.if-is_own.false)) c.refuse_alone.ensures
