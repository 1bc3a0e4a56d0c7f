use Rattle.std.proofs.Common.{◌∙◌, ap, arith, refl, sym}
use Rattle.std.proofs.lemmas.List.{drop_all}
use Rattle.sve_lex.specs.Longest.{longest}
use Rattle.sve_token.specs.Operators.{entries}
use Rattle.sve_lex.specs.Classes.{listed}
use Rattle.sve_lex.proofs.Tables.{front_here, front_on, listed_none}
use Rattle.sve_lex.proofs.front.front.Goals as goal

pub returns-then-starts_with : goal.returns-then-starts_with
returns-then-starts_with c = front_here _ _ _ _ (omega arith) c.loop-operator.invariant.same c.loop-operator.invariant.falls (c.if-starts_with.ensures.bound refl) c.if-starts_with.ensures.value

pub loop-operator-preserved : goal.loop-operator-preserved
loop-operator-preserved c = let p = front_on _ _ _ _ (omega arith) c.loop-operator.invariant.same c.loop-operator.invariant.falls c.if-starts_with.ensures.value in record { same = p.0; falls = p.1 }

pub returns : goal.returns
returns c =
    let e = drop_all c.loop-operator.operator-index c.args.table.now (omega arith) in
    sym (listed_none c.args.text.now) ∙ sym (ap (λ os. longest c.args.text.now (listed (entries os))) e) ∙ c.loop-operator.invariant.same
