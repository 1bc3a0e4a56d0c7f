use Rattle.std.proofs.Common.{rules, ◌≡◌, true, Some, None, sym, ◌∙◌, subst}
use Rattle.std.specs.Prelude.{IfSome}
use Rattle.sve_ask.specs.Current.{overlaid}
use Rattle.sve_ask.proofs.Watching.{not_true}
use Rattle.sve_ask.proofs.held.is_serving.Goals as goal

pub returns-in-Some-clause-serving : goal.returns-in-Some-clause-serving
returns-in-Some-clause-serving g c = λ serve.
    let there : overlaid g.K.Key.Ord.cmp c.args.fresh.now c.args.lent.now.memos c.args.key.now ≡ Some c.in-Some.memo.now.finding = search rules in
    let serves : c.answers.result ≡ g.K.Keyed.serves c.in-Some.memo.now.finding.value c.args.fuel = search rules in
    subst (λ o. IfSome o (λ f. g.K.Keyed.serves f.value c.args.fuel ≡ true)) (sym there) (sym serves ∙ serve)

pub returns-in-Some-clause-lacking : goal.returns-in-Some-clause-lacking
returns-in-Some-clause-lacking g c = λ lack.
    let there : overlaid g.K.Key.Ord.cmp c.args.fresh.now c.args.lent.now.memos c.args.key.now ≡ Some c.in-Some.memo.now.finding = search rules in
    let serves : c.answers.result ≡ g.K.Keyed.serves c.in-Some.memo.now.finding.value c.args.fuel = search rules in
    (c.in-Some.memo.now.finding, there, sym serves ∙ lack)

pub returns-in-None-clause-serving : goal.returns-in-None-clause-serving
returns-in-None-clause-serving g c = λ serve.
    let none : overlaid g.K.Key.Ord.cmp c.args.fresh.now c.args.lent.now.memos c.args.key.now ≡ None = search rules in
    subst (λ o. IfSome o (λ f. g.K.Keyed.serves f.value c.args.fuel ≡ true)) (sym none) tt

pub returns-in-None-clause-lacking : goal.returns-in-None-clause-lacking
returns-in-None-clause-lacking g c = λ lack. absurd (not_true (sym lack))
