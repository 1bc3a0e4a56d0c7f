-- The first instance on the way is a top.
use Rattle.std.proofs.Common.{◌≡◌, ◌∷◌, None, Some, List, drop, ap, sym, ◌∙◌, subst}
use Rattle.std.specs.Prelude.{IfOk, option_map}
use Rattle.std.specs.List as list
use Rattle.sve_bytes.specs.declared.path.Step.{Step}
use Rattle.sve_spec.specs.declared.spec.Spec.{Spec}
use Rattle.sve_facts.specs.Bodies.{OfTops}
use Rattle.sve_design.proofs.Asked.{first_in, halts_at, if_err}
use Rattle.sve_design.specs.Paying.{bodies_asked}
use Rattle.sve_find.specs.Along.{Reached, along, find_asks, names_top, settle, visits}
use Rattle.sve_find.specs.Ends.{find_value}
use Rattle.sve_find.proofs.Ways.{asked_in_all, asked_one, halted_in_all, nowhere, top_way}
use Rattle.sve_find.proofs.finding.find.Goals as goal

pub returns-in-None-clause-find : goal.returns-in-None-clause-find
returns-in-None-clause-find g c = λ design of.
    let steps = c.args.path.now.steps in
    let tops : c.items.result.now ≡ design.tops = c.items.ensures ∙ of OfTops _ c.in_ok-tops.ensures.found in
    let found : None ≡ list.find (names_top c.items-steps.result.now) c.items.result.now = subst (λ o. option_map (λ r. r.now) o ≡ list.find (names_top c.items-steps.result.now) c.items.result.now) c.in-None.is c.top_of.ensures in
    let none : None ≡ list.find (names_top steps) design.tops = found ∙ ap (list.find (names_top c.items-steps.result.now)) tops ∙ ap (λ (s : List Step). list.find (names_top s) design.tops) c.items-steps.ensures in
    (nowhere design c.args.budget c.args.path.now none).0

pub returns-in-None-clause-asked : goal.returns-in-None-clause-asked
returns-in-None-clause-asked g c = λ design of.
    let steps = c.args.path.now.steps in
    let tops : c.items.result.now ≡ design.tops = c.items.ensures ∙ of OfTops _ c.in_ok-tops.ensures.found in
    let found : None ≡ list.find (names_top c.items-steps.result.now) c.items.result.now = subst (λ o. option_map (λ r. r.now) o ≡ list.find (names_top c.items-steps.result.now) c.items.result.now) c.in-None.is c.top_of.ensures in
    let none : None ≡ list.find (names_top steps) design.tops = found ∙ ap (list.find (names_top c.items-steps.result.now)) tops ∙ ap (λ (s : List Step). list.find (names_top s) design.tops) c.items-steps.ensures in
    asked_one _ OfTops _ _ (sym (nowhere design c.args.budget c.args.path.now none).1) c.in_ok-tops.ensures.asked

pub returns-in_err-tops-clause-halted : goal.returns-in_err-tops-clause-halted
returns-in_err-tops-clause-halted g c = λ design of.
    if_err _ (halts_at (g.B.Bodies.tells c.args.bodies.now) (find_asks design c.args.budget c.args.path.now) _ _ OfTops (first_in OfTops (bodies_asked design c.args.budget (visits (along design c.args.path.now)))) c.in_err-tops.ensures.halted)

pub returns-clause-find : goal.returns-clause-find
returns-clause-find g c = λ design of.
    let steps = c.args.path.now.steps in
    let tops : c.items.result.now ≡ design.tops = c.items.ensures ∙ of OfTops _ c.in_ok-tops.ensures.found in
    let top : Spec = c.in-Some.top.now in
    let found : Some top ≡ list.find (names_top c.items-steps.result.now) c.items.result.now = subst (λ o. option_map (λ r. r.now) o ≡ list.find (names_top c.items-steps.result.now) c.items.result.now) c.in-Some.is c.top_of.ensures in
    let named : Some top ≡ list.find (names_top steps) design.tops = found ∙ ap (list.find (names_top c.items-steps.result.now)) tops ∙ ap (λ (s : List Step). list.find (names_top s) design.tops) c.items-steps.ensures in
    let whole = top_way design c.args.path.now c.in_ok-first-in-Some.first top c.behind-rest.result.now named c.in_ok-first-in-Some.ensures (c.behind-rest.ensures ∙ ap (λ (s : List Step). drop 1 s) c.items-steps.ensures) in
    subst (λ (w : List Reached). IfOk c.follow.result (λ found. find_value found ≡ settle design c.args.budget w)) whole (c.follow.ensures.settled design (λ q a h. of q a ((c.in_ok-tops.ensures.tells q a).1 h)))

pub returns-clause-asked : goal.returns-clause-asked
returns-clause-asked g c = λ design of.
    let steps = c.args.path.now.steps in
    let tops : c.items.result.now ≡ design.tops = c.items.ensures ∙ of OfTops _ c.in_ok-tops.ensures.found in
    let top : Spec = c.in-Some.top.now in
    let found : Some top ≡ list.find (names_top c.items-steps.result.now) c.items.result.now = subst (λ o. option_map (λ r. r.now) o ≡ list.find (names_top c.items-steps.result.now) c.items.result.now) c.in-Some.is c.top_of.ensures in
    let named : Some top ≡ list.find (names_top steps) design.tops = found ∙ ap (list.find (names_top c.items-steps.result.now)) tops ∙ ap (λ (s : List Step). list.find (names_top s) design.tops) c.items-steps.ensures in
    let whole = top_way design c.args.path.now c.in_ok-first-in-Some.first top c.behind-rest.result.now named c.in_ok-first-in-Some.ensures (c.behind-rest.ensures ∙ ap (λ (s : List Step). drop 1 s) c.items-steps.ensures) in
    asked_in_all c.follow.result OfTops _ _ _ _ _ (ap (λ (w : List Reached). OfTops ∷ bodies_asked design c.args.budget (visits w)) (sym whole)) c.in_ok-tops.ensures.asked (c.follow.ensures.asked design (λ q a h. of q a ((c.in_ok-tops.ensures.tells q a).1 h)))

pub returns-clause-halted : goal.returns-clause-halted
returns-clause-halted g c = λ design of.
    let steps = c.args.path.now.steps in
    let tops : c.items.result.now ≡ design.tops = c.items.ensures ∙ of OfTops _ c.in_ok-tops.ensures.found in
    let top : Spec = c.in-Some.top.now in
    let found : Some top ≡ list.find (names_top c.items-steps.result.now) c.items.result.now = subst (λ o. option_map (λ r. r.now) o ≡ list.find (names_top c.items-steps.result.now) c.items.result.now) c.in-Some.is c.top_of.ensures in
    let named : Some top ≡ list.find (names_top steps) design.tops = found ∙ ap (list.find (names_top c.items-steps.result.now)) tops ∙ ap (λ (s : List Step). list.find (names_top s) design.tops) c.items-steps.ensures in
    let whole = top_way design c.args.path.now c.in_ok-first-in-Some.first top c.behind-rest.result.now named c.in_ok-first-in-Some.ensures (c.behind-rest.ensures ∙ ap (λ (s : List Step). drop 1 s) c.items-steps.ensures) in
    halted_in_all c.follow.result (g.B.Bodies.tells c.args.bodies.now) _ OfTops _ _ _ _ _ (ap (λ (w : List Reached). OfTops ∷ bodies_asked design c.args.budget (visits w)) (sym whole)) c.in_ok-tops.ensures.tells c.in_ok-tops.ensures.not_halted (c.follow.ensures.halted design (λ q a h. of q a ((c.in_ok-tops.ensures.tells q a).1 h)))
