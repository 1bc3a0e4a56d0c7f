use Rattle.std.proofs.Common.{None, Some, sym, ap, ◌∙◌, subst}
use Rattle.std.specs.Result.{is_err}
use Rattle.std.proofs.lemmas.Result.{err_from_is_err_and}
use Rattle.sve_prep.specs.Told.{text_in}
use Rattle.sve_prep.specs.Uses.{Goes}
use Rattle.sve_prep.specs.View.{view}
use Rattle.sve_prep.proofs.Cases.{include_far, include_unnamed}
use Rattle.sve_prep.proofs.Loops.{asks_nothing, after_missing, include_missing, include_found_steps}
use Rattle.sve_prep.proofs.include.include.Goals as goal

pub returns-then-is_too_far-clause-step : goal.returns-then-is_too_far-clause-step
returns-then-is_too_far-clause-step g c =
    let asked = g.T.Texts.asked c.args.texts.now in
    let s = view c.args.work.now asked in
    asks_nothing _ _ _ (λ told. include_far told c.args.file.now c.args.count s c.is_too_far.ensures c.if-is_too_far.true c.in_ok-arg.ensures ∙ ap Goes (sym (c.in_ok-refuse.ensures asked)))

pub returns-then-not-is_file_name-clause-step : goal.returns-then-not-is_file_name-clause-step
returns-then-not-is_file_name-clause-step g c =
    let asked = g.T.Texts.asked c.args.texts.now in
    let s = view c.args.work.now asked in
    asks_nothing _ _ _ (λ told. include_unnamed told c.args.file.now c.args.count s c.is_too_far.ensures c.if-is_too_far.false c.is_file_name.ensures c.if-not-is_file_name.true c.in_ok-arg-2.ensures ∙ ap Goes (sym (c.in_ok-refuse-2.ensures asked)))

pub returns-in_err-text-clause-halted : goal.returns-in_err-text-clause-halted
returns-in_err-text-clause-halted g c = λ told m not_halted name e.
    let s = view c.args.work.now (g.T.Texts.asked c.args.texts.now) in
    let r = err_from_is_err_and c.from_residual-in_err-text.result c.from_residual-in_err-text.ensures.1 in
    after_missing _ _ name (λ k. c.in_err-text.ensures.halted name k) not_halted e
    (λ a. (ap is_err r.1, include_missing told (g.T.Texts.tells c.args.texts.now) c.args.file.now _ name c.args.count s _ c.is_too_far.ensures c.if-is_too_far.false c.is_file_name.ensures c.if-not-is_file_name.false m c.in_ok-name.ensures a.1 a.2 a.3))

pub returns-in_ok-refuse-in-None-clause-step : goal.returns-in_ok-refuse-in-None-clause-step
returns-in_ok-refuse-in-None-clause-step g c =
    let asked = g.T.Texts.asked c.text.new.self in
    let s = view c.args.work.now (g.T.Texts.asked c.args.texts.now) in
    include_found_steps (g.T.Texts.tells c.args.texts.now) c.args.file.now c.in_ok-name.name c.args.count s None _ asked c.is_too_far.ensures c.if-is_too_far.false c.is_file_name.ensures c.if-not-is_file_name.false c.in_ok-name.ensures
    (subst (λ t. g.T.Texts.tells c.args.texts.now c.in_ok-name.name (text_in t)) c.in-None.is c.in_ok-text.ensures.found) c.in_ok-text.ensures.asked
    (ap Goes (sym (c.in_ok-refuse-in-None.ensures asked)))

pub returns-in_ok-include_text-in-Some-clause-step : goal.returns-in_ok-include_text-in-Some-clause-step
returns-in_ok-include_text-in-Some-clause-step g c =
    let asked = g.T.Texts.asked c.text.new.self in
    let s = view c.args.work.now (g.T.Texts.asked c.args.texts.now) in
    include_found_steps (g.T.Texts.tells c.args.texts.now) c.args.file.now c.in_ok-name.name c.args.count s (Some c.in-Some.text.value) _ asked c.is_too_far.ensures c.if-is_too_far.false c.is_file_name.ensures c.if-not-is_file_name.false c.in_ok-name.ensures
    (subst (λ t. g.T.Texts.tells c.args.texts.now c.in_ok-name.name (text_in t)) c.in-Some.is c.in_ok-text.ensures.found) c.in_ok-text.ensures.asked
    (c.in_ok-include_text-in-Some.ensures asked)
