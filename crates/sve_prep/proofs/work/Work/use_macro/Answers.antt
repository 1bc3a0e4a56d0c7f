use Rattle.std.proofs.Common.{sym, refl, subst, ap, ◌∙◌}
use Rattle.sve_prep.specs.declared.uses.Use.{Use}
use Rattle.sve_prep.specs.Uses.{Goes, Ends}
use Rattle.sve_prep.specs.Reading.{next_of, MayGive}
use Rattle.sve_prep.specs.View.{view}
use Rattle.sve_prep.proofs.Cases.{may_read, reads}
use Rattle.sve_prep.proofs.work.Work.use_macro.Goals as goal

pub returns-in_ok-refuse-in-Refused : goal.returns-in_ok-refuse-in-Refused
returns-in_ok-refuse-in-Refused c = λ asked.
    c.in_ok-code.ensures.comes.next asked
    ∙ ap (λ (u : Use). next_of u c.args.name (view c.args.self.now asked)) c.in-Refused.is
    ∙ ap Goes (sym (c.in_ok-refuse-in-Refused.ensures asked))

pub returns-in_ok-place_result-in-Gives : goal.returns-in_ok-place_result-in-Gives
returns-in_ok-place_result-in-Gives c = λ asked.
    let u = subst (λ (u : Use). MayGive u c.args.self.now) c.in-Gives.is c.in_ok-code.ensures.comes.may in
    c.in_ok-code.ensures.comes.next asked
    ∙ ap (λ (u : Use). next_of u c.args.name (view c.args.self.now asked)) c.in-Gives.is
    ∙ reads c.args.name c.in-Gives.end c.in-Gives.text (view c.args.self.now asked) (may_read c.in-Gives.text (view c.args.self.now asked) u.1) refl
    ∙ ap Goes (sym (c.in_ok-place_result-in-Gives.ensures asked))

pub returns-in_ok-give_up-in-PassesLimit : goal.returns-in_ok-give_up-in-PassesLimit
returns-in_ok-give_up-in-PassesLimit c = λ asked.
    c.in_ok-code.ensures.comes.next asked
    ∙ ap (λ (u : Use). next_of u c.args.name (view c.args.self.now asked)) c.in-PassesLimit.is
    ∙ ap Ends (sym (c.in_ok-give_up-in-PassesLimit.ensures asked))
