use Rattle.std.proofs.Common.{List, ℕ, sym, ap, ◌∙◌, refl}
use Rattle.sve_directive.specs.declared.directive.Directive.{Directive}
use Rattle.sve_prep.specs.Includes.{include}
use Rattle.sve_prep.specs.Step.{step_head}
use Rattle.sve_prep.specs.View.{view}
use Rattle.sve_prep.proofs.Loops.{asks_nothing, halts_as, none_some}
use Rattle.sve_prep.proofs.advance.step_head.Goals as goal

pub returns-in-Include-clause-halted : goal.returns-in-Include-clause-halted
returns-in-Include-clause-halted g c =
    let s = view c.args.work.now (g.T.Texts.asked c.args.texts.now) in
    halts_as (g.T.Texts.tells c.args.texts.now) _ _ _ _ (λ told. step_head told c.args.directive c.args.count s) (λ told. include told c.items.result.now c.args.count s)
    (λ told. ap (λ (d : Directive). step_head told d c.args.count s) c.in-Include.is ∙ ap (λ (f : List ℕ). include told f c.args.count s) (sym c.items.ensures)) c.include.ensures.halted

pub returns-in_ok-follow-in-Local : goal.returns-in_ok-follow-in-Local
returns-in_ok-follow-in-Local g c =
    let asked = g.T.Texts.asked c.args.texts.now in
    let s = view c.args.work.now asked in
    record {
      tells = λ name text. (λ t. t, λ t. t);
      keeps = g.met.T.Texts.keeps_itself _;
      step = asks_nothing _ _ _ (λ told. ap (λ (d : Directive). step_head told d c.args.count s) c.in-Local.is ∙ c.in_ok-follow-in-Local.ensures asked);
      not_halted = refl;
      halted = λ told m not_halted name e. absurd (none_some _ name not_halted e);
      stopped = tt;
      not_stopped = refl;
    }
