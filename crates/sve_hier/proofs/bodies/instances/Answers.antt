use Rattle.std.proofs.Common.{◌≡◌, ◌∙◌, Some, None, [], ◌∷◌, map, cond, subst, ap, arith}
use Rattle.std.specs.Prelude.{option_map}
use Rattle.sve_facts.specs.Bodies.{OfBody}
use Rattle.sve_design.proofs.Asked.{halts_in, if_err}
use Rattle.sve_hier.specs.Instances.{asked_within, fits, instance_of, instance_value}
use Rattle.sve_hier.proofs.Within.{all_asked, all_made, asked_last, asked_more, asks, fit_more, fits_so, made_more, none_made, only_this, over_so}
use Rattle.sve_hier.proofs.bodies.instances.Goals as goal

pub visits-preserved : goal.visits-preserved
visits-preserved g c = record {
  tells = λ q a. (λ h. (c.in_ok-instance.ensures.tells q a).0 ((c.visits.invariant.tells q a).0 h), λ h. (c.visits.invariant.tells q a).1 ((c.in_ok-instance.ensures.tells q a).1 h));
  keeps = g.met.B.Bodies.keeps_on _ _ _ c.visits.invariant.keeps c.in_ok-instance.ensures.keeps;
  not_halted = c.in_ok-instance.ensures.not_halted ∙ c.visits.invariant.not_halted;
  not_stopped = c.in_ok-instance.ensures.not_stopped ∙ c.visits.invariant.not_stopped;
  fit = λ design of.
      let v = c.visit-item.result in
      let e = subst (λ o. option_map instance_value o ≡ cond (fits design c.args.fuel v) (Some (instance_of design v)) None) c.in-Some.is (c.in_ok-instance.ensures.instance design (λ q a h. of q a ((c.visits.invariant.tells q a).1 h))) in
      let s = fits_so design c.args.fuel v _ _ e in
      fit_more design c.args.fuel c.args.visits.now c.visits.visit-index v (omega arith) c.visit-item.is s.0 (c.visits.invariant.fit design of);
  made = λ design of.
      let v = c.visit-item.result in
      let e = subst (λ o. option_map instance_value o ≡ cond (fits design c.args.fuel v) (Some (instance_of design v)) None) c.in-Some.is (c.in_ok-instance.ensures.instance design (λ q a h. of q a ((c.visits.invariant.tells q a).1 h))) in
      let s = fits_so design c.args.fuel v _ _ e in
      made_more design c.args.fuel c.args.visits.now c.visits.visit-index v (omega arith) c.visit-item.is c.visits.instances.items c.push.new.self.items c.in-Some.instance c.in_ok-push-in-Some.ensures.items s.1 (c.visits.invariant.made design of);
  asked = λ design of. asked_more design c.args.fuel c.args.visits.now c.visits.visit-index c.visit-item.result (omega arith) c.visit-item.is _ _ _ (c.visits.invariant.fit design of) (c.visits.invariant.asked design of) c.in_ok-instance.ensures.asked;
}

pub returns-in_err-instance-clause-halted : goal.returns-in_err-instance-clause-halted
returns-in_err-instance-clause-halted g c = λ design of.
    let v = c.visit-item.result in
    let all = asked_within design c.args.fuel c.args.visits.now in
    if_err _ (halts_in (g.B.Bodies.tells c.args.bodies.now) _ all (OfBody v.spec c.args.fuel ∷ []) _ _ _ c.visits.invariant.tells c.visits.invariant.not_halted
    (only_this all (OfBody v.spec c.args.fuel) (asks design c.args.fuel c.args.visits.now c.visits.visit-index v (omega arith) c.visit-item.is (c.visits.invariant.fit design of)))
    c.in_err-instance.ensures.halted)

pub returns-in-None-clause-instances : goal.returns-in-None-clause-instances
returns-in-None-clause-instances g c = λ design of.
    let v = c.visit-item.result in
    let e = subst (λ o. option_map instance_value o ≡ cond (fits design c.args.fuel v) (Some (instance_of design v)) None) c.in-None.is (c.in_ok-instance.ensures.instance design (λ q a h. of q a ((c.visits.invariant.tells q a).1 h))) in
    none_made design c.args.fuel c.args.visits.now c.visits.visit-index v (omega arith) c.visit-item.is (over_so design c.args.fuel v _ e) (c.visits.invariant.fit design of)

pub returns-in-None-clause-asked : goal.returns-in-None-clause-asked
returns-in-None-clause-asked g c = λ design of.
    let v = c.visit-item.result in
    let e = subst (λ o. option_map instance_value o ≡ cond (fits design c.args.fuel v) (Some (instance_of design v)) None) c.in-None.is (c.in_ok-instance.ensures.instance design (λ q a h. of q a ((c.visits.invariant.tells q a).1 h))) in
    asked_last design c.args.fuel c.args.visits.now c.visits.visit-index v (omega arith) c.visit-item.is _ _ _ (over_so design c.args.fuel v _ e) (c.visits.invariant.fit design of) (c.visits.invariant.asked design of) c.in_ok-instance.ensures.asked

pub returns-clause-instances : goal.returns-clause-instances
returns-clause-instances g c = λ design of.
    ap (λ is. Some (map instance_value is)) c.of.ensures ∙ all_made design c.args.fuel c.args.visits.now c.visits.visit-index c.visits.instances.items (omega arith) (c.visits.invariant.fit design of) (c.visits.invariant.made design of)

pub returns-clause-asked : goal.returns-clause-asked
returns-clause-asked g c = λ design of. all_asked design c.args.fuel c.args.visits.now c.visits.visit-index _ _ (omega arith) (c.visits.invariant.asked design of)
