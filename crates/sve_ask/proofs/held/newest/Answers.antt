use Rattle.std.proofs.Common.{◌≡◌, inl, inr, sym, ap, ◌∙◌, subst}
use Rattle.std.specs.Prelude.{MatchOption}
use Rattle.sve_store.specs.Made.{IsOneOf}
use Rattle.sve_ask.specs.Current.{first_of, found_in}
use Rattle.sve_ask.proofs.Stays.{over_fresh, found_is, found_none}
use Rattle.sve_ask.proofs.Asking.{held_map, ok_shared}
use Rattle.sve_ask.proofs.held.newest.Goals as goal

pub returns-in-Some-clause-found : goal.returns-in-Some-clause-found
returns-in-Some-clause-found g c =
    sym (over_fresh (found_in g.K.Key.Ord.cmp c.args.fresh.now c.args.key.now) (found_in g.K.Key.Ord.cmp c.args.lent.now.memos c.args.key.now) c.in-Some.memo.finding (found_is c.in_ok-memo.field-0 _ c.in_ok-memo.ensures.found c.in-Some.memo c.in-Some.is))

pub returns-in-Some-clause-held : goal.returns-in-Some-clause-held
returns-in-Some-clause-held g c =
    let e = subst (λ o. MatchOption o (Unit {0}) (λ m. (m.finding.key ≡ c.args.key.now) × IsOneOf c.args.fresh.now m)) c.in-Some.is c.in_ok-memo.ensures.held in
    (e.0, inl e.1)

pub returns-in-None-clause-found : goal.returns-in-None-clause-found
returns-in-None-clause-found g c =
    let none = found_none c.in_ok-memo.field-0 _ c.in_ok-memo.ensures.found c.in-None.is in
    ok_shared c.shared-in-None.result _ _ c.shared-in-None.ensures.found (λ o is. is ∙ ap (λ o. first_of o (found_in g.K.Key.Ord.cmp c.args.lent.now.memos c.args.key.now)) (sym none))

pub returns-in-None-clause-held : goal.returns-in-None-clause-held
returns-in-None-clause-held g c =
    ok_shared c.shared-in-None.result _ _ c.shared-in-None.ensures.held (λ o is. held_map o _ _ is (λ m e. (e.0, inr e.1)))
