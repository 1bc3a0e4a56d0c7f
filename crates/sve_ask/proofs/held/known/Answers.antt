use Rattle.std.proofs.Common.{◌≡◌, ◌∙◌, sym, subst}
use Rattle.std.specs.Prelude.{MatchOption}
use Rattle.sve_store.specs.Made.{IsOneOf}
use Rattle.sve_ask.proofs.held.known.Goals as goal

pub returns-else-verified-revision-clause-none : goal.returns-else-verified-revision-clause-none
returns-else-verified-revision-clause-none g c = λ all.
    let e = subst (λ o. MatchOption o (Unit {0}) (λ m. (m.finding.key ≡ c.args.key.now) × IsOneOf c.args.fresh.now m)) c.in-Some.is c.in_ok-memo.ensures.held in
    absurd (c.if-verified-revision.false (c.verified.ensures ∙ all c.in-Some.memo e.1 ∙ sym c.revision.ensures))
