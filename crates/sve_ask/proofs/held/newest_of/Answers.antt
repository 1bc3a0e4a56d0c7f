use Rattle.std.proofs.Common.{◌≡◌, Some, None, sym, ap, ◌∙◌}
use Rattle.std.specs.Prelude.{option_map}
use Rattle.sve_ask.specs.Current.{first_of, found_in}
use Rattle.sve_ask.proofs.Stays.{mapped_twice, over_fresh}
use Rattle.sve_ask.proofs.held.newest_of.Goals as goal

pub returns-in-Some : goal.returns-in-Some
returns-in-Some g c =
    let there : found_in g.K.Key.Ord.cmp c.args.fresh.now c.args.key.now ≡ Some c.in-Some.memo.now.finding = ap (option_map (λ memo. memo.finding)) (sym c.find.ensures ∙ ap (option_map (λ memo. memo.now)) c.in-Some.is) in
    sym (over_fresh (found_in g.K.Key.Ord.cmp c.args.fresh.now c.args.key.now) (found_in g.K.Key.Ord.cmp c.args.lent.now.memos c.args.key.now) c.in-Some.memo.now.finding there)

pub returns-in-None : goal.returns-in-None
returns-in-None g c =
    let none : found_in g.K.Key.Ord.cmp c.args.fresh.now c.args.key.now ≡ None = ap (option_map (λ memo. memo.finding)) (sym c.find.ensures ∙ ap (option_map (λ memo. memo.now)) c.in-None.is) in
    let there : option_map (λ memo. memo.now.finding) c.find-in-None.result ≡ found_in g.K.Key.Ord.cmp c.args.lent.now.memos c.args.key.now = mapped_twice (λ memo. memo.now) (λ memo. memo.finding) c.find-in-None.result ∙ ap (option_map (λ memo. memo.finding)) c.find-in-None.ensures in
    there ∙ ap (λ o. first_of o (found_in g.K.Key.Ord.cmp c.args.lent.now.memos c.args.key.now)) (sym none)
