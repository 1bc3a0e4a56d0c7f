use Rattle.std.proofs.Common.{rules, ◌≡◌, Some, refl}
use Rattle.sve_memo.specs.Memos.{memo_in}
use Rattle.sve_ask.proofs.Puts.{found_held}
use Rattle.sve_ask.proofs.held.shared.Goals as goal

pub returns-in_ok-share-in-Some-clause-held : goal.returns-in_ok-share-in-Some-clause-held
returns-in_ok-share-in-Some-clause-held g c =
    let is : memo_in g.K.Key.Ord.cmp c.args.memos.now c.args.key.now ≡ Some c.in_ok-share-in-Some.field-0 = search rules in
    found_held g.K.Key.Ord.cmp (λ a b same. (g.met.K.Keyed.one_key a b).0 same) (λ k. (g.met.K.Keyed.one_key k k).1 refl) c.args.memos.now c.args.key.now c.in_ok-share-in-Some.field-0 is
