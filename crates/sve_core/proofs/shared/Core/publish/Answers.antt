use Rattle.std.proofs.Common.{◌≡◌, List, sym, ap, ◌∙◌, subst}
use Rattle.std.specs.Prelude.{OnOk}
use mathlib.Core.Logic.{∥∥₁_map}
use Rattle.sve_memo.specs.Memos.{MemoValue, IsInOrder}
use Rattle.sve_ask.specs.Sound.{Defined, AllSound}
use Rattle.sve_kept.specs.Kept.{GoesOn, AreJoined}
use Rattle.sve_core.specs.Asks.{history_at}
use Rattle.sve_core.specs.Commits.{CoreValue}
use Rattle.sve_core.proofs.Going.{goes_on_from}
use Rattle.sve_core.proofs.shared.Core.publish.Given as given
use Rattle.sve_core.proofs.shared.Core.publish.Goals as goal

abbrev D : (g : given.Over) → Defined g.row.K-Key.Denot g.row.K-Value.Denot
D g = record { cmp = g.K.Key.Ord.cmp; given = g.K.Keyed.given; make = g.K.Kinds.make; ranked = g.K.Keyed.ranked; serves = g.K.Keyed.serves }

-- what is joined is what was found, which is sound for the history at a revision, from which the store's goes on
pub join-requires : goal.join-requires
join-requires g c =
    let old = c.args.self.now in
    let base = c.args.base in
    let listed : c.deref.result.now ≡ c.args.fresh.memos = c.deref.ensures.value ∙ c.in_ok-memos.ensures.all ∙ c.memos.ensures in
    let store_is = c.self.invariant ∙ ap (λ (v : CoreValue g.row.K-Key.Denot g.row.K-Value.Denot). v.history) c.self.view_is in
    record {
      order = subst (IsInOrder g.K.Key.Ord.cmp) (sym (c.deref.ensures.value ∙ c.in_ok-memos.ensures.all)) c.list.ensures.order;
      sound = (
        history_at old.history base,
        subst (GoesOn (history_at old.history base)) (sym store_is) (goes_on_from old.history base),
        ∥∥₁_map c.requires.sound (λ all. subst (AllSound (D g) (history_at old.history base)) (sym listed) all),
      );
    }

pub returns-clause-joined : goal.returns-clause-joined
returns-clause-joined g c =
    let listed : c.deref.result.now ≡ c.args.fresh.memos = c.deref.ensures.value ∙ c.in_ok-memos.ensures.all ∙ c.memos.ensures in
    let cmp = g.K.Key.Ord.cmp in
    let after = c.join.new.self.memos in
    subst (λ (v : CoreValue g.row.K-Key.Denot g.row.K-Value.Denot). OnOk c.join.result (AreJoined cmp c.args.fresh.memos v.memos after)) c.self.view_is
    (subst (λ (l : List (MemoValue g.row.K-Key.Denot g.row.K-Value.Denot)). OnOk c.join.result (AreJoined cmp l c.self.inside.store.memos after)) listed c.join.ensures.joined)
