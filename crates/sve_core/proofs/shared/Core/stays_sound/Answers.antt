use Rattle.std.proofs.Common.{List, subst}
use Rattle.sve_history.specs.Histories.{HistoryValue}
use Rattle.sve_memo.specs.Memos.{MemoValue, IsInOrder}
use Rattle.sve_ask.specs.Sound.{Defined, AllSound}
use Rattle.sve_core.specs.Commits.{CoreValue}
use Rattle.sve_core.proofs.shared.Core.stays_sound.Given as given
use Rattle.sve_core.proofs.shared.Core.stays_sound.Goals as goal

abbrev D : (g : given.Over) → Defined g.row.K-Key.Denot g.row.K-Value.Denot
D g = record { cmp = g.K.Key.Ord.cmp; given = g.K.Keyed.given; make = g.K.Kinds.make; ranked = g.K.Keyed.ranked; serves = g.K.Keyed.serves }

-- what the store says of its history and its memos, in the words of the core
pub returns-clause-sound : goal.returns-clause-sound
returns-clause-sound g c =
    let s = c.self.inside in
    subst (λ (v : CoreValue g.row.K-Key.Denot g.row.K-Value.Denot). AllSound (D g) v.history v.memos) c.self.view_is (subst (λ (h : HistoryValue). AllSound (D g) h s.store.memos) c.self.invariant c.stays_sound.ensures)

pub returns-clause-order : goal.returns-clause-order
returns-clause-order g c =
    let s = c.self.inside in
    subst (λ (v : CoreValue g.row.K-Key.Denot g.row.K-Value.Denot). IsInOrder g.K.Key.Ord.cmp v.memos) c.self.view_is (subst (λ (l : List (MemoValue g.row.K-Key.Denot g.row.K-Value.Denot)). IsInOrder g.K.Key.Ord.cmp l) c.memos.ensures c.stay_in_order.ensures)
