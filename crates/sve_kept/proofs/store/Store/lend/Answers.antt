use Rattle.std.proofs.Common.{sym, subst}
use Rattle.sve_ask.specs.Sound.{Defined, AllSound}
use Rattle.sve_kept.specs.Kept.{StoreValue, GoesOn}
use Rattle.sve_kept.proofs.Longer.{all_longer}
use Rattle.sve_kept.proofs.store.Store.lend.Given as given
use Rattle.sve_kept.proofs.store.Store.lend.Goals as goal

abbrev D : (g : given.Over) → Defined g.row.K-Key.Denot g.row.K-Value.Denot
D g = record { cmp = g.K.Key.Ord.cmp; given = g.K.Keyed.given; make = g.K.Kinds.make; ranked = g.K.Keyed.ranked; serves = g.K.Keyed.serves }

pub of-requires : goal.of-requires
of-requires g c =
    let s = c.self.inside in
    let goes = subst (λ (v : StoreValue g.row.K-Key.Denot g.row.K-Value.Denot). GoesOn v.history c.args.snapshot.history) (sym c.self.view_is) c.requires.history in
    let sound = subst (AllSound (D g) c.args.snapshot.history) (sym c.in_ok-memos.ensures) (all_longer (D g) s.past.value c.args.snapshot.history goes s.memos c.self.invariant) in
    record { sound = ∣ sound ∣₁ }
