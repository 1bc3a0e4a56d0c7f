use Rattle.std.proofs.Common.{sym, subst}
use Rattle.sve_ask.specs.Sound.{Defined}
use Rattle.sve_kept.specs.Kept.{StoreValue, GoesOn}
use Rattle.sve_kept.proofs.Longer.{all_longer}
use Rattle.sve_kept.proofs.store.Store.go_on.Given as given
use Rattle.sve_kept.proofs.store.Store.go_on.Goals as goal

abbrev D : (g : given.Over) → Defined g.row.K-Key.Denot g.row.K-Value.Denot
D g = record { cmp = g.K.Key.Ord.cmp; given = g.K.Keyed.given; make = g.K.Kinds.make; ranked = g.K.Keyed.ranked; serves = g.K.Keyed.serves }

pub invariant_of-self : goal.invariant_of-self
invariant_of-self g c =
    let s = c.self.inside in
    let goes = subst (λ (v : StoreValue g.row.K-Key.Denot g.row.K-Value.Denot). GoesOn v.history c.args.past.value) (sym c.self.view_is) c.requires.history in
    all_longer (D g) s.past.value c.args.past.value goes s.memos c.self.invariant
