use Rattle.std.proofs.Common.{◌≡◌, refl, sym, subst}
use Rattle.std.specs.declared.cmp.Ordering.TheVariants.{Equal}
use Rattle.sve_ask.specs.Sound.{Defined, AllSound}
use Rattle.sve_kept.specs.Kept.{StoreValue, GoesOn, AreJoined}
use Rattle.sve_kept.proofs.Longer.{all_longer, each_sound}
use Rattle.sve_kept.proofs.Joining.{joins, joined_sound}
use Rattle.sve_kept.proofs.store.Store.join.Given as given
use Rattle.sve_kept.proofs.store.Store.join.Goals as goal

abbrev D : (g : given.Over) → Defined g.row.K-Key.Denot g.row.K-Value.Denot
D g = record { cmp = g.K.Key.Ord.cmp; given = g.K.Keyed.given; make = g.K.Kinds.make; ranked = g.K.Keyed.ranked; serves = g.K.Keyed.serves }

exact : (g : given.Over) (a b : g.row.K-Key.Denot) → g.K.Key.Ord.cmp a b ≡ Equal → a ≡ b
exact g a b is = (g.met.K.Keyed.one_key a b).0 is

equal : (g : given.Over) (k : g.row.K-Key.Denot) → g.K.Key.Ord.cmp k k ≡ Equal
equal g k = (g.met.K.Keyed.one_key k k).1 refl

pub invariant_of-self : goal.invariant_of-self
invariant_of-self g c =
    let s = c.self.inside in
    let old = c.requires.sound in
    let fresh = c.args.fresh.now in
    let goes = subst (λ (v : StoreValue g.row.K-Key.Denot g.row.K-Value.Denot). GoesOn old.0 v.history) (sym c.self.view_is) old.1 in
    let new = all_longer (D g) old.0 s.past.value goes fresh (each_sound (D g) old.0 fresh old.2) in
    subst (AllSound (D g) s.past.value) (sym c.in_ok-memos.ensures) (joined_sound (D g) s.past.value fresh s.memos c.self.invariant new)

pub returns-clause-joined : goal.returns-clause-joined
returns-clause-joined g c =
    let s = c.self.inside in
    let cmp = g.K.Key.Ord.cmp in
    let fresh = c.args.fresh.now in
    subst (λ (v : StoreValue g.row.K-Key.Denot g.row.K-Value.Denot). AreJoined cmp fresh v.memos c.in_ok-memos.memos) c.self.view_is
    (subst (AreJoined cmp fresh s.memos) (sym c.in_ok-memos.ensures) (joins cmp (exact g) (equal g) fresh s.memos c.requires.order))
