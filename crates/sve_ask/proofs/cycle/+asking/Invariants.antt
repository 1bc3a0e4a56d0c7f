-- A key is above its verifying and its tries, which are above the keys that they bring.
use Rattle.std.proofs.Common.{◌≡◌, ℕ, ◌+◌, ◌*◌, ◌≤◌, List, take, length}
use Rattle.sve_text.specs.Files.{FilesValue}
use Rattle.sve_store.specs.Made.{value_in, values_of, untold, IsOneOf}
use Rattle.sve_store.specs.Values.{OnTheWay}
use Rattle.sve_ask.specs.Sound.{Defined, SameAt, AllSound, IsFree, files_of}
use Rattle.sve_ask.specs.Current.{found_in, overlaid, IsCurrent, IsStill}
use Rattle.sve_ask.specs.Watched.{GaveMore}
use Rattle.sve_ask.specs.Gains.{InReachOfReads, InReachBelow, Reads, AllCurrent, InPhase, IsSettled, Gains}
use Rattle.sve_ask.proofs.Alike.{keys_of}
use Rattle.sve_ask.proofs.cycle.+asking.Given as goal

abbrev pub decreases-bring : goal.decreases-bring
decreases-bring g l = 4 * g.K.Ending.height (files_of l.lent.now.snapshot.history l.lent.now.snapshot.revision) l.key.now + 3

abbrev pub decreases-renew : goal.decreases-renew
decreases-renew g l = 4 * g.K.Ending.height (files_of l.lent.now.snapshot.history l.lent.now.snapshot.revision) l.key.now + 2

abbrev pub decreases-anew : goal.decreases-anew
decreases-anew g l = 4 * g.K.Ending.height (files_of l.lent.now.snapshot.history l.lent.now.snapshot.revision) l.key.now

abbrev pub decreases-verify : goal.decreases-verify
decreases-verify g l = 4 * g.K.Ending.height (files_of l.lent.now.snapshot.history l.lent.now.snapshot.revision) l.memo.now.finding.key + 1

abbrev pub decreases-agrees : goal.decreases-agrees
decreases-agrees g l = 4 * g.K.Ending.height (files_of l.lent.now.snapshot.history l.lent.now.snapshot.revision) l.memo.now.finding.key

abbrev pub invariant-anew-tries : goal.invariant-anew-tries
invariant-anew-tries g l =
    let D : Defined g.row.K-Key.Denot g.row.K-Value.Denot = record { cmp = g.K.Key.Ord.cmp; given = g.K.Keyed.given; make = g.K.Kinds.make; ranked = g.K.Keyed.ranked; serves = g.K.Keyed.serves } in
    let h = l.lent.snapshot.history in
    let r = l.lent.snapshot.revision in
    let files = l.lent.snapshot.files in
    record {
      fits : (all : FilesValue) → g.K.Keyed.fits l.kinds all ≡ g.K.Keyed.fits l.initial.kinds all;
      fresh : AllSound D h l.fresh;
      watched : GaveMore (g.W.Watch.gave l.initial.watch) (g.W.Watch.gave l.watch);
      way : ∥ OnTheWay g.K.Key.Ord.cmp (values_of (g.K.Keyed.given (files_of h r))) g.K.Kinds.make l.key l.fuel l.noted ∥₁;
      each : (j : g.row.K-Key.Denot) (t : ℕ) → IsOneOf l.reads.items (j, t) → (t ≤ r) × IsOneOf (keys_of l.noted) j × IsFree D h j × SameAt D h t r j;
      cover : (j : g.row.K-Key.Denot) → IsOneOf (keys_of l.noted) j → (t : ℕ) × IsOneOf l.reads.items (j, t);
      read : (j : g.row.K-Key.Denot) (t : ℕ) → IsOneOf l.reads.items (j, t) → Reads D files l.key l.fuel j;
      gains : IsSettled D files r l.initial.fresh → (made : List g.row.K-Key.Denot)
          × Gains D files (g.K.Ending.height (files_of h r)) l.lent.memos r (g.K.Ending.height (files_of h r) l.key) 0 (InReachBelow D files (overlaid g.K.Key.Ord.cmp l.initial.fresh l.lent.memos) l.key l.fuel) l.initial.fresh l.fresh made
          × (g.K.Keyed.counted l.kinds ≤ g.K.Keyed.counted l.initial.kinds + length made) × AllCurrent D files (found_in g.K.Key.Ord.cmp l.fresh) (λ j. Unit {0}) l.reads.items;
    }

abbrev pub decreases-anew-tries : goal.decreases-anew-tries
decreases-anew-tries g l = untold (value_in g.K.Key.Ord.cmp l.noted) (g.K.Ending.reads (files_of l.lent.snapshot.history l.lent.snapshot.revision) l.key l.fuel)

abbrev pub invariant-agrees-looks : goal.invariant-agrees-looks
invariant-agrees-looks g l =
    let D : Defined g.row.K-Key.Denot g.row.K-Value.Denot = record { cmp = g.K.Key.Ord.cmp; given = g.K.Keyed.given; make = g.K.Kinds.make; ranked = g.K.Keyed.ranked; serves = g.K.Keyed.serves } in
    let h = l.lent.snapshot.history in
    let r = l.lent.snapshot.revision in
    let files = l.lent.snapshot.files in
    let before = overlaid g.K.Key.Ord.cmp l.initial.fresh l.lent.memos in
    let own = g.K.Keyed.ranked l.memo.finding.key in
    record {
      fits : (all : FilesValue) → g.K.Keyed.fits l.kinds all ≡ g.K.Keyed.fits l.initial.kinds all;
      fresh : AllSound D h l.fresh;
      watched : GaveMore (g.W.Watch.gave l.initial.watch) (g.W.Watch.gave l.watch);
      same : (j : g.row.K-Key.Denot) (t : ℕ) → IsOneOf (take l.read-index l.reads) (j, t) → InPhase l.own (g.K.Keyed.ranked j) own → SameAt D h t r j;
      still : ((j : g.row.K-Key.Denot) (t : ℕ) → IsOneOf l.memo.finding.reads (j, t) → IsCurrent (g.K.Keyed.given files) before j t) → IsStill (g.K.Keyed.counted l.initial.kinds) (g.K.Keyed.counted l.kinds) before (overlaid g.K.Key.Ord.cmp l.fresh l.lent.memos);
      gains : IsSettled D files r l.initial.fresh → (made : List g.row.K-Key.Denot)
          × Gains D files (g.K.Ending.height (files_of h r)) l.lent.memos r (g.K.Ending.height (files_of h r) l.memo.finding.key) 0 (InReachOfReads D files before l.memo.finding.reads) l.initial.fresh l.fresh made
          × (g.K.Keyed.counted l.kinds ≤ g.K.Keyed.counted l.initial.kinds + length made) × AllCurrent D files (found_in g.K.Key.Ord.cmp l.fresh) (λ j. InPhase l.own (g.K.Keyed.ranked j) own) (take l.read-index l.reads);
    }
