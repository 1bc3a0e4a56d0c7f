use Rattle.std.proofs.Common.{ℕ, List, ◌++◌, sym, ap, ◌∙◌, subst}
use Rattle.std.specs.Coded.{Coded-set, coded_ℕ}
use Rattle.std.specs.Arc.{arc_value}
use mathlib.Core.Logic.{∥∥₁_elim, ∥∥₁_map, ∥∥₁_prop}
use Rattle.sve_text.specs.Files.{FilesValue}
use Rattle.sve_history.specs.Histories.{files_at}
use Rattle.sve_store.specs.Made.{values_of}
use Rattle.sve_store.specs.Values.{IsValue}
use Rattle.sve_store.specs.Snapshots.{SnapshotValue, IsRevision}
use Rattle.sve_ask.specs.Sound.{Defined}
use Rattle.sve_ask.specs.Watched.{HasCause}
use Rattle.sve_reader.proofs.Fetched.{over_lent, fetched}
use Rattle.sve_reader.proofs.Calls.{handed, cause_since, grown, stopped_seen, went_on, ok_same}
use Rattle.sve_reader.proofs.asked.asked.Given as given
use Rattle.sve_reader.proofs.asked.asked.Goals as goal

abbrev D : (g : given.Over) → Defined g.row.K-Key.Denot g.row.K-Value.Denot
D g = record { cmp = g.K.Key.Ord.cmp; given = g.K.Keyed.given; make = g.K.Kinds.make; ranked = g.K.Keyed.ranked; serves = g.K.Keyed.serves }

pub told-requires : goal.told-requires
told-requires g c =
    let gave = g.W.Watch.gave in
    let first = c.begin.new.self in
    let guard = c.ask-came.new.watch in
    let w = c.ask-came.ensures.watch in
    let h = handed first.revision (gave first.begun.value) (gave first.watch) guard.revision (gave guard.begun.value) (gave guard.watch) w.0 (ap gave (c.begin.ensures.begun ∙ sym c.begin.ensures.watch)) w.1 in
    cause_since first.revision (gave first.watch) guard.revision (gave guard.begun.value) (gave guard.watch) w.0 h c.ask-came.result
    (subst (λ (n : ℕ). HasCause c.ask-came.result n w.0) (sym (c.begin.ensures.revision ∙ c.requires.guarded)) w.2)

pub returns-clause-settled : goal.returns-clause-settled
returns-clause-settled g c = ∥∥₁_elim c.requires.settled ∥∥₁_prop (λ s. ∥∥₁_map (c.ask-came.ensures.makes s) (λ m. m.1.settled))

pub returns-clause-guarded : goal.returns-clause-guarded
returns-clause-guarded g c =
    let gave = g.W.Watch.gave in
    let first = c.begin.new.self in
    let guard = c.ask-came.new.watch in
    let w = c.ask-came.ensures.watch in
    let h = handed first.revision (gave first.begun.value) (gave first.watch) guard.revision (gave guard.begun.value) (gave guard.watch) w.0 (ap gave (c.begin.ensures.begun ∙ sym c.begin.ensures.watch)) w.1 in
    h.revision ∙ c.begin.ensures.revision ∙ c.requires.guarded

pub returns-clause-gave : goal.returns-clause-gave
returns-clause-gave g c =
    let gave = g.W.Watch.gave in
    let first = c.begin.new.self in
    let guard = c.ask-came.new.watch in
    let w = c.ask-came.ensures.watch in
    let h = handed first.revision (gave first.begun.value) (gave first.watch) guard.revision (gave guard.begun.value) (gave guard.watch) w.0 (ap gave (c.begin.ensures.begun ∙ sym c.begin.ensures.watch)) w.1 in
    (w.0, h.gave ∙ ap (λ (l : List ℕ). l ++ w.0) (ap gave c.begin.ensures.watch))

pub returns-clause-still : goal.returns-clause-still
returns-clause-still g c = λ k fuel up. ∥∥₁_elim c.requires.settled ∥∥₁_prop (λ s. ∥∥₁_elim (c.ask-came.ensures.makes s) ∥∥₁_prop (λ m. ∥∥₁_map up (λ u. m.1.still k fuel u)))

pub returns-clause-quiet : goal.returns-clause-quiet
returns-clause-quiet g c = λ up. ∥∥₁_elim up (Coded-set coded_ℕ _ _) (λ u. (c.ask-came.ensures.current u).0)

pub returns-clause-held : goal.returns-clause-held
returns-clause-held g c =
    fetched c.told.result c.ask-came.result _ _ _ c.told.ensures.same (∥∥₁_elim c.requires.settled ∥∥₁_prop (λ s. ∥∥₁_map (c.ask-came.ensures.makes s) (λ m. m.3)))
    (λ not now. over_lent (D g) g.K.Keyed.is_input g.met.K.Keyed.inputs c.args.lent.now.snapshot.files c.ask-came.new.fresh.memos c.args.lent.now.memos c.args.key.now c.args.fuel not now)

pub returns-clause-value : goal.returns-clause-value
returns-clause-value g c =
    let h = c.args.lent.now.snapshot.history in
    let made = subst (λ (s : SnapshotValue). IsRevision s.files s.revision s.history) c.snapshot.ensures c.stays_made.ensures in
    let here = ap (files_at h.opening h.entries) made.last ∙ sym made.newest in
    ok_same c.told.result c.ask-came.result _ _ c.told.ensures.same c.ask-came.ensures.value
    (λ v p. (subst (λ (files : FilesValue). ∥ IsValue g.K.Key.Ord.cmp (values_of (g.K.Keyed.given files)) g.K.Kinds.make c.args.key.now c.args.fuel (g.K.Keyed.read_at (arc_value v) c.args.fuel) ∥₁) here p.0, p.1))

pub returns-clause-stopped : goal.returns-clause-stopped
returns-clause-stopped g c =
    let gave = g.W.Watch.gave in
    let first = c.begin.new.self in
    let guard = c.ask-came.new.watch in
    let w = c.ask-came.ensures.watch in
    let r = c.args.lent.now.snapshot.revision in
    let h = handed first.revision (gave first.begun.value) (gave first.watch) guard.revision (gave guard.begun.value) (gave guard.watch) w.0 (ap gave (c.begin.ensures.begun ∙ sym c.begin.ensures.watch)) w.1 in
    let more = grown r (gave c.args.guard.now.watch) first.revision (gave first.watch) guard.revision (gave guard.begun.value) (gave guard.watch) w.0 h (c.begin.ensures.revision ∙ c.requires.guarded) (ap gave c.begin.ensures.watch) guard.seen guard.noted in
    stopped_seen c.told.result _ _ guard.seen more c.told.ensures.stopped

pub returns-clause-went : goal.returns-clause-went
returns-clause-went g c =
    let gave = g.W.Watch.gave in
    let first = c.begin.new.self in
    let guard = c.ask-came.new.watch in
    let w = c.ask-came.ensures.watch in
    let r = c.args.lent.now.snapshot.revision in
    let h = handed first.revision (gave first.begun.value) (gave first.watch) guard.revision (gave guard.begun.value) (gave guard.watch) w.0 (ap gave (c.begin.ensures.begun ∙ sym c.begin.ensures.watch)) w.1 in
    let more = grown r (gave c.args.guard.now.watch) first.revision (gave first.watch) guard.revision (gave guard.begun.value) (gave guard.watch) w.0 h (c.begin.ensures.revision ∙ c.requires.guarded) (ap gave c.begin.ensures.watch) guard.seen guard.noted in
    went_on c.told.result _ _ guard.seen more c.told.ensures.went
