use Rattle.std.proofs.Common.{◌≡◌, ℕ, ◌+◌, ◌<◌, ◌≤◌, ◌⊎◌, Bool, true, false, inl, inr, Option, Some, None, [], ◌∷◌, ◌++◌, List, refl, sym, ap, ◌∙◌, subst, arith, MatchOption, length, get_or, take}
use Rattle.std.proofs.lemmas.List.{take_more, take_all}
use Rattle.std.specs.Prelude.{option_map, IfSome}
use Rattle.std.specs.Arc.{arc_value}
use Rattle.std.specs.Coded.{Coded-set, coded_bool}
use Rattle.std.specs.declared.cmp.Ordering.TheVariants.{Equal}
use mathlib.Core.Logic.{∥∥₁_elim, ∥∥₁_map, ∥∥₁_map₂}
use Rattle.sve_text.specs.Files.{FilesValue}
use Rattle.sve_history.specs.Histories.{HistoryValue}
use Rattle.sve_store.specs.Made.{Needs, Done, value_in, values_of, untold, IsOneOf}
use Rattle.sve_store.specs.Values.{is_given, is_made, IsValue, OnTheWay, at_first, one_more}
use Rattle.sve_store.specs.Tries.{IsTried, count_after}
use Rattle.sve_store.proofs.Lookups.{untold-falls}
use Rattle.sve_store.proofs.Tables.{table_of_all}
use Rattle.sve_store.proofs.Ways.{not_given, comes_to, tells_on_the_way, no_input}
use Rattle.sve_memo.specs.Memos.{FindingValue, MemoValue, put_memo}
use Rattle.sve_ask.specs.Sound.{Defined, ValueAt, SameAt, IsStamped, IsSound, AllSound, IsFree, files_of}
use Rattle.sve_ask.specs.Current.{first_of, found_in, overlaid, IsCurrent, by_input}
use Rattle.sve_ask.specs.Watched.{lost}
use Rattle.sve_ask.specs.Gains.{InPhase, Reads, InReach, further, AllVerified, AllCurrent, HasShown, InReachOfReads, IsBelow, IsRenewed, Gains}
use Rattle.sve_ask.proofs.Lists.{length_both, one_at, one_of_push, one_earlier, one_last, lower_or_not, less_by}
use Rattle.sve_ask.proofs.Alike.{at_any_fuel, keys_of, keys_of-push}
use Rattle.sve_ask.proofs.Valid.{valid, phase_lower, stamped_when, restamped, same_by, sound_anew, input_stamped}
use Rattle.sve_ask.proofs.Watching.{no_more, more_then, watched_then, watched_from, watched_none, watched_note, watched_free, ok_from, either_from, ok_map, not_true, ok_never, spare_from, spent_from, spent_free, spent_err, ok_spent, match_spare}
use Rattle.sve_ask.proofs.Stays.{one_some, none_some, over_fresh, current_along, current_more, current_found, current_input, overlaid_same, given_is, given_none, not_given as no_stamped_value, found_is, found_none}
use Rattle.sve_ask.proofs.Puts.{put_found}
use Rattle.sve_ask.proofs.Asking.{never_given, sound_held, sound_put, free_serving, fresh_serving}
use Rattle.sve_ask.proofs.Gaining.{next_least, no_gain, gain_then, gain_within, gain_read, gain_need, gain_keep, reach_before, both_phases, stale_more, not_yet, not_yet_none, renewed_cost, now_current}
use Rattle.sve_ask.proofs.cycle.+asking.Given as given
use Rattle.sve_ask.proofs.cycle.+asking.Goals as goal

abbrev D : (g : given.Over) → Defined g.row.K-Key.Denot g.row.K-Value.Denot
D g = record { cmp = g.K.Key.Ord.cmp; given = g.K.Keyed.given; make = g.K.Kinds.make; ranked = g.K.Keyed.ranked; serves = g.K.Keyed.serves }

exact : (g : given.Over) (a b : g.row.K-Key.Denot) → g.K.Key.Ord.cmp a b ≡ Equal → a ≡ b
exact g a b is = (g.met.K.Keyed.one_key a b).0 is

equal : (g : given.Over) (k : g.row.K-Key.Denot) → g.K.Key.Ord.cmp k k ≡ Equal
equal g k = (g.met.K.Keyed.one_key k k).1 refl

-- each key has a value at each revision
has : (g : given.Over) (h : HistoryValue) (r : ℕ) (k : g.row.K-Key.Denot) → (v : g.row.K-Value.Denot) × ValueAt (D g) h r k 0 v
has g h r k =
    let files = files_of h r in
    let table = table_of_all g.K.Key.Ord.cmp (values_of (g.K.Keyed.given files)) g.K.Kinds.make (exact g) (equal g) (record {
      height = g.K.Ending.height files;
      reads = g.K.Ending.reads files;
      lower = λ k f told j none tells needs. g.met.K.Ending.lower files k f told j (no_input (g.K.Keyed.given files k) (g.K.Keyed.is_input k) (g.met.K.Keyed.inputs files k) none) (λ q v is low. tells q v is) needs;
      reading = λ k f told j none tells needs. g.met.K.Ending.reading files k f told j (no_input (g.K.Keyed.given files k) (g.K.Keyed.is_input k) (g.met.K.Keyed.inputs files k) none) tells needs;
    }) in
    (table.0 k 0, table.1 k 0)

serve : (g : given.Over) (files : FilesValue) (k : g.row.K-Key.Denot) (fuel : ℕ) (v : g.row.K-Value.Denot) → IsValue g.K.Key.Ord.cmp (values_of (g.K.Keyed.given files)) g.K.Kinds.make k fuel v → g.K.Keyed.serves v fuel ≡ true
serve g files k fuel v is = (g.met.K.Kinds.own_fuel files k fuel v is).0

-- a key that is needed over what is told on the way has a lower height
need_lower : (g : given.Over) (files : FilesValue) (k : g.row.K-Key.Denot) (fuel : ℕ) (told : List (g.row.K-Key.Denot × g.row.K-Value.Denot)) (j : g.row.K-Key.Denot) → g.K.Keyed.is_input k ≡ false
    → ∥ OnTheWay g.K.Key.Ord.cmp (values_of (g.K.Keyed.given files)) g.K.Kinds.make k fuel told ∥₁ → g.K.Kinds.make k fuel (value_in g.K.Key.Ord.cmp told) ≡ Needs j → g.K.Ending.height files j < g.K.Ending.height files k
need_lower g files k fuel told j computed way needs =
    less_by (g.K.Ending.height files j) (g.K.Ending.height files k) way (λ w. g.met.K.Ending.lower files k fuel (value_in g.K.Key.Ord.cmp told) j computed (λ q v is low. tells_on_the_way g.K.Key.Ord.cmp (values_of (g.K.Keyed.given files)) g.K.Kinds.make (exact g) k fuel told w q v is) needs)

-- a recorded read of the phase that is looked at has a lower height
look_lower : (g : given.Over) (h : HistoryValue) (m : MemoValue g.row.K-Key.Denot g.row.K-Value.Denot) (r : ℕ) → ∥ IsSound (D g) h m ∥₁ → (own : Bool)
    → (own ≡ true → (j : g.row.K-Key.Denot) (t : ℕ) → IsOneOf m.finding.reads (j, t) → g.K.Keyed.ranked j < g.K.Keyed.ranked m.finding.key → SameAt (D g) h t r j)
    → (j : g.row.K-Key.Denot) (t : ℕ) → IsOneOf m.finding.reads (j, t) → InPhase own (g.K.Keyed.ranked j) (g.K.Keyed.ranked m.finding.key) → g.K.Ending.height (files_of h r) j < g.K.Ending.height (files_of h r) m.finding.key
look_lower g h m r sound own later j t there phase =
    let files = files_of h r in
    let k = m.finding.key in
    less_by (g.K.Ending.height files j) (g.K.Ending.height files k) sound (λ s.
    let computed = no_input (g.K.Keyed.given files k) (g.K.Keyed.is_input k) (g.met.K.Keyed.inputs files k) (s.computed files) in
    phase_lower (D g) h (has g h) (exact g) (g.K.Ending.height files) m r s (λ fuel told q tells needs. g.met.K.Ending.lower files k fuel told q computed tells needs) (g.met.K.Ending.higher files k) own later j t there phase)

-- ---- anew

pub anew-tries-init : goal.anew-tries-init
anew-tries-init g t c =
    let files = c.args.lent.now.snapshot.files in
    let h = c.args.lent.now.snapshot.history in
    let r = c.args.lent.now.snapshot.revision in
    let key = c.args.key.now in
    let there = values_of (g.K.Keyed.given (files_of h r)) in
    record {
      fits = λ all. refl;
      fresh = c.requires.fresh;
      watched = no_more _;
      way = subst (λ l. ∥ OnTheWay g.K.Key.Ord.cmp there g.K.Kinds.make key c.args.fuel l ∥₁) (sym c.new-noted.ensures) ∣ at_first (never_given (D g) g.K.Keyed.is_input g.met.K.Keyed.inputs key c.requires.computed (files_of h r)) ∣₁;
      each = λ j u i. absurd (subst (λ l. IsOneOf l (j, u)) c.new-reads.ensures.items i);
      cover = λ j i. absurd (subst (λ l. IsOneOf (keys_of l) j) c.new-noted.ensures i);
      read = λ j u i. absurd (subst (λ l. IsOneOf l (j, u)) c.new-reads.ensures.items i);
      gains = λ set. ([], no_gain (D g) files (g.K.Ending.height (files_of h r)) c.args.lent.now.memos r _ _ _ c.args.fresh.now set, omega arith, λ j u i p. absurd (subst (λ l. IsOneOf l (j, u)) c.new-reads.ensures.items i));
    }

pub anew-returns-in-Came-clause-memo : goal.anew-returns-in-Came-clause-memo
anew-returns-in-Came-clause-memo g t c =
    let h = c.args.lent.now.snapshot.history in
    let r = c.args.lent.now.snapshot.revision in
    let key = c.args.key.now in
    let told = c.tries.noted in
    let made : g.K.Kinds.make key c.args.fuel (value_in g.K.Key.Ord.cmp told) ≡ Done c.in-Came.made = subst (IsTried _) c.in-Came.is c.in_ok-made.ensures.tried in
    let inv = c.tries.invariant in
    let sound = ∥∥₁_map inv.way (λ way. sound_anew (D g) h r key c.args.fuel told c.in-Came.made c.tries.reads.items c.requires.newest.last (never_given (D g) g.K.Keyed.is_input g.met.K.Keyed.inputs key c.requires.computed) way made inv.each inv.cover) in
    ok_from c.memo_of.result _ _ _ c.memo_of.ensures (λ m is. (ap (λ (x : MemoValue g.row.K-Key.Denot g.row.K-Value.Denot). x.finding.key) is, ap (λ (x : MemoValue g.row.K-Key.Denot g.row.K-Value.Denot). x.verified) is, subst (λ x. ∥ IsSound (D g) h x ∥₁) (sym is) sound))

pub anew-returns-in-Came-clause-serves : goal.anew-returns-in-Came-clause-serves
anew-returns-in-Came-clause-serves g t c =
    let files = files_of c.args.lent.now.snapshot.history c.args.lent.now.snapshot.revision in
    let key = c.args.key.now in
    let told = c.tries.noted in
    let given = values_of (g.K.Keyed.given files) in
    let made : g.K.Kinds.make key c.args.fuel (value_in g.K.Key.Ord.cmp told) ≡ Done c.in-Came.made = subst (IsTried _) c.in-Came.is c.in_ok-made.ensures.tried in
    let serves : g.K.Keyed.serves c.in-Came.made c.args.fuel ≡ true = ∥∥₁_elim c.tries.invariant.way (Coded-set coded_bool (g.K.Keyed.serves c.in-Came.made c.args.fuel) true) (λ way.
    serve g files key c.args.fuel c.in-Came.made (comes_to g.K.Key.Ord.cmp given g.K.Kinds.make key c.args.fuel told c.in-Came.made way [] (is_made (not_given g.K.Key.Ord.cmp given g.K.Kinds.make key c.args.fuel told way) made))) in
    ok_from c.memo_of.result _ _ _ c.memo_of.ensures (λ m is. ap (λ (x : MemoValue g.row.K-Key.Denot g.row.K-Value.Denot). g.K.Keyed.serves x.finding.value c.args.fuel) is ∙ serves)

pub anew-tries-smaller : goal.anew-tries-smaller
anew-tries-smaller g t c =
    let files = files_of c.args.lent.now.snapshot.history c.args.lent.now.snapshot.revision in
    let given = values_of (g.K.Keyed.given files) in
    let key = c.args.key.now in
    let fuel = c.args.fuel in
    let j = c.in-Wants.needed in
    let cmp = g.K.Key.Ord.cmp in
    let told = c.tries.noted in
    let needs : g.K.Kinds.make key fuel (value_in cmp told) ≡ Needs j = subst (IsTried _) c.in-Wants.is c.in_ok-made.ensures.tried in
    let items = c.in_ok-note-in-Wants.ensures.1 in
    let after = c.note.new.known in
    less_by (untold (value_in cmp after) (g.K.Ending.reads files key fuel)) (untold (value_in cmp told) (g.K.Ending.reads files key fuel)) c.tries.invariant.way (λ way.
    let read = g.met.K.Ending.reading files key fuel (value_in cmp told) j c.requires.computed (tells_on_the_way cmp given g.K.Kinds.make (exact g) key fuel told way) needs in
    subst (λ l. untold (value_in cmp l) (g.K.Ending.reads files key fuel) < untold (value_in cmp told) (g.K.Ending.reads files key fuel)) (sym items) (untold-falls cmp (equal g) told j _ (g.K.Ending.reads files key fuel) read.0 read.1))

pub anew-tries-preserved : goal.anew-tries-preserved
anew-tries-preserved g t c =
    let h = c.args.lent.now.snapshot.history in
    let r = c.args.lent.now.snapshot.revision in
    let files = c.args.lent.now.snapshot.files in
    let there = files_of h r in
    let given = values_of (g.K.Keyed.given there) in
    let cmp = g.K.Key.Ord.cmp in
    let make = g.K.Kinds.make in
    let lent = c.args.lent.now.memos in
    let height = g.K.Ending.height there in
    let key = c.args.key.now in
    let fuel = c.args.fuel in
    let j = c.in-Wants.needed in
    let w = arc_value c.in_ok-value-in-Wants.value in
    let s = c.in_ok-value-in-Wants.stamp in
    let told = c.tries.noted in
    let needs : make key fuel (value_in cmp told) ≡ Needs j = subst (IsTried _) c.in-Wants.is c.in_ok-made.ensures.tried in
    let free : IsFree (D g) h j = g.met.K.Kinds.free key fuel (value_in cmp told) j needs in
    let stamped : IsStamped (D g) h r j w s = c.in_ok-value-in-Wants.ensures.value in
    let inv = c.tries.invariant in
    let items : c.note.new.known ≡ told ++ ((j, w) ∷ []) = c.in_ok-note-in-Wants.ensures.1 in
    let pushed : c.note.new.reads.items ≡ c.tries.reads.items ++ ((j, s) ∷ []) = c.in_ok-note-in-Wants.ensures.0 in
    let keys : keys_of c.note.new.known ≡ keys_of told ++ (j ∷ []) = ap keys_of items ∙ keys_of-push told (j, w) in
    let P : g.row.K-Key.Denot × ℕ → Type 0 = λ q. (q.1 ≤ r) × IsOneOf (keys_of c.note.new.known) q.0 × IsFree (D g) h q.0 × SameAt (D g) h q.1 r q.0 in
    let here : P (j, s) = (stamped.0, subst (λ l. IsOneOf l j) (sym keys) (one_last (keys_of told) j), free, same_by (D g) h g.row.K-Value.coded r j w s s stamped refl free) in
    let watched = c.in_ok-value-in-Wants.ensures.watch in
    let Q : g.row.K-Key.Denot × ℕ → Type 0 = λ q. Reads (D g) files key fuel q.0 in
    let read : Q (j, s) = subst (λ f. Reads (D g) f key fuel j) c.requires.newest.here (∥∥₁_map inv.way (λ way. (told, way, needs))) in
    let low = need_lower g there key fuel told j c.requires.computed inv.way needs in
    let quiet = c.in_ok-made.ensures.count ∙ ap (λ o. count_after o (g.K.Keyed.counted c.tries.kinds)) c.in-Wants.is in
    record {
      fits = λ all. c.in_ok-value-in-Wants.ensures.fits all ∙ (c.in_ok-made.ensures.fit all ∙ inv.fits all);
      fresh = c.in_ok-value-in-Wants.ensures.fresh;
      watched = more_then _ _ _ inv.watched (watched.0, watched.1);
      way = subst (λ l. ∥ OnTheWay cmp given make key fuel l ∥₁) (sym items) (∥∥₁_map₂ inv.way stamped.2 (λ way value. one_more way needs (value.1.0, at_any_fuel cmp given make 0 free value.1.1)));
      each = λ q u i. elim (one_of_push c.tries.reads.items (j, s) (q, u) (subst (λ l. IsOneOf l (q, u)) pushed i)) [
        | inl a ↦ (let o = inv.each q u a in (o.0, subst (λ l. IsOneOf l q) (sym keys) (one_earlier (keys_of told) j q o.1), o.2, o.3))
        | inr e ↦ subst P (sym e) here
      ];
      cover = λ q i. elim (one_of_push (keys_of told) j q (subst (λ l. IsOneOf l q) keys i)) [
        | inl a ↦ (let o = inv.cover q a in (o.0, subst (λ l. IsOneOf l (q, o.0)) (sym pushed) (one_earlier c.tries.reads.items (j, s) (q, o.0) o.1)))
        | inr e ↦ (s, subst (λ x. IsOneOf c.note.new.reads.items (x, s)) (sym e) (subst (λ l. IsOneOf l (j, s)) (sym pushed) (one_last c.tries.reads.items (j, s))))
      ];
      read = λ q u i. elim (one_of_push c.tries.reads.items (j, s) (q, u) (subst (λ l. IsOneOf l (q, u)) pushed i)) [ inl a ↦ inv.read q u a | inr e ↦ subst Q (sym e) read ];
      gains = λ set.
          let v = inv.gains set in
          let b = c.in_ok-value-in-Wants.ensures.gains v.1.settled in
          let sum = length_both v.0 b.0 in
          let found = found_in cmp c.bring.new.fresh in (
            v.0 ++ b.0,
            gain_need (D g) files height lent r (height key) fuel key j v.1 b.1 low read,
            (let p = v.2 in let q = b.2 in omega (arith, sum, p, q, quiet)),
            λ q u i y. elim (one_of_push c.tries.reads.items (j, s) (q, u) (subst (λ l. IsOneOf l (q, u)) pushed i)) [
              | inl a ↦ current_more (g.K.Keyed.given files) _ found b.1.kept (v.3 q u a y)
              | inr e ↦ subst (λ (y : g.row.K-Key.Denot × ℕ). IsCurrent (g.K.Keyed.given files) found y.0 y.1) (sym e) b.3
            ],
          );
    }

pub anew-bring-requires : goal.anew-bring-requires
anew-bring-requires g t c κs within =
    let h = c.args.lent.now.snapshot.history in
    let there = files_of h c.args.lent.now.snapshot.revision in
    let told = c.tries.noted in
    let j = c.in-Wants.needed in
    let needs : g.K.Kinds.make c.args.key.now c.args.fuel (value_in g.K.Key.Ord.cmp told) ≡ Needs j = subst (IsTried _) c.in-Wants.is c.in_ok-made.ensures.tried in
    let inv = c.tries.invariant in
    let low = need_lower g there c.args.key.now c.args.fuel told j c.requires.computed inv.way needs in
    let free : IsFree (D g) h j = g.met.K.Kinds.free c.args.key.now c.args.fuel (value_in g.K.Key.Ord.cmp told) j needs in
    let fits = c.in_ok-made.ensures.fit c.args.lent.now.snapshot.files ∙ inv.fits c.args.lent.now.snapshot.files ∙ c.requires.fits in
    let serving = free_serving (D g) h (exact g) (equal g) (serve g) c.tries.fresh c.args.lent.now.memos inv.fresh c.requires.lent j 0 ∣ free ∣₁ in
    (omega (arith, low), (within.0, (within.1.0, (within.1.1.0, (within.1.1.1.0, (within.1.1.1.1, (fits, (c.requires.newest, (c.requires.lent, (inv.fresh, serving))))))))))

pub anew-returns-in_err-made-clause-watch : goal.anew-returns-in_err-made-clause-watch
anew-returns-in_err-made-clause-watch g t c =
    watched_none c.from_residual.result c.args.lent.now.snapshot.revision _ _ c.from_residual.ensures.1 c.tries.invariant.watched

pub anew-returns-in-Came-clause-watch : goal.anew-returns-in-Came-clause-watch
anew-returns-in-Came-clause-watch g t c =
    watched_free c.memo_of.result _ _ c.args.lent.now.snapshot.revision _ _ c.memo_of.ensures (λ e q. q) c.tries.invariant.watched

pub anew-returns-in_err-value-in-Wants-clause-watch : goal.anew-returns-in_err-value-in-Wants-clause-watch
anew-returns-in_err-value-in-Wants-clause-watch g t c =
    watched_from c.from_residual-in_err-value-in-Wants.result c.in_err-value-in-Wants.field-0.0 c.args.lent.now.snapshot.revision _ _ _ c.from_residual-in_err-value-in-Wants.ensures.1 c.tries.invariant.watched c.in_err-value-in-Wants.ensures.watch

pub anew-returns-in_err-note-in-Wants-clause-watch : goal.anew-returns-in_err-note-in-Wants-clause-watch
anew-returns-in_err-note-in-Wants-clause-watch g t c =
    let w = c.in_ok-value-in-Wants.ensures.watch in
    watched_note c.from_residual-in_err-note-in-Wants.result c.in_err-note-in-Wants.field-0.0 c.args.lent.now.snapshot.revision _ _ c.from_residual-in_err-note-in-Wants.ensures.1 c.in_err-note-in-Wants.ensures (more_then _ _ _ c.tries.invariant.watched (w.0, w.1))

pub anew-returns-in_err-made-clause-gains : goal.anew-returns-in_err-made-clause-gains
anew-returns-in_err-made-clause-gains g t c = λ set.
    let v = c.tries.invariant.gains set in
    let quiet = c.in_err-made.ensures.no_count refl in
    (v.0, v.1, (let p = v.2 in omega (arith, p, quiet)), ok_never _ _ c.from_residual.ensures.0)

pub anew-returns-in-Came-clause-gains : goal.anew-returns-in-Came-clause-gains
anew-returns-in-Came-clause-gains g t c = λ set.
    let v = c.tries.invariant.gains set in
    let ticked = c.in_ok-made.ensures.count ∙ ap (λ o. count_after o (g.K.Keyed.counted c.tries.kinds)) c.in-Came.is in
    let least = next_least (g.K.Keyed.counted c.tries.kinds) in
    let one = spent_free c.memo_of.result _ c.memo_of.ensures in (
      v.0,
      v.1,
      (let p = v.2 in omega (arith, p, ticked, least, one)),
      ok_from c.memo_of.result _ _ _ c.memo_of.ensures (λ m is.
          let reads = ap (λ (x : MemoValue g.row.K-Key.Denot g.row.K-Value.Denot). x.finding.reads) is in
          (λ j u i y. v.3 j u (subst (λ l. IsOneOf l (j, u)) reads i) y, λ j u i. c.tries.invariant.read j u (subst (λ l. IsOneOf l (j, u)) reads i))),
    )

pub anew-returns-in_err-value-in-Wants-clause-gains : goal.anew-returns-in_err-value-in-Wants-clause-gains
anew-returns-in_err-value-in-Wants-clause-gains g t c = λ set.
    let h = c.args.lent.now.snapshot.history in
    let r = c.args.lent.now.snapshot.revision in
    let files = c.args.lent.now.snapshot.files in
    let there = files_of h r in
    let height = g.K.Ending.height there in
    let key = c.args.key.now in
    let j = c.in-Wants.needed in
    let told = c.tries.noted in
    let inv = c.tries.invariant in
    let needs : g.K.Kinds.make key c.args.fuel (value_in g.K.Key.Ord.cmp told) ≡ Needs j = subst (IsTried _) c.in-Wants.is c.in_ok-made.ensures.tried in
    let read = subst (λ f. Reads (D g) f key c.args.fuel j) c.requires.newest.here (∥∥₁_map inv.way (λ way. (told, way, needs))) in
    let low = need_lower g there key c.args.fuel told j c.requires.computed inv.way needs in
    let quiet = c.in_ok-made.ensures.count ∙ ap (λ o. count_after o (g.K.Keyed.counted c.tries.kinds)) c.in-Wants.is in
    let v = inv.gains set in
    let b = c.in_err-value-in-Wants.ensures.gains v.1.settled in
    let sum = length_both v.0 b.0 in
    let lose = spent_from c.from_residual-in_err-value-in-Wants.result c.in_err-value-in-Wants.field-0.0 c.from_residual-in_err-value-in-Wants.ensures.1 in
    (v.0 ++ b.0, gain_need (D g) files height c.args.lent.now.memos r (height key) c.args.fuel key j v.1 b.1 low read, (let p = v.2 in let q = b.2 in omega (arith, sum, p, q, quiet, lose)), ok_never _ _ c.from_residual-in_err-value-in-Wants.ensures.0)

pub anew-returns-in_err-note-in-Wants-clause-gains : goal.anew-returns-in_err-note-in-Wants-clause-gains
anew-returns-in_err-note-in-Wants-clause-gains g t c = λ set.
    let h = c.args.lent.now.snapshot.history in
    let r = c.args.lent.now.snapshot.revision in
    let files = c.args.lent.now.snapshot.files in
    let there = files_of h r in
    let height = g.K.Ending.height there in
    let key = c.args.key.now in
    let j = c.in-Wants.needed in
    let told = c.tries.noted in
    let inv = c.tries.invariant in
    let needs : g.K.Kinds.make key c.args.fuel (value_in g.K.Key.Ord.cmp told) ≡ Needs j = subst (IsTried _) c.in-Wants.is c.in_ok-made.ensures.tried in
    let read = subst (λ f. Reads (D g) f key c.args.fuel j) c.requires.newest.here (∥∥₁_map inv.way (λ way. (told, way, needs))) in
    let low = need_lower g there key c.args.fuel told j c.requires.computed inv.way needs in
    let quiet = c.in_ok-made.ensures.count ∙ ap (λ o. count_after o (g.K.Keyed.counted c.tries.kinds)) c.in-Wants.is in
    let v = inv.gains set in
    let b = c.in_ok-value-in-Wants.ensures.gains v.1.settled in
    let sum = length_both v.0 b.0 in
    (v.0 ++ b.0, gain_need (D g) files height c.args.lent.now.memos r (height key) c.args.fuel key j v.1 b.1 low read, (let p = v.2 in let q = b.2 in omega (arith, sum, p, q, quiet)), ok_never _ _ c.from_residual-in_err-note-in-Wants.ensures.0)

-- ---- agrees

pub agrees-looks-init : goal.agrees-looks-init
agrees-looks-init g t c =
    record {
      fits = λ all. refl;
      fresh = c.requires.fresh;
      watched = no_more _;
      same = λ j u i. absurd i;
      still = λ cur. (refl, λ q. refl);
      gains = λ set. ([], no_gain (D g) c.args.lent.now.snapshot.files (g.K.Ending.height (files_of c.args.lent.now.snapshot.history c.args.lent.now.snapshot.revision)) c.args.lent.now.memos c.args.lent.now.snapshot.revision _ _ _ c.args.fresh.now set, omega arith, λ j u i p. absurd i);
    }

pub agrees-bring-requires : goal.agrees-bring-requires
agrees-bring-requires g t c κs within =
    let h = c.args.lent.now.snapshot.history in
    let r = c.args.lent.now.snapshot.revision in
    let xs = c.reads-reads.result.now in
    let x = c.read-item.result in
    let m = c.args.memo.now in
    let lt : c.looks.read-index < length xs = omega arith in
    let there : IsOneOf m.finding.reads x = subst (λ l. IsOneOf l x) c.reads-reads.ensures (one_at xs c.looks.read-index x lt c.read-item.is) in
    let phase = c.is_skipped-skipped.ensures.take c.if-skipped.false in
    let low = look_lower g h m r c.requires.memo c.args.own c.requires.later x.0 x.1 there phase in
    let inv = c.looks.invariant in
    let fits = inv.fits c.args.lent.now.snapshot.files ∙ c.requires.fits in
    let free : ∥ IsFree (D g) h x.0 ∥₁ = ∥∥₁_map c.requires.memo (λ s. (s.each x.0 x.1 there).2) in
    let serving = free_serving (D g) h (exact g) (equal g) (serve g) c.looks.fresh c.args.lent.now.memos inv.fresh c.requires.lent x.0 0 free in
    (omega (arith, low), (within.0, (within.1.0, (within.1.1.0, (within.1.1.1.0, (within.1.1.1.1, (fits, (c.requires.newest, (c.requires.lent, (inv.fresh, serving))))))))))

pub agrees-looks-preserved : goal.agrees-looks-preserved
agrees-looks-preserved g t c =
    let h = c.args.lent.now.snapshot.history in
    let r = c.args.lent.now.snapshot.revision in
    let files = c.args.lent.now.snapshot.files in
    let lent = c.args.lent.now.memos in
    let height = g.K.Ending.height (files_of h r) in
    let xs = c.reads-reads.result.now in
    let x = c.read-item.result in
    let i0 = c.looks.read-index in
    let m = c.args.memo.now in
    let lt : i0 < length xs = omega arith in
    let there : IsOneOf m.finding.reads x = subst (λ l. IsOneOf l x) c.reads-reads.ensures (one_at xs i0 x lt c.read-item.is) in
    let skipped = c.is_skipped-skipped.ensures.take c.if-skipped.false in
    let low = look_lower g h m r c.requires.memo c.args.own c.requires.later x.0 x.1 there skipped in
    let stamp : c.in_ok-stamp.stamp ≡ x.1 = omega arith in
    let here : SameAt (D g) h x.1 r x.0 = λ a b at_a at_b. ∥∥₁_elim c.requires.memo (Coded-set g.row.K-Value.coded a b) (λ s.
    same_by (D g) h g.row.K-Value.coded r x.0 (arc_value c.in_ok-stamp.field-0-0) c.in_ok-stamp.stamp x.1 c.in_ok-stamp.ensures.value stamp (s.each x.0 x.1 there).2 a b at_a at_b) in
    let P : g.row.K-Key.Denot × ℕ → Type 0 = λ q. SameAt (D g) h q.1 r q.0 in
    let watched = c.in_ok-stamp.ensures.watch in
    let inv = c.looks.invariant in
    record {
      fits = λ all. c.in_ok-stamp.ensures.fits all ∙ inv.fits all;
      fresh = c.in_ok-stamp.ensures.fresh;
      watched = more_then _ _ _ inv.watched (watched.0, watched.1);
      same = λ q u i phase. elim (one_of_push (take i0 xs) (get_or xs i0 x) (q, u) (subst (λ l. IsOneOf l (q, u)) (take_more xs i0 x lt) i)) [ inl a ↦ inv.same q u a phase | inr o ↦ subst P (c.read-item.is ∙ sym o) here ];
      still = λ cur.
          let v = inv.still cur in
          let b = c.in_ok-stamp.ensures.current x.1 (current_along (g.K.Keyed.given files) _ _ v.1 x.0 x.1 (cur x.0 x.1 there)) in
          (b.0.0 ∙ v.0, λ q. v.1 q ∙ b.0.1 q);
      gains = λ set.
          let v = inv.gains set in
          let b = c.in_ok-stamp.ensures.gains v.1.settled in
          let sum = length_both v.0 b.0 in
          let found = found_in g.K.Key.Ord.cmp c.bring.new.fresh in
          let now = subst (λ s. IsCurrent (g.K.Keyed.given files) found x.0 s) stamp b.3 in (
            v.0 ++ b.0,
            gain_read (D g) files height lent r (height m.finding.key) x.1 x.0 m.finding.reads v.1 b.1 low there,
            (let p = v.2 in let q = b.2 in omega (arith, sum, p, q)),
            λ q u i phase. elim (one_of_push (take i0 xs) (get_or xs i0 x) (q, u) (subst (λ l. IsOneOf l (q, u)) (take_more xs i0 x lt) i)) [
              | inl a ↦ current_more (g.K.Keyed.given files) _ found b.1.kept (v.3 q u a phase)
              | inr o ↦ subst (λ (y : g.row.K-Key.Denot × ℕ). IsCurrent (g.K.Keyed.given files) found y.0 y.1) (c.read-item.is ∙ sym o) now
            ],
          );
    }

pub agrees-looks-preserved-then-skipped : goal.agrees-looks-preserved-then-skipped
agrees-looks-preserved-then-skipped g t c =
    let h = c.args.lent.now.snapshot.history in
    let xs = c.reads-reads.result.now in
    let x = c.read-item.result in
    let i0 = c.looks.read-index in
    let m = c.args.memo.now in
    let lt : i0 < length xs = omega arith in
    let P : g.row.K-Key.Denot × ℕ → Type 0 = λ q. InPhase c.args.own (g.K.Keyed.ranked q.0) (g.K.Keyed.ranked m.finding.key) in
    let inv = c.looks.invariant in
    record {
      fits = inv.fits;
      fresh = inv.fresh;
      watched = inv.watched;
      same = λ q u i phase. elim (one_of_push (take i0 xs) (get_or xs i0 x) (q, u) (subst (λ l. IsOneOf l (q, u)) (take_more xs i0 x lt) i)) [ inl a ↦ inv.same q u a phase | inr o ↦ absurd (c.is_skipped-skipped.ensures.skip c.if-skipped.true (subst P (o ∙ sym c.read-item.is) phase)) ];
      still = inv.still;
      gains = λ set.
          let v = inv.gains set in
          (v.0, v.1, v.2, λ q u i phase. elim (one_of_push (take i0 xs) (get_or xs i0 x) (q, u) (subst (λ l. IsOneOf l (q, u)) (take_more xs i0 x lt) i)) [ inl a ↦ v.3 q u a phase | inr o ↦ absurd (c.is_skipped-skipped.ensures.skip c.if-skipped.true (subst P (o ∙ sym c.read-item.is) phase)) ]);
    }

pub agrees-returns-clause-same : goal.agrees-returns-clause-same
agrees-returns-clause-same g t c = λ _ q u i phase.
    let xs = c.reads-reads.result.now in
    c.looks.invariant.same q u (subst (λ l. IsOneOf l (q, u)) (sym (take_all c.looks.read-index xs (omega arith))) (subst (λ l. IsOneOf l (q, u)) (sym c.reads-reads.ensures) i)) phase

pub agrees-returns-in_err-stamp-clause-current : goal.agrees-returns-in_err-stamp-clause-current
agrees-returns-in_err-stamp-clause-current g t c = λ cur.
    let xs = c.reads-reads.result.now in
    let x = c.read-item.result in
    let lt : c.looks.read-index < length xs = omega arith in
    let there : IsOneOf c.args.memo.now.finding.reads x = subst (λ l. IsOneOf l x) c.reads-reads.ensures (one_at xs c.looks.read-index x lt c.read-item.is) in
    let v = c.looks.invariant.still cur in
    let b = c.in_err-stamp.ensures.current x.1 (current_along (g.K.Keyed.given c.args.lent.now.snapshot.files) _ _ v.1 x.0 x.1 (cur x.0 x.1 there)) in
    ((b.0.0 ∙ v.0, λ q. v.1 q ∙ b.0.1 q), ok_never _ _ c.from_residual.ensures.0)

pub agrees-returns-then-stamp-read-clause-current : goal.agrees-returns-then-stamp-read-clause-current
agrees-returns-then-stamp-read-clause-current g t c = λ cur.
    let xs = c.reads-reads.result.now in
    let x = c.read-item.result in
    let lt : c.looks.read-index < length xs = omega arith in
    let there : IsOneOf c.args.memo.now.finding.reads x = subst (λ l. IsOneOf l x) c.reads-reads.ensures (one_at xs c.looks.read-index x lt c.read-item.is) in
    let v = c.looks.invariant.still cur in
    let b = c.in_ok-stamp.ensures.current x.1 (current_along (g.K.Keyed.given c.args.lent.now.snapshot.files) _ _ v.1 x.0 x.1 (cur x.0 x.1 there)) in
    absurd (c.if-stamp-read.true b.1)

pub agrees-returns-in_err-stamp-clause-watch : goal.agrees-returns-in_err-stamp-clause-watch
agrees-returns-in_err-stamp-clause-watch g t c =
    watched_from c.from_residual.result c.in_err-stamp.field-0.0 c.args.lent.now.snapshot.revision _ _ _ c.from_residual.ensures.1 c.looks.invariant.watched c.in_err-stamp.ensures.watch

pub agrees-returns-then-stamp-read-clause-watch : goal.agrees-returns-then-stamp-read-clause-watch
agrees-returns-then-stamp-read-clause-watch g t c =
    let w = c.in_ok-stamp.ensures.watch in
    let more = more_then _ _ _ c.looks.invariant.watched (w.0, w.1) in
    (more.0, more.1, tt)

pub agrees-returns-clause-watch : goal.agrees-returns-clause-watch
agrees-returns-clause-watch g t c = let more = c.looks.invariant.watched in (more.0, more.1, tt)

pub agrees-returns-in_err-stamp-clause-gains : goal.agrees-returns-in_err-stamp-clause-gains
agrees-returns-in_err-stamp-clause-gains g t c = λ set.
    let h = c.args.lent.now.snapshot.history in
    let r = c.args.lent.now.snapshot.revision in
    let height = g.K.Ending.height (files_of h r) in
    let xs = c.reads-reads.result.now in
    let x = c.read-item.result in
    let m = c.args.memo.now in
    let lt : c.looks.read-index < length xs = omega arith in
    let there : IsOneOf m.finding.reads x = subst (λ l. IsOneOf l x) c.reads-reads.ensures (one_at xs c.looks.read-index x lt c.read-item.is) in
    let low = look_lower g h m r c.requires.memo c.args.own c.requires.later x.0 x.1 there (c.is_skipped-skipped.ensures.take c.if-skipped.false) in
    let v = c.looks.invariant.gains set in
    let b = c.in_err-stamp.ensures.gains v.1.settled in
    let sum = length_both v.0 b.0 in
    let lose = spare_from c.from_residual.result c.in_err-stamp.field-0.0 c.from_residual.ensures.1 in
    (v.0 ++ b.0, gain_read (D g) c.args.lent.now.snapshot.files height c.args.lent.now.memos r (height m.finding.key) x.1 x.0 m.finding.reads v.1 b.1 low there, (let p = v.2 in let q = b.2 in omega (arith, sum, p, q, lose)), ok_never _ _ c.from_residual.ensures.0)

pub agrees-returns-then-stamp-read-clause-gains : goal.agrees-returns-then-stamp-read-clause-gains
agrees-returns-then-stamp-read-clause-gains g t c = λ set.
    let h = c.args.lent.now.snapshot.history in
    let r = c.args.lent.now.snapshot.revision in
    let height = g.K.Ending.height (files_of h r) in
    let xs = c.reads-reads.result.now in
    let x = c.read-item.result in
    let m = c.args.memo.now in
    let lt : c.looks.read-index < length xs = omega arith in
    let there : IsOneOf m.finding.reads x = subst (λ l. IsOneOf l x) c.reads-reads.ensures (one_at xs c.looks.read-index x lt c.read-item.is) in
    let low = look_lower g h m r c.requires.memo c.args.own c.requires.later x.0 x.1 there (c.is_skipped-skipped.ensures.take c.if-skipped.false) in
    let v = c.looks.invariant.gains set in
    let b = c.in_ok-stamp.ensures.gains v.1.settled in
    let sum = length_both v.0 b.0 in
    (v.0 ++ b.0, gain_read (D g) c.args.lent.now.snapshot.files height c.args.lent.now.memos r (height m.finding.key) x.1 x.0 m.finding.reads v.1 b.1 low there, (let p = v.2 in let q = b.2 in omega (arith, sum, p, q)), (x.0, x.1, c.in_ok-stamp.stamp, there, b.3, c.if-stamp-read.true))

pub agrees-returns-clause-gains : goal.agrees-returns-clause-gains
agrees-returns-clause-gains g t c = λ set.
    let xs = c.reads-reads.result.now in
    let v = c.looks.invariant.gains set in
    (v.0, v.1, (let p = v.2 in omega (arith, p)), λ q u i phase. v.3 q u (subst (λ l. IsOneOf l (q, u)) (sym (take_all c.looks.read-index xs (omega arith))) (subst (λ l. IsOneOf l (q, u)) (sym c.reads-reads.ensures) i)) phase)

-- ---- verify

pub verify-agrees-requires : goal.verify-agrees-requires
verify-agrees-requires g t c κs within =
    (omega arith, (within.0, (within.1.0, (within.1.1.0, (within.1.1.1.0, (within.1.1.1.1, (c.requires.fits, (c.requires.newest, (c.requires.lent, (c.requires.fresh, (c.requires.memo, λ e. absurd (not_true e))))))))))))

pub verify-agrees-requires-then-low : goal.verify-agrees-requires-then-low
verify-agrees-requires-then-low g t c κs within =
    let fits = c.in_ok-low.ensures.fits c.args.lent.now.snapshot.files ∙ c.requires.fits in
    (omega arith, (within.0, (within.1.0, (within.1.1.0, (within.1.1.1.0, (within.1.1.1.1, (fits, (c.requires.newest, (c.requires.lent, (c.in_ok-low.ensures.fresh, (c.requires.memo, λ e. c.in_ok-low.ensures.same c.if-low.true)))))))))))

pub verify-returns-then-low-clause-fits : goal.verify-returns-then-low-clause-fits
verify-returns-then-low-clause-fits g t c = λ all. c.agrees-then-low.ensures.fits all ∙ c.in_ok-low.ensures.fits all

pub verify-returns-then-low-clause-same : goal.verify-returns-then-low-clause-same
verify-returns-then-low-clause-same g t c =
    ok_map c.agrees-then-low.result _ _ c.agrees-then-low.ensures.same (λ is s e j u i. elim (lower_or_not (g.K.Keyed.ranked j) (g.K.Keyed.ranked c.args.memo.now.finding.key)) [
      | inl l ↦ c.in_ok-low.ensures.same c.if-low.true j u i l
      | inr l ↦ s e j u i l
    ])

pub verify-returns-in_err-low-clause-current : goal.verify-returns-in_err-low-clause-current
verify-returns-in_err-low-clause-current g t c = λ cur. let v = c.in_err-low.ensures.current cur in (v.0, ok_never _ _ c.from_residual.ensures.0)

pub verify-returns-clause-current : goal.verify-returns-clause-current
verify-returns-clause-current g t c = λ cur.
    let v = c.in_ok-low.ensures.current cur in
    absurd (not_true (sym c.if-low.false ∙ v.1))

pub verify-returns-then-low-clause-current : goal.verify-returns-then-low-clause-current
verify-returns-then-low-clause-current g t c = λ cur.
    let a = c.in_ok-low.ensures.current cur in
    let b = c.agrees-then-low.ensures.current (λ j u i. current_along (g.K.Keyed.given c.args.lent.now.snapshot.files) _ _ a.0.1 j u (cur j u i)) in
    ((b.0.0 ∙ a.0.0, λ q. a.0.1 q ∙ b.0.1 q), b.1)

pub verify-returns-in_err-low-clause-watch : goal.verify-returns-in_err-low-clause-watch
verify-returns-in_err-low-clause-watch g t c =
    watched_from c.from_residual.result c.in_err-low.field-0.0 c.args.lent.now.snapshot.revision _ _ _ c.from_residual.ensures.1 (no_more _) c.in_err-low.ensures.watch

pub verify-returns-clause-watch : goal.verify-returns-clause-watch
verify-returns-clause-watch g t c = let w = c.in_ok-low.ensures.watch in (w.0, w.1, tt)

pub verify-returns-then-low-clause-watch : goal.verify-returns-then-low-clause-watch
verify-returns-then-low-clause-watch g t c =
    let w = c.in_ok-low.ensures.watch in
    watched_then c.agrees-then-low.result c.args.lent.now.snapshot.revision _ _ _ (w.0, w.1) c.agrees-then-low.ensures.watch

pub verify-returns-in_err-low-clause-gains : goal.verify-returns-in_err-low-clause-gains
verify-returns-in_err-low-clause-gains g t c = λ set.
    let b = c.in_err-low.ensures.gains set in
    let lose = spare_from c.from_residual.result c.in_err-low.field-0.0 c.from_residual.ensures.1 in
    (b.0, b.1, (let q = b.2 in omega (arith, q, lose)), ok_never _ _ c.from_residual.ensures.0)

pub verify-returns-clause-gains : goal.verify-returns-clause-gains
verify-returns-clause-gains g t c = λ set.
    let b = c.in_ok-low.ensures.gains set in
    let m = c.args.memo.now in
    (b.0, b.1, (let q = b.2 in omega (arith, q)), subst (λ y. HasShown (D g) c.args.lent.now.snapshot.files y (found_in g.K.Key.Ord.cmp c.agrees.new.fresh) (λ j. InPhase false (g.K.Keyed.ranked j) (g.K.Keyed.ranked m.finding.key)) m.finding.reads) c.if-low.false b.3)

pub verify-returns-then-low-clause-gains : goal.verify-returns-then-low-clause-gains
verify-returns-then-low-clause-gains g t c = λ set.
    let h = c.args.lent.now.snapshot.history in
    let r = c.args.lent.now.snapshot.revision in
    let files = c.args.lent.now.snapshot.files in
    let lent = c.args.lent.now.memos in
    let height = g.K.Ending.height (files_of h r) in
    let m = c.args.memo.now in
    let a = c.in_ok-low.ensures.gains set in
    let b = c.agrees-then-low.ensures.gains a.1.settled in
    let sum = length_both a.0 b.0 in
    let first = subst (λ y. HasShown (D g) files y (found_in g.K.Key.Ord.cmp c.agrees.new.fresh) (λ j. InPhase false (g.K.Keyed.ranked j) (g.K.Keyed.ranked m.finding.key)) m.finding.reads) c.if-low.true a.3 in
    (a.0 ++ b.0, gain_then (D g) files height lent r (height m.finding.key) (InReachOfReads (D g) files (overlaid g.K.Key.Ord.cmp c.args.fresh.now lent) m.finding.reads) a.1 b.1 (omega arith) (omega arith) (λ k y. y) (λ k y. (y.0, y.1, y.2, reach_before (D g) files height lent r a.1 refl y.3)), (let p = a.2 in let q = b.2 in omega (arith, sum, p, q)), ok_map c.agrees-then-low.result _ _ b.3 (λ v l. both_phases (D g) files height lent r v m.finding.key c.agrees.new.fresh c.agrees-then-low.new.fresh m.finding.reads first b.1.kept l))

-- ---- renew

pub renew-verify-requires : goal.renew-verify-requires
renew-verify-requires g t c κs within =
    let h = c.args.lent.now.snapshot.history in
    let lent = c.args.lent.now.memos in
    let fresh = c.args.fresh.now in
    let m = c.in-Some.memo in
    let e = subst (λ o. MatchOption o (Unit {0}) (λ m. (m.finding.key ≡ c.args.key.now) × (IsOneOf fresh m ⊎ IsOneOf lent m))) c.in-Some.is c.in_ok-memo.ensures.held in
    let sound = sound_held (D g) h fresh lent c.requires.fresh c.requires.lent m e.1 in
    let high = ap (g.K.Ending.height (files_of h c.args.lent.now.snapshot.revision)) e.0 in
    (omega (arith, high), (within.0, (within.1.0, (within.1.1.0, (within.1.1.1.0, (within.1.1.1.1, (c.requires.fits, (c.requires.newest, (c.requires.lent, (c.requires.fresh, sound))))))))))

pub renew-returns-then-same-clause-memo : goal.renew-returns-then-same-clause-memo
renew-returns-then-same-clause-memo g t c =
    let h = c.args.lent.now.snapshot.history in
    let r = c.args.lent.now.snapshot.revision in
    let lent = c.args.lent.now.memos in
    let fresh = c.args.fresh.now in
    let m = c.in-Some.memo in
    let e = subst (λ o. MatchOption o (Unit {0}) (λ m. (m.finding.key ≡ c.args.key.now) × (IsOneOf fresh m ⊎ IsOneOf lent m))) c.in-Some.is c.in_ok-memo.ensures.held in
    let sound = sound_held (D g) h fresh lent c.requires.fresh c.requires.lent m e.1 in
    let last = c.requires.newest.last in
    let now = ∥∥₁_map sound (λ s. let known = s.known in valid (D g) h (has g h) m r s (omega (arith, known, last)) (omega (arith, last)) (c.in_ok-same-in-Some.ensures.same c.if-same.true)) in
    let is = c.verified_now.ensures in
    (ap (λ (x : MemoValue g.row.K-Key.Denot g.row.K-Value.Denot). x.finding.key) is ∙ e.0, ap (λ (x : MemoValue g.row.K-Key.Denot g.row.K-Value.Denot). x.verified) is, subst (λ x. ∥ IsSound (D g) h x ∥₁) (sym is) now)

pub renew-returns-then-same-clause-serves : goal.renew-returns-then-same-clause-serves
renew-returns-then-same-clause-serves g t c =
    let found = found_is c.in_ok-memo.field-0 _ c.in_ok-memo.ensures.found c.in-Some.memo c.in-Some.is in
    let serving = subst (λ o. IfSome o (λ f. g.K.Keyed.serves f.value c.args.fuel ≡ true)) found c.requires.serving in
    ap (λ (x : MemoValue g.row.K-Key.Denot g.row.K-Value.Denot). g.K.Keyed.serves x.finding.value c.args.fuel) c.verified_now.ensures ∙ serving

pub renew-returns-in_err-same-in-Some-clause-current : goal.renew-returns-in_err-same-in-Some-clause-current
renew-returns-in_err-same-in-Some-clause-current g t c = λ s cur.
    let key = c.args.key.now in
    let files = c.args.lent.now.snapshot.files in
    let m = c.in-Some.memo in
    let found = found_is c.in_ok-memo.field-0 _ c.in_ok-memo.ensures.found m c.in-Some.is in
    let there = current_found (g.K.Keyed.given files) _ cur (no_stamped_value (g.K.Keyed.given files key) _ (g.met.K.Keyed.inputs files key) c.requires.computed) in
    let same = one_some _ m.finding there.0 found there.1 in
    let v = c.in_err-same-in-Some.ensures.current (λ j u a. there.3 j u (subst (λ (f : FindingValue g.row.K-Key.Denot g.row.K-Value.Denot). IsOneOf f.reads (j, u)) same a)) in
    (v.0, ok_never _ _ c.from_residual-in_err-same-in-Some.ensures.0)

pub renew-returns-then-same-clause-current : goal.renew-returns-then-same-clause-current
renew-returns-then-same-clause-current g t c = λ s cur.
    let key = c.args.key.now in
    let files = c.args.lent.now.snapshot.files in
    let m = c.in-Some.memo in
    let found = found_is c.in_ok-memo.field-0 _ c.in_ok-memo.ensures.found m c.in-Some.is in
    let there = current_found (g.K.Keyed.given files) _ cur (no_stamped_value (g.K.Keyed.given files key) _ (g.met.K.Keyed.inputs files key) c.requires.computed) in
    let same = one_some _ m.finding there.0 found there.1 in
    let v = c.in_ok-same-in-Some.ensures.current (λ j u a. there.3 j u (subst (λ (f : FindingValue g.row.K-Key.Denot g.row.K-Value.Denot). IsOneOf f.reads (j, u)) same a)) in
    let is = ap (λ (x : MemoValue g.row.K-Key.Denot g.row.K-Value.Denot). x.finding) c.verified_now.ensures in
    (v.0, (found ∙ ap Some (sym is), ap (λ (f : FindingValue g.row.K-Key.Denot g.row.K-Value.Denot). f.stamp) (is ∙ same) ∙ there.2))

pub renew-returns-in-None-clause-current : goal.renew-returns-in-None-clause-current
renew-returns-in-None-clause-current g t c = λ s cur.
    let key = c.args.key.now in
    let files = c.args.lent.now.snapshot.files in
    let nothing = found_none c.in_ok-memo.field-0 _ c.in_ok-memo.ensures.found c.in-None.is in
    let there = current_found (g.K.Keyed.given files) _ cur (no_stamped_value (g.K.Keyed.given files key) _ (g.met.K.Keyed.inputs files key) c.requires.computed) in
    absurd (none_some _ there.0 nothing there.1)

pub renew-returns-in_err-newer-in-Some-clause-current : goal.renew-returns-in_err-newer-in-Some-clause-current
renew-returns-in_err-newer-in-Some-clause-current g t c = λ s cur.
    let key = c.args.key.now in
    let files = c.args.lent.now.snapshot.files in
    let m = c.in-Some.memo in
    let found = found_is c.in_ok-memo.field-0 _ c.in_ok-memo.ensures.found m c.in-Some.is in
    let there = current_found (g.K.Keyed.given files) _ cur (no_stamped_value (g.K.Keyed.given files key) _ (g.met.K.Keyed.inputs files key) c.requires.computed) in
    let same = one_some _ m.finding there.0 found there.1 in
    let v = c.in_ok-same-in-Some.ensures.current (λ j u a. there.3 j u (subst (λ (f : FindingValue g.row.K-Key.Denot g.row.K-Value.Denot). IsOneOf f.reads (j, u)) same a)) in
    absurd (not_true (sym c.if-same.false ∙ v.1))

pub renew-returns-in_ok-newer-in-Some-clause-current : goal.renew-returns-in_ok-newer-in-Some-clause-current
renew-returns-in_ok-newer-in-Some-clause-current g t c = λ s cur.
    let key = c.args.key.now in
    let files = c.args.lent.now.snapshot.files in
    let m = c.in-Some.memo in
    let found = found_is c.in_ok-memo.field-0 _ c.in_ok-memo.ensures.found m c.in-Some.is in
    let there = current_found (g.K.Keyed.given files) _ cur (no_stamped_value (g.K.Keyed.given files key) _ (g.met.K.Keyed.inputs files key) c.requires.computed) in
    let same = one_some _ m.finding there.0 found there.1 in
    let v = c.in_ok-same-in-Some.ensures.current (λ j u a. there.3 j u (subst (λ (f : FindingValue g.row.K-Key.Denot g.row.K-Value.Denot). IsOneOf f.reads (j, u)) same a)) in
    absurd (not_true (sym c.if-same.false ∙ v.1))

pub renew-returns-in_err-memo-clause-watch : goal.renew-returns-in_err-memo-clause-watch
renew-returns-in_err-memo-clause-watch g t c = watched_none c.from_residual.result c.args.lent.now.snapshot.revision _ _ c.from_residual.ensures.1 (no_more _)

pub renew-returns-in_err-same-in-Some-clause-watch : goal.renew-returns-in_err-same-in-Some-clause-watch
renew-returns-in_err-same-in-Some-clause-watch g t c =
    watched_from c.from_residual-in_err-same-in-Some.result c.in_err-same-in-Some.field-0.0 c.args.lent.now.snapshot.revision _ _ _ c.from_residual-in_err-same-in-Some.ensures.1 (no_more _) c.in_err-same-in-Some.ensures.watch

pub renew-returns-then-same-clause-watch : goal.renew-returns-then-same-clause-watch
renew-returns-then-same-clause-watch g t c = let w = c.in_ok-same-in-Some.ensures.watch in (w.0, w.1, tt)

pub renew-returns-in_err-newer-in-Some-clause-watch : goal.renew-returns-in_err-newer-in-Some-clause-watch
renew-returns-in_err-newer-in-Some-clause-watch g t c =
    let w = c.in_ok-same-in-Some.ensures.watch in
    watched_from c.from_residual-in_err-newer-in-Some.result c.in_err-newer-in-Some.field-0.0 c.args.lent.now.snapshot.revision _ _ _ c.from_residual-in_err-newer-in-Some.ensures.1 (w.0, w.1) c.in_err-newer-in-Some.ensures.watch

pub renew-returns-in_ok-newer-in-Some-clause-watch : goal.renew-returns-in_ok-newer-in-Some-clause-watch
renew-returns-in_ok-newer-in-Some-clause-watch g t c =
    let w = c.in_ok-same-in-Some.ensures.watch in
    let v = c.in_ok-newer-in-Some.ensures.watch in
    let more = more_then _ _ _ (w.0, w.1) (v.0, v.1) in
    (more.0, more.1, tt)

pub renew-returns-in_err-newer-in-Some-clause-fits : goal.renew-returns-in_err-newer-in-Some-clause-fits
renew-returns-in_err-newer-in-Some-clause-fits g t c = λ all. c.in_err-newer-in-Some.ensures.fits all ∙ c.in_ok-same-in-Some.ensures.fits all

pub renew-returns-in_ok-newer-in-Some-clause-fits : goal.renew-returns-in_ok-newer-in-Some-clause-fits
renew-returns-in_ok-newer-in-Some-clause-fits g t c = λ all. c.in_ok-newer-in-Some.ensures.fits all ∙ c.in_ok-same-in-Some.ensures.fits all

pub renew-returns-in_ok-newer-in-Some-clause-memo : goal.renew-returns-in_ok-newer-in-Some-clause-memo
renew-returns-in_ok-newer-in-Some-clause-memo g t c =
    let h = c.args.lent.now.snapshot.history in
    let r = c.args.lent.now.snapshot.revision in
    let lent = c.args.lent.now.memos in
    let fresh = c.args.fresh.now in
    let m = c.in-Some.memo in
    let e = subst (λ o. MatchOption o (Unit {0}) (λ m. (m.finding.key ≡ c.args.key.now) × (IsOneOf fresh m ⊎ IsOneOf lent m))) c.in-Some.is c.in_ok-memo.ensures.held in
    let sound = sound_held (D g) h fresh lent c.requires.fresh c.requires.lent m e.1 in
    let last = c.requires.newest.last in
    let n = c.in_ok-newer-in-Some.newer in
    let w = c.in_ok-newer-in-Some.ensures.memo in
    let p = c.with_stamp.ensures in
    (p.same.0 ∙ w.0, p.same.2 ∙ w.1, restamped (D g) h m n c.with_stamp.result (e.0 ∙ sym w.0) (λ s. let known = s.known in let late = w.1 in omega (arith, known, last, late)) sound w.2 p.same p.stamp)

pub renew-returns-in_ok-newer-in-Some-clause-serves : goal.renew-returns-in_ok-newer-in-Some-clause-serves
renew-returns-in_ok-newer-in-Some-clause-serves g t c = ap (λ v. g.K.Keyed.serves v c.args.fuel) c.with_stamp.ensures.same.1 ∙ c.in_ok-newer-in-Some.ensures.serves

pub renew-returns-in_err-memo-clause-gains : goal.renew-returns-in_err-memo-clause-gains
renew-returns-in_err-memo-clause-gains g t c = λ set none.
    ([], no_gain (D g) _ (g.K.Ending.height (files_of c.args.lent.now.snapshot.history c.args.lent.now.snapshot.revision)) c.args.lent.now.memos _ _ _ _ c.args.fresh.now set, (λ err. omega arith), ok_never _ _ c.from_residual.ensures.0)

pub renew-returns-in_err-same-in-Some-clause-gains : goal.renew-returns-in_err-same-in-Some-clause-gains
renew-returns-in_err-same-in-Some-clause-gains g t c = λ set none.
    let h = c.args.lent.now.snapshot.history in
    let r = c.args.lent.now.snapshot.revision in
    let files = c.args.lent.now.snapshot.files in
    let lent = c.args.lent.now.memos in
    let height = g.K.Ending.height (files_of h r) in
    let key = c.args.key.now in
    let m = c.in-Some.memo in
    let before = overlaid g.K.Key.Ord.cmp c.args.fresh.now lent in
    let e = subst (λ o. MatchOption o (Unit {0}) (λ m. (m.finding.key ≡ key) × (IsOneOf c.args.fresh.now m ⊎ IsOneOf lent m))) c.in-Some.is c.in_ok-memo.ensures.held in
    let found = found_is c.in_ok-memo.field-0 (before key) c.in_ok-memo.ensures.found m c.in-Some.is in
    let level = ap height e.0 in
    let b = c.in_err-same-in-Some.ensures.gains set in
    let lose = spare_from c.from_residual-in_err-same-in-Some.result c.in_err-same-in-Some.field-0.0 c.from_residual-in_err-same-in-Some.ensures.1 in
    (b.0, gain_within (D g) files height lent r (height key) 0 (IsBelow (D g) files before key c.args.fuel) b.1 (omega (arith, level)) (λ k y. (y.0, inl (m.finding, y.1, found, y.2), y.3)), (λ err. let q = b.2 in omega (arith, q, lose)), ok_never _ _ c.from_residual-in_err-same-in-Some.ensures.0)

pub renew-returns-then-same-clause-gains : goal.renew-returns-then-same-clause-gains
renew-returns-then-same-clause-gains g t c = λ set none.
    let h = c.args.lent.now.snapshot.history in
    let r = c.args.lent.now.snapshot.revision in
    let files = c.args.lent.now.snapshot.files in
    let lent = c.args.lent.now.memos in
    let height = g.K.Ending.height (files_of h r) in
    let key = c.args.key.now in
    let m = c.in-Some.memo in
    let cmp = g.K.Key.Ord.cmp in
    let before = overlaid cmp c.args.fresh.now lent in
    let e = subst (λ o. MatchOption o (Unit {0}) (λ m. (m.finding.key ≡ key) × (IsOneOf c.args.fresh.now m ⊎ IsOneOf lent m))) c.in-Some.is c.in_ok-memo.ensures.held in
    let found = found_is c.in_ok-memo.field-0 (before key) c.in_ok-memo.ensures.found m c.in-Some.is in
    let level = ap height e.0 in
    let b = c.in_ok-same-in-Some.ensures.gains set in
    let is = ap (λ (x : MemoValue g.row.K-Key.Denot g.row.K-Value.Denot). x.finding) c.verified_now.ensures in
    let now = found_in cmp c.verify.new.fresh in
    let shown = subst (λ y. HasShown (D g) files y now (λ j. Unit {0}) m.finding.reads) c.if-same.true b.3 in
    let all = subst (λ (f : FindingValue g.row.K-Key.Denot g.row.K-Value.Denot). AllCurrent (D g) files now (λ j. Unit {0}) f.reads) (sym is) shown in
    let over = ap (λ o. first_of o (found_in cmp lent key)) (b.1.high key (omega (arith, level))) ∙ found ∙ ap Some (sym is) in
    (b.0, gain_within (D g) files height lent r (height key) 0 (IsBelow (D g) files before key c.args.fuel) b.1 (omega (arith, level)) (λ k y. (y.0, inl (m.finding, y.1, found, y.2), y.3)), (λ err. absurd (not_true err)), (all, inl (over, (let q = b.2 in omega (arith, q)))))

pub renew-returns-in-None-clause-gains : goal.renew-returns-in-None-clause-gains
renew-returns-in-None-clause-gains g t c = λ set none.
    let h = c.args.lent.now.snapshot.history in
    let r = c.args.lent.now.snapshot.revision in
    let files = c.args.lent.now.snapshot.files in
    let lent = c.args.lent.now.memos in
    let height = g.K.Ending.height (files_of h r) in
    let key = c.args.key.now in
    let cmp = g.K.Key.Ord.cmp in
    let before = overlaid cmp c.args.fresh.now lent in
    let nothing = found_none c.in_ok-memo.field-0 (before key) c.in_ok-memo.ensures.found c.in-None.is in
    let a = c.anew-in-None.ensures.gains set in
    let over = ap (λ o. first_of o (found_in cmp lent key)) (a.1.high key (omega arith)) ∙ nothing in
    let not = not_yet_none (D g) files height lent r c.anew-in-None.new.fresh key (no_stamped_value (g.K.Keyed.given files key) _ (g.met.K.Keyed.inputs files key) c.requires.computed) over in
    (a.0, gain_within (D g) files height lent r (height key) 0 (IsBelow (D g) files before key c.args.fuel) a.1 (omega arith) (λ k y. (y.0, inr y.1, y.2)), (λ err. let same = spent_err c.anew-in-None.result err in let q = a.2 in omega (arith, q, same)), ok_spent c.anew-in-None.result _ _ a.3 (λ n one w. (w.0, inr (not, w.1, (let q = a.2 in omega (arith, q, one))))))

pub renew-returns-in_err-newer-in-Some-clause-gains : goal.renew-returns-in_err-newer-in-Some-clause-gains
renew-returns-in_err-newer-in-Some-clause-gains g t c = λ set none.
    let h = c.args.lent.now.snapshot.history in
    let r = c.args.lent.now.snapshot.revision in
    let files = c.args.lent.now.snapshot.files in
    let lent = c.args.lent.now.memos in
    let height = g.K.Ending.height (files_of h r) in
    let key = c.args.key.now in
    let m = c.in-Some.memo in
    let before = overlaid g.K.Key.Ord.cmp c.args.fresh.now lent in
    let e = subst (λ o. MatchOption o (Unit {0}) (λ m. (m.finding.key ≡ key) × (IsOneOf c.args.fresh.now m ⊎ IsOneOf lent m))) c.in-Some.is c.in_ok-memo.ensures.held in
    let found = found_is c.in_ok-memo.field-0 (before key) c.in_ok-memo.ensures.found m c.in-Some.is in
    let level = ap height e.0 in
    let b = c.in_ok-same-in-Some.ensures.gains set in
    let first = gain_within (D g) files height lent r (height key) 0 (IsBelow (D g) files before key c.args.fuel) b.1 (omega (arith, level)) (λ k y. (y.0, inl (m.finding, y.1, found, y.2), y.3)) in
    let a = c.in_err-newer-in-Some.ensures.gains b.1.settled in
    let sum = length_both b.0 a.0 in
    let lose = spent_from c.from_residual-in_err-newer-in-Some.result c.in_err-newer-in-Some.field-0.0 c.from_residual-in_err-newer-in-Some.ensures.1 in
    let free = spare_from c.from_residual-in_err-newer-in-Some.result c.in_err-newer-in-Some.field-0.0 c.from_residual-in_err-newer-in-Some.ensures.1 in
    (b.0 ++ a.0, gain_then (D g) files height lent r (height key) (IsBelow (D g) files before key c.args.fuel) first a.1 (omega arith) (omega arith) (λ k y. y) (λ k y. (y.0, inr y.1, reach_before (D g) files height lent r b.1 refl y.2)), (λ err. let p = b.2 in let q = a.2 in omega (arith, sum, p, q, lose, free)), ok_never _ _ c.from_residual-in_err-newer-in-Some.ensures.0)

pub renew-returns-in_ok-newer-in-Some-clause-gains : goal.renew-returns-in_ok-newer-in-Some-clause-gains
renew-returns-in_ok-newer-in-Some-clause-gains g t c = λ set none.
    let h = c.args.lent.now.snapshot.history in
    let r = c.args.lent.now.snapshot.revision in
    let files = c.args.lent.now.snapshot.files in
    let lent = c.args.lent.now.memos in
    let height = g.K.Ending.height (files_of h r) in
    let key = c.args.key.now in
    let m = c.in-Some.memo in
    let cmp = g.K.Key.Ord.cmp in
    let before = overlaid cmp c.args.fresh.now lent in
    let e = subst (λ o. MatchOption o (Unit {0}) (λ m. (m.finding.key ≡ key) × (IsOneOf c.args.fresh.now m ⊎ IsOneOf lent m))) c.in-Some.is c.in_ok-memo.ensures.held in
    let found = found_is c.in_ok-memo.field-0 (before key) c.in_ok-memo.ensures.found m c.in-Some.is in
    let level = ap height e.0 in
    let b = c.in_ok-same-in-Some.ensures.gains set in
    let first = gain_within (D g) files height lent r (height key) 0 (IsBelow (D g) files before key c.args.fuel) b.1 (omega (arith, level)) (λ k y. (y.0, inl (m.finding, y.1, found, y.2), y.3)) in
    let a = c.in_ok-newer-in-Some.ensures.gains b.1.settled in
    let sum = length_both b.0 a.0 in
    let F1 = c.verify.new.fresh in
    let F2 = c.anew.new.fresh in
    let shown = subst (λ y. HasShown (D g) files y (found_in cmp F1) (λ j. Unit {0}) m.finding.reads) c.if-same.false b.3 in
    let stale = stale_more (D g) files height lent r F1 F2 m.finding.reads a.1.kept shown in
    let over = ap (λ o. first_of o (found_in cmp lent key)) (a.1.high key (omega arith) ∙ b.1.high key (omega (arith, level))) ∙ found in
    let not = not_yet (D g) files height lent r F2 key m.finding (no_stamped_value (g.K.Keyed.given files key) _ (g.met.K.Keyed.inputs files key) c.requires.computed) over stale in
    let reads : c.in_ok-newer-in-Some.newer.finding.reads ≡ c.with_stamp.result.finding.reads = sym c.with_stamp.ensures.same.3 in
    let w = a.3 in
    (b.0 ++ a.0, gain_then (D g) files height lent r (height key) (IsBelow (D g) files before key c.args.fuel) first a.1 (omega arith) (omega arith) (λ k y. y) (λ k y. (y.0, inr y.1, reach_before (D g) files height lent r b.1 refl y.2)), (λ err. absurd (not_true err)), (subst (λ l. AllCurrent (D g) files (found_in cmp F2) (λ j. Unit {0}) l) reads w.0, inr (not, (λ j u i. w.1 j u (subst (λ l. IsOneOf l (j, u)) (sym reads) i)), (let p = b.2 in let q = a.2 in omega (arith, sum, p, q)))))

-- ---- bring

pub bring-renew-requires : goal.bring-renew-requires
bring-renew-requires g t c κs within =
    let files = c.args.lent.now.snapshot.files in
    let key = c.args.key.now in
    let none = given_none (g.K.Keyed.given files) key c.in_ok-value.field-0 c.in_ok-value.ensures c.in_default.is in
    let computed = no_input (g.K.Keyed.given files key) (g.K.Keyed.is_input key) (g.met.K.Keyed.inputs files key) (ap (option_map (λ (pair : g.row.K-Value.Denot × ℕ). pair.0)) none) in
    (omega arith, (within.0, (within.1.0, (within.1.1.0, (within.1.1.1.0, (within.1.1.1.1, (c.requires.fits, (c.requires.newest, (c.requires.lent, (c.requires.fresh, (computed, c.requires.serving)))))))))))

pub bring-returns-in-Some-clause-value : goal.bring-returns-in-Some-clause-value
bring-returns-in-Some-clause-value g t c =
    let h = c.args.lent.now.snapshot.history in
    let r = c.args.lent.now.snapshot.revision in
    let key = c.args.key.now in
    let v = arc_value c.in-Some.value in
    let s = c.in-Some.stamp in
    let is = given_is (g.K.Keyed.given c.args.lent.now.snapshot.files) key c.in_ok-value.field-0 c.in_ok-value.ensures c.in-Some.value s c.in-Some.is in
    let here = subst (λ f. g.K.Keyed.given f key ≡ Some (v, s)) (sym c.requires.newest.here) is in
    let last = c.requires.newest.last in
    let stamps = g.met.K.Keyed.stamps h r c.requires.newest.untouched (omega (arith, last)) key v s here in
    input_stamped (D g) h r key v s stamps.0 stamps.1 (ap (option_map (λ (pair : g.row.K-Value.Denot × ℕ). pair.0)) here)

pub bring-returns-in-Some-clause-serves : goal.bring-returns-in-Some-clause-serves
bring-returns-in-Some-clause-serves g t c =
    let files = c.args.lent.now.snapshot.files in
    let key = c.args.key.now in
    let v = arc_value c.in-Some.value in
    let is = given_is (g.K.Keyed.given files) key c.in_ok-value.field-0 c.in_ok-value.ensures c.in-Some.value c.in-Some.stamp c.in-Some.is in
    serve g files key c.args.fuel v ([], is_given (ap (option_map (λ (pair : g.row.K-Value.Denot × ℕ). pair.0)) is))

pub bring-returns-in-Some-clause-current : goal.bring-returns-in-Some-clause-current
bring-returns-in-Some-clause-current g t c = λ s cur.
    let files = c.args.lent.now.snapshot.files in
    let is = given_is (g.K.Keyed.given files) c.args.key.now c.in_ok-value.field-0 c.in_ok-value.ensures c.in-Some.value c.in-Some.stamp c.in-Some.is in
    ((refl, λ q. refl), current_input (g.K.Keyed.given files) _ cur (arc_value c.in-Some.value) c.in-Some.stamp is)

pub bring-returns-in-Some-2-clause-value : goal.bring-returns-in-Some-2-clause-value
bring-returns-in-Some-2-clause-value g t c =
    let h = c.args.lent.now.snapshot.history in
    let r = c.args.lent.now.snapshot.revision in
    let key = c.args.key.now in
    let m = c.in-Some-2.memo in
    let found = subst (λ o. MatchOption o (Unit {0}) (λ m. (m.finding.key ≡ key) × IsOneOf c.args.fresh.now m × (m.verified ≡ r) × (found_in g.K.Key.Ord.cmp c.args.fresh.now key ≡ Some m.finding))) c.in-Some-2.is c.in_ok-memo.ensures.some in
    let stamped = stamped_when (D g) h r key m found.0 found.2 (c.requires.fresh m found.1) in
    ok_from c.handed.result _ _ _ c.handed.ensures (λ p q. subst (λ u. IsStamped (D g) h r key (arc_value p.0) u) (sym q.1) (subst (λ v. IsStamped (D g) h r key v m.finding.stamp) (sym q.0) stamped))

pub bring-returns-in-Some-2-clause-serves : goal.bring-returns-in-Some-2-clause-serves
bring-returns-in-Some-2-clause-serves g t c =
    let r = c.args.lent.now.snapshot.revision in
    let key = c.args.key.now in
    let m = c.in-Some-2.memo in
    let cmp = g.K.Key.Ord.cmp in
    let found = subst (λ o. MatchOption o (Unit {0}) (λ m. (m.finding.key ≡ key) × IsOneOf c.args.fresh.now m × (m.verified ≡ r) × (found_in cmp c.args.fresh.now key ≡ Some m.finding))) c.in-Some-2.is c.in_ok-memo.ensures.some in
    let over = over_fresh (found_in cmp c.args.fresh.now key) (found_in cmp c.args.lent.now.memos key) m.finding found.3 in
    let serving = subst (λ o. IfSome o (λ f. g.K.Keyed.serves f.value c.args.fuel ≡ true)) over c.requires.serving in
    ok_from c.handed.result _ _ _ c.handed.ensures (λ p q. ap (λ v. g.K.Keyed.serves v c.args.fuel) q.0 ∙ serving)

pub bring-returns-in-Some-2-clause-current : goal.bring-returns-in-Some-2-clause-current
bring-returns-in-Some-2-clause-current g t c = λ s cur.
    let r = c.args.lent.now.snapshot.revision in
    let key = c.args.key.now in
    let files = c.args.lent.now.snapshot.files in
    let m = c.in-Some-2.memo in
    let cmp = g.K.Key.Ord.cmp in
    let found = subst (λ o. MatchOption o (Unit {0}) (λ m. (m.finding.key ≡ key) × IsOneOf c.args.fresh.now m × (m.verified ≡ r) × (found_in cmp c.args.fresh.now key ≡ Some m.finding))) c.in-Some-2.is c.in_ok-memo.ensures.some in
    let there = current_found (g.K.Keyed.given files) _ cur (given_none (g.K.Keyed.given files) key c.in_ok-value.field-0 c.in_ok-value.ensures c.in_default.is) in
    let over = over_fresh (found_in cmp c.args.fresh.now key) (found_in cmp c.args.lent.now.memos key) m.finding found.3 in
    let same = one_some (overlaid cmp c.args.fresh.now c.args.lent.now.memos key) m.finding there.0 over there.1 in
    ((refl, λ _. refl), ok_from c.handed.result _ _ _ c.handed.ensures (λ p k. k.1 ∙ ap (λ (f : FindingValue g.row.K-Key.Denot g.row.K-Value.Denot). f.stamp) same ∙ there.2))

pub bring-returns-clause-value : goal.bring-returns-clause-value
bring-returns-clause-value g t c =
    let h = c.args.lent.now.snapshot.history in
    let r = c.args.lent.now.snapshot.revision in
    let key = c.args.key.now in
    let n = c.in_ok-renewed.renewed in
    let m = c.in_ok-renewed.ensures.memo in
    let stamped = stamped_when (D g) h r key n m.0 m.1 m.2 in
    ok_from c.keep.result _ _ _ c.keep.ensures (λ p q. subst (λ u. IsStamped (D g) h r key (arc_value p.0) u) (sym q.1) (subst (λ v. IsStamped (D g) h r key v n.finding.stamp) (sym q.0) stamped))

pub bring-returns-clause-serves : goal.bring-returns-clause-serves
bring-returns-clause-serves g t c = ok_from c.keep.result _ _ _ c.keep.ensures (λ p q. ap (λ v. g.K.Keyed.serves v c.args.fuel) q.0 ∙ c.in_ok-renewed.ensures.serves)

pub bring-returns-in-Some-clause-serving : goal.bring-returns-in-Some-clause-serving
bring-returns-in-Some-clause-serving g t c = fresh_serving _ _ (λ (f : FindingValue g.row.K-Key.Denot g.row.K-Value.Denot). g.K.Keyed.serves f.value c.args.fuel ≡ true) c.requires.serving

pub bring-returns-in-Some-2-clause-serving : goal.bring-returns-in-Some-2-clause-serving
bring-returns-in-Some-2-clause-serving g t c = ok_from c.handed.result _ _ _ c.handed.ensures (λ p q. fresh_serving _ _ (λ (f : FindingValue g.row.K-Key.Denot g.row.K-Value.Denot). g.K.Keyed.serves f.value c.args.fuel ≡ true) c.requires.serving)

pub bring-returns-clause-serving : goal.bring-returns-clause-serving
bring-returns-clause-serving g t c =
    let key = c.args.key.now in
    let cmp = g.K.Key.Ord.cmp in
    let n = c.in_ok-renewed.renewed in
    let F1 = c.renew.new.fresh in
    let P : Option (FindingValue g.row.K-Key.Denot g.row.K-Value.Denot) → Type 0 = λ o. IfSome o (λ f. g.K.Keyed.serves f.value c.args.fuel ≡ true) in
    let there : found_in cmp (put_memo cmp n F1) key ≡ Some n.finding = ap (found_in cmp (put_memo cmp n F1)) (sym c.in_ok-renewed.ensures.memo.0) ∙ put_found cmp (exact g) (equal g) n F1 in
    ok_from c.keep.result _ _ _ c.keep.ensures (λ p q. subst P (sym (ap (λ l. found_in cmp l key) q.2 ∙ there)) c.in_ok-renewed.ensures.serves)

pub bring-returns-clause-fresh : goal.bring-returns-clause-fresh
bring-returns-clause-fresh g t c =
    let h = c.args.lent.now.snapshot.history in
    let m = c.in_ok-renewed.ensures in
    either_from c.keep.result _ _ _ c.keep.ensures (λ p q. subst (λ l. AllSound (D g) h l) (sym q.2) (sound_put (D g) h c.renew.new.fresh c.in_ok-renewed.renewed m.fresh m.memo.2)) (λ e q. subst (λ l. AllSound (D g) h l) (sym q.1) m.fresh)

pub bring-returns-clause-current : goal.bring-returns-clause-current
bring-returns-clause-current g t c = λ s cur.
    let key = c.args.key.now in
    let lent = c.args.lent.now.memos in
    let cmp = g.K.Key.Ord.cmp in
    let n = c.in_ok-renewed.renewed in
    let m = c.in_ok-renewed.ensures.current s cur in
    let fresh = c.renew.new.fresh in
    let is : overlaid cmp fresh lent n.finding.key ≡ Some n.finding = ap (overlaid cmp fresh lent) c.in_ok-renewed.ensures.memo.0 ∙ sym (m.0.1 key) ∙ m.1.0 in
    ((m.0.0, λ q. m.0.1 q ∙ either_from c.keep.result _ _ _ c.keep.ensures (λ p k. sym (overlaid_same cmp (exact g) (equal g) fresh lent n is q) ∙ ap (λ l. overlaid cmp l lent q) (sym k.2)) (λ e k. ap (λ l. overlaid cmp l lent q) (sym k.1))), ok_from c.keep.result _ _ _ c.keep.ensures (λ p k. k.1 ∙ m.1.1))

pub bring-returns-in_err-look_out-clause-watch : goal.bring-returns-in_err-look_out-clause-watch
bring-returns-in_err-look_out-clause-watch g t c =
    watched_from c.from_residual.result c.in_err-look_out.field-0.0 c.args.lent.now.snapshot.revision _ _ _ c.from_residual.ensures.1 (no_more _) c.in_err-look_out.ensures

pub bring-returns-in_err-value-clause-watch : goal.bring-returns-in_err-value-clause-watch
bring-returns-in_err-value-clause-watch g t c =
    let w = c.in_ok-look_out.ensures in
    watched_none c.from_residual-in_err-value.result c.args.lent.now.snapshot.revision _ _ c.from_residual-in_err-value.ensures.1 (w.0, w.1)

pub bring-returns-in-Some-clause-watch : goal.bring-returns-in-Some-clause-watch
bring-returns-in-Some-clause-watch g t c = let w = c.in_ok-look_out.ensures in (w.0, w.1, tt)

pub bring-returns-in_err-memo-clause-watch : goal.bring-returns-in_err-memo-clause-watch
bring-returns-in_err-memo-clause-watch g t c =
    let w = c.in_ok-look_out.ensures in
    watched_none c.from_residual-in_err-memo.result c.args.lent.now.snapshot.revision _ _ c.from_residual-in_err-memo.ensures.1 (w.0, w.1)

pub bring-returns-in-Some-2-clause-watch : goal.bring-returns-in-Some-2-clause-watch
bring-returns-in-Some-2-clause-watch g t c =
    let w = c.in_ok-look_out.ensures in
    watched_free c.handed.result _ _ c.args.lent.now.snapshot.revision _ _ c.handed.ensures (λ e q. q) (w.0, w.1)

pub bring-returns-in_err-renewed-clause-watch : goal.bring-returns-in_err-renewed-clause-watch
bring-returns-in_err-renewed-clause-watch g t c =
    let w = c.in_ok-look_out.ensures in
    watched_from c.from_residual-in_err-renewed.result c.in_err-renewed.field-0.0 c.args.lent.now.snapshot.revision _ _ _ c.from_residual-in_err-renewed.ensures.1 (w.0, w.1) c.in_err-renewed.ensures.watch

pub bring-returns-clause-watch : goal.bring-returns-clause-watch
bring-returns-clause-watch g t c =
    let w = c.in_ok-look_out.ensures in
    let m = c.in_ok-renewed.ensures.watch in
    watched_free c.keep.result _ _ c.args.lent.now.snapshot.revision _ _ c.keep.ensures (λ e q. q.0) (more_then _ _ _ (w.0, w.1) (m.0, m.1))

pub bring-returns-in_err-look_out-clause-gains : goal.bring-returns-in_err-look_out-clause-gains
bring-returns-in_err-look_out-clause-gains g t c = λ set.
    ([], no_gain (D g) _ (g.K.Ending.height (files_of c.args.lent.now.snapshot.history c.args.lent.now.snapshot.revision)) c.args.lent.now.memos _ _ _ _ c.args.fresh.now set, omega arith, ok_never _ _ c.from_residual.ensures.0)

pub bring-returns-in_err-value-clause-gains : goal.bring-returns-in_err-value-clause-gains
bring-returns-in_err-value-clause-gains g t c = λ set.
    ([], no_gain (D g) _ (g.K.Ending.height (files_of c.args.lent.now.snapshot.history c.args.lent.now.snapshot.revision)) c.args.lent.now.memos _ _ _ _ c.args.fresh.now set, omega arith, ok_never _ _ c.from_residual-in_err-value.ensures.0)

pub bring-returns-in_err-memo-clause-gains : goal.bring-returns-in_err-memo-clause-gains
bring-returns-in_err-memo-clause-gains g t c = λ set.
    ([], no_gain (D g) _ (g.K.Ending.height (files_of c.args.lent.now.snapshot.history c.args.lent.now.snapshot.revision)) c.args.lent.now.memos _ _ _ _ c.args.fresh.now set, omega arith, ok_never _ _ c.from_residual-in_err-memo.ensures.0)

pub bring-returns-in-Some-clause-gains : goal.bring-returns-in-Some-clause-gains
bring-returns-in-Some-clause-gains g t c = λ set.
    let files = c.args.lent.now.snapshot.files in
    let is = given_is (g.K.Keyed.given files) c.args.key.now c.in_ok-value.field-0 c.in_ok-value.ensures c.in-Some.value c.in-Some.stamp c.in-Some.is in
    ([], no_gain (D g) files (g.K.Ending.height (files_of c.args.lent.now.snapshot.history c.args.lent.now.snapshot.revision)) c.args.lent.now.memos _ _ _ _ c.args.fresh.now set, omega arith, by_input is)

pub bring-returns-in-Some-2-clause-gains : goal.bring-returns-in-Some-2-clause-gains
bring-returns-in-Some-2-clause-gains g t c = λ set.
    let r = c.args.lent.now.snapshot.revision in
    let key = c.args.key.now in
    let files = c.args.lent.now.snapshot.files in
    let m = c.in-Some-2.memo in
    let cmp = g.K.Key.Ord.cmp in
    let found = subst (λ o. MatchOption o (Unit {0}) (λ m. (m.finding.key ≡ key) × IsOneOf c.args.fresh.now m × (m.verified ≡ r) × (found_in cmp c.args.fresh.now key ≡ Some m.finding))) c.in-Some-2.is c.in_ok-memo.ensures.some in
    ([], no_gain (D g) files (g.K.Ending.height (files_of c.args.lent.now.snapshot.history r)) c.args.lent.now.memos r _ _ _ c.args.fresh.now set, omega arith, ok_from c.handed.result _ _ _ c.handed.ensures (λ p k. subst (λ u. IsCurrent (g.K.Keyed.given files) (found_in cmp c.args.fresh.now) key u) (sym k.1) (set.current key m.finding found.3)))

pub bring-returns-in_err-renewed-clause-gains : goal.bring-returns-in_err-renewed-clause-gains
bring-returns-in_err-renewed-clause-gains g t c = λ set.
    let h = c.args.lent.now.snapshot.history in
    let r = c.args.lent.now.snapshot.revision in
    let files = c.args.lent.now.snapshot.files in
    let lent = c.args.lent.now.memos in
    let height = g.K.Ending.height (files_of h r) in
    let key = c.args.key.now in
    let cmp = g.K.Key.Ord.cmp in
    let F0 = c.args.fresh.now in
    let unknown = subst (λ o. MatchOption o (AllVerified r F0 → found_in cmp F0 key ≡ None) (λ m. Unit {0})) c.in_default-2.is c.in_ok-memo.ensures.none in
    let b = c.in_err-renewed.ensures.gains set (unknown set.verified) in
    let lose = spare_from c.from_residual-in_err-renewed.result c.in_err-renewed.field-0.0 c.from_residual-in_err-renewed.ensures.1 in
    (b.0, gain_within (D g) files height lent r (height key + 1) c.args.fuel (InReach (D g) files (overlaid cmp F0 lent) key c.args.fuel) b.1 (omega arith) (λ k y. further y.1 y.2), (let q = b.2 refl in omega (arith, q, lose)), ok_never _ _ c.from_residual-in_err-renewed.ensures.0)

pub bring-returns-clause-gains : goal.bring-returns-clause-gains
bring-returns-clause-gains g t c = λ set.
    let h = c.args.lent.now.snapshot.history in
    let r = c.args.lent.now.snapshot.revision in
    let files = c.args.lent.now.snapshot.files in
    let lent = c.args.lent.now.memos in
    let height = g.K.Ending.height (files_of h r) in
    let key = c.args.key.now in
    let fuel = c.args.fuel in
    let cmp = g.K.Key.Ord.cmp in
    let F0 = c.args.fresh.now in
    let before = overlaid cmp F0 lent in
    let unknown = subst (λ o. MatchOption o (AllVerified r F0 → found_in cmp F0 key ≡ None) (λ m. Unit {0})) c.in_default-2.is c.in_ok-memo.ensures.none in
    let none = unknown set.verified in
    let n = c.in_ok-renewed.renewed in
    let memo = c.in_ok-renewed.ensures.memo in
    let b = c.in_ok-renewed.ensures.gains set none in
    let F1 = c.renew.new.fresh in
    let N1 = found_in cmp F1 in
    let O1 = overlaid cmp F1 lent in
    let count0 = g.K.Keyed.counted c.args.kinds.now in
    let count1 = g.K.Keyed.counted c.renew.new.kinds in
    let given = given_none (g.K.Keyed.given files) key c.in_ok-value.field-0 c.in_ok-value.ensures c.in_default.is in
    let nothing = ap N1 memo.0 ∙ b.1.high key (omega arith) ∙ none in
    let own = subst (λ k. g.K.Keyed.given files k ≡ None) (sym memo.0) given in
    let first = subst (λ k. Gains (D g) files height lent r (height k) 0 (IsBelow (D g) files before k fuel) F0 F1 b.0) (sym memo.0) b.1 in
    let renewed = subst (λ k. IsRenewed (D g) files N1 O1 k fuel n.finding count1 (count0 + length b.0)) (sym memo.0) b.3 in
    let kept = gain_keep (D g) files height lent r (exact g) (equal g) F1 n nothing b.1.settled memo.1 own renewed.0 fuel count1 count0 first renewed in
    let now = now_current (D g) files height lent r (exact g) (equal g) F1 n nothing b.1.settled memo.1 own renewed.0 in
    match_spare c.keep.result _ _ _ c.keep.ensures
    (λ p zero k. (kept.0, subst (λ l. Gains (D g) files height lent r (height key + 1) fuel (InReach (D g) files before key fuel) F0 l kept.0) (sym k.2) (subst (λ y. Gains (D g) files height lent r (height y + 1) fuel (InReach (D g) files before y fuel) F0 (put_memo cmp n F1) kept.0) memo.0 kept.1), (let q = kept.2 in omega (arith, q, zero)), ok_from c.keep.result _ _ _ c.keep.ensures (λ p k. subst (λ l. IsCurrent (g.K.Keyed.given files) (found_in cmp l) key p.1) (sym k.2) (subst (λ u. IsCurrent (g.K.Keyed.given files) (found_in cmp (put_memo cmp n F1)) key u) (sym k.1) (subst (λ y. IsCurrent (g.K.Keyed.given files) (found_in cmp (put_memo cmp n F1)) y n.finding.stamp) memo.0 now)))))
    (λ e zero bad k. (b.0, subst (λ l. Gains (D g) files height lent r (height key + 1) fuel (InReach (D g) files before key fuel) F0 l b.0) (sym k.1) (gain_within (D g) files height lent r (height key + 1) fuel (InReach (D g) files before key fuel) b.1 (omega arith) (λ k y. further y.1 y.2)), (let q = renewed_cost (D g) files height lent r N1 O1 n.finding.key fuel n.finding count1 (count0 + length b.0) renewed in let l = ap lost k.0 in omega (arith, q, zero, l)), ok_never _ _ bad))
