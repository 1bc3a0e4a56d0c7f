use Rattle.std.proofs.Common.{◌≡◌, ℕ, ◌⊎◌, inr, true, false, Option, Some, None, List, [], ◌∷◌, ◌++◌, refl, sym, ap, ◌∙◌, subst, arith}
use Rattle.std.specs.Prelude.{IfSome, is_some}
use Rattle.std.specs.Coded.{Coded-set, coded_bool}
use Rattle.std.specs.declared.cmp.Ordering.TheVariants.{Equal}
use mathlib.Core.Logic.{∥∥₁_elim}
use Rattle.std.specs.Arc.{arc_value}
use Rattle.sve_text.specs.Files.{FilesValue}
use Rattle.sve_history.specs.Histories.{HistoryValue}
use Rattle.sve_store.specs.Made.{values_of, IsOneOf}
use Rattle.sve_store.specs.Values.{IsValue}
use Rattle.sve_store.proofs.Ways.{no_input}
use Rattle.sve_memo.specs.Memos.{FindingValue, MemoValue, put_memo}
use Rattle.sve_ask.specs.Sound.{Defined, HasValue, IsFree, AllSound, files_of}
use Rattle.sve_ask.specs.Current.{found_in, overlaid, Lacking}
use Rattle.sve_ask.specs.Watched.{lost}
use Rattle.sve_ask.specs.Gains.{InReach, further, InReachBelow, AllCurrent, IsCurrentFor, Gains, Makes}
use Rattle.sve_ask.proofs.Lists.{length_both}
use Rattle.sve_ask.proofs.Puts.{put_found}
use Rattle.sve_ask.proofs.Valid.{restamped, stamped_when}
use Rattle.sve_ask.proofs.Watching.{no_more, more_then, watched_from, watched_none, watched_note, ok_never, spare_from}
use Rattle.sve_ask.proofs.Asking.{sound_held, sound_put}
use Rattle.sve_ask.proofs.Stays.{not_given as no_stamped_value}
use Rattle.sve_ask.proofs.Gaining.{no_gain}
use Rattle.sve_ask.proofs.Replacing.{makes_of, makes_again, current_now, lacking_not_free, lacking_not_for}
use Rattle.sve_ask.proofs.top.again.Given as given
use Rattle.sve_ask.proofs.top.again.Goals as goal

abbrev D : (g : given.Over) → Defined g.row.K-Key.Denot g.row.K-Value.Denot
D g = record { cmp = g.K.Key.Ord.cmp; given = g.K.Keyed.given; make = g.K.Kinds.make; ranked = g.K.Keyed.ranked; serves = g.K.Keyed.serves }

exact : (g : given.Over) (a b : g.row.K-Key.Denot) → g.K.Key.Ord.cmp a b ≡ Equal → a ≡ b
exact g a b is = (g.met.K.Keyed.one_key a b).0 is

equal : (g : given.Over) (k : g.row.K-Key.Denot) → g.K.Key.Ord.cmp k k ≡ Equal
equal g k = (g.met.K.Keyed.one_key k k).1 refl

serve : (g : given.Over) (files : FilesValue) (k : g.row.K-Key.Denot) (fuel : ℕ) (v : g.row.K-Value.Denot) → IsValue g.K.Key.Ord.cmp (values_of (g.K.Keyed.given files)) g.K.Kinds.make k fuel v → g.K.Keyed.serves v fuel ≡ true
serve g files k fuel v is = (g.met.K.Kinds.own_fuel files k fuel v is).0

-- the key is not current for the fuel
not_for : (g : given.Over) (h : HistoryValue) (files : FilesValue) (fresh lent : List (MemoValue g.row.K-Key.Denot g.row.K-Value.Denot)) (k : g.row.K-Key.Denot) (fuel : ℕ) → Lacking (overlaid g.K.Key.Ord.cmp fresh lent) g.K.Keyed.serves k fuel
    → IsCurrentFor (D g) files (overlaid g.K.Key.Ord.cmp fresh lent) k fuel → ⊥
not_for g h files fresh lent k fuel lacks is = lacking_not_for (D g) h (exact g) (equal g) (serve g) files fresh lent k fuel lacks is

-- a key for which a sound memo was found is no input
key_computed : (g : given.Over) (h : HistoryValue) (fresh lent : List (MemoValue g.row.K-Key.Denot g.row.K-Value.Denot)) (k : g.row.K-Key.Denot) → AllSound (D g) h fresh → AllSound (D g) h lent
    → (m : MemoValue g.row.K-Key.Denot g.row.K-Value.Denot) → (m.finding.key ≡ k) × (IsOneOf fresh m ⊎ IsOneOf lent m) → g.K.Keyed.is_input k ≡ false
key_computed g h fresh lent k a b m held =
    ∥∥₁_elim (sound_held (D g) h fresh lent a b m held.1) (Coded-set coded_bool (g.K.Keyed.is_input k) false) (λ s.
    let files = files_of h m.verified in no_input (g.K.Keyed.given files k) (g.K.Keyed.is_input k) (g.met.K.Keyed.inputs files k) (subst (λ q. values_of (g.K.Keyed.given files) q ≡ None) held.0 (s.computed files)))

pub last-requires : goal.last-requires
last-requires g c = record { found = ap (λ o. is_some o) c.requires.lacking.1 }

pub anew-requires : goal.anew-requires
anew-requires g c = record {
  fits = c.requires.fits;
  newest = c.requires.newest;
  lent = c.requires.lent;
  fresh = c.requires.fresh;
  computed = key_computed g c.args.lent.now.snapshot.history c.args.fresh.now c.args.lent.now.memos c.args.key.now c.requires.fresh c.requires.lent c.in_ok-older.older c.in_ok-older.ensures.held;
}

pub returns-in_err-look_out-clause-watch : goal.returns-in_err-look_out-clause-watch
returns-in_err-look_out-clause-watch g c = watched_from c.from_residual.result c.in_err-look_out.field-0.0 c.args.lent.now.snapshot.revision _ _ _ c.from_residual.ensures.1 (no_more _) c.in_err-look_out.ensures

pub returns-in_err-look_out-clause-current : goal.returns-in_err-look_out-clause-current
returns-in_err-look_out-clause-current g c = λ is. absurd (not_for g c.args.lent.now.snapshot.history _ _ _ _ _ c.requires.lacking is)

pub returns-in_err-look_out-clause-makes : goal.returns-in_err-look_out-clause-makes
returns-in_err-look_out-clause-makes g c = λ set.
    ([], makes_of (D g) _ (g.K.Ending.height c.args.lent.now.snapshot.files) _ _ c.args.fuel _ (no_gain (D g) _ (g.K.Ending.height c.args.lent.now.snapshot.files) _ _ 0 0 _ c.args.fresh.now set) (λ k x. x), omega arith, ok_never _ _ c.from_residual.ensures.0)

pub returns-in_err-older-clause-watch : goal.returns-in_err-older-clause-watch
returns-in_err-older-clause-watch g c =
    let w = c.in_ok-look_out.ensures in
    watched_none c.from_residual-in_err-older.result c.args.lent.now.snapshot.revision _ _ c.from_residual-in_err-older.ensures.1 (w.0, w.1)

pub returns-in_err-older-clause-current : goal.returns-in_err-older-clause-current
returns-in_err-older-clause-current g c = λ is. absurd (not_for g c.args.lent.now.snapshot.history _ _ _ _ _ c.requires.lacking is)

pub returns-in_err-older-clause-makes : goal.returns-in_err-older-clause-makes
returns-in_err-older-clause-makes g c = λ set.
    ([], makes_of (D g) _ (g.K.Ending.height c.args.lent.now.snapshot.files) _ _ c.args.fuel _ (no_gain (D g) _ (g.K.Ending.height c.args.lent.now.snapshot.files) _ _ 0 0 _ c.args.fresh.now set) (λ k x. x), omega arith, ok_never _ _ c.from_residual-in_err-older.ensures.0)

pub returns-in_err-newer-clause-watch : goal.returns-in_err-newer-clause-watch
returns-in_err-newer-clause-watch g c =
    let w = c.in_ok-look_out.ensures in
    watched_from c.from_residual-in_err-newer.result c.in_err-newer.field-0.0 c.args.lent.now.snapshot.revision _ _ _ c.from_residual-in_err-newer.ensures.1 (w.0, w.1) c.in_err-newer.ensures.watch

pub returns-in_err-newer-clause-current : goal.returns-in_err-newer-clause-current
returns-in_err-newer-clause-current g c = λ is. absurd (not_for g c.args.lent.now.snapshot.history _ _ _ _ _ c.requires.lacking is)

pub returns-in_err-newer-clause-makes : goal.returns-in_err-newer-clause-makes
returns-in_err-newer-clause-makes g c = λ set.
    let a = c.in_err-newer.ensures.gains set in
    let lose = spare_from c.from_residual-in_err-newer.result c.in_err-newer.field-0.0 c.from_residual-in_err-newer.ensures.1 in
    (a.0, makes_of (D g) _ _ _ _ c.args.fuel _ a.1 (λ k y. further (inr y.1) y.2), (let q = a.2 in omega (arith, q, lose)), ok_never _ _ c.from_residual-in_err-newer.ensures.0)

pub returns-in_err-value-clause-watch : goal.returns-in_err-value-clause-watch
returns-in_err-value-clause-watch g c =
    let w = c.in_ok-look_out.ensures in
    let v = c.in_ok-newer.ensures.watch in
    watched_note c.from_residual-in_err-value.result c.in_err-value.field-0.0 c.args.lent.now.snapshot.revision _ _ c.from_residual-in_err-value.ensures.1 c.in_err-value.ensures.0 (more_then _ _ _ (w.0, w.1) (v.0, v.1))

pub returns-in_err-value-clause-current : goal.returns-in_err-value-clause-current
returns-in_err-value-clause-current g c = λ is. absurd (not_for g c.args.lent.now.snapshot.history _ _ _ _ _ c.requires.lacking is)

pub returns-in_err-value-clause-fresh : goal.returns-in_err-value-clause-fresh
returns-in_err-value-clause-fresh g c = subst (λ l. AllSound (D g) c.args.lent.now.snapshot.history l) (sym c.in_err-value.ensures.1) c.in_ok-newer.ensures.fresh

pub returns-in_err-value-clause-makes : goal.returns-in_err-value-clause-makes
returns-in_err-value-clause-makes g c = λ set.
    let a = c.in_ok-newer.ensures.gains set in
    let lose = spare_from c.from_residual-in_err-value.result c.in_err-value.field-0.0 c.from_residual-in_err-value.ensures.1 in
    let none = ap lost c.in_err-value.ensures.0 in
    let files = c.args.lent.now.snapshot.files in
    let r = c.args.lent.now.snapshot.revision in
    let lent = c.args.lent.now.memos in
    let Reach = InReach (D g) files (overlaid g.K.Key.Ord.cmp c.args.fresh.now lent) c.args.key.now c.args.fuel in
    (a.0, subst (λ l. Makes (D g) files lent r c.args.fuel Reach c.args.fresh.now l a.0) (sym c.in_err-value.ensures.1) (makes_of (D g) files _ lent r c.args.fuel Reach a.1 (λ k y. further (inr y.1) y.2)), (let q = a.2 in omega (arith, q, lose, none)), ok_never _ _ c.from_residual-in_err-value.ensures.0)

pub returns-clause-watch : goal.returns-clause-watch
returns-clause-watch g c =
    let w = c.in_ok-look_out.ensures in
    let v = c.in_ok-newer.ensures.watch in
    let more = more_then _ _ _ (w.0, w.1) (v.0, v.1) in
    (more.0, more.1, tt)

pub returns-clause-current : goal.returns-clause-current
returns-clause-current g c = λ is. absurd (not_for g c.args.lent.now.snapshot.history _ _ _ _ _ c.requires.lacking is)

pub returns-clause-fresh : goal.returns-clause-fresh
returns-clause-fresh g c =
    let h = c.args.lent.now.snapshot.history in
    let last = c.requires.newest.last in
    let older = c.in_ok-older.older in
    let newer = c.in_ok-newer.newer in
    let w = c.in_ok-newer.ensures.memo in
    let p = c.with_stamp-memo.ensures in
    let held = c.in_ok-older.ensures.held in
    let sound = restamped (D g) h older newer c.with_stamp-memo.result (held.0 ∙ sym w.0) (λ s. let known = s.known in let late = w.1 in omega (arith, known, last, late)) (sound_held (D g) h c.args.fresh.now c.args.lent.now.memos c.requires.fresh c.requires.lent older held.1) w.2 p.same p.stamp in
    subst (λ l. AllSound (D g) h l) (sym c.in_ok-value.ensures.2) (sound_put (D g) h c.anew.new.fresh c.with_stamp-memo.result c.in_ok-newer.ensures.fresh sound)

pub returns-clause-value : goal.returns-clause-value
returns-clause-value g c =
    let h = c.args.lent.now.snapshot.history in
    let r = c.args.lent.now.snapshot.revision in
    let key = c.args.key.now in
    let w = c.in_ok-newer.ensures.memo in
    let p = c.with_stamp-memo.ensures in
    let k = c.in_ok-value.ensures in
    let newer = c.in_ok-newer.newer in
    let stamped = stamped_when (D g) h r key newer w.0 w.1 w.2 in
    let value : arc_value c.in_ok-value.value ≡ newer.finding.value = k.0 ∙ p.same.1 in
    (subst (λ v. HasValue (D g) h r key v) (sym value) stamped.2, ap (λ v. g.K.Keyed.serves v c.args.fuel) value ∙ c.in_ok-newer.ensures.serves)

pub returns-clause-makes : goal.returns-clause-makes
returns-clause-makes g c = λ set.
    let h = c.args.lent.now.snapshot.history in
    let r = c.args.lent.now.snapshot.revision in
    let files = c.args.lent.now.snapshot.files in
    let lent = c.args.lent.now.memos in
    let key = c.args.key.now in
    let fuel = c.args.fuel in
    let cmp = g.K.Key.Ord.cmp in
    let height = g.K.Ending.height (files_of h r) in
    let F0 = c.args.fresh.now in
    let F1 = c.anew.new.fresh in
    let before = overlaid cmp F0 lent in
    let last = c.requires.newest.last in
    let older = c.in_ok-older.older in
    let newer = c.in_ok-newer.newer in
    let n = c.with_stamp-memo.result in
    let w = c.in_ok-newer.ensures.memo in
    let p = c.with_stamp-memo.ensures in
    let held = c.in_ok-older.ensures.held in
    let sound = restamped (D g) h older newer n (held.0 ∙ sym w.0) (λ s. let known = s.known in let late = w.1 in omega (arith, known, last, late)) (sound_held (D g) h F0 lent c.requires.fresh c.requires.lent older held.1) w.2 p.same p.stamp in
    let a = c.in_ok-newer.ensures.gains set in
    let same : n.finding.key ≡ key = p.same.0 ∙ w.0 in
    let not = subst (λ k. IsFree (D g) h k → ⊥) (sym same) (lacking_not_free (D g) h (exact g) (equal g) (serve g) F0 lent c.requires.fresh c.requires.lent key fuel c.requires.lacking) in
    let none = subst (λ k. g.K.Keyed.given files k ≡ None) (sym same) (no_stamped_value (g.K.Keyed.given files key) (g.K.Keyed.is_input key) (g.met.K.Keyed.inputs files key) (key_computed g h F0 lent key c.requires.fresh c.requires.lent older held)) in
    let all = subst (λ l. AllCurrent (D g) files (found_in cmp F1) (λ j. Unit {0}) l) (sym p.same.3) a.3.0 in
    let serves = ap (λ v. g.K.Keyed.serves v fuel) p.same.1 ∙ c.in_ok-newer.ensures.serves in
    let lacks = subst (λ k. IsCurrentFor (D g) files before k fuel → ⊥) (sym same) (not_for g h files F0 lent key fuel c.requires.lacking) in
    let gains = subst (λ k. Gains (D g) files height lent r (height k) 0 (InReachBelow (D g) files before k fuel) F0 F1 a.0) (sym same) a.1 in
    let makes = makes_again (D g) files height lent r h (exact g) (equal g) F1 n not c.in_ok-newer.ensures.fresh c.requires.lent sound a.1.settled (p.same.2 ∙ w.1) none all g.met.K.Keyed.lower_fuel fuel serves lacks gains in
    let now = current_now (D g) files height lent r h (exact g) (equal g) F1 n not c.in_ok-newer.ensures.fresh c.requires.lent sound a.1.settled (p.same.2 ∙ w.1) none all in
    let P : Option (FindingValue g.row.K-Key.Denot g.row.K-Value.Denot) → Type 0 = λ o. IfSome o (λ f. g.K.Keyed.serves f.value fuel ≡ true) in
    let there : found_in cmp (put_memo cmp n F1) n.finding.key ≡ Some n.finding = put_found cmp (exact g) (equal g) n F1 in
    let ready : IsCurrentFor (D g) files (found_in cmp (put_memo cmp n F1)) n.finding.key fuel = ((n.finding.stamp, now), subst P (sym there) serves) in
    let put = sym c.in_ok-value.ensures.2 in
    let sum = length_both a.0 (n.finding.key ∷ []) in
    (a.0 ++ (n.finding.key ∷ []), subst (λ l. Makes (D g) files lent r fuel (InReach (D g) files before key fuel) F0 l (a.0 ++ (n.finding.key ∷ []))) put (subst (λ k. Makes (D g) files lent r fuel (InReach (D g) files before k fuel) F0 (put_memo cmp n F1) (a.0 ++ (n.finding.key ∷ []))) same makes), (let q = a.2 in omega (arith, q, sum)), subst (λ l. IsCurrentFor (D g) files (found_in cmp l) key fuel) put (subst (λ k. IsCurrentFor (D g) files (found_in cmp (put_memo cmp n F1)) k fuel) same ready))
