-- A sound memo whose recorded reads have their stamps has its key's value.
use Rattle.std.proofs.Common.{◌≡◌, ℕ, Bool, true, false, ◌<◌, ◌≤◌, ◌⊎◌, Option, Some, None, List, [], inl, inr, refl, sym, ◌∙◌, subst, arith, length}
use mathlib.Core.Logic.{∥∥₁_elim, ∥∥₁_map, ∥∥₁_map₂, ∥∥₁_prop}
use Rattle.std.proofs.Props.{props}
use Rattle.std.specs.Coded.{Coded, Coded-set}
use Rattle.std.specs.declared.cmp.Ordering.TheVariants.{Equal}
use Rattle.sve_text.specs.Files.{FilesValue}
use Rattle.sve_history.specs.Histories.{HistoryValue}
use Rattle.sve_store.specs.Made.{Needs, Done, value_in, values_of, IsOneOf}
use Rattle.sve_store.specs.Values.{Gives, is_given, is_made, TellsLowerValues, OnTheWay}
use Rattle.sve_store.proofs.Tables.{gives_one}
use Rattle.sve_memo.specs.Memos.{MemoValue}
use Rattle.sve_ask.specs.Sound.{Defined, ValueAt, HasValue, SameAt, IsStamped, IsFree, IsSound, files_of}
use Rattle.sve_ask.specs.Gains.{InPhase}
use Rattle.sve_ask.proofs.Lists.{append_none}
use Rattle.sve_ask.proofs.Alike.{alike, read_lower, at_any_fuel, keys_of, from_nothing}

abbrev a_memo : {K V : Type 0} → K → V → ℕ → List (K × ℕ) → ℕ → MemoValue K V
a_memo key value stamp reads verified = record { finding = record { key = key; value = value; stamp = stamp; reads = reads }; verified = verified }

module _ {K V : Type 0} (D : Defined K V) (h : HistoryValue) where
  -- two values of one key at one revision are one
  pub one_value : (r : ℕ) (k : K) (fuel : ℕ) (v w : V) → ValueAt D h r k fuel v → ValueAt D h r k fuel w → v ≡ w
  one_value r k fuel v w a b = (gives_one D.cmp (values_of (D.given (files_of h r))) D.make a.1 b.1).0

  pub free_value : (r : ℕ) (k : K) (f g : ℕ) (v : V) → IsFree D h k → ValueAt D h r k f v → ValueAt D h r k g v
  free_value r k f g v free a = (a.0, at_any_fuel D.cmp (values_of (D.given (files_of h r))) D.make g free a.1)

  module _ (has : (r : ℕ) (k : K) → (v : V) × ValueAt D h r k 0 v) where
    -- a value at one revision is a value at the other, where the key has one value at the two
    carried : (s r : ℕ) (j : K) → SameAt D h s r j → (w : V) → ValueAt D h s j 0 w → ValueAt D h r j 0 w
    carried s r j same w at = let there = has r j in subst (λ x. ValueAt D h r j 0 x) (sym (same w there.0 at there.1)) there.1

    -- what is one at t and v, and at t and r, is one at v and r
    joined : (v t r : ℕ) (j : K) → SameAt D h t v j → SameAt D h t r j → SameAt D h v r j
    joined v t r j first second a b at_v at_r = let mid = has t j in sym (first mid.0 a mid.1 at_v) ∙ second mid.0 b mid.1 at_r

    pub valid : (m : MemoValue K V) (r : ℕ) → IsSound D h m → m.verified ≤ r → r ≤ length h.entries → ((j : K) (t : ℕ) → IsOneOf m.finding.reads (j, t) → SameAt D h t r j)
        → IsSound D h (record { finding = m.finding; verified = r })
    valid m r sound late known same =
        let stamped = sound.stamped in
        let agree : (j : K) → IsOneOf sound.read j → (w : V) → ValueAt D h m.verified j 0 w → ValueAt D h r j 0 w =
        λ j i w at. let c = sound.cover j i in carried m.verified r j (joined m.verified c.0 r j (sound.each j c.0 c.1).3 (same j c.0 c.1)) w at in
        record {
          stamped = omega (arith, stamped, late);
          known = known;
          computed = sound.computed;
          before = sound.before;
          fuel = sound.fuel;
          read = sound.read;
          now = alike D.cmp (values_of (D.given (files_of h m.verified))) (values_of (D.given (files_of h r))) D.make sound.now (sound.computed (files_of h m.verified)) (sound.computed (files_of h r)) agree;
          each = λ j t i. let e = sound.each j t i in let low = e.0 in (omega (arith, low, late), e.1, e.2, same j t i);
          cover = sound.cover;
        }

    -- What a sound memo read has a lower height at r, where its recorded reads of lower rank have their stamps there.
    own_lower : (exact : (a b : K) → D.cmp a b ≡ Equal → a ≡ b) (height : K → ℕ) (m : MemoValue K V) (r : ℕ) (sound : IsSound D h m)
        → ((fuel : ℕ) (told : K → Option V) (j : K) → TellsLowerValues D.cmp (values_of (D.given (files_of h r))) D.make D.ranked (D.ranked m.finding.key) told → D.make m.finding.key fuel told ≡ Needs j → height j < height m.finding.key)
        → ((j : K) (t : ℕ) → IsOneOf m.finding.reads (j, t) → D.ranked j < D.ranked m.finding.key → SameAt D h t r j) → (j : K) → IsOneOf sound.read j → height j < height m.finding.key
    own_lower exact height m r sound low same =
        let agree : (j : K) → IsOneOf sound.read j → D.ranked j < D.ranked m.finding.key → (w : V) → ValueAt D h m.verified j 0 w → ValueAt D h r j 0 w =
        λ j i l w at. let c = sound.cover j i in carried m.verified r j (joined m.verified c.0 r j (sound.each j c.0 c.1).3 (same j c.0 c.1 l)) w at in
        read_lower D.cmp (values_of (D.given (files_of h m.verified))) (values_of (D.given (files_of h r))) D.make D.ranked exact height (low sound.fuel) sound.now (λ q w is lower. absurd (cc)) agree

    -- a read of the phase has a lower height
    pub phase_lower : (exact : (a b : K) → D.cmp a b ≡ Equal → a ≡ b) (height : K → ℕ) (m : MemoValue K V) (r : ℕ) (sound : IsSound D h m)
        → ((fuel : ℕ) (told : K → Option V) (j : K) → TellsLowerValues D.cmp (values_of (D.given (files_of h r))) D.make D.ranked (D.ranked m.finding.key) told → D.make m.finding.key fuel told ≡ Needs j → height j < height m.finding.key)
        → ((j : K) → D.ranked j < D.ranked m.finding.key → height j < height m.finding.key)
        → (own : Bool) → (own ≡ true → (j : K) (t : ℕ) → IsOneOf m.finding.reads (j, t) → D.ranked j < D.ranked m.finding.key → SameAt D h t r j)
        → (j : K) (t : ℕ) → IsOneOf m.finding.reads (j, t) → InPhase own (D.ranked j) (D.ranked m.finding.key) → height j < height m.finding.key
    phase_lower exact height m r sound low higher false later j t i l = higher j l
    phase_lower exact height m r sound low higher true later j t i l =
        elim (sound.each j t i).1 [ inl e ↦ absurd (omega (arith, l, e)) | inr e ↦ own_lower exact height m r sound low (later refl) j e ]

  -- a sound memo may have the stamp of an older one of its key and its value
  pub older_stamp : (m older : MemoValue K V) → IsSound D h m → IsSound D h older → older.finding.key ≡ m.finding.key → older.verified ≤ m.verified → m.finding.value ≡ older.finding.value
      → IsSound D h (record { finding = record { key = m.finding.key; value = m.finding.value; stamp = older.finding.stamp; reads = m.finding.reads }; verified = m.verified })
  older_stamp m older sound first same late equal =
      let stamped = first.stamped in
      record {
        stamped = omega (arith, stamped, late);
        known = sound.known;
        computed = sound.computed;
        before = (first.before.0, subst (λ x. ValueAt D h older.finding.stamp m.finding.key first.before.0 x) (sym equal) (subst (λ k. ValueAt D h older.finding.stamp k first.before.0 older.finding.value) same first.before.1));
        fuel = sound.fuel;
        read = sound.read;
        now = sound.now;
        each = sound.each;
        cover = sound.cover;
      }

  -- a sound memo holds a stamped value
  pub stamped_by : (m : MemoValue K V) → IsSound D h m → IsStamped D h m.verified m.finding.key m.finding.value m.finding.stamp
  stamped_by m sound = (sound.stamped, ∣ sound.before ∣₁, ∣ (sound.fuel, (sound.read, sound.now)) ∣₁)

  sound_as : (n m : MemoValue K V) (s : ℕ) → (m.finding.key ≡ n.finding.key) × (m.finding.value ≡ n.finding.value) × (m.verified ≡ n.verified) × (m.finding.reads ≡ n.finding.reads) → m.finding.stamp ≡ s
      → ∥ IsSound D h (record { finding = record { key = n.finding.key; value = n.finding.value; stamp = s; reads = n.finding.reads }; verified = n.verified }) ∥₁ → ∥ IsSound D h m ∥₁
  sound_as n m s same stamp sound =
      subst (λ x. ∥ IsSound D h (a_memo m.finding.key m.finding.value x m.finding.reads m.verified) ∥₁) (sym stamp) (subst (λ x. ∥ IsSound D h (a_memo m.finding.key m.finding.value s x m.verified) ∥₁) (sym same.3) (subst (λ x. ∥ IsSound D h (a_memo m.finding.key m.finding.value s n.finding.reads x) ∥₁) (sym same.2)
      (subst (λ x. ∥ IsSound D h (a_memo m.finding.key x s n.finding.reads n.verified) ∥₁) (sym same.1) (subst (λ x. ∥ IsSound D h (a_memo x n.finding.value s n.finding.reads n.verified) ∥₁) (sym same.0) sound))))

  pub stamped_when : (r : ℕ) (k : K) (m : MemoValue K V) → m.finding.key ≡ k → m.verified ≡ r → ∥ IsSound D h m ∥₁ → IsStamped D h r k m.finding.value m.finding.stamp
  stamped_when r k m same late sound =
      let stamped = ∥∥₁_map sound (λ s. stamped_by m s) in
      let le : m.finding.stamp ≤ m.verified = ∥∥₁_elim stamped (hlevel props) (λ s. s.0) in
      (omega (arith, le, late), subst (λ q. HasValue D h m.finding.stamp q m.finding.value) same (∥∥₁_elim stamped ∥∥₁_prop (λ s. s.1)), subst (λ q. HasValue D h q k m.finding.value) late (subst (λ q. HasValue D h m.verified q m.finding.value) same (∥∥₁_elim stamped ∥∥₁_prop (λ s. s.2))))

  -- a memo that was computed anew is sound with its stamp, and with that of an older one of the same key and the same value
  pub restamped : (older newer m : MemoValue K V) → older.finding.key ≡ newer.finding.key → (IsSound D h older → older.verified ≤ newer.verified) → ∥ IsSound D h older ∥₁ → ∥ IsSound D h newer ∥₁
      → (m.finding.key ≡ newer.finding.key) × (m.finding.value ≡ newer.finding.value) × (m.verified ≡ newer.verified) × (m.finding.reads ≡ newer.finding.reads)
      → (m.finding.stamp ≡ newer.finding.stamp) ⊎ ((m.finding.stamp ≡ older.finding.stamp) × (newer.finding.value ≡ older.finding.value)) → ∥ IsSound D h m ∥₁
  restamped older newer m key late first sound same stamp =
      let like : (s : ℕ) → ∥ IsSound D h (record { finding = record { key = newer.finding.key; value = newer.finding.value; stamp = s; reads = newer.finding.reads }; verified = newer.verified }) ∥₁ → m.finding.stamp ≡ s → ∥ IsSound D h m ∥₁ =
      λ s x is. sound_as newer m s same is x in
      elim stamp [
        | inl is ↦ like newer.finding.stamp sound is
        | inr is ↦ like older.finding.stamp (∥∥₁_map₂ sound first (λ a b. older_stamp newer older a b key (late b) is.1)) is.0
      ]

  -- a stamped value of a key that another may read is the one value of the key at its stamp and now
  pub same_by : (code : Coded V) (r : ℕ) (j : K) (w : V) (s t : ℕ) → IsStamped D h r j w s → s ≡ t → IsFree D h j → SameAt D h t r j
  same_by code r j w s t st is free a b at_t at_r =
      let first : w ≡ a = ∥∥₁_elim st.1 (Coded-set code w a) (λ x. one_value s j 0 w a (free_value s j x.0 0 w free x.1) (subst (λ u. ValueAt D h u j 0 a) (sym is) at_t)) in
      let second : w ≡ b = ∥∥₁_elim st.2 (Coded-set code w b) (λ x. one_value r j 0 w b (free_value r j x.0 0 w free x.1) at_r) in
      sym first ∙ second

  -- a value that is made at revision r over what was told on the way, with the reads that were recorded, is a sound memo
  pub sound_anew : (r : ℕ) (k : K) (fuel : ℕ) (told : List (K × V)) (v : V) (reads : List (K × ℕ)) → r ≡ length h.entries → ((files : FilesValue) → values_of (D.given files) k ≡ None)
      → OnTheWay D.cmp (values_of (D.given (files_of h r))) D.make k fuel told → D.make k fuel (value_in D.cmp told) ≡ Done v
      → ((j : K) (t : ℕ) → IsOneOf reads (j, t) → (t ≤ r) × IsOneOf (keys_of told) j × IsFree D h j × SameAt D h t r j)
      → ((j : K) → IsOneOf (keys_of told) j → (t : ℕ) × IsOneOf reads (j, t))
      → IsSound D h (record { finding = record { key = k; value = v; stamp = r; reads = reads }; verified = r })
  sound_anew r k fuel told v reads last never way made each cover =
      let given = values_of (D.given (files_of h r)) in
      let gives : Gives D.cmp given D.make k fuel [] v (keys_of told) =
      subst (λ l. Gives D.cmp given D.make k fuel [] v l) (append_none (keys_of told)) (from_nothing D.cmp given D.make k fuel told v way [] (is_made (never (files_of h r)) made)) in
      record {
        stamped = omega arith;
        known = omega (arith, last);
        computed = never;
        before = (fuel, (keys_of told, gives));
        fuel = fuel;
        read = keys_of told;
        now = gives;
        each = λ j t i. let e = each j t i in (e.0, inr e.1, e.2, e.3);
        cover = cover;
      }

  pub input_stamped : (r : ℕ) (k : K) (v : V) (s : ℕ) → s ≤ r → values_of (D.given (files_of h s)) k ≡ Some v → values_of (D.given (files_of h r)) k ≡ Some v → IsStamped D h r k v s
  input_stamped r k v s le first now = (le, ∣ (0, ([], is_given first)) ∣₁, ∣ (0, ([], is_given now)) ∣₁)
