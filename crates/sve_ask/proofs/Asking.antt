-- What is known of a call by the memos that it was handed.
use Rattle.std.proofs.Common.{◌≡◌, ℕ, Bool, true, false, Option, Some, None, is_some, List, ◌⊎◌, inl, inr, refl, sym, subst, Result, Ok, Err}
use Rattle.std.specs.Prelude.{IfSome, IfOk, MatchOption, option_map}
use Rattle.std.specs.Coded.{Coded-set, coded_bool}
use mathlib.Core.Logic.{∥∥₁_elim}
use Rattle.std.specs.declared.cmp.Ordering.TheVariants.{Equal}
use Rattle.sve_text.specs.Files.{FilesValue}
use Rattle.sve_history.specs.Histories.{HistoryValue}
use Rattle.sve_store.specs.Made.{values_of, IsOneOf}
use Rattle.sve_store.specs.Values.{IsValue}
use Rattle.sve_memo.specs.Memos.{FindingValue, MemoValue, memo_in, put_memo}
use Rattle.sve_ask.specs.Sound.{Defined, ValueAt, IsFree, IsSound, AllSound, files_of}
use Rattle.sve_ask.specs.Current.{first_of, found_in, overlaid, Serving}
use Rattle.sve_ask.proofs.Puts.{found_held, put_held}
use Rattle.sve_ask.proofs.Stays.{not_given, no_value}
use Rattle.sve_ask.proofs.Valid.{free_value}

module _ {K V : Type 0} (D : Defined K V) (is_input : K → Bool) (inputs : (files : FilesValue) (k : K) → is_some (D.given files k) ≡ is_input k) where
  -- a key that is no input is given no value at any files
  pub never_given : (k : K) → is_input k ≡ false → (files : FilesValue) → values_of (D.given files) k ≡ None
  never_given k not files = no_value (D.given files k) (not_given (D.given files k) (is_input k) (inputs files k) not)

module _ {K V : Type 0} (D : Defined K V) (h : HistoryValue) where
  -- a memo of two tables that are sound is sound
  pub sound_held : (fresh lent : List (MemoValue K V)) → AllSound D h fresh → AllSound D h lent → (m : MemoValue K V) → IsOneOf fresh m ⊎ IsOneOf lent m → ∥ IsSound D h m ∥₁
  sound_held fresh lent a b m there = elim there [ inl x ↦ a m x | inr x ↦ b m x ]

  -- a sound memo is put among sound ones
  pub sound_put : (fresh : List (MemoValue K V)) (n : MemoValue K V) → AllSound D h fresh → ∥ IsSound D h n ∥₁ → AllSound D h (put_memo D.cmp n fresh)
  sound_put fresh n all sound m there = elim (put_held D.cmp n fresh m there) [ inl is ↦ subst (λ x. ∥ IsSound D h x ∥₁) (sym is) sound | inr old ↦ all m old ]

  -- what was found for a key that another may read serves at any fuel
  pub serves_held : (serve : (files : FilesValue) (k : K) (fuel : ℕ) (v : V) → IsValue D.cmp (values_of (D.given files)) D.make k fuel v → D.serves v fuel ≡ true)
      → (k : K) (fuel : ℕ) → ∥ IsFree D h k ∥₁ → (m : MemoValue K V) → m.finding.key ≡ k → ∥ IsSound D h m ∥₁ → D.serves m.finding.value fuel ≡ true
  serves_held serve k fuel free m is sound =
      ∥∥₁_elim free (Coded-set coded_bool (D.serves m.finding.value fuel) true) (λ f. ∥∥₁_elim sound (Coded-set coded_bool (D.serves m.finding.value fuel) true) (λ x.
      let value : ValueAt D h m.verified k x.fuel m.finding.value = subst (λ q. ValueAt D h m.verified q x.fuel m.finding.value) is (x.read, x.now) in
      serve (files_of h m.verified) k fuel m.finding.value (free_value D h m.verified k x.fuel fuel m.finding.value f value)))

  module _ (exact : (a b : K) → D.cmp a b ≡ Equal → a ≡ b) (itself : (k : K) → D.cmp k k ≡ Equal)
      (serve : (files : FilesValue) (k : K) (fuel : ℕ) (v : V) → IsValue D.cmp (values_of (D.given files)) D.make k fuel v → D.serves v fuel ≡ true) where
    serves_in : (memos : List (MemoValue K V)) → AllSound D h memos → (k : K) (fuel : ℕ) → ∥ IsFree D h k ∥₁ → (o : Option (MemoValue K V)) → memo_in D.cmp memos k ≡ o
        → IfSome (option_map (λ (m : MemoValue K V). m.finding) o) (λ f. D.serves f.value fuel ≡ true)
    serves_in memos all k fuel free None is = tt
    serves_in memos all k fuel free (Some m) is = let held = found_held D.cmp exact itself memos k m is in serves_held serve k fuel free m held.0 (all m held.1)

    first_by : {A : Type 0} (P : A → Type 0) (o p : Option A) → IfSome o P → IfSome p P → IfSome (first_of o p) P
    first_by P None p a b = b
    first_by P (Some x) p a b = a

    -- so it does, whichever was found last
    pub free_serving : (fresh lent : List (MemoValue K V)) → AllSound D h fresh → AllSound D h lent → (k : K) (fuel : ℕ) → ∥ IsFree D h k ∥₁ → Serving (overlaid D.cmp fresh lent) D.serves k fuel
    free_serving fresh lent a b k fuel free =
        first_by (λ (f : FindingValue K V). D.serves f.value fuel ≡ true) (found_in D.cmp fresh k) (found_in D.cmp lent k) (serves_in fresh a k fuel free (memo_in D.cmp fresh k) refl) (serves_in lent b k fuel free (memo_in D.cmp lent k) refl)

-- where what was found last serves, so does what is fresh of it
pub fresh_serving : {A : Type 0} (o p : Option A) (P : A → Type 0) → IfSome (first_of o p) P → IfSome o P
fresh_serving None p P serving = tt
fresh_serving (Some x) p P serving = serving

pub ok_shared : {A E : Type 0} (result : Result A E) (P R : A → Type 0) → IfOk result P → ((x : A) → P x → R x) → IfOk result R
ok_shared (Ok x) P R is f = f x is
ok_shared (Err e) P R is f = tt

pub held_map : {A : Type 0} (o : Option A) (P R : A → Type 0) → MatchOption o (Unit {0}) P → ((x : A) → P x → R x) → MatchOption o (Unit {0}) R
held_map None P R is f = tt
held_map (Some x) P R is f = f x is
