-- A computed key that was fetched is up to date.
use Rattle.std.proofs.Common.{◌≡◌, ℕ, Bool, true, false, Option, Some, is_some, List, Result, Ok, Err, sym, ◌∙◌, subst}
use Rattle.std.specs.Prelude.{IfSome, IfOk, OnOk}
use mathlib.Core.Logic.{∥∥₁_map}
use Rattle.sve_io.specs.declared.halt.Halt.{Halt}
use Rattle.sve_text.specs.Files.{FilesValue}
use Rattle.sve_memo.specs.Memos.{FindingValue, MemoValue}
use Rattle.sve_ask.specs.Sound.{Defined}
use Rattle.sve_ask.specs.Current.{found_in, overlaid, Currently, Serving}
use Rattle.sve_ask.specs.Gains.{IsCurrentFor}
use Rattle.sve_ask.proofs.Stays.{over_fresh, current_more, current_found, not_given}

module _ {K V : Type 0} (D : Defined K V) (is_input : K → Bool) (inputs : (files : FilesValue) (k : K) → is_some (D.given files k) ≡ is_input k) where
  -- one that is current for a fuel by the fresh memos is so over those that were lent
  pub over_lent : (files : FilesValue) (fresh lent : List (MemoValue K V)) (k : K) (fuel : ℕ) → is_input k ≡ false → IsCurrentFor D files (found_in D.cmp fresh) k fuel → IsCurrentFor D files (overlaid D.cmp fresh lent) k fuel
  over_lent files fresh lent k fuel not now =
      let current : Currently (D.given files) (found_in D.cmp fresh) k = now.0 in
      let serving : Serving (found_in D.cmp fresh) D.serves k fuel = now.1 in
      let more = λ (q : K) (f : FindingValue K V) (is : found_in D.cmp fresh q ≡ Some f). over_fresh (found_in D.cmp fresh q) (found_in D.cmp lent q) f is in
      let found = current_found (D.given files) (found_in D.cmp fresh) current.1 (not_given (D.given files k) (is_input k) (inputs files k) not) in (
        (current.0, current_more (D.given files) (found_in D.cmp fresh) (overlaid D.cmp fresh lent) more current.1),
        subst (λ (o : Option (FindingValue K V)). IfSome o (λ f. D.serves f.value fuel ≡ true)) (found.1 ∙ sym (more k found.0 found.1)) serving,
      )

-- what is known to hold where a call comes to a value, once the value is handed on
pub fetched : {A : Type 0} (result came : Result A Halt) (P N R : Type 0) → IfOk result (λ v. came ≡ Ok v) → ∥ IfOk came (λ _. P) ∥₁ → (N → P → R) → OnOk result (N → ∥ R ∥₁)
fetched (Ok v) came P N R same all f = λ n. ∥∥₁_map all (λ p. f n (subst (λ (o : Result _ Halt). IfOk o (λ _. P)) same p))
fetched (Err halt) came P N R same all f = tt

-- what holds of a value holds on a condition that holds
pub with_condition : {A : Type 0} (result : Result A Halt) (P : Type 0) → OnOk result P → OnOk result (Unit {0} → P)
with_condition (Ok v) P is = λ u. is
with_condition (Err halt) P is = tt
