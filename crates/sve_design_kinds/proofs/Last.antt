-- The last of some tokens in front of another.
use Rattle.std.specs.FinSet.{contains}
use Rattle.std.specs.Prelude.{if◌then◌else◌}
use Rattle.std.proofs.Common.{ℕ, zero, suc, ◌<◌, ◌≡◌, true, false, Some, None, refl, sym, ap, ◌∙◌, subst, ⊎_elim, eq-or-lt_of_le, le_of_suc-le-suc, lt-suc_self, lt_trans, not-suc-le-zero}
use Rattle.sve_design_kinds.specs.Beginnings.{Tokens, last_before}

module _ (tokens : Tokens) where
  -- none of them stands there
  pub none_before : (n : ℕ) → ((k : ℕ) → k < n → contains tokens k ≡ false) → None ≡ last_before tokens n
  unfolding last_before
  none_before zero none = refl
  none_before (suc n) none = none_before n (λ k lt. none k (lt_trans lt (lt-suc_self n))) ∙ sym (ap (λ b. if b then Some n else last_before tokens n) (none n (lt-suc_self n)))

  -- this one does, and none behind it
  pub last_is : (n last : ℕ) → last < n → contains tokens last ≡ true → ((k : ℕ) → last < k → k < n → contains tokens k ≡ false) → Some last ≡ last_before tokens n
  unfolding last_before
  last_is zero last lt is none = absurd (not-suc-le-zero lt)
  last_is (suc n) last lt is none = ⊎_elim
      (λ same. ap Some same ∙ sym (ap (λ b. if b then Some n else last_before tokens n) (subst (λ k. contains tokens k ≡ true) same is)))
      (λ below. last_is n last below is (λ k behind before. none k behind (lt_trans before (lt-suc_self n))) ∙ sym (ap (λ b. if b then Some n else last_before tokens n) (none n below (lt-suc_self n))))
      (eq-or-lt_of_le (le_of_suc-le-suc lt))
