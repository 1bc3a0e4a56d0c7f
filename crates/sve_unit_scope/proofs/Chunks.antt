-- Chunks of a file, one after another.
use Rattle.std.proofs.Common.{◌≡◌, ◌<◌, ◌≤◌, ℕ, ◌+◌, drop, sym, subst, ◌∙◌, arith}
use Rattle.std.proofs.lemmas.List.FromFn.{get_or-range_with_len, length-range_with_len}
use Rattle.std.specs.List.{range_with_len}
use Rattle.sve_plan.specs.Plan.{Give, Plan, and_then, each}
use Rattle.sve_plan.proofs.Each.{each_end, each_next}

module _ {Q : Type 0} {A : Q → Type 0} {S : Type 0} (f : ℕ → S → Plan A S) where
  pub next_chunk : (n i : ℕ) (s : S) → i < n → each f (drop i (range_with_len 0 n)) s ≡ and_then (f i s) (each f (drop (i + 1) (range_with_len 0 n)))
  next_chunk n i s lt = each_next f (range_with_len 0 n) i i 0 s (subst (λ m. i < m) (sym (length-range_with_len 0 n)) lt) (let first : 0 + i ≡ i = omega arith in get_or-range_with_len 0 n i 0 lt ∙ first)

  pub no_chunk : (n i : ℕ) (s : S) → n ≤ i → each f (drop i (range_with_len 0 n)) s ≡ Give s
  no_chunk n i s le = each_end f (range_with_len 0 n) i s (subst (λ m. m ≤ i) (sym (length-range_with_len 0 n)) le)
