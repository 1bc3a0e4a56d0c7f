-- The longest run of bytes that pass a test is as long as the prefix of them.
use Rattle.std.proofs.Common.{◌≡◌, ℕ, suc, ◌+◌, List, [], ◌∷◌, take, Some, None, Bool, true, false, ◌⊎◌, inl, inr, refl, sym, ap, ◌∙◌, arith, add-one}
use Rattle.std.specs.List.{prefix_len}
use Rattle.sve_lex.specs.Longest.{after, longest, or_here}
use Rattle.sve_lex.proofs.Longest.{longest_cons, longest_end, longest_same, longest_here}
use Rattle.sve_lex.specs.Classes.{run, filled_run}
use Rattle.sve_lex.specs.declared.class.Class.{Class}

pub bit : (b : Bool) → (b ≡ true) ⊎ (b ≡ false)
bit true = inl refl
bit false = inr refl

pub one_more : (n : ℕ) → 1 + n ≡ suc n
one_more n = omega arith

pub run_longest : (p : ℕ → Bool) (w : List ℕ → Class) (cs : List ℕ) → longest cs (run p w) ≡ Some (w (take (prefix_len p cs) cs), prefix_len p cs)
run_longest p w [] = longest_end (run p w)
run_longest p w (c ∷ cs) = elim (bit (p c)) [
  | inl e ↦
      let f : longest cs (after c (run p w)) ≡ longest cs (run p (λ s. w (c ∷ s))) = longest_same cs _ _ (λ s rest g. rw e refl) in
      longest_cons c cs (run p w) ∙ ap (λ r. or_here r (Some (w []))) (f ∙ run_longest p (λ s. w (c ∷ s)) cs)
      ∙ (rw (e, add-one, one_more) refl)
  | inr e ↦ longest_here c cs (run p w) (λ s rest g. rw e refl) ∙ (rw e refl)
]

pub filled_longest : (p : ℕ → Bool) (w : List ℕ → Class) (c : ℕ) (cs : List ℕ) → p c ≡ true → longest (c ∷ cs) (filled_run p w) ≡ Some (w (take (prefix_len p (c ∷ cs)) (c ∷ cs)), prefix_len p (c ∷ cs))
filled_longest p w c cs e =
    let f : longest cs (after c (filled_run p w)) ≡ longest cs (run p (λ s. w (c ∷ s))) = longest_same cs _ _ (λ s rest g. rw e refl) in
    longest_cons c cs (filled_run p w) ∙ ap (λ r. or_here r None) (f ∙ run_longest p (λ s. w (c ∷ s)) cs)
    ∙ (rw (e, add-one, one_more) refl)

pub filled_no : (p : ℕ → Bool) (w : List ℕ → Class) (cs : List ℕ) → prefix_len p cs ≡ 0 → longest cs (filled_run p w) ≡ None
filled_no p w [] z = longest_end (filled_run p w)
filled_no p w (c ∷ cs) z = elim (bit (p c)) [
  | inl e ↦ absurd (let y : prefix_len p (c ∷ cs) ≡ 1 + prefix_len p cs = rw e refl in let q : 1 + prefix_len p cs ≡ 0 = sym y ∙ z in omega (arith, q))
  | inr e ↦ longest_here c cs (filled_run p w) (λ s rest g. rw e refl)
]

pub filled_yes : (p : ℕ → Bool) (w : List ℕ → Class) (cs : List ℕ) → (prefix_len p cs ≡ 0 → ⊥) → longest cs (filled_run p w) ≡ Some (w (take (prefix_len p cs) cs), prefix_len p cs)
filled_yes p w [] z = absurd (z refl)
filled_yes p w (c ∷ cs) z = elim (bit (p c)) [
  | inl e ↦ filled_longest p w c cs e
  | inr e ↦ absurd (z (rw e refl))
]
