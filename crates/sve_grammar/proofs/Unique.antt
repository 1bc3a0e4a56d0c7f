-- The machine has one run: it comes to an empty stack in one way, or it stops, in one way.
use Rattle.std.proofs.Common.{◌≡◌, ◌⊎◌, List, refl, sym as flip, subst, ◌∙◌, inl, inr}
use Rattle.sve_token.specs.declared.token.Token.{Token}
use Rattle.sve_grammar.specs.Machine.{State, Halt, on, stop, done, step, Comes, here, then, Stops, now, later}

first_step : (ts : List Token) {s u : State} → Comes ts s u → (s ≡ u) ⊎ ((next : State) × (step ts s ≡ on next) × Comes ts next u)
first_step ts here = inl refl
first_step ts (then s next t e p) = inr (next, e, p)

on_one : (a b : State) → on a ≡ on b → a ≡ b
on_one a b e = cc

-- two runs to an empty stack end in one state
pub one_end : (ts : List Token) {s t : State} → Comes ts s t → (u : State) → step ts t ≡ done → Comes ts s u → step ts u ≡ done → t ≡ u
one_end ts (here {s = s}) u e q f = elim (first_step ts q) [
  | inl same ↦ same
  | inr more ↦ absurd (let a : on more.0 ≡ done = flip more.1 ∙ e in cc)
]
one_end ts (then s next t b p) u e q f = elim (first_step ts q) [
  | inl same ↦ absurd (let g : step ts s ≡ done = subst (λ (x : State). step ts x ≡ done) (flip same) f in let a : on next ≡ done = flip b ∙ g in cc)
  | inr more ↦ one_end ts p u e (subst (λ (x : State). Comes ts x u) (on_one more.0 next (flip more.1 ∙ b)) more.2) f
]

stop_one : (a b : Halt) → stop a ≡ stop b → a ≡ b
stop_one a b e = cc

first_halt : (ts : List Token) {s : State} {h : Halt} → Stops ts s h → (step ts s ≡ stop h) ⊎ ((next : State) × (step ts s ≡ on next) × Stops ts next h)
first_halt ts (now s h e) = inl e
first_halt ts (later s next h e p) = inr (next, e, p)

-- two stops are one
pub one_stop : (ts : List Token) {s : State} {h : Halt} → Stops ts s h → (g : Halt) → Stops ts s g → h ≡ g
one_stop ts (now s h e) g q = elim (first_halt ts q) [
  | inl same ↦ stop_one h g (flip e ∙ same)
  | inr more ↦ absurd (let a : stop h ≡ on more.0 = flip e ∙ more.1 in cc)
]
one_stop ts (later s next h e p) g q = elim (first_halt ts q) [
  | inl same ↦ absurd (let a : on next ≡ stop g = flip e ∙ same in cc)
  | inr more ↦ one_stop ts p g (subst (λ (x : State). Stops ts x g) (on_one more.0 next (flip more.1 ∙ e)) more.2)
]

-- a run that stops comes to no empty stack
pub no_end : (ts : List Token) {s : State} {h : Halt} → Stops ts s h → (u : State) → Comes ts s u → step ts u ≡ done → ⊥
no_end ts (now s h e) u q f = elim (first_step ts q) [
  | inl same ↦ let g : step ts s ≡ done = subst (λ (x : State). step ts x ≡ done) (flip same) f in let a : stop h ≡ done = flip e ∙ g in cc
  | inr more ↦ let a : stop h ≡ on more.0 = flip e ∙ more.1 in cc
]
no_end ts (later s next h e p) u q f = elim (first_step ts q) [
  | inl same ↦ let g : step ts s ≡ done = subst (λ (x : State). step ts x ≡ done) (flip same) f in let a : on next ≡ done = flip e ∙ g in cc
  | inr more ↦ no_end ts p u (subst (λ (x : State). Comes ts x u) (on_one more.0 next (flip more.1 ∙ e)) more.2) f
]

-- the same, with the two runs beside each other
pub ends_once : (ts : List Token) (s t u : State) → Comes ts s t → step ts t ≡ done → Comes ts s u → step ts u ≡ done → t ≡ u
ends_once ts s t u p e q f = one_end ts p u e q f

pub stops_once : (ts : List Token) (s : State) (h g : Halt) → Stops ts s h → Stops ts s g → h ≡ g
stops_once ts s h g p q = one_stop ts p g q

pub never_both : (ts : List Token) (s u : State) (h : Halt) → Stops ts s h → Comes ts s u → step ts u ≡ done → ⊥
never_both ts s u h p q f = no_end ts p u q f
