-- What is done for each item in order, from one on.
use Rattle.std.proofs.Common.{◌≡◌, ◌<◌, ◌≤◌, ℕ, ◌+◌, List, length, drop, get_or, refl}
use Rattle.std.proofs.lemmas.List.{drop_more}
use Rattle.std.proofs.Math.ListN.{drop_of_length-le}
use Rattle.sve_plan.specs.Plan.{Give, Plan, and_then, each}

pub next_item : {Q : Type 0} {A : Q → Type 0} {I S : Type 0} (f : I → S → Plan A S) (items : List I) (i : ℕ) (x : I) (s : S) → i < length items → x ≡ get_or items i x → each f (drop i items) s ≡ and_then (f x s) (each f (drop (i + 1) items))
unfolding each
next_item f items i x s lt is = rw (drop_more items i x lt, ← is) refl

pub no_item : {Q : Type 0} {A : Q → Type 0} {I S : Type 0} (f : I → S → Plan A S) (items : List I) (i : ℕ) (s : S) → length items ≤ i → each f (drop i items) s ≡ Give s
unfolding each
no_item f items i s le = rw (drop_of_length-le items le) refl

-- the same for numbers, of which one is found at its place
pub next_number : {Q : Type 0} {A : Q → Type 0} {S : Type 0} (f : ℕ → S → Plan A S) (items : List ℕ) (i : ℕ) (s : S) → i < length items → each f (drop i items) s ≡ and_then (f (get_or items i 0) s) (each f (drop (i + 1) items))
unfolding each
next_number f items i s lt = rw (drop_more items i 0 lt) refl
