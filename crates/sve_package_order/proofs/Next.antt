-- The next round of imports.
use Rattle.std.proofs.Common.{arith, ◌≡◌, ◌<◌, ◌≤◌, ◌+◌, ℕ, suc, max, List, [], ◌∷◌, ◌++◌, Option, None, Some, refl, ap}
use Rattle.std.proofs.Math.Numerals.{add-one}
use Rattle.sve_package_order.specs.Search.{above, next_round}

max_later : (a b c : ℕ) → max (suc a) (max b (suc c)) ≡ max (max (suc a) b) (suc c)
max_later a b c = omega arith

-- what is known stays known
abbrev pub Grows : (ℕ → Option ℕ) → (ℕ → Option ℕ) → Type 0
Grows f g = (q r : ℕ) → f q ≡ Some r → g q ≡ Some r

module _ (round : ℕ → Option ℕ) where
  -- one import more, whose round is known
  pub next_push : (qs : List ℕ) (q r m : ℕ) → next_round round qs ≡ Some m → round q ≡ Some r → next_round round (qs ++ q ∷ []) ≡ Some (max m (r + 1))
  unfolding next_round
  next_push [] q r m h e = let z : 0 ≡ m = cc in rw (e, ← z, add-one r) (ap Some (omega arith))
  next_push (x ∷ qs) q r m h e = by (round x) (next_round round qs) refl refl (next_push qs q r)
    where
      by : (a b : Option ℕ) → round x ≡ a → next_round round qs ≡ b → ((n : ℕ) → next_round round qs ≡ Some n → round q ≡ Some r → next_round round (qs ++ q ∷ []) ≡ Some (max n (r + 1)))
          → above (round x) (next_round round (qs ++ q ∷ [])) ≡ Some (max m (r + 1))
      by None b p s more = let t : None ≡ Some m = rw p at h in cc
      by (Some a) None p s more = let t : None ≡ Some m = rw (p, s) at h in cc
      by (Some a) (Some b) p s more =
          let t : Some (max (suc a) b) ≡ Some m = rw (p, s) at h in
          let u : max (suc a) b ≡ m = cc in
          rw (p, more b s e, ← u, add-one r) (ap Some (max_later a b r))

  -- where the round of one is not known, there is no next
  pub next_none : (qs rest : List ℕ) (q : ℕ) → round q ≡ None → next_round round (qs ++ q ∷ rest) ≡ None
  unfolding next_round
  next_none [] rest q e = rw e refl
  next_none (x ∷ qs) rest q e = rw (next_none qs rest q e) (by (round x))
    where
      by : (a : Option ℕ) → above a None ≡ None
      by None = refl
      by (Some a) = refl

  -- the next round is at most a bound of all rounds
  pub next_low : (bound : ℕ) → ((q r : ℕ) → round q ≡ Some r → r < bound) → (qs : List ℕ) (m : ℕ) → next_round round qs ≡ Some m → m ≤ bound
  unfolding next_round
  next_low bound low [] m e = let z : 0 ≡ m = cc in omega arith
  next_low bound low (q ∷ qs) m e = by (round q) (next_round round qs) refl refl (next_low bound low qs)
    where
      by : (a b : Option ℕ) → round q ≡ a → next_round round qs ≡ b → ((n : ℕ) → next_round round qs ≡ Some n → n ≤ bound) → m ≤ bound
      by None b p s more = let t : None ≡ Some m = rw p at e in absurd cc
      by (Some a) None p s more = let t : None ≡ Some m = rw (p, s) at e in absurd cc
      by (Some a) (Some b) p s more =
          let t : Some (max (suc a) b) ≡ Some m = rw (p, s) at e in
          let u : max (suc a) b ≡ m = cc in
          omega (arith, low q a p, more b s)

-- where more is known, the next round is the same
pub next_stays : (f g : ℕ → Option ℕ) → Grows f g → (qs : List ℕ) (m : ℕ) → next_round f qs ≡ Some m → next_round g qs ≡ Some m
unfolding next_round
next_stays f g h [] m e = e
next_stays f g h (q ∷ qs) m e = by (f q) (next_round f qs) refl refl (next_stays f g h qs)
  where
    by : (a b : Option ℕ) → f q ≡ a → next_round f qs ≡ b → ((n : ℕ) → next_round f qs ≡ Some n → next_round g qs ≡ Some n) → above (g q) (next_round g qs) ≡ Some m
    by None b p s more = let t : None ≡ Some m = rw p at e in cc
    by (Some r) None p s more = let t : None ≡ Some m = rw (p, s) at e in cc
    by (Some r) (Some n) p s more = let t : Some (max (suc r) n) ≡ Some m = rw (p, s) at e in rw (h q r p, more n s) t
