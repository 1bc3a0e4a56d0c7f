-- The zeros of a name that is not taken.
use Rattle.std.proofs.Common.{ℕ, zero, suc, ◌+◌, ◌-◌, ◌<◌, ◌≤◌, ◌≡◌, ◌⊎◌, inl, inr, List, [], ◌∷◌, ◌++◌, length, nat_le, append_assoc, replicate, Bool, true, false, cond, Some, None, is_some, refl, ap, sym, ◌∙◌, subst, length-append, arith}
use Rattle.std.proofs.lemmas.List.{length-replicate, replicate-append-replicate}
use Rattle.std.proofs.lemmas.Bool.{leb-true, leb-false}
use Rattle.std.specs.Prelude.{codes, decimal}
use Rattle.sve_table.specs.Tables.{item_of}
use Rattle.sve_generate.specs.BlockNames.{block_text, most_zeros, free_zeros, block_name, is_taken, IsBlockName}

-- ---- the text

pub length_text : (zeros number : ℕ) → length (block_text zeros number) ≡ 6 + zeros + length (decimal number)
length_text zeros number =
    length-append (codes "genblk" ++ replicate zeros 48) (decimal number) ∙ ap (λ n. n + length (decimal number)) (length-append (codes "genblk") (replicate zeros 48) ∙ ap (λ n. 6 + n) (length-replicate zeros 48))

pub one_zero_more : (start text next : List ℕ) (n : ℕ) → text ≡ start ++ replicate n 48 → next ≡ text ++ 48 ∷ [] → next ≡ start ++ replicate (n + 1) 48
one_zero_more start text next n is pushed = pushed ∙ ap (λ xs. xs ++ 48 ∷ []) is ∙ append_assoc start (replicate n 48) (48 ∷ []) ∙ ap (λ xs. start ++ xs) (replicate-append-replicate n 1 48)

pub fits : (text : List ℕ) (zeros number : ℕ) → text ≡ block_text zeros number → zeros ≤ most_zeros number → length (decimal number) ≤ 40 → length text ≤ 1024
fits text zeros number is le short = let l = ap length is ∙ length_text zeros number in omega arith

-- ---- the tries

module _ (taken : List ℕ → Bool) (number : ℕ) where
  at_suc : (tries zeros : ℕ) (b : Bool) → taken (block_text zeros number) ≡ b → free_zeros taken number (suc tries) zeros ≡ cond b (free_zeros taken number tries (suc zeros)) zeros
  unfolding free_zeros
  at_suc tries zeros b is = ap (λ c. cond c (free_zeros taken number tries (suc zeros)) zeros) is

  -- a name that is not declared is the one
  pub free_here : (most zeros : ℕ) → zeros < most → taken (block_text zeros number) ≡ false → free_zeros taken number (most - zeros) zeros ≡ free_zeros taken number most 0 → zeros ≡ free_zeros taken number most 0
  free_here most zeros lt free so_far = let e : most - zeros ≡ suc (most - (zeros + 1)) = omega arith in sym (at_suc (most - (zeros + 1)) zeros false free) ∙ ap (λ tries. free_zeros taken number tries zeros) (sym e) ∙ so_far

  -- one that is leads on
  pub taken_here : (most zeros : ℕ) → zeros < most → taken (block_text zeros number) ≡ true → free_zeros taken number (most - zeros) zeros ≡ free_zeros taken number most 0 → free_zeros taken number (most - (zeros + 1)) (zeros + 1) ≡ free_zeros taken number most 0
  taken_here most zeros lt is so_far =
      let e : most - zeros ≡ suc (most - (zeros + 1)) = omega arith in let f : suc zeros ≡ zeros + 1 = omega arith in
      ap (free_zeros taken number (most - (zeros + 1))) (sym f) ∙ sym (at_suc (most - (zeros + 1)) zeros true is) ∙ ap (λ tries. free_zeros taken number tries zeros) (sym e) ∙ so_far

  -- the last one is not tried
  pub last_here : (most zeros : ℕ) → zeros ≡ most → free_zeros taken number (most - zeros) zeros ≡ free_zeros taken number most 0 → most ≡ free_zeros taken number most 0
  unfolding free_zeros
  last_here most zeros is so_far = let e : most - zeros ≡ 0 = omega arith in sym is ∙ ap (λ tries. free_zeros taken number tries zeros) (sym e) ∙ so_far

  -- ---- what the zeros are

  record IsFree (tries zeros found : ℕ) : Type 0 where
    from : zeros ≤ found
    upto : found ≤ zeros + tries
    fewer : (z : ℕ) → zeros ≤ z → z < found → taken (block_text z number) ≡ true
    free : (taken (block_text found number) ≡ false) ⊎ (found ≡ zeros + tries)

  none_left : (zeros : ℕ) → IsFree 0 zeros zeros
  none_left zeros = record { from = omega arith; upto = omega arith; fewer = λ z le lt. absurd (omega arith); free = inr (omega arith) }

  free_now : (tries zeros : ℕ) → taken (block_text zeros number) ≡ false → IsFree (suc tries) zeros zeros
  free_now tries zeros is = record { from = omega arith; upto = omega arith; fewer = λ z le lt. absurd (omega arith); free = inl is }

  by_first : (zeros z : ℕ) → taken (block_text zeros number) ≡ true → zeros ≤ z → (suc zeros ≤ z → taken (block_text z number) ≡ true) → taken (block_text z number) ≡ true
  by_first zeros z is le further = by_compare (nat_le (suc zeros) z) refl where
    by_compare : (b : Bool) → nat_le (suc zeros) z ≡ b → taken (block_text z number) ≡ true
    by_compare true e = further (leb-true (suc zeros) z e)
    by_compare false e = let lt = leb-false (suc zeros) z e in let same : zeros ≡ z = omega arith in subst (λ k. taken (block_text k number) ≡ true) same is

  at_last : (tries zeros found : ℕ) → (taken (block_text found number) ≡ false) ⊎ (found ≡ suc zeros + tries) → (taken (block_text found number) ≡ false) ⊎ (found ≡ zeros + suc tries)
  at_last tries zeros found (inl free) = inl free
  at_last tries zeros found (inr is) = inr (omega arith)

  taken_now : (tries zeros found : ℕ) → taken (block_text zeros number) ≡ true → IsFree tries (suc zeros) found → IsFree (suc tries) zeros found
  taken_now tries zeros found is rest = let a = rest.from in let b = rest.upto in record {
    from = omega arith;
    upto = omega arith;
    fewer = λ z le lt. by_first zeros z is le (λ later. rest.fewer z later lt);
    free = at_last tries zeros found rest.free;
  }

  by_taken : (tries zeros : ℕ) (b : Bool) → taken (block_text zeros number) ≡ b → IsFree tries (suc zeros) (free_zeros taken number tries (suc zeros)) → IsFree (suc tries) zeros (cond b (free_zeros taken number tries (suc zeros)) zeros)
  by_taken tries zeros true is rest = taken_now tries zeros _ is rest
  by_taken tries zeros false is rest = free_now tries zeros is

  frees : (tries zeros : ℕ) → IsFree tries zeros (free_zeros taken number tries zeros)
  unfolding free_zeros
  frees zero zeros = none_left zeros
  frees (suc tries) zeros = by_taken tries zeros (taken (block_text zeros number)) refl (frees tries (suc zeros))

  full : (found : ℕ) → length (block_text 0 number) ≤ 1024 → (taken (block_text found number) ≡ false) ⊎ (found ≡ 0 + most_zeros number) → (taken (block_text found number) ≡ false) ⊎ (length (block_text found number) ≡ 1024)
  full found short (inl free) = inl free
  full found short (inr is) = let a = length_text 0 number in let b = length_text found number in inr (omega arith)

  pub is_block_name : length (block_text 0 number) ≤ 1024 → IsBlockName taken number (block_name taken number)
  is_block_name short = let f = frees (most_zeros number) 0 in record {
    zeros = free_zeros taken number (most_zeros number) 0;
    text = refl;
    fewer = λ z lt. f.fewer z (omega arith) lt;
    free = full (free_zeros taken number (most_zeros number) 0) short f.free;
  }

-- ---- the loop over the tries, over a table

module _ {X : Type 0} (called : X → List ℕ) (declared : List X) (number most zeros : ℕ) (same : most ≡ most_zeros number) (so_far : free_zeros (is_taken called declared) number (most - zeros) zeros ≡ free_zeros (is_taken called declared) number most 0) where
  -- a name of which nothing is declared
  pub found : (name : List ℕ) → zeros < most → name ≡ block_text zeros number → None ≡ item_of called name declared → name ≡ block_name (is_taken called declared) number
  found name lt is none =
      let free : is_taken called declared (block_text zeros number) ≡ false = ap (λ n. is_some (item_of called n declared)) (sym is) ∙ ap is_some (sym none) in
      is ∙ ap (λ z. block_text z number) (free_here (is_taken called declared) number most zeros lt free so_far ∙ ap (λ m. free_zeros (is_taken called declared) number m 0) same)

  -- one of which something is
  pub goes_on : (name : List ℕ) (item : X) → zeros < most → name ≡ block_text zeros number → Some item ≡ item_of called name declared → free_zeros (is_taken called declared) number (most - (zeros + 1)) (zeros + 1) ≡ free_zeros (is_taken called declared) number most 0
  goes_on name item lt is some =
      let here : is_taken called declared (block_text zeros number) ≡ true = ap (λ n. is_some (item_of called n declared)) (sym is) ∙ ap is_some (sym some) in
      taken_here (is_taken called declared) number most zeros lt here so_far

  -- the end
  pub tried_all : zeros ≡ most → block_text most number ≡ block_name (is_taken called declared) number
  tried_all is = ap (λ z. block_text z number) (last_here (is_taken called declared) number most zeros is so_far ∙ ap (λ m. free_zeros (is_taken called declared) number m 0) same)
