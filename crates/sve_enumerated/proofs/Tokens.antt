-- Tokens, one by one.
use Rattle.std.proofs.Common.{arith, ◌≡◌, ◌<◌, ◌≤◌, ◌+◌, ◌-◌, ℕ, suc, List, refl}
use Rattle.sve_tree.specs.declared.token_word.Word.{Word}
use Rattle.sve_contents.specs.declared.contents.Contents.{Contents}
use Rattle.sve_enumerated.specs.Passing.{used_at, used_from}

one_more : (ws : List Word) (c : Contents) (token n m : ℕ) → m ≡ suc n → used_from ws (used_at ws c token) (token + 1) n ≡ used_from ws c token m
unfolding used_from
one_more ws c token n m e = rw e refl

none_more : (ws : List Word) (c : Contents) (token m : ℕ) → m ≡ 0 → used_from ws c token m ≡ c
unfolding used_from
none_more ws c token m e = rw e refl

pub used_step : (ws : List Word) (c : Contents) (token until : ℕ) → token < until → used_from ws (used_at ws c token) (token + 1) (until - (token + 1)) ≡ used_from ws c token (until - token)
used_step ws c token until h = one_more ws c token (until - (token + 1)) (until - token) (omega (arith, h))

pub used_end : (ws : List Word) (c : Contents) (token until : ℕ) → until ≤ token → used_from ws c token (until - token) ≡ c
used_end ws c token until h = none_more ws c token (until - token) (omega (arith, h))
