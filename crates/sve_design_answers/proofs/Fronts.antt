-- The first of some things, where there are no more.
use Rattle.std.proofs.Common.{◌≡◌, ℕ, ◌≤◌, List, length, take, sym}
use Rattle.std.proofs.Math.Seq.{take_all}

pub all_in_front : {X : Type 0} (xs : List X) (n : ℕ) → length xs ≤ n → xs ≡ take n xs
all_in_front xs n h = sym (take_all n xs h)
