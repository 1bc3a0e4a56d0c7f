-- What several reads or writes move, one after the other: for loops over a source or a sink.
use Rattle.std.proofs.Common.{◌≡◌, ℕ, ◌≤◌, List, [], ◌++◌, Option, None, Some, IfSome, refl, sym, ap, append_assoc, append-nil, arith}
use Rattle.sve_io.specs.Faults.{HasRisen}
use Rattle.sve_io.specs.Moves.{Loses, Gains}

-- nothing was lost where nothing moved
pub Loses-nil : (left : Option (List ℕ)) → Loses left left []
Loses-nil None = refl
Loses-nil (Some bytes) = refl

-- what two reads lost, one after the other
pub Loses-then : (first second third : Option (List ℕ)) (xs ys : List ℕ) → Loses first second xs → Loses second third ys → Loses first third (xs ++ ys)
Loses-then first None None xs ys p q = p
Loses-then first None (Some zs) xs ys p q = cc
Loses-then first (Some zs) None xs ys p q = cc
Loses-then first (Some zs) (Some ws) xs ys p q = cc (append_assoc xs ys ws)

-- nothing was gained where nothing moved
pub Gains-nil : (held : Option (List ℕ)) → Gains held held []
Gains-nil None = refl
Gains-nil (Some bytes) = ap Some (sym (append-nil bytes))

-- what two writes gained, one after the other
pub Gains-then : (first second third : Option (List ℕ)) (xs ys : List ℕ) → Gains first second xs → Gains second third ys → Gains first third (xs ++ ys)
Gains-then None None third xs ys p q = q
Gains-then None (Some ws) third xs ys p q = cc
Gains-then (Some zs) None third xs ys p q = cc
Gains-then (Some zs) (Some ws) third xs ys p q = cc (append_assoc zs xs ys)

-- a source that is at its end gave all that it had
pub Loses-all : (before after : Option (List ℕ)) (moved : List ℕ) → Loses before after moved → IfSome after (λ left. left ≡ []) → IfSome before (λ left. left ≡ moved)
Loses-all None after moved p end = tt
Loses-all (Some xs) None moved p end = cc
Loses-all (Some xs) (Some ys) moved p end = cc (append-nil moved)

-- a fault shows in a count that is taken over more calls
pub HasRisen-then : (first second third : ℕ) → first ≤ second → HasRisen second third → HasRisen first third
HasRisen-then first second third le risen = search (arith)
