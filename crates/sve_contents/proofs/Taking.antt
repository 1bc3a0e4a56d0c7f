-- In which scope an import takes effect.
use Rattle.std.proofs.Common.{arith, ◌≡◌, ◌<◌, ◌≤◌, ◌-◌, ℕ, zero, suc, List, refl}
use Rattle.sve_scope.specs.Scopes.{taking, taking_at}
use Rattle.sve_contents.specs.declared.contents.Contents.{Contents}
use Rattle.sve_contents.specs.Reading.{with_scope}
use Rattle.sve_contents.specs.Uses.{taking_in}

pub taking_here : (c : Contents) (place : ℕ) (n : List ℕ) → place ≤ 0 → taking_in c place n ≡ with_scope c (taking c.scope n)
taking_here c zero n h = refl
taking_here c (suc place) n h = absurd (omega (arith, h))

pub taking_beyond : (c : Contents) (place : ℕ) (n : List ℕ) → 0 < place → taking_in c place n ≡ record c { around = taking_at c.around (place - 1) n }
taking_beyond c zero n h = absurd (omega (arith, h))
taking_beyond c (suc place) n h = let e : suc place - 1 ≡ place = omega arith in rw e refl
