-- What a plan comes to where every question has an answer (own).
use Rattle.std.specs.Prelude.{ℕ, Some, nat_le, if◌then◌else◌}
use Rattle.sve_fault.specs.Counts.{counted_on}
use Rattle.sve_told.specs.Told.{Told}
use Rattle.sve_plan.specs.Plan.{Plan, Give, Ask, Spend, Counted, Outcome, Done, Over}

-- the value that it comes to, with what is used by then, of which so much was used before
unfoldable pub settled : {Q : Type 0} {A : Q → Type 0} {X : Type 0} → ((q : Q) → A q) → ℕ → Plan A X → Counted X
settled reply used (Give x) = (used, x)
settled reply used (Ask q go) = settled reply used (go (reply q))
settled reply used (Spend n rest) = settled reply (counted_on used n) rest

-- what every question's answer is told
abbrev pub told_all : {Q : Type 0} {A : Q → Type 0} → ((q : Q) → A q) → Told A
told_all reply = λ q. Some (reply q)

-- with so much fuel at most, a value with its cost is done, or costs too much
abbrev pub done_within : {Q X : Type 0} → ℕ → Counted X → Outcome Q X
done_within most counted = if nat_le counted.0 most then Done counted.1 counted.0 else Over
