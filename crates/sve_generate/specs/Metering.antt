-- What a counted value comes to on the way (own).
use Rattle.std.specs.Prelude.{ℕ, ◌+◌, ◌≡◌}
use Rattle.sve_fault.specs.declared.fuel.Fuel.{Fuel}
use Rattle.sve_fault.specs.Counts.{Spends}
use Rattle.sve_plan.specs.Plan.{Counted}

-- so much was spent, and what the rest gives with it is what the whole gives
pub record Comes {X : Type 0} (before after : Fuel) (whole rest : Counted X) : Type 0 where
  pub spent : ℕ
  pub value : whole.1 ≡ rest.1
  pub cost : whole.0 ≡ spent + rest.0
  pub spends : Spends before after spent
