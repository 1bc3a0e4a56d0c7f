-- How evaluated nodes are counted (own).
use Rattle.std.specs.Prelude.{◌≡◌, ℕ, ◌+◌, ◌-◌, ◌<◌, ◌≤◌, ◌^◌, min, Result, Ok, Err}
use Rattle.sve_fault.specs.declared.fuel.Fuel.{Fuel}
use Rattle.sve_fault.specs.declared.fuel.Halted.{Halted}
use Rattle.sve_fault.specs.declared.fuel.Halted.TheVariants.{Over, NoMemory}

-- a count stands at its last value
abbrev pub counted_on : ℕ → ℕ → ℕ
counted_on used n = min (used + n) (2 ^ 64 - 1)

-- fuel as it is handed on: no more was used than may be
abbrev pub IsFuel : Fuel → Type 0
IsFuel fuel = (fuel.used ≤ fuel.most) × (fuel.most < 2 ^ 64)

-- so many more were counted, and they do not pass the most
pub record Spends (old new : Fuel) (n : ℕ) : Type 0 where
  pub used : new.used ≡ counted_on old.used n
  pub most : new.most ≡ old.most
  pub within : new.used ≤ new.most

-- Why it was halted: they pass the most, or memory ran out. What want of memory excuses is added to the nodes, so that one
-- inequation says both.
abbrev pub excused : Halted → ℕ
excused Over = 0
excused NoMemory = 2 ^ 64

abbrev pub Halts : Halted → Fuel → ℕ → Type 0
Halts h old n = old.most < counted_on old.used n + excused h

abbrev pub Counts : {X : Type 0} → Result X Halted → Fuel → Fuel → ℕ → Type 0
Counts (Ok x) old new n = Spends old new n
Counts (Err h) old new n = Halts h old n
