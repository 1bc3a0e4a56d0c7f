-- What a fault counts.
use Rattle.std.proofs.Common.{◌≡◌, ℕ, Option, Result, Ok, Err}
use Rattle.sve_diag.specs.declared.diag.Note.{Note}
use Rattle.sve_types.specs.declared.value.Value.{Value}
use Rattle.sve_fault.specs.Counts.{Spends}
use Rattle.sve_fault.specs.declared.fault.Fault.{Fault}
use Rattle.sve_fault.specs.declared.fuel.Fuel.{Fuel}
use Rattle.sve_env.specs.Told.{Told}
use Rattle.sve_const.specs.Answers.{Evaluates}
use Rattle.sve_const.specs.declared.evaluation.ConstFault.{ConstFault}
use Rattle.sve_const.specs.declared.evaluation.ConstFault.TheVariants.{Bad}

bad : (said : Option Note) (r : Result Value Fault) (m : Told) (old new : Fuel) (n : ℕ) → Evaluates (Err (Bad said)) r m old new n → Spends old new n
bad said (Ok w) m old new n h = absurd h
bad said (Err f) m old new n h = h.1

pub bad_counts : (fault : ConstFault) (said : Option Note) (r : Result Value Fault) (m : Told) (old new : Fuel) (n : ℕ) → fault ≡ Bad said → Evaluates (Err fault) r m old new n → Spends old new n
bad_counts fault said r m old new n e h = bad said r m old new n (rw e at h)
