-- Counting step by step, and all at once.
use Rattle.std.proofs.Common.{◌≡◌, ◌<◌, ◌^◌, List, [], ◌∷◌, arith}
use Rattle.std.proofs.lemmas.List.Sums.{sum_by-cons}
use Rattle.std.specs.List.{fold}
use Rattle.sve_fault.specs.Counts.{counted_on}
use Rattle.sve_env.specs.Told.{Told}
use Rattle.sve_statement_use.specs.Steps.{Does, Step, Uses, happens}
use Rattle.sve_count.specs.declared.counting.Counting.{Counting}
use Rattle.sve_count.specs.Counting.{counted_local, unchanged}
use Rattle.sve_count.specs.Statements.{step_nodes, steps_nodes}

module _ {E : Type 0} (told : E → Told) where
  pub counted_all : (c : Counting E) (steps : List Step) → c.used < 2 ^ 64 → (fold (happens unchanged (counted_local told)) c steps).used ≡ counted_on c.used (steps_nodes (told c.env.now) steps)
  counted_all c [] h = omega arith
  counted_all c (Uses name ∷ steps) h = let n = sum_by-cons (step_nodes (told c.env.now)) (Uses name) steps in let r = counted_all c steps h in omega arith
  counted_all c (Does local ∷ steps) h = let n = sum_by-cons (step_nodes (told c.env.now)) (Does local) steps in let r = counted_all (counted_local told c local) steps (omega arith) in omega arith
