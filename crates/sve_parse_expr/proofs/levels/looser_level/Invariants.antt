use Rattle.std.proofs.Common.{◌≡◌, ℕ, ◌<◌, ◌≤◌, false}
use Rattle.sve_parse_expr.specs.Levels.{goes_on}
use Rattle.sve_parse_expr.proofs.levels.looser_level.Given as goal

abbrev pub invariant-loop-below : goal.invariant-loop-below
invariant-loop-below l = (n : ℕ) → l.done < n → n ≤ l.below → goes_on l.tokens l.at n ≡ false
