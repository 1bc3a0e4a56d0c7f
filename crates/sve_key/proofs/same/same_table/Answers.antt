use Rattle.std.proofs.Common.{◌≡◌, Bool, true, false, not, arith, rules}
use Rattle.std.specs.Prelude.{IsTrue}
use Rattle.sve_key.proofs.Taken.{take_more}
use Rattle.sve_key.proofs.same.same_table.Goals as goal

holds : (b : Bool) → not b ≡ false → b ≡ true
holds true e = cc
holds false e = cc

pub defs-preserved : goal.defs-preserved
defs-preserved c =
    let is : IsTrue c.same_at-same.result = first_of (search rules, cc, search (rules, holds), grind (arith, holds)) in
    take_more _ _ _ c.defs.invariant (c.same_at-same.ensures.0 is)
