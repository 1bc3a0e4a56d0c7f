use Rattle.std.proofs.Common.{arith}
use Rattle.std.proofs.lemmas.Grind.{common_steps}
use Rattle.sve_script.proofs.MadeFiles.{leaves_more}
use Rattle.sve_script.proofs.made.add_leaves.Goals as goal

pub loop-i-preserved : goal.loop-i-preserved
loop-i-preserved c = grind (arith, common_steps, leaves_more c.loop-i.i)
