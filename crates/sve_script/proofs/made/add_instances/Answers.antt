use Rattle.std.proofs.Common.{arith}
use Rattle.std.proofs.lemmas.Grind.{common_steps}
use Rattle.sve_script.proofs.MadeFiles.{instances_more}
use Rattle.sve_script.proofs.made.add_instances.Goals as goal

pub loop-i-preserved : goal.loop-i-preserved
loop-i-preserved c = grind (arith, common_steps, instances_more c.loop-i.i)
