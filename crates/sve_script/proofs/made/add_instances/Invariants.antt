use Rattle.std.proofs.Common.{◌≡◌, ◌++◌}
use Rattle.std.specs.List.{flat_map}
use Rattle.sve_script.specs.Made.{instance_text, leaves}
use Rattle.sve_script.proofs.made.add_instances.Given as goal

-- the text so far is that from before and the instances below this one
abbrev pub invariant-loop-i : goal.invariant-loop-i
invariant-loop-i l = l.text.items ≡ l.initial.text.items ++ flat_map instance_text (leaves l.i)
