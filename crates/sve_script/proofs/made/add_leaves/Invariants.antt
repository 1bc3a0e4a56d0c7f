use Rattle.std.proofs.Common.{◌≡◌, ◌++◌, map}
use Rattle.sve_script.specs.Made.{leaf_name, leaf_text, leaves}
use Rattle.sve_script.proofs.made.add_leaves.Given as goal

-- the files so far are those from before and the modules below this one
abbrev pub invariant-loop-i : goal.invariant-loop-i
invariant-loop-i l = l.files.items ≡ l.initial.files.items ++ map (λ i. (leaf_name i, leaf_text i)) (leaves l.i)
