-- The lines of the parameters so far.
use Rattle.std.proofs.Common.{◌≡◌, ◌++◌, take, map}
use Rattle.sve_listing.specs.Lists.{on_one_line}
use Rattle.sve_facts_lines.specs.Instances.{param_text}
use Rattle.sve_facts_lines.proofs.instance.with_params.Given as goal

abbrev pub invariant-params : goal.invariant-params
invariant-params l = l.all ≡ l.fn.lines ++ map (λ x. on_one_line (param_text x)) (take l.param-index l.room)
