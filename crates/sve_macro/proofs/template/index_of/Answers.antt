use Rattle.std.proofs.Common.{ap, ◌∙◌, ◌-◌, ◌≡◌, ◌+◌, arith}
use Rattle.sve_macro.specs.Substitution.{Formal}
use Rattle.sve_macro.proofs.Formals.{one_more}
use Rattle.sve_macro.proofs.template.index_of.Goals as goal

pub loop-left-preserved : goal.loop-left-preserved
loop-left-preserved c =
    let down : c.loop-left.left ≡ c.loop-left.left - 1 + 1 = omega arith in
    one_more c.loop-left.index c.insert.new.self c.items-formals.result.now c.loop-left.left (c.loop-left.left - 1) c.bytes.result.now c.index-formals-left.result
    c.loop-left.invariant down
    (c.bytes.ensures.bytes ∙ ap (λ (f : Formal). f.0) c.index-formals-left.is)
    c.in_ok-insert.ensures.updates
