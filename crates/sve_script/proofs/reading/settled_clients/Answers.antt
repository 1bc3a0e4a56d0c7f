use Rattle.std.proofs.Common.{List, All, append_assoc, arith}
use Rattle.std.proofs.lemmas.Grind.{common_steps}
use Rattle.std.proofs.lemmas.List.Elements.{All-tail}
use Rattle.sve_command.specs.declared.commands.Command.{Command}
use Rattle.sve_command.specs.Sizes.{HasFairBudget}
use Rattle.sve_script.proofs.reading.settled_clients.Goals as goal

pub loop-client-preserved : goal.loop-client-preserved
loop-client-preserved c =
    let kept = c.loop-client.invariant in
    let first = c.in-Some.ensures.steps.0 in
    let fair = rw first at kept.rest_is_fair in
    let len = rw first at kept.rest_len in
    let whole = rw first at kept.whole in
    record {
      rest_is_fair = All-tail (λ (commands : List Command). All HasFairBudget commands) _ _ fair;
      rest_len = omega arith;
      whole = grind (arith, common_steps, append_assoc, whole, c.in_ok-settled_client.ensures, c.in_ok-push.ensures.items);
    }
