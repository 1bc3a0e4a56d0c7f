use Rattle.std.proofs.Common.{Ok, Err, ap, sym, ◌∙◌}
use Rattle.sve_shape.proofs.EachItem.{item_taken, item_fails, all_taken}
use Rattle.sve_command.specs.Commands.{command_of}
use Rattle.sve_command.proofs.clients.commands.Goals as goal

pub loop-i-preserved : goal.loop-i-preserved
loop-i-preserved c =
    rw c.in_ok-push-in-Ok.ensures.items
    (item_taken command_of c.args.items.now c.loop-i.commands.items c.loop-i.i c.index-items-i.result c.in-Ok.command c.loop-i-test.true c.index-items-i.is (sym c.in-Ok.is ∙ c.in_ok-command.ensures) c.loop-i.invariant)

pub returns-in-Err : goal.returns-in-Err
returns-in-Err c =
    ap Err c.in_ok-below_index-in-Err.ensures
    ∙ item_fails command_of c.args.items.now c.loop-i.commands.items c.loop-i.i c.index-items-i.result c.in-Err.path c.loop-i-test.true c.index-items-i.is (sym c.in-Err.is ∙ c.in_ok-command.ensures) c.loop-i.invariant

pub returns : goal.returns
returns c = ap Ok c.of.ensures ∙ all_taken command_of c.args.items.now c.loop-i.commands.items c.loop-i.i c.loop-i-test.false c.loop-i.invariant
