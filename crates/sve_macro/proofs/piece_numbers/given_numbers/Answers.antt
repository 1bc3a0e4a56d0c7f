use Rattle.std.proofs.Common.{length}
use Rattle.sve_macro.proofs.PieceNumbers.{same_gathered}
use Rattle.sve_macro.proofs.piece_numbers.given_numbers.Goals as goal

pub returns-clause-gathers : goal.returns-clause-gathers
returns-clause-gathers c =
    same_gathered c.args.numbers.now c.args.actuals.now (length c.args.actuals.now) c.in_ok-gathered.gathered.items c.put_in_order.new.numbers.items c.in_ok-gathered.ensures c.put_in_order.ensures.keeps c.put_in_order.ensures.adds_none
