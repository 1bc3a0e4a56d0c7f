use Rattle.std.proofs.Common.{◌++◌, arith, take, length-append, length-take}
use Rattle.sve_io.proofs.MovesInTurn.{Loses-then}
use Rattle.sve_serve.proofs.transfer.read_session.Goals as goal

-- where memory is wanting, the source has lost the bytes so far and those of the last read
pub returns-in_err-extend_from_slice-in-Bytes-clause-at_most :
    goal.returns-in_err-extend_from_slice-in-Bytes-clause-at_most
returns-in_err-extend_from_slice-in-Bytes-clause-at_most g c =
    let before = c.reading.bytes.items in
    let last = take c.in-Bytes.count c.read.new.into in (
      before ++ last,
      grind (arith, length-append, length-take),
      Loses-then _ (g.S.Source.left c.reading.source) _ before last c.reading.invariant.1 c.in-Bytes.ensures.moved,
    )
