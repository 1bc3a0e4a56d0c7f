use Rattle.std.proofs.Common.{rules, arith}
use Rattle.sve_bytes.proofs.StageIndices.{open_digit, no_number}
use Rattle.sve_bytes.proofs.path_reading.after_open.Goals as goal

pub returns-then-is_ascii_digit : goal.returns-then-is_ascii_digit
returns-then-is_ascii_digit c =
    λ so_far h. (omega arith, rw c.from.ensures (open_digit so_far c.args.name.now c.args.byte h (search rules)))

pub returns : goal.returns
returns c = λ so_far h. no_number so_far c.args.name.now c.args.byte h (search rules) c.if-byte-eq45.false
