use Rattle.std.proofs.Common.{rules, arith}
use Rattle.sve_bytes.proofs.StageNames.{simple_too_long, keyword_ends}
use Rattle.sve_bytes.proofs.path_reading.after_simple.Goals as goal
use Rattle.sve_bytes.proofs.path_reading.after_simple.Goals.{else-byte-eq91-via-then-byte-eq91+else-not-is_keyword, else-byte-eq91-via-else-byte-eq91}

pub returns-then-so_far-eq-MAX_NAME_LEN : goal.returns-then-so_far-eq-MAX_NAME_LEN
returns-then-so_far-eq-MAX_NAME_LEN c =
    simple_too_long c.args.so_far.now c.args.byte c.requires.0 (search rules) (omega arith)

pub returns : goal.returns
returns c =
    keyword_ends c.args.so_far.now c.args.byte c.requires.0 (search rules)
    (elim c.else-byte-eq91.branch [
      | else-byte-eq91-via-then-byte-eq91+else-not-is_keyword w ↦ λ _. search rules
      | else-byte-eq91-via-else-byte-eq91 w ↦ λ same. absurd (omega (arith, w.if-byte-eq91.false))
    ])
