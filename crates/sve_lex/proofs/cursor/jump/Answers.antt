use Rattle.std.proofs.Common.{drop, ◌+◌, cond, ◌≡◌}
use Rattle.sve_lex.specs.Spots.{file_at, origin_at}
use Rattle.sve_lex.proofs.Spots.{jump_by, jump_copied}
use Rattle.sve_lex.proofs.cursor.jump.Goals as goal
use Rattle.sve_lex.proofs.cursor.jump.Goals.{then-from, else-from}

pub returns-clause-spot : goal.returns-clause-spot
returns-clause-spot c =
    let by : c.if-from.by ≡ cond c.args.from.copied c.args.n 0 = elim c.if-from.branch [
      | then-from w ↦ rw w.if-from.true w.by-is
      | else-from w ↦ rw w.if-from.false w.by-is
    ] in
    jump_by c.args.n c.args.from.at c.args.from.offset c.if-from.by (file_at c.args.from.segment c.args.segments.now) c.args.from.copied (drop (c.args.from.segment + 1) c.args.segments.now) by c.requires.before

pub returns-clause-copied : goal.returns-clause-copied
returns-clause-copied c = jump_copied c.args.n c.args.from.at (origin_at c.args.from c.args.segments.now) (drop (c.args.from.segment + 1) c.args.segments.now) c.requires.before
