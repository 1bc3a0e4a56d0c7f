use Rattle.std.proofs.Common.{◌∙◌, arith, refl}
use Rattle.sve_lex.specs.Spots.{spot_of}
use Rattle.sve_lex.proofs.Spots.{creep_spot, creep_copied, creep_end, creep_end_copied}
use Rattle.sve_lex.proofs.cursor.creep.Goals as goal
use Rattle.sve_lex.proofs.cursor.creep.Goals.{then-copied, else-copied}

pub bytes-preserved : goal.bytes-preserved
bytes-preserved c = record {
  spot = creep_spot c.bytes.left (spot_of c.bytes.cursor c.args.segments.now) _ _ c.bytes-test.true c.step-next.ensures.spot c.bytes.invariant.spot;
  copied = creep_copied c.bytes.left (spot_of c.bytes.cursor c.args.segments.now) (spot_of c.step-next.result c.args.segments.now) c.bytes.copied _ _ c.bytes-test.true c.step-next.ensures.spot (elim c.if-copied.branch [
    | then-copied w ↦ w.copied-is ∙ w.follows-copied.ensures ∙ (rw w.if-copied.true refl)
    | else-copied w ↦ w.copied-is ∙ (rw w.if-copied.false refl)
  ]) c.bytes.invariant.copied;
  at = omega (arith, c.step-next.ensures.at, c.bytes.invariant.at);
  segment = c.step-next.ensures.segment;
  offset = c.step-next.ensures.offset;
}

pub returns-clause-spot : goal.returns-clause-spot
returns-clause-spot c = creep_end c.bytes.left _ _ c.bytes-test.false c.bytes.invariant.spot

pub returns-clause-copied : goal.returns-clause-copied
returns-clause-copied c = creep_end_copied c.bytes.left (spot_of c.bytes.cursor c.args.segments.now) _ _ c.bytes-test.false c.bytes.invariant.copied
