use Rattle.std.proofs.Common.{sym, ◌∙◌, ap, subst, take, length, ◌≤◌, arith, length-drop}
use Rattle.sve_directive.specs.Pieces.{piece_length, gap_length}
use Rattle.sve_directive.proofs.PieceLemmas.{gap_step, gap_end}
use Rattle.sve_directive.proofs.pieces.gap_len.Goals as goal

pub returns-then-not-is_gap_at-clause-value : goal.returns-then-not-is_gap_at-clause-value
returns-then-not-is_gap_at-clause-value c = gap_end c.args.text.now c.piece-next.result.now c.pieces.n (gap_length c.args.text.now) (c.piece-next.ensures.value ∙ ap (λ x. take (piece_length x) x) c.past.ensures) (sym c.is_gap_at.ensures ∙ c.if-not-is_gap_at.true) c.pieces.invariant.same

pub pieces-preserved : goal.pieces-preserved
pieces-preserved c =
    record {
      within = omega (arith, length-drop c.pieces.n c.args.text.now, c.pieces.invariant.within, c.piece-next.ensures.within, ap length c.past.ensures);
      same = gap_step c.args.text.now c.piece-next.result.now c.pieces.n (gap_length c.args.text.now) (c.piece-next.ensures.value ∙ ap (λ x. take (piece_length x) x) c.past.ensures) (subst (λ x. piece_length x ≤ length x) c.past.ensures c.piece-next.ensures.whole) (sym c.is_gap_at.ensures ∙ c.if-not-is_gap_at.false) c.pieces.invariant.same;
    }
