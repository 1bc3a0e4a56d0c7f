use Rattle.std.proofs.Common.{sym, ◌∙◌, ap, subst, take, drop, length, ◌+◌, ◌<◌, ◌≤◌, arith, length-drop}
use Rattle.sve_directive.specs.Pieces.{piece_length, rest_of_line}
use Rattle.sve_directive.proofs.PieceLemmas.{line_step, line_end, line_done}
use Rattle.sve_directive.proofs.pieces.rest_of_line_len.Goals as goal

pub returns-then-is_end_of_line-clause-value : goal.returns-then-is_end_of_line-clause-value
returns-then-is_end_of_line-clause-value c =
    let some : 0 < length (drop c.pieces.n c.args.text.now) = omega (arith, length-drop c.pieces.n c.args.text.now, c.pieces-test.true) in
    ap (λ k. c.pieces.n + k) c.line_len.ensures.value
    ∙ line_end c.args.text.now c.piece-next.result.now c.pieces.n (rest_of_line c.args.text.now) (c.piece-next.ensures.value ∙ ap (λ x. take (piece_length x) x) c.past.ensures)
    (subst (λ x. piece_length x ≤ length x) c.past.ensures c.piece-next.ensures.whole) some (sym c.is_end_of_line.ensures ∙ c.if-is_end_of_line.true) c.pieces.invariant.same

pub pieces-preserved : goal.pieces-preserved
pieces-preserved c =
    let some : 0 < length (drop c.pieces.n c.args.text.now) = omega (arith, length-drop c.pieces.n c.args.text.now, c.pieces-test.true) in
    record {
      within = omega (arith, length-drop c.pieces.n c.args.text.now, c.pieces.invariant.within, c.piece-next.ensures.within, ap length c.past.ensures);
      same = line_step c.args.text.now c.piece-next.result.now c.pieces.n (rest_of_line c.args.text.now) (c.piece-next.ensures.value ∙ ap (λ x. take (piece_length x) x) c.past.ensures)
          (subst (λ x. piece_length x ≤ length x) c.past.ensures c.piece-next.ensures.whole) some (sym c.is_end_of_line.ensures ∙ c.if-is_end_of_line.false) c.pieces.invariant.same;
    }

pub returns-clause-value : goal.returns-clause-value
returns-clause-value c = line_done c.args.text.now c.pieces.n (rest_of_line c.args.text.now) (omega (arith, c.pieces-test.false)) c.pieces.invariant.same
