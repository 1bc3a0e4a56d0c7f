use Rattle.std.proofs.Common.{sym, ◌∙◌, ap, subst, length, ◌≤◌, drop, arith, length-drop}
use Rattle.sve_directive.specs.Pieces.{is_at_backtick, piece_length, plain_length}
use Rattle.sve_directive.proofs.PieceLemmas.{plain_step, plain_end}
use Rattle.sve_directive.proofs.pieces.plain_len.Goals as goal

pub pieces-preserved : goal.pieces-preserved
pieces-preserved c =
    let at = c.past-in-pieces.ensures in
    let size : c.piece_len-n.result ≤ length (drop c.pieces.n c.args.text.now) = subst (λ x. c.piece_len-n.result ≤ length x) at c.piece_len-n.ensures.within in
    record {
      within = omega (arith, length-drop c.pieces.n c.args.text.now, c.pieces.invariant.within);
      same = plain_step c.args.text.now c.pieces.n c.piece_len-n.result (plain_length c.args.text.now) (ap is_at_backtick (sym c.past.ensures) ∙ sym c.is_stop.ensures ∙ c.pieces-test.true) (c.piece_len-n.ensures.value ∙ ap piece_length at) size c.pieces.invariant.same;
    }

pub returns-clause-passed : goal.returns-clause-passed
returns-clause-passed c = plain_end c.args.text.now c.pieces.n (plain_length c.args.text.now) (ap is_at_backtick (sym c.past.ensures) ∙ sym c.is_stop.ensures ∙ c.pieces-test.false) c.pieces.invariant.same
