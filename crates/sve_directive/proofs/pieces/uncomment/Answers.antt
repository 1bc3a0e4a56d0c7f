use Rattle.std.proofs.Common.{sym, ◌∙◌, ap, subst, take, length, ◌≤◌, ◌++◌, cond, [], arith, length-drop}
use Rattle.std.proofs.lemmas.List.{append-nil}
use Rattle.sve_directive.specs.Pieces.{piece_length, uncommented}
use Rattle.sve_directive.proofs.PieceLemmas.{comment_step, comment_end}
use Rattle.sve_directive.proofs.pieces.uncomment.Goals as goal

pub pieces-preserved-in-Continue-1 : goal.pieces-preserved-in-Continue-1
pieces-preserved-in-Continue-1 c =
    record {
      within = omega (arith, length-drop c.pieces.n c.args.text.now, c.pieces.invariant.within, c.piece-next.ensures.within, ap length c.past.ensures);
      same = comment_step c.args.text.now c.piece-next.result.now c.pieces.out.items c.extend_from_slice.new.self.items c.pieces.n (uncommented c.args.text.now) (c.piece-next.ensures.value ∙ ap (λ x. take (piece_length x) x) c.past.ensures) (subst (λ x. piece_length x ≤ length x) c.past.ensures c.piece-next.ensures.whole) (omega (arith, length-drop c.pieces.n c.args.text.now, c.pieces-test.true)) (c.in_ok-extend_from_slice.ensures.items ∙ ap (λ b. c.pieces.out.items ++ cond b [] c.piece-next.result.now) (sym (sym c.is_one_line_comment_at.ensures ∙ c.if-not-is_one_line_comment_at.true))) c.pieces.invariant.same;
    }

pub pieces-preserved : goal.pieces-preserved
pieces-preserved c =
    record {
      within = omega (arith, length-drop c.pieces.n c.args.text.now, c.pieces.invariant.within, c.piece-next.ensures.within, ap length c.past.ensures);
      same = comment_step c.args.text.now c.piece-next.result.now c.pieces.out.items c.pieces.out.items c.pieces.n (uncommented c.args.text.now) (c.piece-next.ensures.value ∙ ap (λ x. take (piece_length x) x) c.past.ensures) (subst (λ x. piece_length x ≤ length x) c.past.ensures c.piece-next.ensures.whole) (omega (arith, length-drop c.pieces.n c.args.text.now, c.pieces-test.true)) (sym (append-nil c.pieces.out.items) ∙ ap (λ b. c.pieces.out.items ++ cond b [] c.piece-next.result.now) (sym (sym c.is_one_line_comment_at.ensures ∙ c.if-not-is_one_line_comment_at.false))) c.pieces.invariant.same;
    }

pub returns : goal.returns
returns c = comment_end c.args.text.now c.pieces.out.items c.pieces.n (uncommented c.args.text.now) (omega (arith, c.pieces-test.false)) c.pieces.invariant.same
