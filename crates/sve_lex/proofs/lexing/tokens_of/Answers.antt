use Rattle.std.proofs.Common.{◌∙◌, ◌<◌, ◌^◌, ap, sym, arith, length, length-drop, drop, take}
use Rattle.sve_origin.specs.declared.segment.Segment.{Segment}
use Rattle.sve_lex.specs.Spots.{spot_of}
use Rattle.sve_origin.specs.Origins.{first}
use Rattle.sve_lex.proofs.Spots.{file_is}
use Rattle.sve_lex.proofs.Starts.{start_pushed, start_passed, starts_end}
use Rattle.sve_lex.proofs.TokenSteps.{push_step, pass_step, drop_on, end_step, offset_here, offsets_on, token_front}
use Rattle.sve_lex.proofs.lexing.tokens_of.Goals as goal

pub overflow_cast-offset : goal.overflow_cast-offset
overflow_cast-offset c =
    let h : c.pieces.cursor.offset < 2 ^ 32 = offset_here (spot_of c.pieces.cursor c.args.segments.now) (drop c.pieces.cursor.at c.args.bytes.now) (omega (arith, length-drop c.pieces.cursor.at c.args.bytes.now)) c.pieces.invariant.offsets in
    omega (arith, h)

pub pieces-preserved-in_ok-push-2 : goal.pieces-preserved-in_ok-push-2
pieces-preserved-in_ok-push-2 c =
    let l : c.pieces.cursor.segment < length c.args.segments.now = c.pieces.invariant.segment (omega arith) in
    let file = ap (λ (s : Segment). s.place.file) c.index-segments-cursor.is ∙ sym (file_is c.pieces.cursor.segment c.args.segments.now c.index-segments-cursor.result l) in
    let more = drop_on c.pieces.cursor.at c.piece-class.result.1 c.walk-copied.result.0.at c.args.bytes.now c.walk-copied.ensures.at in
    record {
      same = push_step c.pieces.out.items c.push.new.self.items c.in_ok-token.field-0 _ (spot_of c.pieces.cursor c.args.segments.now) _ (drop c.pieces.cursor.at c.args.bytes.now) _ c.piece-class.result.0 c.in-Lexeme.kind c.piece-class.result.1
          c.in_ok-push.ensures.items
          (token_front c.in_ok-token.field-0 c.in-Lexeme.kind (take c.piece-class.result.1 c.past-rest.result.now) (drop c.pieces.cursor.at c.args.bytes.now) c.index-segments-cursor.result.place.file c.walk-copied.result.1 (spot_of c.pieces.cursor c.args.segments.now) c.piece-class.result.1
          c.in_ok-token.ensures (ap (take c.piece-class.result.1) c.past-rest.ensures) file c.walk-copied.ensures.copied)
          more
          (omega (arith, length-drop c.pieces.cursor.at c.args.bytes.now)) c.piece-class.ensures.filled (rw c.past-rest.ensures at c.piece-class.ensures.within) c.in-Lexeme.is (rw c.past-rest.ensures at c.piece-class.ensures.piece)
          c.walk-copied.ensures.spot c.pieces.invariant.same;
      begun = start_pushed c.pieces.begins.items c.push-in-Lexeme.new.self.items _ c.pieces.cursor.at c.walk-copied.result.0.at c.piece-class.result.1 (drop c.pieces.cursor.at c.args.bytes.now) _ c.piece-class.result.0 c.in-Lexeme.kind
          c.in_ok-push-2.ensures.items c.walk-copied.ensures.at more
          (omega (arith, length-drop c.pieces.cursor.at c.args.bytes.now)) c.in-Lexeme.is (rw c.past-rest.ensures at c.piece-class.ensures.piece) c.pieces.invariant.begun;
      within = omega (arith, length-drop c.pieces.cursor.at c.args.bytes.now, rw c.past-rest.ensures at c.piece-class.ensures.within, c.walk-copied.ensures.at);
      segment = λ h. c.walk-copied.ensures.segment;
      offset = c.walk-copied.ensures.offset;
      offsets = offsets_on c.piece-class.result.1 (spot_of c.pieces.cursor c.args.segments.now) (spot_of c.walk-copied.result.0 c.args.segments.now) (drop c.pieces.cursor.at c.args.bytes.now) (drop c.walk-copied.result.0.at c.args.bytes.now) more c.walk-copied.ensures.spot c.pieces.invariant.offsets;
    }

pub pieces-preserved : goal.pieces-preserved
pieces-preserved c =
    let more = drop_on c.pieces.cursor.at c.piece-class.result.1 c.walk-copied.result.0.at c.args.bytes.now c.walk-copied.ensures.at in
    record {
      same = pass_step c.pieces.out.items _ (spot_of c.pieces.cursor c.args.segments.now) _ (drop c.pieces.cursor.at c.args.bytes.now) _ c.piece-class.result.0 c.piece-class.result.1
          more
          (omega (arith, length-drop c.pieces.cursor.at c.args.bytes.now)) c.in_default.not-Lexeme (rw c.past-rest.ensures at c.piece-class.ensures.piece)
          c.walk-copied.ensures.spot c.pieces.invariant.same;
      begun = start_passed c.pieces.begins.items _ c.pieces.cursor.at c.walk-copied.result.0.at c.piece-class.result.1 (drop c.pieces.cursor.at c.args.bytes.now) _ c.piece-class.result.0
          c.walk-copied.ensures.at more
          (omega (arith, length-drop c.pieces.cursor.at c.args.bytes.now)) c.in_default.not-Lexeme (rw c.past-rest.ensures at c.piece-class.ensures.piece) c.pieces.invariant.begun;
      within = omega (arith, length-drop c.pieces.cursor.at c.args.bytes.now, rw c.past-rest.ensures at c.piece-class.ensures.within, c.walk-copied.ensures.at);
      segment = λ h. c.walk-copied.ensures.segment;
      offset = c.walk-copied.ensures.offset;
      offsets = offsets_on c.piece-class.result.1 (spot_of c.pieces.cursor c.args.segments.now) (spot_of c.walk-copied.result.0 c.args.segments.now) (drop c.pieces.cursor.at c.args.bytes.now) (drop c.walk-copied.result.0.at c.args.bytes.now) more c.walk-copied.ensures.spot c.pieces.invariant.offsets;
    }

pub returns-clause-tokens : goal.returns-clause-tokens
returns-clause-tokens c = c.of.ensures ∙ end_step _ _ (spot_of c.pieces.cursor c.args.segments.now) c.args.bytes.now c.pieces.cursor.at c.pieces-test.false c.pieces.invariant.same

pub returns-clause-starts : goal.returns-clause-starts
returns-clause-starts c = c.of-2.ensures ∙ starts_end c.pieces.begins.items (first c.args.segments.now) c.args.bytes.now c.pieces.cursor.at c.pieces.cursor.at c.pieces-test.false c.pieces.invariant.begun
