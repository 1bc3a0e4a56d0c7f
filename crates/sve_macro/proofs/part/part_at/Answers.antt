use Rattle.std.proofs.Common.{ap, sym, subst, ◌∙◌, ℕ, ◌+◌, ◌≤◌, refl, List, Some, None, length, drop, reverse, arith}
use Rattle.sve_macro.specs.Parts.{rest_of_piece, depths_of}
use Rattle.sve_macro.proofs.Reading.{IsUnderWay, begins, goes_on, stops, ends, tail_is}
use Rattle.sve_bytes.specs.declared.span.Span.{Span}
use Rattle.sve_macro.proofs.part.part_at.Goals as goal

pub loop-at-init : goal.loop-at-init
loop-at-init c =
    subst (λ (ps : List (ℕ × ℕ)). IsUnderWay c.args.text.now c.args.from c.args.from None (record { square = 0; curly = 0; parens = reverse ps })) (sym c.new.ensures.items)
    (begins c.args.text.now c.args.from c.requires)

pub returns-then-ends_before-clause-part : goal.returns-then-ends_before-clause-part
returns-then-ends_before-clause-part c =
    ap (λ (s : Span). Some (record { span = s; end = c.loop-at.at })) c.unwrap_or-span.ensures
    ∙ stops c.args.text.now c.args.from c.loop-at.at c.loop-at.span (depths_of c.loop-at.brackets) _ c.loop-at.invariant c.loop-at-test.true refl c.ends_before.ensures c.if-ends_before.true

pub loop-at-preserved : goal.loop-at-preserved
loop-at-preserved c =
    let tail = tail_is c.loop-at.at c.args.text.now in
    let within : c.piece_len-len.result ≤ length (drop c.loop-at.at c.args.text.now) = omega (arith, ap length tail, c.piece_len-len.ensures.within) in
    rw (c.in_ok-pass.ensures, c.with_piece-span.ensures, c.is_white_space.ensures)
    (goes_on c.args.text.now c.args.from c.loop-at.at c.loop-at.span (depths_of c.loop-at.brackets) c.piece_len-len.result _ c.loop-at.invariant c.loop-at-test.true refl (c.piece_len-len.ensures.len ∙ ap (λ t. 1 + rest_of_piece t) tail) within c.ends_before.ensures c.if-ends_before.false)

pub returns-clause-part : goal.returns-clause-part
returns-clause-part c = ends c.args.text.now c.args.from c.loop-at.at c.loop-at.span (depths_of c.loop-at.brackets) c.loop-at.invariant c.loop-at-test.false
