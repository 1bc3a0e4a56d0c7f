use Rattle.std.proofs.Common.{◌≡◌, ◌∙◌, ◌-◌, ◌+◌, arith, ap, ◌++◌, codes, ◌∷◌, []}
use Rattle.sve_value.specs.Text.{size_text}
use Rattle.sve_value.proofs.Texts.{text_init, text_more}
use Rattle.sve_value.proofs.text.bits_text.Goals as goal

pub places-init : goal.places-init
places-init c = text_init c.args.a.bits (c.width-width.result - 0) (size_text c.args.a) (codes "b") _ _ _
    (omega (arith, c.width-width.ensures)) c.new-text.ensures.items c.in_ok-push_size.ensures c.in_ok-push.ensures.items

pub places-preserved : goal.places-preserved
places-preserved c = text_more c.args.a.bits (c.width-width.result - (c.places.done + 1)) (c.width-width.result - c.places.done) c.bit.result (size_text c.args.a ++ codes "b") _ _
    (let e : c.width-width.result - (c.places.done + 1) ≡ c.width-width.result - 1 - c.places.done = omega arith in rw e c.bit.ensures)
    (omega (arith, c.places-test.true)) c.places.invariant (c.in_ok-push-2.ensures.items ∙ ap (λ n. c.places.text.items ++ n ∷ []) c.letter.ensures)
