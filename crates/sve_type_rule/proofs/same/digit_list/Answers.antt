use Rattle.std.proofs.Common.{arith, length, ◌≤◌}
use Rattle.sve_type_rule.proofs.Taken.{digit_behind, digits_whole, digit_count}
use Rattle.sve_type_rule.proofs.same.digit_list.Goals as goal

pub places-preserved : goal.places-preserved
places-preserved c =
    rw (c.in_ok-push.ensures.items, c.digit.ensures)
    (digit_behind c.places.digits.items c.args.value.bits c.places.place c.bit.result _ c.bit.ensures c.places.invariant)

pub returns-clause-digits : goal.returns-clause-digits
returns-clause-digits c =
    let last : length c.args.value.bits ≤ c.places.place = omega (arith, c.places-test.false, c.width-place-end.ensures.width) in
    digits_whole c.places.digits.items c.args.value.bits c.places.place _ last c.places.invariant

pub returns-clause-range : goal.returns-clause-range
returns-clause-range c =
    let last : length c.args.value.bits ≤ c.places.place = omega (arith, c.places-test.false, c.width-place-end.ensures.width) in
    let whole = digits_whole c.places.digits.items c.args.value.bits c.places.place _ last c.places.invariant in
    rw (whole, digit_count c.args.value.bits, ← c.width-place-end.ensures.width) c.width-place-end.ensures.range
