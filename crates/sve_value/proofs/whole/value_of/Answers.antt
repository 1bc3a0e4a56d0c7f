use Rattle.std.proofs.Common.{◌∙◌, ap, List, arith}
use Rattle.sve_value.specs.declared.bit.Bit.{Bit}
use Rattle.sve_value.proofs.Integers.{low-size, low-neg-wide}
use Rattle.sve_value.proofs.whole.value_of.Goals as goal
use Rattle.sve_value.proofs.whole.value_of.Goals.{then-whole, else-whole}

pub returns : goal.returns
returns c = c.number.ensures ∙ elim c.if-whole.branch [
  | then-whole w ↦ rw w.number-is (ap (λ (bs : List Bit). record { signed = c.args.signed; bits = bs })
      (low-neg-wide c.args.width c.args.whole.size c.args.whole.negative w.if-whole.true c.requires.1 (omega arith)))
  | else-whole w ↦ rw w.number-is (ap (λ (bs : List Bit). record { signed = c.args.signed; bits = bs })
      (low-size c.args.width c.args.whole.size c.args.whole.negative w.if-whole.false))
]
