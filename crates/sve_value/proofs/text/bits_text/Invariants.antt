use Rattle.std.proofs.Common.{◌≡◌, ◌++◌, ◌-◌, drop, codes}
use Rattle.sve_value.specs.Text.{size_text, bit_text}
use Rattle.sve_value.proofs.text.bits_text.Given as goal

abbrev pub invariant-places : goal.invariant-places
invariant-places l = l.text.items ≡ size_text l.a ++ codes "b" ++ bit_text (drop (l.width - l.done) l.a.bits)
