-- Bits of two states, by the words of a value.
use Rattle.std.proofs.Common.{◌≡◌, ℕ, Bool, List, length, refl, ap, sym, ◌∙◌, bit_and, bit_xor}
use Rattle.sve_value.specs.declared.bit.Bit.{Bit}
use Rattle.sve_value.specs.declared.bits.Bits.TheInside.{Inside}
use Rattle.sve_value.specs.contracts.bits.Bits.{the_view, the_invariant}
use Rattle.sve_value.specs.Vector.{Vector}
use Rattle.sve_value.specs.Numbers.{number_of}
use Rattle.sve_value.proofs.Words.{planes-binary}
use Rattle.sve_value.proofs.Views.{width_of}
use Rattle.sve_value.proofs.Gates.{left_ones, left_unknowns, nothing, meet, differ, each-planes}
use Rattle.sve_value.proofs.Formulas.{fit_of}
use Rattle.sve_rule.specs.States.{two_state_bit, two_state_of}

pub two_state_is : (a : Inside) (v r : Vector) (w : ℕ) (s : Bool) → the_view a ≡ v → the_invariant a → w ≡ length v.bits → s ≡ v.signed →
    r ≡ number_of w s (bit_xor a.ones (bit_and a.ones a.unknowns)) → r ≡ two_state_of v
two_state_is a v r w s p i e f is =
    is ∙ ap (λ (n : ℕ). number_of n s (bit_xor a.ones (bit_and a.ones a.unknowns))) (e ∙ sym (width_of a v p))
    ∙ ap (λ (b : Bool). number_of a.width b (bit_xor a.ones (bit_and a.ones a.unknowns))) (f ∙ sym (ap (λ (x : Vector). x.signed) p))
    ∙ ap (λ (bs : List Bit). record { signed = a.signed; bits = bs })
    (sym (planes-binary a.width (bit_xor a.ones (bit_and a.ones a.unknowns)))
    ∙ sym (each-planes two_state_bit (differ left_ones (meet left_ones left_unknowns)) nothing (refl, refl, refl, refl) a.width 128 a.ones a.unknowns i.1 (fit_of a a i i)))
    ∙ ap two_state_of p
