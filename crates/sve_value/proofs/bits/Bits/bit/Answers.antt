use Rattle.std.proofs.Common.{ap, ◌∙◌, slice_get, sym, refl, arith}
use Rattle.std.proofs.lemmas.Nat.Bits.{shr_and_one}
use Rattle.sve_value.specs.Vector.{Vector}
use Rattle.sve_value.proofs.Places.{slice_get-planes}
use Rattle.sve_value.proofs.Views.{width_of}
use Rattle.sve_value.proofs.bits.Bits.bit.Goals as goal

pub returns : goal.returns
returns c = sym (ap (λ (v : Vector). slice_get v.bits c.args.place) c.self.view_is) ∙
    slice_get-planes c.self.inside.width c.self.inside.ones c.self.inside.unknowns c.args.place (omega (arith, width_of c.self.inside _ c.self.view_is)) ∙
    rw (← shr_and_one c.self.inside.ones c.args.place, ← shr_and_one c.self.inside.unknowns c.args.place, c.of_digits.ensures) refl
