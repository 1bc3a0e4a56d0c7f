-- A type holds fewer types than the one that holds it.
use Rattle.std.specs.Prelude.{ℕ, ◌≤◌, ◌+◌, List, [], ◌∷◌}
use Rattle.std.proofs.Common.{arith}
use Rattle.std.specs.Arc.{arc_value}
use denote.Param.Weighed.{most}
use Rattle.sve_types.specs.DataType.{DataType, data_type}
use Rattle.sve_types.specs.View.{form_of, members_of, form_size, size_of, members_size}
use Rattle.sve_types.specs.declared.ty.Base.{Base}
use Rattle.sve_types.specs.declared.ty.Base.TheVariants.{Atom, Vector, Enum, Struct, Text}
use Rattle.sve_types.specs.declared.ty.Ty.TheInside.{Inside}
use Rattle.sve_types.specs.declared.ty.Ty.TheDeep.{deep-Base, deep-Ty}
use Rattle.sve_types.specs.declared.ty.Ty.TheShapes.{weighed-Base-Struct-1-at-2}
use Rattle.sve_types.specs.declared.ty.Ty.TheView.{size}

members_fall : (ms : List (List ℕ × DataType)) → most (weighed-Base-Struct-1-at-2.weight DataType (λ y. size y + 1)) ms ≤ members_size (members_of ms)
members_fall [] = omega arith
members_fall (m ∷ ms) = omega (arith, members_fall ms)

base_falls : (b : Base) → deep-Base b ≤ form_size (form_of b)
base_falls (Atom a s) = omega arith
base_falls (Vector v s) = omega arith
base_falls (Enum id of names) = omega arith
base_falls (Struct s ms) = omega (arith, members_fall (arc_value ms).items)
base_falls Text = omega arith

pub falls : (a : Inside) → deep-Ty a ≤ size_of (data_type (form_of a.base) a.packed a.unpacked)
falls a = omega (arith, base_falls a.base)
