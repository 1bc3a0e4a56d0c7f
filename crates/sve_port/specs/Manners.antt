-- What a port takes from the one before it, and what it is where it does not say so (IEEE 1800-2017, 23.2.2.3).
use Rattle.std.specs.Prelude.{Bool, true, false, not, Option, Some, None}
use Rattle.sve_bytes.specs.declared.direction.Dir.{Dir}
use Rattle.sve_bytes.specs.declared.direction.Dir.TheVariants as is_dir
use Rattle.sve_tree.specs.declared.word.Mark.{Mark}
use Rattle.sve_tree.specs.declared.data_type.DeclaredType.{DeclaredType}
use Rattle.sve_tree.specs.declared.data_type.DeclaredType.TheVariants as is_declared
use Rattle.sve_tree.specs.declared.header.PortKind.{PortKind}
use Rattle.sve_tree.specs.declared.header.PortKind.TheVariants as is_kind
use Rattle.sve_scope.specs.declared.what.FaceName.{FaceName}
use Rattle.sve_type_rule.specs.Outcomes.{scalar}
use Rattle.sve_port.specs.declared.manner.Manner.{Manner}

-- a first port that says nothing is an inout net of one bit (own)
abbrev pub first_manner : Manner
first_manner = record { direction = is_dir.Inout; net = true; ty = scalar; face = None }

abbrev pub manner_of_face : FaceName → Manner
manner_of_face face = record { direction = is_dir.Inout; net = false; ty = scalar; face = Some face }

abbrev pub direction_or : Option (Mark Dir) → Dir → Dir
direction_or (Some mark) before = mark.kind
direction_or None before = before

-- a type is written, and not a range or a sign alone
abbrev pub is_typed : DeclaredType → Bool
is_typed (is_declared.Explicit t) = true
is_typed (is_declared.Implicit sign dimensions) = false

abbrev pub is_net_by : Dir → Bool → Bool
is_net_by is_dir.Input typed = true
is_net_by is_dir.Inout typed = true
is_net_by is_dir.Output typed = not typed

abbrev pub is_net : Option PortKind → Dir → Bool → Bool
is_net (Some (is_kind.Variable keyword)) direction typed = false
is_net (Some (is_kind.Net net)) direction typed = true
is_net None direction typed = is_net_by direction typed
