-- What interfaces come to in a body: the modports that a header names, those that stand in the text, and what interface ports are connected to (IEEE
-- 1800-2017, 25.3 and 25.5).
use Rattle.std.specs.Prelude.{ℕ, Bool, true, false, List, Option, Some, None}
use Rattle.std.specs.List.{fold}
use Rattle.sve_diag.specs.declared.code.Code.TheVariants.{E11, E13, N01}
use Rattle.sve_tree.specs.declared.declaration.Modport.{Modport}
use Rattle.sve_tree.specs.declared.declaration.ModportMember.{ModportMember}
use Rattle.sve_tree.specs.declared.header.Header.{Header}
use Rattle.sve_tree.specs.declared.token_word.Word.{Word}
use Rattle.sve_env.specs.Told.{Told}
use Rattle.sve_scope.specs.declared.interface.InterfaceNames.{InterfaceNames}
use Rattle.sve_scope.specs.declared.what.What.TheVariants as is_what
use Rattle.sve_scope.specs.Interfaces.{is_among}
use Rattle.sve_known.specs.Naming.{name_at}
use Rattle.sve_contents.specs.declared.contents.Contents.{Contents}
use Rattle.sve_contents.specs.Reading.{remarked}
use Rattle.sve_plan.specs.Plan.{Counted}
use Rattle.sve_scoped.specs.Said.{declared_at}
use Rattle.sve_header.specs.declared.ports.HeaderPorts.{HeaderPorts}
use Rattle.sve_header.specs.Ports.{with_header_ports}
use Rattle.sve_design_kinds.specs.Designs.{Designs, kind_named}
use Rattle.sve_design_kinds.specs.Faces.{unknown_modports}
use Rattle.sve_child.specs.Saying.{all_said, token_said}

-- ---- the header: modports that are not there are said behind the ports

abbrev pub modports_said : List Word → Designs → Header → HeaderPorts → HeaderPorts
modports_said ws d h found = record { contents = all_said ws E11 found.contents (unknown_modports d.kinds d.words h); ports = found.ports }

abbrev pub with_modports_said : List Word → Designs → Header → Counted HeaderPorts → Counted HeaderPorts
with_modports_said ws d h counted = (counted.0, modports_said ws d h counted.1)

abbrev pub ports_known : (Contents → Told) → List Word → Designs → Contents → Header → Counted HeaderPorts
ports_known known ws d c h = with_modports_said ws d h (with_header_ports known ws d.faces (kind_named d) c h)

-- ---- a modport in the text: in an interface it gives names that the interface declares, and elsewhere there is none

abbrev pub member_unless : Bool → Contents → ℕ → List ℕ → Contents
member_unless true c token n = c
member_unless false c token n = remarked c token N01 (Some n)

abbrev pub member_named : InterfaceNames → Contents → ℕ → Option (List ℕ) → Contents
member_named own c token None = c
member_named own c token (Some n) = member_unless (is_among n own.all) c token n

abbrev pub member_said : List Word → InterfaceNames → Contents → ModportMember → Contents
member_said ws own c member = member_named own c member.name (name_at ws member.name)

abbrev pub modport_said : List Word → Option InterfaceNames → Contents → Modport → Contents
modport_said ws None c m = token_said ws E13 c m.name
modport_said ws (Some own) c m = fold (member_said ws own) c m.members.items.items

abbrev pub with_modport : List Word → Designs → Contents → Modport → Contents
with_modport ws d c m = declared_at ws (modport_said ws d.own c m) m.name is_what.Modport m.name
