-- Whether a parameter has no value: among those from a place on, and among all.
use Rattle.std.proofs.Common.{◌≡◌, ◌∙◌, ap, refl, subst, ℕ, ◌+◌, ◌<◌, ◌≤◌, Bool, true, false, List, [], Option, Some, None, length, drop, get_or, add-one, arith}
use Rattle.std.specs.Bool.{Decides}
use Rattle.std.specs.List.{Any, list_any}
use Rattle.std.specs.Option.{is_none}
use Rattle.std.proofs.Math.Seq.{drop-cons}
use Rattle.std.proofs.lemmas.List.{drop_all}
use Rattle.std.proofs.lemmas.List.Folds.{Any-from_list_any, list_any-from_Any}
use Rattle.sve_tree.specs.declared.data_type.Initializer.{Initializer}
use Rattle.sve_tree.specs.declared.element.Definition.{Definition}
use Rattle.sve_tree.specs.declared.header.ParameterPort.{ParameterPort}
use Rattle.sve_tree.specs.declared.header.ParameterPorts.{ParameterPorts}
use Rattle.sve_mention.specs.InElements.{lacks_value, some_lacks_value, lacks_default}
use Rattle.sve_mention.specs.Defaults.{parameters_in, LacksDefault}

told : (ports : List ParameterPort) (i : ℕ) (port : ParameterPort) (b : Bool) → port ≡ get_or ports i port → lacks_value port ≡ b → lacks_value (get_or ports i port) ≡ b
told ports i port b e h = subst (λ (p : ParameterPort). lacks_value p ≡ b) e h

pub lacking_here : (ports : List ParameterPort) (i : ℕ) (port : ParameterPort) → i < length ports → port ≡ get_or ports i port → lacks_value port ≡ true → list_any lacks_value (drop i ports) ≡ true
lacking_here ports i port h e b = let k : lacks_value (get_or ports i port) ≡ true = told ports i port true e b in ap (list_any lacks_value) (drop-cons ports i port h) ∙ rw k refl

pub passed : (ports : List ParameterPort) (i : ℕ) (port : ParameterPort) → i < length ports → port ≡ get_or ports i port → lacks_value port ≡ false → list_any lacks_value (drop i ports) ≡ list_any lacks_value (drop (i + 1) ports)
passed ports i port h e b = let k : lacks_value (get_or ports i port) ≡ false = told ports i port false e b in ap (list_any lacks_value) (drop-cons ports i port h) ∙ rw (k, add-one i) refl

pub nowhere : (ports : List ParameterPort) → list_any lacks_value (drop (length ports) ports) ≡ false
nowhere ports = let le : length ports ≤ length ports = omega arith in rw (drop_all (length ports) ports le) refl

-- ---- a parameter without a value

nothing : (value : Option Initializer) → is_none value ≡ true → value ≡ None
nothing None e = refl
nothing (Some value) e = cc

pub lacking_told : (definition : Definition) → Decides (lacks_default definition) (LacksDefault definition)
lacking_told definition = decided definition.header.parameters
  where
    without : (ports : List ParameterPort) → Decides (list_any lacks_value ports) (Any (λ port. port.value ≡ None) ports)
    without ports = (
      (λ e. let a = Any-from_list_any lacks_value ports e in (a.0, a.1, a.2, a.3, nothing a.1.value a.4)),
      (λ a. list_any-from_Any lacks_value ports (a.0, a.1, a.2, a.3, ap is_none a.4)),
    )

    decided : (list : Option ParameterPorts) → Decides (some_lacks_value list) (Any (λ port. port.value ≡ None) (parameters_in list))
    decided None = without []
    decided (Some list) = without list.parameters.items.items
