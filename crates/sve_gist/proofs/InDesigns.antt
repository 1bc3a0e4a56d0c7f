-- The names and parameters of designs are what is read off their trees.
use Rattle.std.proofs.Common.{◌≡◌, ℕ, Bool, ◌||◌, not, List, [], ◌∷◌, Option, Some, None, refl, ap, ◌∙◌}
use Rattle.std.specs.List.{list_any}
use Rattle.std.specs.Option.{is_none}
use Rattle.sve_grammar.specs.Reading.{Tree, leaf, pair, left}
use Rattle.sve_tree.specs.Shape.{mark_tree, optional_tree, repeated_tree, rest_tree, listed_tree}
use Rattle.sve_tree.specs.Words.{parameter_keyword_tree}
use Rattle.sve_tree.specs.Types.{initializer_tree, typed_name_tree}
use Rattle.sve_tree.specs.Declarations.{parameter_port_tree, parameter_ports_tree, header_tree}
use Rattle.sve_tree.specs.Elements.{unit_item_tree, design_tree, element_tree}
use Rattle.sve_tree.specs.declared.data_type.Initializer.{Initializer}
use Rattle.sve_tree.specs.declared.header.Header.{Header}
use Rattle.sve_tree.specs.declared.header.ParameterPort.{ParameterPort}
use Rattle.sve_tree.specs.declared.header.ParameterPorts.{ParameterPorts}
use Rattle.sve_tree.specs.declared.element.Element.{Element}
use Rattle.sve_tree.specs.declared.element.Design.{Design}
use Rattle.sve_tree.specs.declared.element.Design.TheVariants as is_design
use Rattle.sve_outline.specs.Outline.{IsWhole}
use Rattle.sve_mention.specs.InElements.{lacks_value, some_lacks_value}
use Rattle.sve_index.specs.Designs.{definition_token, package_token, may_be_top}
use Rattle.sve_gist.specs.Designs.{lacks_value_in, others_lack_in, some_lack_in, header_lacks_in, definition_of_design, package_of_design, stands_alone, definition_token_in, package_token_in, may_be_top_in}

valued : (k p : Tree) (v : Option Initializer) → lacks_value_in (pair k (pair p (optional_tree initializer_tree v))) ≡ is_none v
valued k p None = refl
valued k p (Some v) = refl

either_same : {a b c d : Bool} → a ≡ b → c ≡ d → (a || c) ≡ (b || d)
either_same {a = a} {b = b} {c = c} {d = d} p q = ap (λ (x : Bool). x || c) p ∙ ap (λ (x : Bool). b || x) q

port_lacks : (x : ParameterPort) → lacks_value_in (parameter_port_tree x) ≡ lacks_value x
port_lacks x = valued (optional_tree (mark_tree parameter_keyword_tree) x.keyword) (typed_name_tree x.parameter) x.value

others_lack : (xs : List ParameterPort) (ss : List ℕ) → IsWhole (rest_tree parameter_port_tree leaf xs ss) → others_lack_in (rest_tree parameter_port_tree leaf xs ss) ≡ list_any lacks_value xs
unfolding rest_tree others_lack_in
others_lack [] [] w = refl
others_lack [] (s ∷ ss) w = absurd w.2
others_lack (x ∷ xs) [] w = absurd w.2
others_lack (x ∷ xs) (s ∷ ss) w = either_same (port_lacks x) (others_lack xs ss w.1)

listed_lack : (h o c : Tree) (xs : List ParameterPort) (ss : List ℕ) → IsWhole (listed_tree parameter_port_tree leaf xs ss) → some_lack_in (left (pair h (pair o (pair (listed_tree parameter_port_tree leaf xs ss) c)))) ≡ list_any lacks_value xs
unfolding listed_tree
listed_lack h o c [] [] w = refl
listed_lack h o c [] (s ∷ ss) w = absurd w.2
listed_lack h o c (x ∷ xs) ss w = either_same (port_lacks x) (others_lack xs ss w.1)

some_lack : (x : Option ParameterPorts) → IsWhole (optional_tree parameter_ports_tree x) → some_lack_in (optional_tree parameter_ports_tree x) ≡ some_lacks_value x
some_lack None w = refl
some_lack (Some x) w = listed_lack (leaf x.hash) (leaf x.opening) (leaf x.closing) x.parameters.items.items x.parameters.separators.items w.1.1.0

header_lacks : (x : Header) → IsWhole (header_tree x) → header_lacks_in (header_tree x) ≡ some_lacks_value x.parameters
header_lacks x w = some_lack x.parameters w.1.1.1.0

stands : (x : Design) → IsWhole (design_tree x) → stands_alone (design_tree x) ≡ may_be_top (Some x)
stands (is_design.Module keyword definition) w = ap not (header_lacks definition.value.header w.1.0)
stands (is_design.Interface keyword definition) w = refl
stands (is_design.Package unit) w = refl

definition_named : (x : Design) → definition_of_design (design_tree x) ≡ definition_token (Some x)
definition_named (is_design.Module keyword definition) = refl
definition_named (is_design.Interface keyword definition) = refl
definition_named (is_design.Package unit) = refl

package_named : (x : Design) → package_of_design (design_tree x) ≡ package_token (Some x)
package_named (is_design.Module keyword definition) = refl
package_named (is_design.Interface keyword definition) = refl
package_named (is_design.Package unit) = refl

module _ (t : Tree) where
  definition_found_in : (x : Option Design) → definition_token_in (pair t (optional_tree design_tree x)) ≡ definition_token x
  definition_found_in None = refl
  definition_found_in (Some x) = definition_named x

  package_found_in : (x : Option Design) → package_token_in (pair t (optional_tree design_tree x)) ≡ package_token x
  package_found_in None = refl
  package_found_in (Some x) = package_named x

  top_found_in : (x : Option Design) → IsWhole (optional_tree design_tree x) → may_be_top_in (pair t (optional_tree design_tree x)) ≡ may_be_top x
  top_found_in None w = refl
  top_found_in (Some x) w = stands x w

pub definition_found : (x : Element) → definition_token_in (element_tree x) ≡ definition_token x.design
definition_found x = definition_found_in (repeated_tree unit_item_tree x.items.items) x.design

pub package_found : (x : Element) → package_token_in (element_tree x) ≡ package_token x.design
package_found x = package_found_in (repeated_tree unit_item_tree x.items.items) x.design

pub top_found : (x : Element) → IsWhole (element_tree x) → may_be_top_in (element_tree x) ≡ may_be_top x.design
top_found x w = top_found_in (repeated_tree unit_item_tree x.items.items) x.design w.1
