-- What was found of a body so far (own).
use Rattle.std.specs.Prelude.{ℕ, Bool, List, refl}
use Rattle.std.specs.Coded.{Coded, code_by, coded×, coded_bool, coded_list, coded_ℕ}
use Rattle.sve_tree.specs.declared.token_word.Word.{Word}
use Rattle.sve_tree.specs.contracts.token_word.Word as word
use Rattle.sve_spec.specs.declared.given.Given.{Given}
use Rattle.sve_spec.specs.contracts.given.Given as given_thing
use Rattle.sve_facts.specs.declared.facts.Child.{Child}
use Rattle.sve_facts.specs.declared.facts.HierarchicalUse.{HierarchicalUse}
use Rattle.sve_facts.specs.declared.facts.ImplicitNet.{ImplicitNet}
use Rattle.sve_facts.specs.declared.facts.ParameterValue.{ParameterValue}
use Rattle.sve_facts.specs.declared.facts.Port.{Port}
use Rattle.sve_facts.specs.contracts.facts.Child as child
use Rattle.sve_facts.specs.contracts.facts.HierarchicalUse as use_code
use Rattle.sve_facts.specs.contracts.facts.ImplicitNet as net
use Rattle.sve_facts.specs.contracts.facts.ParameterValue as parameter
use Rattle.sve_facts.specs.contracts.facts.Port as port
use Rattle.sve_known.specs.Packages.{Known, known_code}
use Rattle.sve_nested.specs.declared.nested.Nested.{Nested}
use Rattle.sve_nested.specs.contracts.nested.Nested as scopes
use Rattle.sve_design_kinds.specs.Designs.{Designs, designs_code}
use Rattle.sve_param.specs.declared.overriding.Override.{Override}
use Rattle.sve_param.specs.contracts.overriding.Override as override

pub record Found : Type 0 where
  -- the packages that are known, and the words of the chunk
  pub packages : List Known
  pub words : List Word
  -- what the modules and interfaces are that the definition names
  pub designs : Designs
  -- what each parameter is given that can be overridden, in the order of the text
  pub given : List Given
  -- an instance may override parameters of the body, since the header has no list of them (6.20.1); the place of the next of these
  pub is_open : Bool
  pub place : ℕ
  -- the scopes of the body, and what is to be said
  pub nested : Nested
  -- the overrides of the instantiation that is gone over
  pub overrides : List Override
  -- what is kept: parameters that can be overridden and have a value, ports, children, nets that their uses declare, and hierarchical names, in the
  -- order of the text
  pub values : List ParameterValue
  pub ports : List Port
  pub children : List Child
  pub nets : List ImplicitNet
  pub hierarchical : List HierarchicalUse

-- they are told apart by all of these
abbrev Parts : Type 0
Parts = ((List Known × (List Word × Designs)) × ((List Given × Bool) × (ℕ × Nested))) × (List Override × ((List ParameterValue × List Port) × (List Child × (List ImplicitNet × List HierarchicalUse))))

abbrev parts_code : Coded Parts
parts_code = coded×
    (coded× (coded× (coded_list known_code) (coded× (coded_list word.the_row.coded) designs_code)) (coded× (coded× (coded_list given_thing.the_row.coded) coded_bool) (coded× coded_ℕ scopes.the_row.coded)))
    (coded× (coded_list override.the_row.coded) (coded× (coded× (coded_list parameter.the_row.coded) (coded_list port.the_row.coded)) (coded× (coded_list child.the_row.coded) (coded× (coded_list net.the_row.coded) (coded_list use_code.the_row.coded)))))

abbrev pub found_code : Coded Found
found_code = code_by Parts parts_code
    (λ f. (((f.packages, (f.words, f.designs)), ((f.given, f.is_open), (f.place, f.nested))), (f.overrides, ((f.values, f.ports), (f.children, (f.nets, f.hierarchical))))))
    (λ p. record { packages = p.0.0.0; words = p.0.0.1.0; designs = p.0.0.1.1; given = p.0.1.0.0; is_open = p.0.1.0.1; place = p.0.1.1.0; nested = p.0.1.1.1; overrides = p.1.0; values = p.1.1.0.0; ports = p.1.1.0.1; children = p.1.1.1.0; nets = p.1.1.1.1.0; hierarchical = p.1.1.1.1.1 })
    (λ _. refl)
