-- Which modules are the tops of a design, as a relation between its elements and a name (IEEE 1800-2017, 6.20.1 and 23.3.1).
use Rattle.std.specs.Prelude.{ℕ, ◌≡◌, List, ◌∷◌, ◌++◌, Option, Some}
use Rattle.std.specs.Global.{Box}
use Rattle.std.specs.List.{Contains}
use Rattle.sve_tree.specs.declared.element.Definition.{Definition}
use Rattle.sve_tree.specs.declared.element.Design.{Design}
use Rattle.sve_tree.specs.declared.word.Mark.{Mark}
use Rattle.sve_tree.specs.declared.word.ModuleKeyword.{ModuleKeyword}
use Rattle.sve_tree.specs.declared.element.Design.TheVariants.{Module}
use Rattle.sve_mention.specs.Defaults.{LacksDefault}
use Rattle.sve_index.specs.declared.source.FileElement.{FileElement}
use Rattle.sve_index.specs.Sources.{element_in, words_in, called}
use Rattle.sve_index.specs.Designs.{definition_token}
use Rattle.sve_index.specs.Instances.{Instantiates}

-- an element has a module or an interface of this name
abbrev pub Defines : FileElement → List ℕ → Type 0
Defines source name = called (words_in source) (definition_token (element_in source).design) ≡ Some name

-- a design is a module whose parameters all have values of their own
abbrev pub StandsAlone : Option Design → Type 0
StandsAlone design = (keyword : Mark ModuleKeyword) × (definition : Box Definition) × (design ≡ Some (Module keyword definition)) × (LacksDefault definition.value → ⊥)

-- A name is that of a top: the first element that defines it has a module that stands alone, and no element instantiates it.
pub record IsTop (sources : List FileElement) (name : List ℕ) : Type 0 where
  pub before : List FileElement
  pub source : FileElement
  pub behind : List FileElement
  pub stands : sources ≡ before ++ source ∷ behind
  pub defines : Defines source name
  pub is_first : (earlier : FileElement) → Contains before earlier → Defines earlier name → ⊥
  pub alone : StandsAlone (element_in source).design
  pub no_instance : (other : FileElement) → Contains sources other → Instantiates other name → ⊥
