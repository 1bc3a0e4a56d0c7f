-- The questions that the elaboration of a body asks, each with answers of a type of its own (own).
use Rattle.std.specs.Global.{Global}
use Rattle.std.specs.Prelude.{ℕ, List, Option, Some, None}
use Rattle.std.specs.Arc.{arc_value}
use Rattle.std.specs.declared.sync.Arc.{Arc}
use Rattle.sve_bytes.specs.declared.net_type.NetType.{NetType}
use Rattle.sve_tree.specs.declared.element.Element.{Element}
use Rattle.sve_index.specs.declared.whole.Index.{Index}
use Rattle.sve_spec.specs.declared.spec.Spec.{Spec}
use Rattle.sve_facts.specs.declared.facts.Facts.{Facts}
use Rattle.sve_facts.specs.declared.facts.Port.{Port}

pub data Question : Type 0 where
  -- the tree of a chunk of a file
  ElementOf : List ℕ → ℕ → Question
  -- the net type that is in force at a token of a chunk
  NetAt : List ℕ → ℕ → ℕ → Question
  -- where modules, interfaces and packages are defined
  IndexOf : Question
  -- what is found of a package
  PackageOf : List ℕ → Question
  -- the ports of a specialization
  PortsOf : Spec → Question

-- a chunk that is refused has no tree
abbrev pub Reply : Question → Type 0
Reply (ElementOf file chunk) = Option Element
Reply (NetAt file chunk token) = NetType
Reply IndexOf = Index
Reply (PackageOf name) = Facts
Reply (PortsOf spec) = List Port

-- a tree, wherever it lies in memory
abbrev pub element_in : Option (Arc Element Global) → Option Element
element_in None = None
element_in (Some element) = Some (arc_value element)
