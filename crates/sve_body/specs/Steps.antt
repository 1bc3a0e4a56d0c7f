-- What the elaboration of a body does to what it has found, where it asks nothing (own). Each step is total; one that evaluates constants says what that costs.
use Rattle.std.specs.Prelude.{ℕ, Bool, ℤ, List, Option}
use Rattle.sve_bytes.specs.declared.net_type.NetType.{NetType}
use Rattle.sve_fault.specs.declared.fault.Fault.{Fault}
use Rattle.sve_tree.specs.declared.declaration.DataDeclaration.{DataDeclaration}
use Rattle.sve_tree.specs.declared.declaration.Import.{Import}
use Rattle.sve_tree.specs.declared.declaration.Modport.{Modport}
use Rattle.sve_tree.specs.declared.declaration.NetDeclaration.{NetDeclaration}
use Rattle.sve_tree.specs.declared.declaration.Parameters.{Parameters}
use Rattle.sve_tree.specs.declared.declaration.Typedef.{Typedef}
use Rattle.sve_tree.specs.declared.declaration.VariableDeclaration.{VariableDeclaration}
use Rattle.sve_tree.specs.declared.element.Element.{Element}
use Rattle.sve_tree.specs.declared.header.Header.{Header}
use Rattle.sve_tree.specs.declared.statement.Func.{Func}
use Rattle.sve_tree.specs.declared.item.GenerateBlock.{GenerateBlock}
use Rattle.sve_tree.specs.declared.item.Instance.{Instance}
use Rattle.sve_tree.specs.declared.item.Overrides.{Overrides}
use Rattle.sve_index.specs.declared.whole.Index.{Index}
use Rattle.sve_spec.specs.declared.spec.Spec.{Spec}
use Rattle.sve_facts.specs.declared.facts.Port.{Port}
use Rattle.sve_env.specs.Told.{Told}
use Rattle.sve_item_names.specs.declared.name.ItemName.{ItemName}
use Rattle.sve_use.specs.Use.{Use}
use Rattle.sve_statement_use.specs.Steps.{Local}
use Rattle.sve_plan.specs.Plan.{Counted}
use Rattle.sve_body.specs.declared.place.Place.{Place}

pub record Steps (S : Type 0) : Type 0 where
  -- where the text stands, and what is known in the innermost scope
  pub told : S → Told
  -- a fault is said, where it says something
  pub say : Fault → S → S
  -- a name is used; the name at a token is declared there; a net that its use declares, of the net type that is in force (6.10)
  pub use_name : Use → S → S
  pub is_declared : ℕ → S → Bool
  pub implicit_net : ℕ → NetType → S → S
  -- the header (23.2): imports, then parameters with their final values (6.20), then ports
  pub header_imports : Header → S → S
  pub header_parameters : Header → S → Counted S
  pub header_ports : Header → S → Counted S
  -- declarations, with the names that their first values use
  pub import : Import → S → S
  pub parameters : Parameters → S → Counted S
  pub typedef : Typedef → S → Counted S
  pub function : Func → S → Counted S
  pub genvar : ℕ → S → S
  pub nets : NetDeclaration → S → Counted S
  pub variables : VariableDeclaration → S → Counted S
  pub data_of_type : DataDeclaration → S → Counted S
  pub modport : Modport → S → S
  -- the scopes of statements, and what is declared there; what evaluating in such a step costs, over what is known
  pub local : Local → S → S
  pub local_nodes : Local → S → ℕ
  -- what is wrong with the genvar of a loop (27.4)
  pub genvar_fault : Option ℕ → ℕ → S → Option Fault
  -- the number of the next generate construct of the innermost scope, of which the first has number 1; and one more construct, with the names of its labels
  pub next_number : S → ℕ
  pub count_construct : List ItemName → S → S
  -- the generate blocks that are open
  pub depth : S → ℕ
  -- what is wrong with a label of the construct with this number: its name is declared by something else (27.6)
  pub label_fault : ℕ → ℕ → S → Option Fault
  -- a block is entered, by the number of its construct, its genvar with its value, and its text; and it ends
  pub enter : ℕ → Option (ℕ × ℤ) → GenerateBlock → S → S
  pub leave : S → S
  -- an instantiation: its overrides are evaluated, once for all its instances (23.10); where its definition is (23.3)
  pub overrides : Option Overrides → S → Counted S
  pub definition_at : Index → ℕ → S → Option Place
  pub no_definition : ℕ → S → S
  -- an instance: its specialization, where it has one; which plain names in its connections may make nets; and the child that it is
  pub specialized : ℕ → Option Element → Instance → S → Option Spec × S
  pub connection_tokens : List Port → Instance → S → List ℕ
  pub child : Spec → List Port → Instance → S → S
  -- the same of an instance without a specialization, which is no child
  pub unknown_tokens : Instance → S → List ℕ
  pub unknown : Instance → S → S
