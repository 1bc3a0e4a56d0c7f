-- What the text of statements comes to, step by step (IEEE 1800-2017, 9.3.1, 12.7.1, 12.7.3 and 23.9).
use Rattle.std.specs.Global.{Vec}
use Rattle.std.specs.Prelude.{ℕ, List, map}
use Rattle.sve_tree.specs.declared.word.ScopedName.{ScopedName}
use Rattle.sve_tree.specs.declared.expression.Select.{Select}
use Rattle.sve_tree.specs.declared.data_type.Declarator.{Declarator}
use Rattle.sve_tree.specs.declared.data_type.Initializer.{Initializer}
use Rattle.sve_tree.specs.declared.declaration.DataDeclaration.{DataDeclaration}
use Rattle.sve_tree.specs.declared.declaration.Parameters.{Parameters}
use Rattle.sve_tree.specs.declared.declaration.Typedef.{Typedef}
use Rattle.sve_tree.specs.declared.declaration.VariableDeclaration.{VariableDeclaration}
use Rattle.sve_tree.specs.declared.statement.ForVariable.{ForVariable}
use Rattle.sve_tree.specs.declared.statement.NamedDeclaration.{NamedDeclaration}
use Rattle.sve_use.specs.Use.{Use}

-- what is done to the scopes of statements
pub data Local : Type 0 where
  -- a scope begins in the innermost one, and it ends
  Opens : ℕ → Local
  Closes : Local
  -- a declaration in the innermost scope, with the names that it uses
  DeclaresData : DataDeclaration → Local
  DeclaresVariables : VariableDeclaration → Local
  DeclaresNamed : NamedDeclaration → Local
  DeclaresParameters : Parameters → Local
  DeclaresType : Typedef → Local
  -- the variables of a `for`: several, of which one without a type has that of the one before, or one of a type by its name
  DeclaresLoop : List ForVariable → Local
  DeclaresNamedLoop : ScopedName → Vec Select → Declarator → Initializer → Local
  -- the loop variables of a `foreach` over the array at a token
  DeclaresIndices : ℕ → List ℕ → Local

-- a name is used, or something is done to the scopes
pub data Step : Type 0 where
  Uses : Use → Step
  Does : Local → Step

-- names that are used
abbrev pub used : List Use → List Step
used names = map Uses names

-- what a step does, by what a use does and what the others do
abbrev pub happens : {W : Type 0} → (W → Use → W) → (W → Local → W) → W → Step → W
happens after does w (Uses name) = after w name
happens after does w (Does local) = does w local
