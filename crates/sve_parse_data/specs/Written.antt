-- Declarations of variables that begin with their type (IEEE 1800-2017, A.2.1.3).
use Rattle.std.specs.Prelude.{ℕ}
use Rattle.sve_grammar.specs.Reading.{Tree, leaf, none}
use Rattle.sve_tree.specs.Shape.{◌▸◌, misplaced}
use Rattle.sve_tree.specs.Types.{data_type_tree, declarator_tree}
use Rattle.sve_tree.specs.Declarations.{first_declarator, declaration_end_tree}
use Rattle.sve_tree.specs.declared.row.Row.{Row}
use Rattle.sve_tree.specs.declared.data_type.TypeRef.{TypeRef}
use Rattle.sve_tree.specs.declared.declaration.InitializedDeclarator.{InitializedDeclarator}
use Rattle.sve_tree.specs.declared.declaration.DataDeclaration.{DataDeclaration}
use Rattle.sve_tree.specs.declared.data_type.TypeRef.TheVariants as is_type_ref

-- the type begins with a keyword
abbrev pub IsWritten : TypeRef → Type 0
IsWritten (is_type_ref.Written data_type) = Unit {0}
IsWritten (is_type_ref.Named named) = ⊥

-- the type, the declared names and the semicolon; the rule has no place for a type by its name
abbrev pub written_tree : TypeRef → Row InitializedDeclarator ℕ → ℕ → Tree
written_tree (is_type_ref.Written data_type) row semicolon = data_type_tree data_type ▸ first_declarator declarator_tree row ▸ declaration_end_tree row ▸ leaf semicolon
written_tree (is_type_ref.Named named) row semicolon = misplaced none

abbrev pub data_declaration_tree : DataDeclaration → Tree
data_declaration_tree x = written_tree x.data_type x.declarators x.semicolon
