-- Declarations of nets and of variables in a scope (IEEE 1800-2017, 6.7 and 6.8).
use Rattle.std.specs.Prelude.{ℕ, List, [], Option, Some, None}
use Rattle.sve_types.specs.DataType.{DataType}
use Rattle.sve_env.specs.Told.{Told}
use Rattle.sve_tree.specs.Shape.{first_token_of}
use Rattle.sve_tree.specs.Types.{data_type_tree}
use Rattle.sve_tree.specs.declared.row.Row.{Row}
use Rattle.sve_tree.specs.declared.token_word.Word.{Word}
use Rattle.sve_tree.specs.declared.word.ScopedName.{ScopedName}
use Rattle.sve_tree.specs.declared.expression.Select.{Select}
use Rattle.sve_tree.specs.declared.data_type.DataType as written
use Rattle.sve_tree.specs.declared.data_type.DeclaredType.{DeclaredType}
use Rattle.sve_tree.specs.declared.data_type.DeclaredType.TheVariants as is_declared
use Rattle.sve_tree.specs.declared.data_type.TypeRef.{TypeRef}
use Rattle.sve_tree.specs.declared.data_type.TypeRef.TheVariants as is_type_ref
use Rattle.sve_tree.specs.declared.declaration.DataDeclaration.{DataDeclaration}
use Rattle.sve_tree.specs.declared.declaration.InitializedDeclarator.{InitializedDeclarator}
use Rattle.sve_tree.specs.declared.declaration.NetDeclaration.{NetDeclaration}
use Rattle.sve_tree.specs.declared.declaration.VariableDeclaration.{VariableDeclaration}
use Rattle.sve_tree.specs.declared.statement.NamedDeclaration.{NamedDeclaration}
use Rattle.sve_use.specs.Use.{Use}
use Rattle.sve_type_rule.specs.Outcomes.{Outcome}
use Rattle.sve_type_of.specs.TypeOf.{declared, notes_in, referred}
use Rattle.sve_type_of.specs.Selected.{selected}
use Rattle.sve_contents.specs.declared.contents.Contents.{Contents}
use Rattle.sve_contents.specs.Reading.{noted_all}
use Rattle.sve_contents.specs.Uses.{with_plain}
use Rattle.sve_enumerated.specs.declared.passed.Passed.{Passed}
use Rattle.sve_enumerated.specs.Types.{named_in_ref}
use Rattle.sve_data.specs.declared.kind.DataKind.{DataKind}
use Rattle.sve_data.specs.declared.kind.DataKind.TheVariants as is_kind
use Rattle.sve_data.specs.Declarators.{initialized_behind}

-- ---- where the text of a declaration begins that has no keyword in front of its type

-- the first token of a type by its keyword
abbrev pub token_or_first : Option ℕ → ℕ
token_or_first None = 0
token_or_first (Some token) = token

abbrev pub type_token : written.DataType → ℕ
type_token d = token_or_first (first_token_of (data_type_tree d))

-- the name of a type is used, unless it is one of a package
abbrev pub name_begun : List Word → Contents → ScopedName → Passed
name_begun ws c name = record { contents = with_plain ws c name.scope name.name; at = name.name }

abbrev pub begun : List Word → Contents → TypeRef → Passed
begun ws c (is_type_ref.Written d) = record { contents = c; at = type_token d }
begun ws c (is_type_ref.Named n) = name_begun ws c n.name

-- the type of a name with selects behind it
unfoldable pub type_selected : Told → ScopedName → List Select → Outcome
type_selected m name selects = selected m name selects

-- the names that a type declares come first
unfoldable pub declared_names : List Word → DataType → Passed → DeclaredType → Passed
declared_names ws ty p (is_declared.Explicit t) = named_in_ref ws ty p t
declared_names ws ty p (is_declared.Implicit sign dimensions) = p

-- ---- the declarations, where this is known in the scope, as far as its text was read, and where uses of names leave this

module _ (known : Contents → Told) (used : Contents → Use → Contents) (ws : List Word) where
  -- the type is found once, in front of all names
  abbrev pub all_names : DataKind → DataType → Row InitializedDeclarator ℕ → ℕ → Passed → Contents
  all_names kind ty row semicolon p = (initialized_behind known used ws kind ty row.separators.items semicolon 0 p row.items.items).contents

  -- variables by their type
  abbrev pub data_over : Contents → DataDeclaration → Told → Outcome → Contents
  data_over c w m o = all_names is_kind.Variable o.ty w.declarators w.semicolon (named_in_ref ws o.ty (begun ws (noted_all c (notes_in m o.faults)) w.data_type) w.data_type)

  abbrev pub with_data : Contents → DataDeclaration → Contents
  with_data c w = data_over c w (known c) (referred (known c) w.data_type [])

  -- behind a keyword the type may be left out
  abbrev pub keyword_over : DataKind → Passed → DeclaredType → Row InitializedDeclarator ℕ → ℕ → Told → Outcome → Contents
  keyword_over kind p t row semicolon m o = all_names kind o.ty row semicolon (declared_names ws o.ty (record { contents = noted_all p.contents (notes_in m o.faults); at = p.at }) t)

  abbrev pub behind_keyword : DataKind → Passed → DeclaredType → Row InitializedDeclarator ℕ → ℕ → Contents
  behind_keyword kind p t row semicolon = keyword_over kind p t row semicolon (known p.contents) (declared (known p.contents) t)

  -- nets, with the keyword of their net type
  abbrev pub with_nets : Contents → NetDeclaration → Contents
  with_nets c w = behind_keyword is_kind.Net (record { contents = c; at = w.net.token }) w.data_type w.declarators w.semicolon

  -- variables, with `var`
  abbrev pub with_variables : Contents → VariableDeclaration → Contents
  with_variables c w = behind_keyword is_kind.Variable (record { contents = c; at = w.keyword }) w.data_type w.declarators w.semicolon

  -- variables by the name of their type, with selects as its packed dimensions
  abbrev pub named_over : Contents → NamedDeclaration → Told → Outcome → Contents
  named_over c w m o = all_names is_kind.Variable o.ty w.declarators w.semicolon (name_begun ws (noted_all c (notes_in m o.faults)) w.name)

  abbrev pub with_named_data : Contents → NamedDeclaration → Contents
  with_named_data c w = named_over c w (known c) (type_selected (known c) w.name w.selects.items)
