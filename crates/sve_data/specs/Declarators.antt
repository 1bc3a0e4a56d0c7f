-- Names of data in a scope (IEEE 1800-2017, 6.5 to 6.8 and 7.4.2).
use Rattle.std.specs.Prelude.{ℕ, ◌+◌, List, [], ◌∷◌, Option, Some, None}
use Rattle.std.specs.List.{fold}
use Rattle.sve_diag.specs.declared.diag.Note.{Note}
use Rattle.sve_types.specs.DataType.{DataType}
use Rattle.sve_env.specs.Told.{Told}
use Rattle.sve_tree.specs.declared.token_word.Word.{Word}
use Rattle.sve_tree.specs.declared.data_type.Declarator.{Declarator}
use Rattle.sve_tree.specs.declared.data_type.Initializer.{Initializer}
use Rattle.sve_tree.specs.declared.declaration.InitializedDeclarator.{InitializedDeclarator}
use Rattle.sve_use.specs.Use.{Use}
use Rattle.sve_use.specs.Uses.{uses}
use Rattle.sve_type_rule.specs.Outcomes.{Outcome}
use Rattle.sve_type_of.specs.TypeOf.{notes_in, unpacked_over}
use Rattle.sve_scope.specs.declared.what.What.{What}
use Rattle.sve_scope.specs.declared.what.What.TheVariants as is_what
use Rattle.sve_contents.specs.declared.contents.Contents.{Contents}
use Rattle.sve_contents.specs.Reading.{noted_all}
use Rattle.sve_enumerated.specs.declared.passed.Passed.{Passed}
use Rattle.sve_enumerated.specs.Passing.{passed_to}
use Rattle.sve_enumerated.specs.Names.{separator}
use Rattle.sve_scoped.specs.Assignments.{is_text}
use Rattle.sve_scoped.specs.Said.{declared_at, out_if}
use Rattle.sve_data.specs.declared.kind.DataKind.{DataKind}
use Rattle.sve_data.specs.declared.kind.DataKind.TheVariants as is_kind

-- data of a type are nets or variables
abbrev pub what_of : DataKind → DataType → What
what_of is_kind.Net ty = is_what.Net ty
what_of is_kind.Variable ty = is_what.Variable ty

-- a name of data of this type, which is seen from a token on, and what is said of its dimensions; a string is out for it (own)
unfoldable pub declared_over : List Word → DataKind → Passed → ℕ → ℕ → DataType → List Note → Passed
declared_over ws kind p token from ty notes = record {
  contents = declared_at ws (noted_all (out_if ws p.contents token (is_text ty)) notes) token (what_of kind ty) from;
  at = p.at;
}

-- Its own dimensions stand before those of the type. It is declared behind them, and behind all that is used up to the token at which it is seen.
abbrev pub declarator_over : List Word → DataKind → Passed → Declarator → ℕ → Told → Outcome → Passed
declarator_over ws kind p d from m o = declared_over ws kind (passed_to ws (passed_to ws p d.name) from) d.name from o.ty (notes_in m o.faults)

-- where this is known in the scope, as far as its text was read
unfoldable pub declarator_after : (Contents → Told) → List Word → DataKind → DataType → Passed → Declarator → ℕ → Passed
declarator_after known ws kind ty p d from = declarator_over ws kind p d from (known p.contents) (unpacked_over (known p.contents) ty d.dimensions.items)

-- ---- with first values

-- a name is seen in its first value
abbrev pub value_at : Option Initializer → ℕ → ℕ
value_at None end = end
value_at (Some v) end = v.equals

-- what the names in it leave, which ends in front of a token
abbrev pub valued : (Contents → Use → Contents) → Passed → Option Initializer → ℕ → Passed
valued used p None end = p
valued used p (Some v) end = record { contents = fold used p.contents (uses v.value.value); at = end }

module _ (known : Contents → Told) (used : Contents → Use → Contents) (ws : List Word) where
  unfoldable pub initialized_after : DataKind → DataType → Passed → InitializedDeclarator → ℕ → Passed
  initialized_after kind ty p d end = valued used (declarator_after known ws kind ty p d.declarator (value_at d.value end)) d.value end

  -- one after another, so that each sees those before it
  unfoldable pub initialized_behind : DataKind → DataType → List ℕ → ℕ → ℕ → Passed → List InitializedDeclarator → Passed
  initialized_behind kind ty separators last place p [] = p
  initialized_behind kind ty separators last place p (d ∷ ds) = initialized_behind kind ty separators last (place + 1) (initialized_after kind ty p d (separator separators last place)) ds
