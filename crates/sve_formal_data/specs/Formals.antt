-- The formal arguments of a function in its scope (IEEE 1800-2017, 13.3 and 13.5).
use Rattle.std.specs.Prelude.{ℕ, ◌+◌, Bool, false, ◌&&◌, if◌then◌else◌, List, [], ◌∷◌, Option, Some, None}
use Rattle.std.specs.Option.{is_none}
use Rattle.sve_types.specs.DataType.{DataType}
use Rattle.sve_env.specs.Told.{Told}
use Rattle.sve_tree.specs.declared.token_word.Word.{Word}
use Rattle.sve_tree.specs.declared.data_type.DeclaredType.{DeclaredType}
use Rattle.sve_tree.specs.declared.data_type.DeclaredType.TheVariants as is_declared
use Rattle.sve_tree.specs.declared.statement.Formal.{Formal}
use Rattle.sve_tree.specs.declared.statement.Formals.{Formals}
use Rattle.sve_type_rule.specs.Outcomes.{Outcome, scalar}
use Rattle.sve_type_of.specs.Written.{is_empty}
use Rattle.sve_type_of.specs.TypeOf.{declared, notes_in}
use Rattle.sve_contents.specs.declared.contents.Contents.{Contents}
use Rattle.sve_contents.specs.Reading.{noted_all}
use Rattle.sve_enumerated.specs.declared.passed.Passed.{Passed}
use Rattle.sve_enumerated.specs.Names.{separator}
use Rattle.sve_data.specs.declared.kind.DataKind.TheVariants as is_kind
use Rattle.sve_data.specs.Declarators.{declarator_after}
use Rattle.sve_data.specs.Declarations.{declared_names}
use Rattle.sve_formal_data.specs.declared.formals.Typing.{Typing}

-- nothing is written of a type
abbrev pub is_left_out : DeclaredType → Bool
is_left_out (is_declared.Explicit t) = false
is_left_out (is_declared.Implicit sign dimensions) = is_none sign && is_empty dimensions.items

-- an argument of which neither direction nor type is written has the type of the one before
abbrev pub formal_typed : Told → DataType → Formal → Outcome
formal_typed m before f = if is_none f.direction && is_left_out f.parameter.data_type then record { ty = before; faults = [] } else declared m f.parameter.data_type

-- where this is known in the scope, as far as its text was read
module _ (known : Contents → Told) (ws : List Word) where
  abbrev pub formal_over : Passed → Formal → ℕ → Told → Outcome → Typing
  formal_over p f end m o = record {
    passed = declarator_after known ws is_kind.Variable o.ty (declared_names ws o.ty (record { contents = noted_all p.contents (notes_in m o.faults); at = p.at }) f.parameter.data_type) f.parameter.declarator end;
    ty = o.ty;
  }

  -- an argument, which ends in front of a token, behind those before it
  unfoldable pub formal_after : Typing → Formal → ℕ → Typing
  formal_after s f end = formal_over s.passed f end (known s.passed.contents) (formal_typed (known s.passed.contents) s.ty f)

  unfoldable pub formals_behind : List ℕ → ℕ → ℕ → Typing → List Formal → Typing
  formals_behind separators last place s [] = s
  formals_behind separators last place s (f ∷ fs) = formals_behind separators last (place + 1) (formal_after s f (separator separators last place)) fs

  -- all of them, where a list of them is written
  abbrev pub with_formals : Contents → Option Formals → Contents
  with_formals c None = c
  with_formals c (Some w) = (formals_behind w.formals.separators.items w.closing 0 (record { passed = record { contents = c; at = w.opening }; ty = scalar }) w.formals.items.items).passed.contents
