-- Types that are named in a scope (IEEE 1800-2017, 6.18).
use Rattle.std.specs.Prelude.{ℕ, List, []}
use Rattle.sve_types.specs.DataType.{DataType}
use Rattle.sve_env.specs.Told.{Told}
use Rattle.sve_tree.specs.declared.token_word.Word.{Word}
use Rattle.sve_tree.specs.declared.declaration.Typedef.{Typedef}
use Rattle.sve_type_rule.specs.Outcomes.{Outcome}
use Rattle.sve_type_of.specs.TypeOf.{notes_in, referred, unpacked_over}
use Rattle.sve_scope.specs.declared.what.What.TheVariants as is_what
use Rattle.sve_contents.specs.declared.contents.Contents.{Contents}
use Rattle.sve_contents.specs.Reading.{noted_all}
use Rattle.sve_enumerated.specs.declared.passed.Passed.{Passed}
use Rattle.sve_enumerated.specs.Passing.{passed_to}
use Rattle.sve_enumerated.specs.Types.{named_in_ref}
use Rattle.sve_scoped.specs.Said.{declared_at}

abbrev pub type_name : List Word → Contents → ℕ → DataType → ℕ → Contents
type_name ws c token ty from = declared_at ws c token (is_what.TypeName ty) from

-- its name, behind what is used up to its end, with the dimensions behind it
abbrev pub named_over : List Word → Passed → Typedef → Told → Outcome → Contents
named_over ws p written m o =
    type_name ws (noted_all (passed_to ws (passed_to ws p written.declarator.name) written.semicolon).contents (notes_in m o.faults)) written.declarator.name o.ty written.semicolon

-- what is known in the scope, as far as its text was read
module _ (known : Contents → Told) (ws : List Word) where
  -- these dimensions see the names of its enumerations
  abbrev pub with_named_type : Passed → DataType → Typedef → Contents
  with_named_type p ty written = named_over ws p written (known p.contents) (unpacked_over (known p.contents) ty written.declarator.dimensions.items)

  abbrev pub with_type : Contents → Typedef → Told → Outcome → Contents
  with_type c written m o = with_named_type (named_in_ref ws o.ty (record { contents = noted_all c (notes_in m o.faults); at = written.keyword }) written.data_type) o.ty written

  abbrev pub with_typedef : Contents → Typedef → Contents
  with_typedef c written = with_type c written (known c) (referred (known c) written.data_type [])
