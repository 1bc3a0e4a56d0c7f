-- The names of an enumeration in a scope (IEEE 1800-2017, 6.19).
use Rattle.std.specs.Prelude.{ℕ, ◌+◌, if◌then◌else◌, List, [], ◌∷◌, Option, Some, None, is_some, option_map, slice_get}
use Rattle.sve_value.specs.Vector.{Vector}
use Rattle.sve_types.specs.DataType.{DataType}
use Rattle.sve_types.specs.declared.value.Value.{Value}
use Rattle.sve_types.specs.declared.value.Value.TheVariants as is_value
use Rattle.sve_tree.specs.declared.token_word.Word.{Word}
use Rattle.sve_tree.specs.declared.data_type.EnumName.{EnumName}
use Rattle.sve_tree.specs.declared.data_type.Enumeration.{Enumeration}
use Rattle.sve_scope.specs.declared.what.What.TheVariants as is_what
use Rattle.sve_known.specs.Naming.{name_at}
use Rattle.sve_contents.specs.declared.contents.Contents.{Contents}
use Rattle.sve_contents.specs.Reading.{declaring_in, spot_in}
use Rattle.sve_enumerated.specs.declared.passed.Passed.{Passed}
use Rattle.sve_enumerated.specs.declared.enumeration.Naming.{Naming}
use Rattle.sve_enumerated.specs.Passing.{passed_to}
use Rattle.sve_enumerated.specs.Found.{alone, enumeration_in, value_next, values_of}

abbrev pub shared_alone : Option DataType → Option DataType
shared_alone found = option_map (λ t. alone t) found

abbrev pub value_of : Option Vector → Option Value
value_of None = None
value_of (Some v) = Some (is_value.Bits v)

-- a name at a token, which is seen from another on
abbrev pub declared_name : Contents → List ℕ → ℕ → ℕ → Option DataType → Option Vector → Contents
declared_name c n token from ty value = declaring_in c (record { name = n; what = is_what.EnumName (record { ty = ty; value = value_of value }); at = spot_in c token; from = from })

abbrev pub next_place : ℕ → Option Vector → ℕ
next_place next value = if is_some value then next + 1 else next

-- the token behind the item at a place: the separator, or the end of the list
abbrev pub token_or : ℕ → Option ℕ → ℕ
token_or last None = last
token_or last (Some token) = token

abbrev pub separator : List ℕ → ℕ → ℕ → ℕ
separator separators last place = token_or last (slice_get separators place)

-- What is used in front of a name and in its value comes before the name.
abbrev pub named_by : Option DataType → List (List ℕ × Vector) → Passed → ℕ → ℕ → ℕ → Option (List ℕ) → Naming
named_by ty values p next token from None = record { passed = p; next = next }
named_by ty values p next token from (Some n) = record {
  passed = record { contents = declared_name p.contents n token from ty (value_next values next n); at = p.at };
  next = next_place next (value_next values next n);
}

abbrev pub named_at : List Word → Option DataType → List (List ℕ × Vector) → Naming → ℕ → ℕ → Naming
named_at ws ty values s token from = named_by ty values (passed_to ws (passed_to ws s.passed token) from) s.next token from (name_at ws token)

-- the type of all of them, those that have a value, and the separators and the end of their list
unfoldable pub name_after : List Word → Option DataType → List (List ℕ × Vector) → List ℕ → ℕ → ℕ → Naming → EnumName → Naming
name_after ws ty values separators last place s n = named_at ws ty values s n.name (separator separators last place)

unfoldable pub names_behind : List Word → Option DataType → List (List ℕ × Vector) → List ℕ → ℕ → ℕ → Naming → List EnumName → Naming
names_behind ws ty values separators last place s [] = s
names_behind ws ty values separators last place s (n ∷ ns) = names_behind ws ty values separators last (place + 1) (name_after ws ty values separators last place s n) ns

-- all names of an enumeration, whose type is found in a type
unfoldable pub names_over : List Word → Passed → Enumeration → Option DataType → Passed
names_over ws p e found = (names_behind ws (shared_alone found) (values_of found) e.names.separators.items e.closing 0 (record { passed = p; next = 0 }) e.names.items.items).passed

abbrev pub with_enumeration : List Word → DataType → Passed → Enumeration → Passed
with_enumeration ws t p e = names_over ws p e (enumeration_in p.contents.scope.file p.contents.scope.chunk e.keyword t)
