-- What is known where the value of a name of an enumeration stands (IEEE 1800-2017, 6.19): what is known around the enumeration, and the
-- names before it that the scope around has not declared before them: of two declarations of a name the first stays (own). A name before it
-- that has no value is not said again. The arguments of a call see what is around the enumeration (own).
use Rattle.std.specs.Prelude.{ℕ, Bool, if◌then◌else◌, List, Option, Some, None, Result, Ok, Err}
use Rattle.sve_tree.specs.declared.word.ScopedName.{ScopedName}
use Rattle.sve_tree.specs.declared.word.PackageScope.{PackageScope}
use Rattle.sve_table.specs.Tables.{item_of, with_item}
use Rattle.sve_value.specs.Vector.{Vector}
use Rattle.sve_types.specs.DataType.{DataType}
use Rattle.sve_types.specs.declared.value.Value.{Value}
use Rattle.sve_types.specs.declared.value.Value.TheVariants as is_value
use Rattle.sve_fault.specs.Faults.{argument_of, silent_fault}
use Rattle.sve_fault.specs.declared.fault.Fault.{Fault}
use Rattle.sve_type_rule.specs.declared.values.Last.{Last}
use Rattle.sve_type_rule.specs.declared.values.Last.TheVariants as is_last
use Rattle.sve_env.specs.Told.{Told}
use Rattle.sve_enum_type.specs.declared.earlier.Earlier.{Earlier}

abbrev pub earlier_name : Earlier → List ℕ
earlier_name e = e.name

-- ---- the names so far, each with its value where it has one; of two that are the same, the first

abbrev pub last_value : Last → Option Vector
last_value is_last.First = None
last_value (is_last.Value v) = Some v
last_value is_last.Missing = None

abbrev pub with_earlier : List Earlier → Option (List ℕ) → Option Vector → List Earlier
with_earlier es None value = es
with_earlier es (Some name) value = with_item earlier_name es (record { name = name; value = value })

-- one that is declared before is none of them
abbrev pub with_new : Bool → List Earlier → Option (List ℕ) → Option Vector → List Earlier
with_new is_declared es name value = if is_declared then es else with_earlier es name value

-- ---- what they stand for; in a select a name is of the base

abbrev pub earlier_by : Option PackageScope → Option (List ℕ) → List Earlier → Option Earlier
earlier_by None None es = None
earlier_by None (Some name) es = item_of earlier_name name es
earlier_by (Some scope) name es = None

abbrev pub earlier_of : Told → List Earlier → ScopedName → Option Earlier
earlier_of m es n = earlier_by n.scope (argument_of (m.text n.name)) es

abbrev pub value_of_earlier : ℕ → Option Vector → Result Value Fault
value_of_earlier token (Some v) = Ok (is_value.Bits v)
value_of_earlier token None = Err (silent_fault token)

abbrev pub value_or : ℕ → Option Earlier → Result Value Fault → Result Value Fault
value_or token None other = other
value_or token (Some e) other = value_of_earlier token e.value

abbrev pub type_or : DataType → Option Earlier → Result DataType Fault → Result DataType Fault
type_or base None other = other
type_or base (Some e) other = Ok base

abbrev pub told_among : Told → DataType → List Earlier → Told
told_among m base es = record {
  file = m.file;
  chunk = m.chunk;
  text = m.text;
  declared_before = m.declared_before;
  constant = λ n. value_or n.name (earlier_of m es n) (m.constant n);
  is_type = m.is_type;
  ty = λ n. type_or base (earlier_of m es n) (m.ty n);
  call = m.call;
  steps = m.steps;
}
