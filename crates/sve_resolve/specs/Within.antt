-- What is known behind the parameters so far: what is known around the header, and these parameters (IEEE 1800-2017, 6.20.1). What has no value, or no type, is said elsewhere. The arguments of a call see what is around the header (own).
use Rattle.std.specs.Prelude.{ℕ, Bool, true, if◌then◌else◌, is_some, List, Option, Some, None, Result, Ok, Err}
use Rattle.sve_tree.specs.declared.word.ScopedName.{ScopedName}
use Rattle.sve_tree.specs.declared.word.PackageScope.{PackageScope}
use Rattle.sve_types.specs.DataType.{DataType}
use Rattle.sve_types.specs.declared.value.Value.{Value}
use Rattle.sve_fault.specs.Faults.{argument_of, silent_fault}
use Rattle.sve_fault.specs.declared.fault.Fault.{Fault}
use Rattle.sve_env.specs.Told.{Told}
use Rattle.sve_resolve.specs.declared.known.Known.{Known}
use Rattle.sve_resolve.specs.declared.known.Resolved.{Resolved}
use Rattle.sve_resolve.specs.Known.{resolved_of}

abbrev pub seen_by : Option PackageScope → Option (List ℕ) → Known → Option Resolved
seen_by None None k = None
seen_by None (Some name) k = resolved_of k name
seen_by (Some scope) name k = None

abbrev pub seen_of : Told → Known → ScopedName → Option Resolved
seen_of m k n = seen_by n.scope (argument_of (m.text n.name)) k

-- the header, or what stands around it, declares the name of a token before it
abbrev pub declares_among : Option Resolved → Bool → Bool
declares_among r other = if is_some r then true else other

abbrev pub value_or_silent : ℕ → Option Value → Result Value Fault
value_or_silent token (Some v) = Ok v
value_or_silent token None = Err (silent_fault token)

abbrev pub value_by : ℕ → Resolved → Result Value Fault
value_by token r = value_or_silent token r.value

abbrev pub type_or_silent : ℕ → Option DataType → Result DataType Fault
type_or_silent token (Some t) = Ok t
type_or_silent token None = Err (silent_fault token)

abbrev pub type_by : ℕ → Resolved → Result DataType Fault
type_by token r = type_or_silent token r.ty

abbrev pub value_among : ℕ → Option Resolved → Result Value Fault → Result Value Fault
value_among token None other = other
value_among token (Some r) other = value_by token r

abbrev pub type_among : ℕ → Option Resolved → Result DataType Fault → Result DataType Fault
type_among token None other = other
type_among token (Some r) other = type_by token r

abbrev pub told_within : Told → Known → Told
told_within m k = record {
  file = m.file;
  chunk = m.chunk;
  text = m.text;
  declared_before = λ token. declares_among (seen_by None (argument_of (m.text token)) k) (m.declared_before token);
  constant = λ n. value_among n.name (seen_of m k n) (m.constant n);
  is_type = m.is_type;
  ty = λ n. type_among n.name (seen_of m k n) (m.ty n);
  call = m.call;
  steps = m.steps;
}
