-- What the names of a row stand for.
use Rattle.std.specs.Prelude.{ℕ, Bool, true, false, if◌then◌else◌, bytes_eq, List, [], ◌∷◌, Option, Some, None, Result, Ok, Err, slice_get}
use Rattle.sve_diag.specs.declared.code.Code.TheVariants.{C01, N01, N11}
use Rattle.sve_tree.specs.TokenWords.{bytes_in}
use Rattle.sve_tree.specs.declared.token_word.Word.{Word}
use Rattle.sve_types.specs.DataType.{DataType}
use Rattle.sve_types.specs.declared.value.Value.{Value}
use Rattle.sve_fault.specs.Faults.{fault_at, fault_about, silent_fault}
use Rattle.sve_fault.specs.declared.fault.Fault.{Fault}
use Rattle.sve_env.specs.Told.{Told}
use Rattle.sve_given.specs.declared.entry.Entry.{Entry}

abbrev pub word_text : Option Word → List ℕ
word_text None = []
word_text (Some w) = bytes_in w

abbrev pub text_at : List Word → ℕ → List ℕ
text_at words token = word_text (slice_get words token)

-- the first of this name
unfoldable pub entry_of : List Entry → List ℕ → Option Entry
entry_of [] text = None
entry_of (e ∷ es) text = if bytes_eq e.name text then Some e else entry_of es text

abbrev pub value_in : ℕ → List ℕ → Bool → Option Value → Result Value Fault
value_in token text is_type (Some v) = Ok v
value_in token text is_type None = if is_type then Err (fault_about token N11 text) else Err (silent_fault token)

abbrev pub constant_in : ℕ → List ℕ → Option Entry → Result Value Fault
constant_in token text None = Err (fault_about token N01 text)
constant_in token text (Some e) = value_in token text e.is_type e.value

abbrev pub type_in : ℕ → List ℕ → Option Entry → Result DataType Fault
type_in token text None = Err (fault_about token N01 text)
type_in token text (Some e) = Ok e.ty

abbrev pub is_given : Option Entry → Bool
is_given None = false
is_given (Some e) = true

abbrev pub is_type_in : Option Entry → Bool
is_type_in None = false
is_type_in (Some e) = e.is_type

-- all that is known; a call is no constant, and counts nothing
abbrev pub told_of : List ℕ → List Word → List Entry → Told
told_of file words names = record {
  file = file;
  chunk = 0;
  text = text_at words;
  declared_before = λ token. is_given (entry_of names (text_at words token));
  constant = λ n. constant_in n.name (text_at words n.name) (entry_of names (text_at words n.name));
  is_type = λ n. is_type_in (entry_of names (text_at words n.name));
  ty = λ n. type_in n.name (text_at words n.name) (entry_of names (text_at words n.name));
  call = λ n arguments. Err (fault_at n.name C01);
  steps = λ n arguments. 0;
}
