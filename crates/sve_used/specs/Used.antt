-- Names that are used where no constant stands: each stands for something, or is said (IEEE 1800-2017, 23.6, 23.9 and 26.3).
use Rattle.std.specs.Prelude.{ℕ, Bool, true, false, if◌then◌else◌, List, ◌∷◌, Option, Some, None, Result, Ok, Err}
use Rattle.sve_diag.specs.declared.code.Code.{Code}
use Rattle.sve_diag.specs.declared.code.Code.TheVariants.{E12, N01, N10}
use Rattle.sve_fault.specs.declared.fault.Fault.{Fault}
use Rattle.sve_fault.specs.declared.fault.Said.{Said}
use Rattle.sve_fault.specs.declared.fault.Said.TheVariants as is_said
use Rattle.sve_tree.specs.declared.expression.Postfix.{Postfix}
use Rattle.sve_tree.specs.declared.token_word.Word.{Word}
use Rattle.sve_env.specs.Told.{Told}
use Rattle.sve_use.specs.Use.{Called, Dotted, Named, Use, first_member, plain}
use Rattle.sve_scope.specs.declared.interface.InterfaceNames.{InterfaceNames}
use Rattle.sve_scope.specs.declared.what.Face.{Face}
use Rattle.sve_scope.specs.declared.what.What.{What}
use Rattle.sve_scope.specs.declared.what.What.TheVariants as is_what
use Rattle.sve_scope.specs.Interfaces.{gives}
use Rattle.sve_known.specs.Packages.{Known}
use Rattle.sve_known.specs.Naming.{name_at, named_fault, of_name}
use Rattle.sve_contents.specs.declared.contents.Contents.{Contents}
use Rattle.sve_contents.specs.declared.contents.DottedName.{DottedName}
use Rattle.sve_contents.specs.Reading.{with_dotted}
use Rattle.sve_contents.specs.Uses.{named_use, said_if, with_use}
use Rattle.sve_scoped.specs.Known.{told_in}
use Rattle.sve_used.specs.Steps.{dotted_path}

-- Where the first of several names stands for nothing, they are a hierarchical name. Around what packages and compilation units declare there is
-- nothing in which it could be found (23.6 and 23.8).
abbrev pub hierarchical_code : Code → Code
hierarchical_code N01 = N10
hierarchical_code code = code

abbrev pub hierarchical_said : Said → Said
hierarchical_said is_said.Nothing = is_said.Nothing
hierarchical_said (is_said.Here code arg) = is_said.Here (hierarchical_code code) arg
hierarchical_said (is_said.Elsewhere note) = is_said.Elsewhere note

abbrev pub hierarchical : Fault → Fault
hierarchical f = record { token = f.token; said = hierarchical_said f.said }

-- A member that an interface port does not give is said at its own token (25.3 and 25.5). Of a port that is connected to nothing that fits, it is not
-- known what it gives.
abbrev pub unless_given : Bool → ℕ → List ℕ → Option Fault
unless_given true token n = None
unless_given false token n = Some (named_fault token E12 n)

abbrev pub member_by : Option InterfaceNames → Option (List ℕ) → ℕ → List ℕ → Option Fault
member_by None modport token n = None
member_by (Some names) modport token n = unless_given (gives names modport n) token n

abbrev pub member_named : Face → ℕ → Option (List ℕ) → Option Fault
member_named face token None = None
member_named face token (Some n) = member_by face.names face.name.modport token n

abbrev pub unseen_by : List Word → What → ℕ → Option Fault
unseen_by ws (is_what.InterfacePort face) token = member_named face token (name_at ws token)
unseen_by ws what token = None

-- of what a name stands for, and of the token of the member behind it, where there is one
abbrev pub unseen_member : List Word → What → Option ℕ → Option Fault
unseen_member ws what None = None
unseen_member ws what (Some token) = unseen_by ws what token

-- what is wrong with the first of several names, or with the member behind it
abbrev pub wrong_dotted : List Word → Option ℕ → Result What Fault → Option Fault
wrong_dotted ws member (Ok what) = unseen_member ws what member
wrong_dotted ws member (Err fault) = Some (hierarchical fault)

-- ---- hierarchical names: their first name stands for nothing here, or for an instance or a generate block

abbrev pub is_unknown_code : Code → Bool
is_unknown_code N01 = true
is_unknown_code code = false

abbrev pub is_unknown : Said → Bool
is_unknown (is_said.Here code arg) = is_unknown_code code
is_unknown said = false

abbrev pub is_scope : What → Bool
is_scope is_what.Instance = true
is_scope is_what.Block = true
is_scope what = false

abbrev pub is_hierarchical : Result What Fault → Bool
is_hierarchical (Ok what) = is_scope what
is_hierarchical (Err fault) = is_unknown fault.said

abbrev pub dotted_if : Told → List Word → ℕ → List Postfix → Option (List ℕ) → Option DottedName
dotted_if m ws token postfixes None = None
dotted_if m ws token postfixes (Some n) = Some (record { token = token; name = dotted_path m ws n postfixes })

abbrev pub dotted_where : Bool → Told → List Word → ℕ → List Postfix → Option DottedName
dotted_where kept m ws token postfixes = if kept then dotted_if m ws token postfixes (name_at ws token) else None

abbrev pub dotted_name : Told → List Word → ℕ → List Postfix → Result What Fault → Option DottedName
dotted_name m ws token postfixes found = dotted_where (is_hierarchical found) m ws token postfixes

abbrev pub with_dotted_if : Contents → Option DottedName → Contents
with_dotted_if c None = c
with_dotted_if c (Some name) = with_dotted c name

-- Behind the use of a name with members behind it: what is wrong with it is said, and it is kept where it is a hierarchical one.
abbrev pub used_as : List Word → Contents → ℕ → Option Fault → Option DottedName → Contents
used_as ws c token fault name = with_use (said_if (with_dotted_if c name) fault) token (name_at ws token)

module _ (packages : List Known) (ws : List Word) where
  -- of a name with members behind it the first name is sought, and in an interface port the member
  abbrev pub first_found : Contents → ℕ → Result What Fault
  first_found c token = of_name packages ws (c.scope ∷ c.around) (plain token)

  abbrev pub dotted_use : Contents → ℕ → List Postfix → Contents
  dotted_use c token postfixes =
      used_as ws c token (wrong_dotted ws (first_member postfixes) (first_found c token)) (dotted_name (told_in packages ws c) ws token postfixes (first_found c token))

  abbrev pub name_used : Contents → Use → Contents
  name_used c (Named name) = named_use packages ws c name
  name_used c (Called name) = named_use packages ws c name
  name_used c (Dotted token postfixes) = dotted_use c token postfixes
