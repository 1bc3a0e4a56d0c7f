-- The specialization of an instance (IEEE 1800-2017, 23.10). Interface ports are given nothing here.
use Rattle.std.specs.Prelude.{ℕ, Bool, false, if◌then◌else◌, List, [], Option, Some, None, is_some}
use Rattle.sve_tree.specs.declared.token_word.Word.{Word}
use Rattle.sve_tree.specs.declared.element.Element.{Element}
use Rattle.sve_tree.specs.declared.item.Instance.{Instance}
use Rattle.sve_spec.specs.declared.given.Given.{Given}
use Rattle.sve_spec.specs.declared.spec.Spec.{Spec}
use Rattle.sve_scope.specs.Scopes.{declaration_of}
use Rattle.sve_known.specs.Naming.{name_at}
use Rattle.sve_contents.specs.declared.contents.Contents.{Contents}
use Rattle.sve_contents.specs.Reading.{noted_all}
use Rattle.sve_param.specs.declared.overriding.Override.{Override}
use Rattle.sve_param.specs.declared.giving.Gives.{Gives}
use Rattle.sve_param.specs.Giving.{given_by}
use Rattle.sve_override.specs.declared.specializing.Specialized.{Specialized}

-- the scope itself has declared a name
abbrev pub has_declared : Contents → Option (List ℕ) → Bool
has_declared c None = false
has_declared c (Some n) = is_some (declaration_of n c.scope.declared)

abbrev pub is_again : List Word → Contents → ℕ → Bool
is_again ws c token = has_declared c (name_at ws token)

abbrev pub spec_named : Option (List ℕ) → List Given → Option Spec
spec_named None given = None
spec_named (Some n) given = Some (record { definition = n; values = given; faces = [] })

abbrev pub unspecialized : Contents → Specialized
unspecialized c = record { contents = c; spec = None }

-- by what its parameters are given
abbrev pub specialized_by : List Word → Contents → ℕ → Gives → Specialized
specialized_by ws c definition g = record { contents = noted_all c g.notes; spec = spec_named (name_at ws definition) g.given }

-- An instance that declares the name of another thing once more has none, nor has one of a definition without a text.
abbrev pub with_specialization : List Word → Contents → List Override → ℕ → Option Element → Instance → Specialized
with_specialization ws c overrides definition None i = unspecialized c
with_specialization ws c overrides definition (Some e) i =
    if is_again ws c i.name then unspecialized c else specialized_by ws c definition (given_by e overrides c.scope.file c.scope.chunk i.name)
