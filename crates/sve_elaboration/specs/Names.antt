-- Names that are used in a body, and nets that uses declare (IEEE 1800-2017, 6.10, 23.6 and 23.9).
use Rattle.std.specs.Prelude.{ℕ, Bool, ◌++◌, List, [], ◌∷◌, Option, Some, None}
use Rattle.sve_bytes.specs.declared.net_type.NetType.{NetType}
use Rattle.sve_fault.specs.declared.fault.Fault.{Fault}
use Rattle.sve_use.specs.Use.{Use}
use Rattle.sve_statement_use.specs.Steps.{Local}
use Rattle.sve_contents.specs.Reading.{said}
use Rattle.sve_used.specs.Used.{name_used}
use Rattle.sve_scoped.specs.Known.{told_in}
use Rattle.sve_local.specs.Steps.{done}
use Rattle.sve_count.specs.Statements.{local_nodes}
use Rattle.sve_nested.specs.Blocks.{inner_path}
use Rattle.sve_child.specs.declared.nets.Implied.{Implied}
use Rattle.sve_child.specs.Nets.{implied_net, stands_for_something}
use Rattle.sve_elaboration.specs.State.{Found}
use Rattle.sve_elaboration.specs.Scopes.{contents_of, known_in, packages_of, with_contents, words_of}

abbrev pub said_in : Fault → Found → Found
said_in fault s = with_contents s (said (contents_of s) fault)

abbrev pub used_in : Use → Found → Found
used_in name s = with_contents s (name_used (packages_of s) (words_of s) (contents_of s) name)

abbrev pub is_declared_in : ℕ → Found → Bool
is_declared_in token s = stands_for_something (words_of s) (contents_of s) token

-- one thing more, where there is one
abbrev pub and_one : {X : Type 0} → List X → Option X → List X
and_one xs None = xs
and_one xs (Some x) = xs ++ x ∷ []

abbrev pub with_implied : Found → Implied → Found
with_implied s i = record (with_contents s i.contents) { nets = and_one s.nets i.net }

-- a net that a use declares, of the net type in force there; where that is none, there is none, and the use says so
abbrev pub implied_in : ℕ → NetType → Found → Found
implied_in token net s = with_implied s (implied_net (words_of s) (contents_of s) (inner_path s.nested) token net)

-- the scopes of statements, and what is declared there; what evaluating there costs
abbrev pub local_in : Local → Found → Found
local_in local s = with_contents s (done (told_in (packages_of s) (words_of s)) (name_used (packages_of s) (words_of s)) (words_of s) (contents_of s) local)

abbrev pub local_nodes_in : Local → Found → ℕ
local_nodes_in local s = local_nodes (known_in s) local
