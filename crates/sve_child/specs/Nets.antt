-- Nets that are declared by their uses (IEEE 1800-2017, 6.10 and 22.8).
use Rattle.std.specs.Prelude.{ℕ, Bool, true, false, if◌then◌else◌, List, ◌∷◌, Option, Some, None, map}
use Rattle.sve_bytes.specs.declared.net_type.NetType.{NetType}
use Rattle.sve_bytes.specs.declared.net_type.NetType.TheVariants as is_net_type
use Rattle.sve_bytes.specs.declared.path.Path.{Path}
use Rattle.sve_tree.specs.declared.item.Instance.{Instance}
use Rattle.sve_tree.specs.declared.token_word.Word.{Word}
use Rattle.sve_type_rule.specs.Outcomes.{scalar}
use Rattle.sve_scope.specs.declared.declared.Declared.{Declared}
use Rattle.sve_scope.specs.declared.what.What.TheVariants as is_what
use Rattle.sve_scope.specs.Lookup.{Meaning, local, imported, two, nothing, looked_up}
use Rattle.sve_facts.specs.declared.facts.Port.{Port}
use Rattle.sve_known.specs.Packages.{Known}
use Rattle.sve_known.specs.Naming.{name_at}
use Rattle.sve_contents.specs.declared.contents.Contents.{Contents}
use Rattle.sve_scoped.specs.Said.{declared_at}
use Rattle.sve_instance.specs.Around.{seen_in, token_of_net}
use Rattle.sve_instance.specs.Connections.{connected_in}
use Rattle.sve_instance.specs.Unknown.{instance_nets}
use Rattle.sve_child.specs.declared.nets.Implied.{Implied}

-- ---- whether a name stands for something where it is used; of a token without a name nothing is to be declared

abbrev pub is_something : Meaning → Bool
is_something (local d) = true
is_something (imported p n through) = true
is_something (two p q) = true
is_something nothing = false

abbrev pub name_stands : Contents → ℕ → Option (List ℕ) → Bool
name_stands c token None = true
name_stands c token (Some n) = is_something (looked_up (c.scope ∷ c.around) n token)

abbrev pub stands_for_something : List Word → Contents → ℕ → Bool
stands_for_something ws c token = name_stands c token (name_at ws token)

-- ---- the net that a use declares

-- where `none` is in force nothing is declared
abbrev pub makes_nets : NetType → Bool
makes_nets is_net_type.None = false
makes_nets net = true

abbrev pub no_net : Contents → Implied
no_net c = record { contents = c; net = None }

-- a bit of four states, which is seen from its use on
abbrev pub net_named : List Word → Contents → Path → ℕ → Option (List ℕ) → Implied
net_named ws c path token None = no_net c
net_named ws c path token (Some n) = record {
  contents = declared_at ws c token (is_what.Net scalar) token;
  net = Some (record { scope = path; name = n; token = token });
}

-- the name at a token, in the scope of a path, where this net type is in force
abbrev pub implied_net : List Word → Contents → Path → ℕ → NetType → Implied
implied_net ws c path token net = if makes_nets net then net_named ws c path token (name_at ws token) else no_net c

-- ---- the tokens of the names in the connections of an instance that may declare nets, where these packages are known and these
-- instances are those of interfaces

module _ (packages : List Known) (ws : List Word) (interfaces : Declared → Option (List ℕ)) where
  -- of one whose specialization has these ports
  abbrev pub net_tokens : Contents → List Port → Instance → List ℕ
  net_tokens c ports i = map token_of_net (connected_in (seen_in packages ws interfaces i.name c) ports i).nets

  -- of one without a specialization
  abbrev pub net_tokens_of_none : Contents → Instance → List ℕ
  net_tokens_of_none c i = map token_of_net (instance_nets (seen_in packages ws interfaces i.name c) i)
