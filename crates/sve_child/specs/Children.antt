-- What an instance leaves in its scope, and the child that it is (IEEE 1800-2017, 23.3).
use Rattle.std.specs.Prelude.{ℕ, Bool, List, Option, Some, None}
use Rattle.std.specs.List.{fold}
use Rattle.sve_bytes.specs.declared.path.Path.{Path}
use Rattle.sve_tree.specs.declared.item.Instance.{Instance}
use Rattle.sve_tree.specs.declared.token_word.Word.{Word}
use Rattle.sve_use.specs.Uses.{uses_of_arguments}
use Rattle.sve_spec.specs.declared.spec.FaceGiven.{FaceGiven}
use Rattle.sve_spec.specs.declared.spec.Spec.{Spec}
use Rattle.sve_facts.specs.declared.facts.Child.{Child}
use Rattle.sve_facts.specs.declared.facts.Port.{Port}
use Rattle.sve_known.specs.Packages.{Known}
use Rattle.sve_known.specs.Naming.{name_at}
use Rattle.sve_contents.specs.declared.contents.Contents.{Contents}
use Rattle.sve_used.specs.Used.{name_used}
use Rattle.sve_nested.specs.Blocks.{path_to}
use Rattle.sve_scope.specs.declared.declared.Declared.{Declared}
use Rattle.sve_instance.specs.Around.{seen_in}
use Rattle.sve_instance.specs.declared.connections.Connections.{Connections}
use Rattle.sve_instance.specs.Connections.{with_connections}
use Rattle.sve_instance.specs.Unknown.{with_unknown}
use Rattle.sve_child.specs.declared.children.Placed.{Placed}
use Rattle.sve_child.specs.Connecting.{names_connected}
use Rattle.sve_child.specs.Faces.{faces_given, pairs_said}

-- the child of this name, in the scope of a path
abbrev pub child_named : Path → Option (List ℕ) → Spec → ℕ → List (List ℕ) → Option Child
child_named path None spec token unconnected = None
child_named path (Some n) spec token unconnected = Some (record { path = path_to path n None; spec = spec; token = token; unconnected = unconnected })

-- behind what its connections leave
abbrev pub placed_as : List Word → Path → Spec → ℕ → Connections → Placed
placed_as ws path spec token left = record { contents = left.contents; child = child_named path (name_at ws token) spec token left.unconnected }

-- its interface ports are given what stands in their connections, and names with one member are looked at, which may be interfaces with modports
abbrev pub with_faces : Spec → List FaceGiven → Spec
with_faces spec faces = record spec { faces = faces }

abbrev pub placed_in : List Known → List Word → (Declared → List ℕ → Bool) → Path → Spec → List Port → Instance → Connections → Placed
placed_in packages ws modports path spec ports i left =
    placed_as ws path (with_faces spec (faces_given ws modports left.contents ports i left.pairs)) i.name (record left { contents = pairs_said packages ws modports ports i left.contents left.pairs })

-- where these packages are known
module _ (packages : List Known) (ws : List Word) where
  -- an instance of a specialization, whose ports are these, where these instances are those of interfaces with these modports
  abbrev pub with_child : (Declared → Option (List ℕ)) → (Declared → List ℕ → Bool) → Contents → Path → Spec → List Port → Instance → Placed
  with_child interfaces modports c path spec ports i = placed_in packages ws modports path spec ports i (with_connections (seen_in packages ws interfaces i.name) ws (names_connected packages ws interfaces c ports i) ports i)

  -- the names in the connections of an instance without a specialization are used
  abbrev pub connections_used : Contents → Instance → Contents
  connections_used c i = fold (name_used packages ws) c (uses_of_arguments i.connections)

  -- it is no child
  abbrev pub with_no_child : (Declared → Option (List ℕ)) → Contents → Instance → Contents
  with_no_child interfaces c i = with_unknown (seen_in packages ws interfaces i.name) ws (connections_used c i) i
