-- The instances of a body (IEEE 1800-2017, 23.3 and 23.10).
use Rattle.std.specs.Prelude.{ℕ, List, Option}
use Rattle.sve_diag.specs.declared.code.Code.TheVariants.{N09}
use Rattle.sve_tree.specs.declared.element.Element.{Element}
use Rattle.sve_tree.specs.declared.item.Instance.{Instance}
use Rattle.sve_tree.specs.declared.item.Overrides.{Overrides}
use Rattle.sve_index.specs.declared.whole.Index.{Index}
use Rattle.sve_spec.specs.declared.spec.Spec.{Spec}
use Rattle.sve_facts.specs.declared.facts.Port.{Port}
use Rattle.sve_plan.specs.Plan.{Counted}
use Rattle.sve_scoped.specs.Known.{told_in}
use Rattle.sve_nested.specs.Blocks.{inner_path}
use Rattle.sve_override.specs.declared.overridden.Overridden.{Overridden}
use Rattle.sve_override.specs.declared.specializing.Specialized.{Specialized}
use Rattle.sve_override.specs.Overrides.{with_overrides}
use Rattle.sve_override.specs.Specializations.{with_specialization}
use Rattle.sve_child.specs.declared.children.Placed.{Placed}
use Rattle.sve_child.specs.Children.{with_child, with_no_child}
use Rattle.sve_child.specs.Definitions.{place_named}
use Rattle.sve_child.specs.Saying.{token_said}
use Rattle.sve_child.specs.Nets.{net_tokens, net_tokens_of_none}
use Rattle.sve_body.specs.declared.place.Place.{Place}
use Rattle.sve_elaboration.specs.State.{Found}
use Rattle.sve_elaboration.specs.Scopes.{contents_of, costing, interfaces_of, modports_of, packages_of, with_contents, words_of}
use Rattle.sve_elaboration.specs.Names.{and_one}

-- ---- an instantiation: its overrides are kept for its instances

abbrev pub with_overridden : Found → Overridden → Found
with_overridden s o = record (with_contents s o.contents) { overrides = o.overrides }

abbrev pub overrides_in : Option Overrides → Found → Counted Found
overrides_in o s = costing (with_overridden s) (with_overrides (told_in (packages_of s) (words_of s)) (words_of s) (contents_of s) o)

abbrev pub definition_in : Index → ℕ → Found → Option Place
definition_in index token s = place_named index (words_of s) token

abbrev pub undefined_in : ℕ → Found → Found
undefined_in token s = with_contents s (token_said (words_of s) N09 (contents_of s) token)

-- ---- its instances

abbrev pub with_specialized : Found → Specialized → Option Spec × Found
with_specialized s found = (found.spec, with_contents s found.contents)

abbrev pub specialized_by : ℕ → Option Element → Instance → Found → Option Spec × Found
specialized_by definition element i s = with_specialized s (with_specialization (words_of s) (contents_of s) s.overrides definition element i)

abbrev pub connection_tokens_in : List Port → Instance → Found → List ℕ
connection_tokens_in ports i s = net_tokens (packages_of s) (words_of s) (interfaces_of s) (contents_of s) ports i

abbrev pub with_placed : Found → Placed → Found
with_placed s p = record (with_contents s p.contents) { children = and_one s.children p.child }

abbrev pub child_in : Spec → List Port → Instance → Found → Found
child_in spec ports i s = with_placed s (with_child (packages_of s) (words_of s) (interfaces_of s) (modports_of s) (contents_of s) (inner_path s.nested) spec ports i)

abbrev pub unknown_tokens_in : Instance → Found → List ℕ
unknown_tokens_in i s = net_tokens_of_none (packages_of s) (words_of s) (interfaces_of s) (contents_of s) i

abbrev pub unknown_in : Instance → Found → Found
unknown_in i s = with_contents s (with_no_child (packages_of s) (words_of s) (interfaces_of s) (contents_of s) i)
