-- An element instantiates a name where the test says so.
use Rattle.std.proofs.Common.{◌≡◌, ℕ, true, List, [], ◌∷◌, Option, None, Some, nat_eq, refl, sym, ap, subst}
use Rattle.std.specs.Bool.{Decides}
use Rattle.std.specs.Cmp.Lexicographic.{pointwise}
use Rattle.std.specs.List.{Any, Contains, list_any}
use Rattle.std.proofs.lemmas.Bool.{eq-eqb}
use Rattle.std.proofs.lemmas.List.Folds.{Any-from_list_any, list_any-from_Any}
use Rattle.sve_table.proofs.Added.{same_name}
use Rattle.sve_mention.specs.declared.mention.Mention.{Mention}
use Rattle.sve_mention.specs.declared.mention.Mention.TheVariants.{Instance, EndLabel}
use Rattle.sve_mention.specs.InElements.{element_mentions}
use Rattle.sve_mention.proofs.Found.{nowhere, first, only, some_gives, given_by}
use Rattle.sve_mention.proofs.Instantiated.{mentions_are_instantiations}
use Rattle.sve_index.specs.declared.source.FileElement.{FileElement}
use Rattle.sve_index.specs.Sources.{element_in, words_in, name_at, listed}
use Rattle.sve_index.specs.Instances.{Instantiates, instantiated, instances_in, instantiates, is_instantiated}

pub listed_one : {X : Type 0} (o : Option X) (x : X) → Contains (listed o) x → o ≡ Some x
listed_one None x c = absurd (nowhere x c)
listed_one (Some y) x c = ap Some (only y x c)

pub one_listed : {X : Type 0} (o : Option X) (x : X) → o ≡ Some x → Contains (listed o) x
one_listed {X = X} o x e = subst (λ (p : Option X). Contains (listed p) x) (sym e) (first x [])

pub same_itself : (name : List ℕ) → pointwise nat_eq name name ≡ true
same_itself [] = refl
same_itself (b ∷ name) = let e : nat_eq b b ≡ true = eq-eqb b b refl in rw e (same_itself name)

among : (names : List (List ℕ)) (name : List ℕ) → Decides (list_any (λ n. pointwise nat_eq name n) names) (Contains names name)
among names name = (
  (λ e. let a = Any-from_list_any (λ n. pointwise nat_eq name n) names e in subst (λ (n : List ℕ). Contains names n) (sym (same_name name a.1 a.4)) (a.0, a.2, a.3)),
  (λ c. list_any-from_Any (λ n. pointwise nat_eq name n) names (c.0, name, c.1, c.2, same_itself name)),
)

instance_of : (source : FileElement) (name : List ℕ) → Contains (instances_in source) name → Instantiates source name
instance_of source name c = let s = some_gives (instantiated (words_in source)) (element_mentions (element_in source)) name c in by_mention s.0 s.1 s.2
  where
    by_mention : (m : Mention) → Contains (element_mentions (element_in source)) m → Contains (instantiated (words_in source) m) name → Instantiates source name
    by_mention (Instance token) a b = (token, (mentions_are_instantiations (element_in source) token).1 a, listed_one (name_at (words_in source) token) name b)
    by_mention (EndLabel named label) a b = absurd (nowhere name b)

in_instances : (source : FileElement) (name : List ℕ) → Instantiates source name → Contains (instances_in source) name
in_instances source name i =
    given_by (instantiated (words_in source)) (element_mentions (element_in source)) (Instance i.0) name
    ((mentions_are_instantiations (element_in source) i.0).0 i.1) (one_listed (name_at (words_in source) i.0) name i.2)

pub instantiates_told : (source : FileElement) (name : List ℕ) → Decides (instantiates name source) (Instantiates source name)
instantiates_told source name = (
  (λ e. instance_of source name ((among (instances_in source) name).0 e)),
  (λ i. (among (instances_in source) name).1 (in_instances source name i)),
)

pub is_instantiated_told : (sources : List FileElement) (name : List ℕ) → Decides (is_instantiated sources name) (Any (λ source. Instantiates source name) sources)
is_instantiated_told sources name = (
  (λ e. let a = Any-from_list_any (instantiates name) sources e in (a.0, a.1, a.2, a.3, (instantiates_told a.1 name).0 a.4)),
  (λ a. list_any-from_Any (instantiates name) sources (a.0, a.1, a.2, a.3, (instantiates_told a.1 name).1 a.4)),
)
