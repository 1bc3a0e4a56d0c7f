-- The tops that the index lists are those that the relation names.
use Rattle.std.proofs.Common.{◌≡◌, ◌∙◌, ◌↔◌, inl, inr, ℕ, Bool, true, false, cond, not, ◌&&◌, List, [], ◌∷◌, ◌++◌, Option, None, Some, nat_eq, refl, sym, ap, subst, append_assoc}
use Rattle.std.specs.Prelude.{if◌then◌else◌}
use Rattle.std.specs.Global.{Box}
use Rattle.std.specs.Bool.{Decides}
use Rattle.std.specs.Cmp.Lexicographic.{pointwise}
use Rattle.std.specs.List.{Any, Contains, filter, flat_map, list_any}
use Rattle.std.proofs.lemmas.Bool.Decides.{Decides-not, Decides-at}
use Rattle.std.proofs.lemmas.List.{append-nil}
use Rattle.std.proofs.lemmas.List.Elements.{Contains-append_cases, Contains-append_left, Contains-append_right}
use Rattle.std.proofs.lemmas.List.Folds.{Any-from_list_any, list_any-from_Any}
use Rattle.sve_table.proofs.Added.{same_name}
use Rattle.sve_tree.specs.declared.element.Definition.{Definition}
use Rattle.sve_tree.specs.declared.element.Design.{Design}
use Rattle.sve_tree.specs.declared.element.Design.TheVariants as is_design
use Rattle.sve_mention.specs.Defaults.{LacksDefault}
use Rattle.sve_mention.specs.InElements.{lacks_default}
use Rattle.sve_mention.proofs.Found.{nowhere, first, later, first_or_later, only, some_gives, given_by}
use Rattle.sve_mention.proofs.Ports.{lacking_told}
use Rattle.sve_index.specs.declared.def.Def.{Def}
use Rattle.sve_index.specs.declared.source.FileElement.{FileElement}
use Rattle.sve_index.specs.Sources.{element_in, words_in, name_at, called, listed}
use Rattle.sve_index.specs.Defs.{def_name, def_of, defs_at, defs_named, is_new, new_at, new_named}
use Rattle.sve_index.specs.Designs.{definition_token, may_be_top, definitions_in}
use Rattle.sve_index.specs.Instances.{Instantiates, is_instantiated}
use Rattle.sve_index.specs.Gathered.{roots_in}
use Rattle.sve_index.specs.Whole.{roots_of, index_of}
use Rattle.sve_index.specs.Tops.{Defines, StandsAlone, IsTop}
use Rattle.sve_index.proofs.Folded.{some_found}
use Rattle.sve_index.proofs.Instantiated.{listed_one, one_listed, same_itself, is_instantiated_told}

-- ---- what passes a test

passed : {X : Type 0} (p : X → Bool) (xs : List X) (x : X) → Contains (filter p xs) x → Contains xs x × (p x ≡ true)
passed p [] x c = absurd (nowhere x c)
passed {X = X} p (y ∷ xs) x c =
    elim (p y) as (λ v. p y ≡ v → Contains (cond v (y ∷ filter p xs) (filter p xs)) x → Contains (y ∷ xs) x × (p x ≡ true)) [
      | true ↦ λ e d. elim (first_or_later y (filter p xs) x d) [
        | inl q ↦ (subst (λ (z : X). Contains (y ∷ xs) z) q (first y xs), subst (λ (z : X). p z ≡ true) q e)
        | inr r ↦ let k = passed p xs x r in (later y xs x k.0, k.1)
      ]
      | false ↦ λ e d. let k = passed p xs x d in (later y xs x k.0, k.1)
    ] refl c

passes : {X : Type 0} (p : X → Bool) (xs : List X) (x : X) → Contains xs x → p x ≡ true → Contains (filter p xs) x
passes p [] x c e = absurd (nowhere x c)
passes {X = X} p (y ∷ xs) x c e =
    elim (p y) as (λ v. p y ≡ v → Contains (cond v (y ∷ filter p xs) (filter p xs)) x) [
      | true ↦ λ t. elim (first_or_later y xs x c) [
        | inl q ↦ subst (λ (z : X). Contains (y ∷ filter p xs) z) q (first y (filter p xs))
        | inr r ↦ later y (filter p xs) x (passes p xs x r e)
      ]
      | false ↦ λ t. elim (first_or_later y xs x c) [
        | inl q ↦ let h : false ≡ true = sym t ∙ ap p q ∙ e in absurd (cc)
        | inr r ↦ passes p xs x r e
      ]
    ] refl

none_of : {X : Type 0} (P : X → Type 0) (xs : List X) → (Any P xs → ⊥) → (x : X) → Contains xs x → P x → ⊥
none_of P xs n x c p = n (c.0, x, c.1, c.2, p)

not_any : {X : Type 0} (P : X → Type 0) (xs : List X) → ((x : X) → Contains xs x → P x → ⊥) → Any P xs → ⊥
not_any P xs h a = h a.1 (a.0, a.2, a.3) a.4

-- ---- names that are new

def_named : (source : FileElement) (name : Option (List ℕ)) (d : Def) → Contains (defs_named source name) d → name ≡ Some d.name
def_named source None d c = absurd (nowhere d c)
def_named source (Some name) d c = ap (λ (e : Def). Some e.name) (only (def_of source name) d c)

def_called : (source : FileElement) (token : Option ℕ) (d : Def) → Contains (defs_at source token) d → called (words_in source) token ≡ Some d.name
def_called source None d c = absurd (nowhere d c)
def_called source (Some token) d c = def_named source (name_at (words_in source) token) d c

named_def : (source : FileElement) (token : Option ℕ) (name : List ℕ) → called (words_in source) token ≡ Some name → Contains (defs_at source token) (def_of source name)
named_def source None name e = absurd (cc)
named_def source (Some token) name e = subst (λ (o : Option (List ℕ)). Contains (defs_named source o) (def_of source name)) (sym e) (first (def_of source name) [])

defined_told : (sources : List FileElement) (name : List ℕ) → Decides (list_any (λ d. pointwise nat_eq name (def_name d)) (flat_map definitions_in sources)) (Any (λ source. Defines source name) sources)
defined_told sources name = (
  (λ e.
      let a = Any-from_list_any (λ d. pointwise nat_eq name (def_name d)) (flat_map definitions_in sources) e in
      let s = some_gives definitions_in sources a.1 (a.0, a.2, a.3) in
      let same : name ≡ a.1.name = same_name name a.1.name a.4 in
      (s.1.0, s.0, s.1.1, s.1.2, def_called s.0 (definition_token (element_in s.0).design) a.1 s.2 ∙ ap Some (sym same))),
  (λ a.
      let c = given_by definitions_in sources a.1 (def_of a.1 name) (a.0, a.2, a.3) (named_def a.1 (definition_token (element_in a.1).design) name a.4) in
      list_any-from_Any (λ d. pointwise nat_eq name (def_name d)) (flat_map definitions_in sources) (c.0, def_of a.1 name, c.1, c.2, same_itself name)),
)

new_told : (sources : List FileElement) (name : List ℕ) → Decides (is_new (flat_map definitions_in sources) name) (Any (λ source. Defines source name) sources → ⊥)
new_told sources name =
    let defs = flat_map definitions_in sources in
    Decides-at (is_new defs name) (not (list_any (λ d. pointwise nat_eq name (def_name d)) defs)) (ap not (some_found (λ (d : Def). pointwise nat_eq name (def_name d)) defs))
    (Decides-not (list_any (λ d. pointwise nat_eq name (def_name d)) defs) (defined_told sources name))

new_where_called : (known : List Def) (source : FileElement) (token : Option ℕ) (name : List ℕ) → called (words_in source) token ≡ Some name → new_at known source token ≡ is_new known name
new_where_called known source None name e = cc
new_where_called known source (Some token) name e = ap (new_named known) e

-- ---- modules that stand alone

alone_told : (design : Option Design) → Decides (may_be_top design) (StandsAlone design)
alone_told None = ((λ e. absurd (cc)), (λ a. let h : None ≡ Some (is_design.Module a.0 a.1) = a.2 in cc))
alone_told (Some (is_design.Module keyword definition)) =
    let told = Decides-not (lacks_default definition.value) (lacking_told definition.value) in (
      (λ e. (keyword, definition, refl, told.0 e)),
      (λ a.
          let h : Some (is_design.Module keyword definition) ≡ Some (is_design.Module a.0 a.1) = a.2 in
          let same : definition ≡ a.1 = cc in
          told.1 (λ l. a.3 (subst (λ (d : Box Definition). LacksDefault d.value) same l))),
    )
alone_told (Some (is_design.Interface keyword definition)) = ((λ e. absurd (cc)), (λ a. let h : Some (is_design.Interface keyword definition) ≡ Some (is_design.Module a.0 a.1) = a.2 in cc))
alone_told (Some (is_design.Package unit)) = ((λ e. absurd (cc)), (λ a. let h : Some (is_design.Package unit) ≡ Some (is_design.Module a.0 a.1) = a.2 in cc))

-- ---- roots

both_true : (a b : Bool) (names : List (List ℕ)) (name : List ℕ) → Contains (if a && b then names else []) name → (a ≡ true) × (b ≡ true) × Contains names name
both_true true true names name c = (refl, refl, c)
both_true true false names name c = absurd (nowhere name c)
both_true false b names name c = absurd (nowhere name c)

where_both : (a b : Bool) (names : List (List ℕ)) (name : List ℕ) → a ≡ true → b ≡ true → Contains names name → Contains (if a && b then names else []) name
where_both true true names name p q c = c
where_both true false names name p q c = absurd (cc)
where_both false b names name p q c = absurd (cc)

-- an element is the first that defines a name, and its module stands alone
record IsRoot (before : List FileElement) (source : FileElement) (name : List ℕ) : Type 0 where
  defines : Defines source name
  fresh : is_new (flat_map definitions_in before) name ≡ true
  allowed : may_be_top (element_in source).design ≡ true

root_told : (before : List FileElement) (source : FileElement) (name : List ℕ) → Contains (roots_in (flat_map definitions_in before) source) name → IsRoot before source name
root_told before source name c =
    let token = definition_token (element_in source).design in
    let known = flat_map definitions_in before in
    let b = both_true (new_at known source token) (may_be_top (element_in source).design) (listed (called (words_in source) token)) name c in
    let d : Defines source name = listed_one (called (words_in source) token) name b.2 in
    record { defines = d; fresh = sym (new_where_called known source token name d) ∙ b.0; allowed = b.1 }

told_root : (before : List FileElement) (source : FileElement) (name : List ℕ) → IsRoot before source name → Contains (roots_in (flat_map definitions_in before) source) name
told_root before source name r =
    let token = definition_token (element_in source).design in
    let known = flat_map definitions_in before in
    where_both (new_at known source token) (may_be_top (element_in source).design) (listed (called (words_in source) token)) name
    (new_where_called known source token name r.defines ∙ r.fresh) r.allowed (one_listed (called (words_in source) token) name r.defines)

-- a root among elements that stand behind others
record Parted (before sources : List FileElement) (name : List ℕ) : Type 0 where
  front : List FileElement
  source : FileElement
  behind : List FileElement
  stands : sources ≡ front ++ source ∷ behind
  root : Contains (roots_in (flat_map definitions_in (before ++ front)) source) name

roots_parted : (before sources : List FileElement) (name : List ℕ) → Contains (roots_of before sources) name → Parted before sources name
roots_parted before [] name c = absurd (nowhere name c)
roots_parted before (source ∷ sources) name c = elim (Contains-append_cases (roots_in (flat_map definitions_in before) source) (roots_of (before ++ source ∷ []) sources) name c) [
  | inl a ↦ record { front = []; source = source; behind = sources; stands = refl; root = subst (λ (b : List FileElement). Contains (roots_in (flat_map definitions_in b) source) name) (sym (append-nil before)) a }
  | inr b ↦ let r = roots_parted (before ++ source ∷ []) sources name b in
      record { front = source ∷ r.front; source = r.source; behind = r.behind; stands = ap (λ (l : List FileElement). source ∷ l) r.stands; root = subst (λ (b : List FileElement). Contains (roots_in (flat_map definitions_in b) r.source) name) (append_assoc before (source ∷ []) r.front) r.root }
]

roots_joined : (before front : List FileElement) (source : FileElement) (behind : List FileElement) (name : List ℕ) → Contains (roots_in (flat_map definitions_in (before ++ front)) source) name → Contains (roots_of before (front ++ source ∷ behind)) name
roots_joined before [] source behind name c =
    Contains-append_left (roots_in (flat_map definitions_in before) source) (roots_of (before ++ source ∷ []) behind) name
    (subst (λ (b : List FileElement). Contains (roots_in (flat_map definitions_in b) source) name) (append-nil before) c)
roots_joined before (x ∷ front) source behind name c =
    Contains-append_right (roots_in (flat_map definitions_in before) x) (roots_of (before ++ x ∷ []) (front ++ source ∷ behind)) name
    (roots_joined (before ++ x ∷ []) front source behind name
    (subst (λ (b : List FileElement). Contains (roots_in (flat_map definitions_in b) source) name) (sym (append_assoc before (x ∷ []) front)) c))

-- ---- tops

uninstantiated : (sources : List FileElement) (name : List ℕ) → Decides (not (is_instantiated sources name)) (Any (λ source. Instantiates source name) sources → ⊥)
uninstantiated sources name = Decides-not (is_instantiated sources name) (is_instantiated_told sources name)

listed_top : (sources : List FileElement) (name : List ℕ) → Contains (index_of sources).tops name → IsTop sources name
listed_top sources name c =
    let k = passed (λ n. not (is_instantiated sources n)) (roots_of [] sources) name c in
    let p = roots_parted [] sources name k.0 in
    let r = root_told p.front p.source name p.root in
    record {
      before = p.front;
      source = p.source;
      behind = p.behind;
      stands = p.stands;
      defines = r.defines;
      is_first = none_of (λ (s : FileElement). Defines s name) p.front ((new_told p.front name).0 r.fresh);
      alone = (alone_told (element_in p.source).design).0 r.allowed;
      no_instance = none_of (λ (s : FileElement). Instantiates s name) sources ((uninstantiated sources name).0 k.1);
    }

top_listed : (sources : List FileElement) (name : List ℕ) → IsTop sources name → Contains (index_of sources).tops name
top_listed sources name t =
    let root : IsRoot t.before t.source name = record {
      defines = t.defines;
      fresh = (new_told t.before name).1 (not_any (λ (s : FileElement). Defines s name) t.before t.is_first);
      allowed = (alone_told (element_in t.source).design).1 t.alone;
    } in
    passes (λ n. not (is_instantiated sources n)) (roots_of [] sources) name
    (subst (λ (l : List FileElement). Contains (roots_of [] l) name) (sym t.stands) (roots_joined [] t.before t.source t.behind name (told_root t.before t.source name root)))
    ((uninstantiated sources name).1 (not_any (λ (s : FileElement). Instantiates s name) sources t.no_instance))

pub tops_told : (sources : List FileElement) (name : List ℕ) → Contains (index_of sources).tops name ↔ IsTop sources name
tops_told sources name = ((λ c. listed_top sources name c), (λ t. top_listed sources name t))
