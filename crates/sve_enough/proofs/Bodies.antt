-- With so much fuel as four times its tokens an element without a generate loop is not too much.
use Rattle.std.proofs.Common.{ℕ, ◌*◌, ◌≤◌, ◌≡◌, List, [], ◌++◌, Option, Some, None, refl, ap, sym, subst, ◌∙◌, arith}
use Rattle.std.specs.List.{All, range_with_len}
use Rattle.sve_tree.specs.Shape.{optional_tree}
use Rattle.sve_tree.specs.Declarations.{header_tree}
use Rattle.sve_tree.specs.Elements.{definition_of, definition_tree, design_tree, element_definition, element_tree}
use Rattle.sve_tree.specs.declared.element.Definition.{Definition}
use Rattle.sve_tree.specs.declared.element.Design.{Design}
use Rattle.sve_tree.specs.declared.element.Design.TheVariants as is_design
use Rattle.sve_tree.specs.declared.element.Element.{Element}
use Rattle.sve_tree.specs.declared.header.Header.{Header}
use Rattle.sve_tree.specs.declared.item.Item.{Item}
use Rattle.sve_tree.specs.declared.token_word.Word.{Word}
use Rattle.sve_fault.specs.Counts.{counted_on}
use Rattle.sve_index.specs.declared.def.Def.{Def}
use Rattle.sve_index.specs.declared.whole.Index.{Index}
use Rattle.sve_index.specs.Defs.{def_name}
use Rattle.sve_table.specs.Tables.{item_of}
use Rattle.sve_spec.specs.declared.spec.FaceGiven.{FaceGiven}
use Rattle.sve_spec.specs.declared.spec.Spec.{Spec}
use Rattle.sve_scope.specs.declared.interface.InterfaceNames.{InterfaceNames}
use Rattle.sve_spec.specs.declared.given.Given.{Given}
use Rattle.sve_facts.specs.Facts.{no_facts}
use Rattle.sve_imports.specs.Naming.{own_words, packages_in, unit_words}
use Rattle.sve_known.specs.Packages.{Known}
use Rattle.sve_known.specs.Naming.{name_at}
use Rattle.sve_contents.specs.declared.contents.Contents.{Contents}
use Rattle.sve_told.specs.Told.{Told}
use Rattle.sve_plan.specs.Plan.{Ask, Give, Needs, Outcome, Over, Plan, Spend, and_then, answered, each, run}
use Rattle.sve_plan.proofs.Runs.{within_goes}
use Rattle.sve_look.specs.Questions.{ElementOf, IndexOf, PackageOf, Reply}
use Rattle.sve_body.specs.Body.{body}
use Rattle.sve_body.specs.Budget.{body_tokens}
use Rattle.sve_body.proofs.AtMost.{CostsAtMost, at_most_asked, at_most_either, at_most_last, at_most_none, not_over}
use Rattle.sve_body.proofs.Budget.{body_costs}
use Rattle.sve_unit_scope.specs.Elements.{ChunkElement, element_of, elements_before, with_element}
use Rattle.sve_unit_scope.specs.Packages.{is_sought, packages_named, with_facts, with_package, with_packages, with_unit_packages}
use Rattle.sve_design_kinds.specs.declared.kinds.KnownDesign.{KnownDesign}
use Rattle.sve_design_kinds.specs.Names.{header_names}
use Rattle.sve_design_kinds.specs.Kinds.{asked_at, sought, with_element as and_element, with_name, with_token}
use Rattle.sve_design_kinds.specs.Designs.{Designs, designs_by, designs_named}
use Rattle.sve_elaboration.specs.Ends.{begun_body, facts_of}
use Rattle.sve_elaboration.specs.Elaborating.{elaborating}
use Rattle.sve_elaborate.specs.Bodies.{at_place, body_in, elaborated, elaborated_to, in_designs, instantiations_to, items_to, of_definition, of_element, own_to, within}
use Rattle.sve_outline.specs.Outline.{IsWhole}
use Rattle.sve_enough.specs.Enough.{DefinitionHasNoLoop, HasNoLoop, IsEnough, IsTold, IsToldAt}
use Rattle.sve_enough.proofs.Counts.{count, counted}
use Rattle.sve_enough.proofs.Costs.{steps_within}
use Rattle.sve_enough.proofs.Items.{body_modest, items_tokens}

-- ---- plans in general

none_costs : {Q X : Type 0} (A : Q → Type 0) (x : X) → CostsAtMost {A = A} 0 (Give x)
unfolding CostsAtMost
none_costs A x = tt

not_given : {Q : Type 0} {A : Q → Type 0} {X : Type 0} (told : Told A) (fuel : ℕ) (x : X) → run told fuel 0 (Give x) ≡ Over → ⊥
unfolding run
not_given told fuel x over = absurd (cc)

not_answered : {Q X B : Type 0} (q : Q) (o : Option B) (f : B → Outcome Q X) → ((answer : B) → o ≡ Some answer → f answer ≡ Over → ⊥) → answered o (Needs q) f ≡ Over → ⊥
not_answered q None f go over = absurd (cc)
not_answered q (Some answer) f go over = go answer refl over

-- behind what costs nothing
not_behind : {Q : Type 0} {A : Q → Type 0} {X Y : Type 0} (told : Told A) (fuel : ℕ) (plan : Plan A X) (next : X → Plan A Y) → CostsAtMost 0 plan → ((x : X) → run told fuel 0 (next x) ≡ Over → ⊥) → run told fuel 0 (and_then plan next) ≡ Over → ⊥
unfolding CostsAtMost run and_then
not_behind told fuel (Give x) next costs further over = further x over
not_behind told fuel (Ask q go) next costs further over = not_answered q (told q) (λ answer. run told fuel 0 (and_then (go answer) next)) (λ answer is. not_behind told fuel (go answer) next (costs answer) further) over
not_behind told fuel (Spend k rest) next costs further over =
    let fits = costs.1 in let zero : counted_on 0 k ≡ 0 = omega arith in let none : costs.0 ≡ 0 = omega arith in let small : counted_on 0 k ≤ fuel = omega arith in
    not_behind told fuel rest next (subst (λ n. CostsAtMost n rest) none costs.2) further
    (subst (λ n. run told fuel n (and_then rest next) ≡ Over) zero (sym (within_goes fuel (counted_on 0 k) Over (λ more. run told fuel more (and_then rest next)) small) ∙ over))

-- behind a question
not_asked : {Q : Type 0} {A : Q → Type 0} {Y : Type 0} (told : Told A) (fuel : ℕ) (q : Q) (next : A q → Plan A Y) → ((answer : A q) → told q ≡ Some answer → run told fuel 0 (next answer) ≡ Over → ⊥) → run told fuel 0 (and_then (Ask q (λ answer. Give answer)) next) ≡ Over → ⊥
unfolding run and_then
not_asked told fuel q next go over = not_answered q (told q) (λ answer. run told fuel 0 (next answer)) go over

-- ---- what stands around a body costs nothing

elements_cost : (file : List ℕ) (chunk : ℕ) → CostsAtMost 0 (elements_before file chunk)
elements_cost file chunk = at_most_none (element_of file) (range_with_len 0 chunk) [] (λ n es. at_most_asked 0 (ElementOf file n) (λ e. Give (with_element es n e)) (λ e. none_costs Reply (with_element es n e)))

packages_cost : (index : Index) (names : List (List ℕ)) (known : List Known) → CostsAtMost 0 (with_packages index names known)
packages_cost index names known =
    at_most_none (with_package index) names known (λ n k. at_most_either 0 (is_sought index k n) _ (Give k) (at_most_asked 0 (PackageOf n) (λ facts. Give (with_facts k n facts)) (λ facts. none_costs Reply (with_facts k n facts))) (none_costs Reply k))

named_cost : (index : Index) (es : List ChunkElement) (own : Element) → CostsAtMost 0 (packages_named index es own)
named_cost index es own =
    at_most_last 0 (each (with_unit_packages index) es []) (with_packages index (packages_in (own_words own)))
    (at_most_none (with_unit_packages index) es [] (λ e known. packages_cost index (packages_in (unit_words e.element)) known)) (packages_cost index (packages_in (own_words own)))

asked_cost : (n : List ℕ) (o : Option Def) (known : List KnownDesign) → CostsAtMost 0 (asked_at n o known)
asked_cost n None known = none_costs Reply known
asked_cost n (Some def) known = at_most_asked 0 (ElementOf def.file def.chunk) (λ e. Give (and_element known n e)) (λ e. none_costs Reply (and_element known n e))

name_cost : (index : Index) (o : Option (List ℕ)) (known : List KnownDesign) → CostsAtMost 0 (with_name index o known)
name_cost index None known = none_costs Reply known
name_cost index (Some n) known = asked_cost n (sought index known n) known

designs_cost : (index : Index) (ws : List Word) (h : Header) (instantiations : List ℕ) (own : Option InterfaceNames) (given : List FaceGiven) → CostsAtMost 0 (designs_named index ws h instantiations own given)
designs_cost index ws h instantiations own given =
    at_most_last 0 (each (with_token index ws) (header_names h ++ instantiations) []) (λ kinds. Give (designs_by ws instantiations own given kinds))
    (at_most_none (with_token index ws) (header_names h ++ instantiations) [] (λ token known. name_cost index (name_at ws token) known)) (λ kinds. none_costs Reply (designs_by ws instantiations own given kinds))

-- ---- a body of which all items are gone over

body_within : (extent : _) → ((d : Definition) → items_to extent d ≡ d.items.items) → (told : Told Reply) (fuel : ℕ) (packages : List Known) (ws : List Word) (designs : Designs) (given : List Given) (c : Contents) (d : Definition) → IsWhole (definition_tree d) → All HasNoLoop d.items.items → 4 * count (definition_tree d) ≤ fuel → run told fuel 0 (body_in extent packages ws designs given c d) ≡ Over → ⊥
unfolding body_in
body_within extent whole told fuel packages ws designs given c d w l enough over =
    let s = begun_body packages ws designs given c d in
    let over_all : run told fuel 0 (and_then (body elaborating d.header d.items.items s) (λ t. Give (facts_of t))) ≡ Over =
    subst (λ (is : List Item). run told fuel 0 (and_then (body elaborating d.header is s) (λ t. Give (facts_of t))) ≡ Over) (whole d) over in
    let a = counted (header_tree d.header) in let b = items_tokens d.items.items w.1.0 in let fits : 4 * body_tokens d.header d.items.items ≤ fuel = omega arith in
    not_over told fuel (4 * body_tokens d.header d.items.items) (and_then (body elaborating d.header d.items.items s) (λ t. Give (facts_of t)))
    (at_most_last (4 * body_tokens d.header d.items.items) (body elaborating d.header d.items.items s) (λ t. Give (facts_of t)) (body_costs elaborating d.header d.items.items s (body_modest elaborating steps_within d.header d.items.items w.0 w.1.0 l)) (λ t. none_costs Reply (facts_of t))) fits over_all

module _ (extent : _) (whole : (d : Definition) → items_to extent d ≡ d.items.items) (told : Told Reply) (fuel : ℕ) (spec : Spec) (def : Def) where
  definition_within : (index : Index) (packages : List Known) (es : List ChunkElement) (own : Element) (d : Definition) → IsWhole (definition_tree d) → All HasNoLoop d.items.items → 4 * count (definition_tree d) ≤ fuel → run told fuel 0 (in_designs extent index packages spec def es own d) ≡ Over → ⊥
  definition_within index packages es own d w l enough over =
      not_behind told fuel (designs_named index own.words.items d.header (instantiations_to extent own) (own_to extent own) spec.faces) (λ designs. within extent packages designs spec def es own d) (designs_cost index own.words.items d.header (instantiations_to extent own) (own_to extent own) spec.faces)
      (λ designs. body_within extent whole told fuel packages own.words.items designs spec.values _ d w l enough) over

  design_within : (index : Index) (packages : List Known) (es : List ChunkElement) (own : Element) (design : Option Design) → IsWhole (optional_tree design_tree design) → DefinitionHasNoLoop (definition_of design) → 4 * count (optional_tree design_tree design) ≤ fuel → run told fuel 0 (of_definition extent index packages spec def es own (definition_of design)) ≡ Over → ⊥
  design_within index packages es own None w l enough over = not_given told fuel no_facts over
  design_within index packages es own (Some (is_design.Module keyword d)) w l enough over = definition_within index packages es own d.value w.1 l (omega arith) over
  design_within index packages es own (Some (is_design.Interface keyword d)) w l enough over = definition_within index packages es own d.value w.1 l (omega arith) over
  design_within index packages es own (Some (is_design.Package p)) w l enough over = not_given told fuel no_facts over

  element_within : (index : Index) (es : List ChunkElement) (o : Option Element) → ((own : Element) → o ≡ Some own → IsEnough fuel own) → run told fuel 0 (of_element extent index spec def es o) ≡ Over → ⊥
  element_within index es None enough over = not_given told fuel no_facts over
  element_within index es (Some own) enough over =
      let e = enough own refl in let a = counted (element_tree own) in let b = e.tokens in
      not_behind told fuel (packages_named index es own) (λ packages. of_definition extent index packages spec def es own (element_definition own)) (named_cost index es own)
      (λ packages. design_within index packages es own own.design e.tree.1 e.loops (omega arith)) over

place_within : (extent : _) → ((d : Definition) → items_to extent d ≡ d.items.items) → (told : Told Reply) (fuel : ℕ) (index : Index) (spec : Spec) (o : Option Def) → ((own : Element) → IsToldAt told o own → IsEnough fuel own) → run told fuel 0 (at_place extent index spec o) ≡ Over → ⊥
place_within extent whole told fuel index spec None enough over = not_given told fuel no_facts over
place_within extent whole told fuel index spec (Some def) enough over =
    not_behind told fuel (elements_before def.file def.chunk) (λ es. and_then (Ask (ElementOf def.file def.chunk) (λ answer. Give answer)) (of_element extent index spec def es)) (elements_cost def.file def.chunk)
    (λ es. not_asked told fuel (ElementOf def.file def.chunk) (of_element extent index spec def es) (λ o is. element_within extent whole told fuel spec def index es o (λ own same. enough own (is ∙ ap Some same)))) over

of_specialization : (extent : _) → ((d : Definition) → items_to extent d ≡ d.items.items) → (spec : Spec) (told : Told Reply) (fuel : ℕ) → ((own : Element) → IsTold told spec own → IsEnough fuel own) → run told fuel 0 (elaborated_to extent spec) ≡ Over → ⊥
unfolding elaborated_to
of_specialization extent whole spec told fuel enough over =
    not_asked told fuel IndexOf (λ index. at_place extent index spec (item_of def_name spec.definition index.definitions))
    (λ index is. place_within extent whole told fuel index spec (item_of def_name spec.definition index.definitions) (λ own at. enough own (index, is, at))) over

pub is_within : (spec : Spec) (told : Told Reply) (fuel : ℕ) → ((own : Element) → IsTold told spec own → IsEnough fuel own) → run told fuel 0 (elaborated spec) ≡ Over → ⊥
is_within spec told fuel enough over = of_specialization _ (λ d. refl) spec told fuel enough over
