-- What the plan of a header can ask: nothing of ports.
use Rattle.std.proofs.Common.{ℕ, Bool, true, false, cond, List, [], ◌∷◌, ◌++◌, Option, Some, None}
use Rattle.std.specs.List.{range_with_len}
use Rattle.sve_table.specs.Tables.{item_of}
use Rattle.sve_tree.specs.declared.element.Element.{Element}
use Rattle.sve_tree.specs.declared.element.Definition.{Definition}
use Rattle.sve_tree.specs.declared.header.Header.{Header}
use Rattle.sve_tree.specs.declared.token_word.Word.{Word}
use Rattle.sve_tree.specs.Elements.{element_definition}
use Rattle.sve_index.specs.declared.def.Def.{Def}
use Rattle.sve_index.specs.declared.whole.Index.{Index}
use Rattle.sve_index.specs.Defs.{def_name}
use Rattle.sve_spec.specs.declared.spec.FaceGiven.{FaceGiven}
use Rattle.sve_spec.specs.declared.spec.Spec.{Spec}
use Rattle.sve_scope.specs.declared.interface.InterfaceNames.{InterfaceNames}
use Rattle.sve_spec.specs.declared.given.Given.{Given}
use Rattle.sve_facts.specs.Facts.{no_facts}
use Rattle.sve_imports.specs.Naming.{own_words, packages_in, unit_words}
use Rattle.sve_known.specs.Packages.{Known}
use Rattle.sve_known.specs.Naming.{name_at}
use Rattle.sve_contents.specs.declared.contents.Contents.{Contents}
use Rattle.sve_contents.specs.Nested.{entered}
use Rattle.sve_function.specs.Readings.{readings}
use Rattle.sve_plan.specs.Plan.{AsksOnly, Give, Plan, and_then, ask, each}
use Rattle.sve_plan.proofs.Runs.{asks_only_then}
use Rattle.sve_look.specs.Questions.{ElementOf, IndexOf, PackageOf, Reply}
use Rattle.sve_body.specs.Steps.{Steps}
use Rattle.sve_body.specs.Items.{header}
use Rattle.sve_body.specs.Body.{counted_item}
use Rattle.sve_design_kinds.specs.declared.kinds.KnownDesign.{KnownDesign}
use Rattle.sve_design_kinds.specs.Names.{header_names}
use Rattle.sve_design_kinds.specs.Kinds.{asked_at, sought, with_element as and_element, with_name, with_token}
use Rattle.sve_design_kinds.specs.Designs.{Designs, designs_by, designs_named}
use Rattle.sve_elaboration.specs.Ends.{begun_body, facts_of}
use Rattle.sve_elaboration.specs.Elaborating.{elaborating}
use Rattle.sve_unit_scope.specs.Elements.{ChunkElement, element_of, elements_before, with_element}
use Rattle.sve_unit_scope.specs.Packages.{is_sought, packages_named, with_facts, with_package, with_packages, with_unit_packages}
use Rattle.sve_unit_scope.specs.Units.{unit_of}
use Rattle.sve_elaborate.specs.declared.extent.Extent.TheVariants as is_extent
use Rattle.sve_elaborate.specs.Bodies.{IsNoPorts, at_definition, at_place, body_in, elaborated_to, header_ports, instantiations_to, of_definition, of_element, of_tree, ports_of, within}

-- ---- plans in general

each_only : {Q : Type 0} {A : Q → Type 0} {I S : Type 0} (P : Q → Type 0) (f : I → S → Plan A S) (items : List I) (s : S) → ((item : I) (t : S) → AsksOnly P (f item t)) → AsksOnly P (each f items s)
unfolding each AsksOnly
each_only P f [] s only = tt
each_only P f (item ∷ items) s only = asks_only_then P (f item s) (each f items) (only item s) (λ t. each_only P f items t only)

give_only : {Q X : Type 0} (A : Q → Type 0) (P : Q → Type 0) (x : X) → AsksOnly {A = A} P (Give x)
unfolding AsksOnly
give_only A P x = tt

ask_only : {Q : Type 0} {A : Q → Type 0} {X : Type 0} (P : Q → Type 0) (q : Q) (next : A q → Plan A X) → P q → ((answer : A q) → AsksOnly P (next answer)) → AsksOnly P (and_then (ask q) next)
unfolding and_then AsksOnly
ask_only P q next own only = (own, only)

either_only : {Q : Type 0} {A : Q → Type 0} {X : Type 0} (P : Q → Type 0) (b : Bool) (one other : Plan A X) → AsksOnly P one → AsksOnly P other → AsksOnly P (cond b one other)
either_only P true one other first second = first
either_only P false one other first second = second

-- ---- a header asks nothing

header_only : {S : Type 0} (steps : Steps S) (h : Header) (s : S) → AsksOnly IsNoPorts (header steps h s)
unfolding AsksOnly
header_only steps h s = tt

no_items : {Q : Type 0} {A : Q → Type 0} {I S : Type 0} (P : Q → Type 0) (f : I → S → Plan A S) (s : S) → AsksOnly P (each f [] s)
unfolding each AsksOnly
no_items P f s = tt

body_only : (packages : List Known) (ws : List Word) (designs : Designs) (given : List Given) (c : Contents) (d : Definition) → AsksOnly IsNoPorts (body_in is_extent.Header packages ws designs given c d)
unfolding body_in
body_only packages ws designs given c d =
    let s = begun_body packages ws designs given c d in
    asks_only_then IsNoPorts (and_then (header elaborating d.header s) (each (counted_item elaborating) [])) (λ t. Give (facts_of t))
    (asks_only_then IsNoPorts (header elaborating d.header s) (each (counted_item elaborating) []) (header_only elaborating d.header s) (no_items IsNoPorts (counted_item elaborating))) (λ t. give_only Reply IsNoPorts (facts_of t))

-- ---- what stands around it

elements_only : (file : List ℕ) (chunk : ℕ) → AsksOnly IsNoPorts (elements_before file chunk)
elements_only file chunk =
    each_only IsNoPorts (element_of file) (range_with_len 0 chunk) [] (λ n es. ask_only IsNoPorts (ElementOf file n) (λ e. Give (with_element es n e)) tt (λ e. give_only Reply IsNoPorts (with_element es n e)))

packages_only : (index : Index) (names : List (List ℕ)) (known : List Known) → AsksOnly IsNoPorts (with_packages index names known)
packages_only index names known =
    each_only IsNoPorts (with_package index) names known (λ n k. either_only IsNoPorts (is_sought index k n) _ (Give k)
    (ask_only IsNoPorts (PackageOf n) (λ facts. Give (with_facts k n facts)) tt (λ facts. give_only Reply IsNoPorts (with_facts k n facts))) (give_only Reply IsNoPorts k))

named_only : (index : Index) (es : List ChunkElement) (own : Element) → AsksOnly IsNoPorts (packages_named index es own)
named_only index es own =
    asks_only_then IsNoPorts (each (with_unit_packages index) es []) (with_packages index (packages_in (own_words own)))
    (each_only IsNoPorts (with_unit_packages index) es [] (λ e known. packages_only index (packages_in (unit_words e.element)) known)) (packages_only index (packages_in (own_words own)))

asked_only : (n : List ℕ) (def : Option Def) (known : List KnownDesign) → AsksOnly IsNoPorts (asked_at n def known)
asked_only n None known = give_only Reply IsNoPorts known
asked_only n (Some def) known = ask_only IsNoPorts (ElementOf def.file def.chunk) (λ e. Give (and_element known n e)) tt (λ e. give_only Reply IsNoPorts (and_element known n e))

name_only : (index : Index) (n : Option (List ℕ)) (known : List KnownDesign) → AsksOnly IsNoPorts (with_name index n known)
name_only index None known = give_only Reply IsNoPorts known
name_only index (Some n) known = asked_only n (sought index known n) known

designs_only : (index : Index) (ws : List Word) (h : Header) (tokens : List ℕ) (own : Option InterfaceNames) (given : List FaceGiven) → AsksOnly IsNoPorts (designs_named index ws h tokens own given)
designs_only index ws h tokens own given =
    asks_only_then IsNoPorts (each (with_token index ws) (header_names h ++ tokens) []) (λ kinds. Give (designs_by ws tokens own given kinds))
    (each_only IsNoPorts (with_token index ws) (header_names h ++ tokens) [] (λ t known. name_only index (name_at ws t) known)) (λ kinds. give_only Reply IsNoPorts (designs_by ws tokens own given kinds))

module _ (index : Index) (spec : Spec) (def : Def) where
  definition_only : (packages : List Known) (es : List ChunkElement) (own : Element) (d : Option Definition) → AsksOnly IsNoPorts (of_definition is_extent.Header index packages spec def es own d)
  definition_only packages es own None = give_only Reply IsNoPorts no_facts
  definition_only packages es own (Some d) =
      asks_only_then IsNoPorts (designs_named index own.words.items d.header (instantiations_to is_extent.Header own) None spec.faces) (λ designs. within is_extent.Header packages designs spec def es own d)
      (designs_only index own.words.items d.header (instantiations_to is_extent.Header own) None spec.faces) (λ designs. body_only packages own.words.items designs spec.values (entered (unit_of readings packages def.file def.chunk es own)) d)

  tree_only : (es : List ChunkElement) (own : Element) → AsksOnly IsNoPorts (of_tree is_extent.Header index spec def es own)
  tree_only es own =
      asks_only_then IsNoPorts (packages_named index es own) (λ packages. of_definition is_extent.Header index packages spec def es own (element_definition own)) (named_only index es own) (λ packages. definition_only packages es own (element_definition own))

  element_only : (es : List ChunkElement) (own : Option Element) → AsksOnly IsNoPorts (of_element is_extent.Header index spec def es own)
  element_only es None = give_only Reply IsNoPorts no_facts
  element_only es (Some own) = tree_only es own

  definition_place_only : AsksOnly IsNoPorts (at_definition is_extent.Header index spec def)
  definition_place_only =
      asks_only_then IsNoPorts (elements_before def.file def.chunk) (λ es. and_then (ask (ElementOf def.file def.chunk)) (of_element is_extent.Header index spec def es)) (elements_only def.file def.chunk)
      (λ es. ask_only IsNoPorts (ElementOf def.file def.chunk) (of_element is_extent.Header index spec def es) tt (element_only es))

place_only : (index : Index) (spec : Spec) (def : Option Def) → AsksOnly IsNoPorts (at_place is_extent.Header index spec def)
place_only index spec None = give_only Reply IsNoPorts no_facts
place_only index spec (Some def) = definition_place_only index spec def

pub headers_only : (spec : Spec) → AsksOnly IsNoPorts (header_ports spec)
unfolding elaborated_to header_ports
headers_only spec =
    asks_only_then IsNoPorts (elaborated_to is_extent.Header spec) (λ facts. Give (ports_of facts))
    (ask_only IsNoPorts IndexOf (λ index. at_place is_extent.Header index spec (item_of def_name spec.definition index.definitions)) tt (λ index. place_only index spec (item_of def_name spec.definition index.definitions)))
    (λ facts. give_only Reply IsNoPorts (ports_of facts))
