-- Which design is read, by what begins here.
use Rattle.std.proofs.Common.{◌≡◌, ℕ, true, false, List, Ok, refl, ap, ◌∙◌ as ◌∘◌}
use Rattle.sve_token.specs.declared.kind.Kind.TheVariants.{Keyword}
use Rattle.sve_token.specs.declared.keywords.Keyword.TheVariants.{KwInterface, KwPackage, KwEndmodule, KwEndinterface}
use Rattle.sve_token.specs.declared.token.Token.{Token}
use Rattle.sve_grammar.specs.Token.{kind_at, has_kind}
use Rattle.sve_grammar.specs.Rule.{Rule, nothing, word, ◌∙◌, ◌∣◌, opt, starts}
use Rattle.sve_grammar.specs.Declarations.{header, label}
use Rattle.sve_grammar.specs.Items.{items, module_keyword, module_declaration, interface_declaration, package_declaration, design}
use Rattle.sve_grammar.specs.Reading.{Answer, none, right, with_left, with_right, reads, symbol}
use Rattle.sve_grammar.proofs.Begins.{or_none}
use Rattle.sve_grammar.proofs.Idle.{first_way, last_way}
use Rattle.sve_grammar.proofs.StartsOfItems.{module_keyword_full, module_declaration_full, interface_declaration_starts, interface_declaration_full, package_declaration_starts, design_full}

module _ (ts : List Token) (n i : ℕ) where
  abbrev Reads : Rule → Answer
  Reads r = reads ts (symbol ts n) r i

  abbrev Lacks : Rule → Type 0
  Lacks r = starts r (kind_at ts i) ≡ false

  -- a module begins as its keyword does
  module_begins : starts module_declaration (kind_at ts i) ≡ starts module_keyword (kind_at ts i)
  unfolding module_declaration
  module_begins = rw module_keyword_full (or_none (starts module_keyword (kind_at ts i)))

  here : starts design (kind_at ts i) ≡ true → Reads (opt design) ≡ with_left (Reads design)
  here h = first_way ts n design nothing i h

  pub design_module : starts module_keyword (kind_at ts i) ≡ true → Reads (opt design) ≡ with_left (with_left (Reads (module_keyword ∙ header ∙ items ∙ word KwEndmodule ∙ opt label)))
  unfolding design module_declaration
  design_module h =
      let begins : starts module_declaration (kind_at ts i) ≡ true = module_begins ∘ h in
      here (rw begins refl) ∘ ap with_left (first_way ts n module_declaration (interface_declaration ∣ package_declaration) i begins)

  pub design_interface : Lacks module_keyword → has_kind (kind_at ts i) (Keyword KwInterface) ≡ true → Reads (opt design) ≡ with_left (with_right (with_left (Reads (word KwInterface ∙ header ∙ items ∙ word KwEndinterface ∙ opt label))))
  unfolding design interface_declaration
  design_interface m h =
      let no_module : Lacks module_declaration = module_begins ∘ m in
      let begins : starts interface_declaration (kind_at ts i) ≡ true = interface_declaration_starts (kind_at ts i) ∘ h in
      here (rw (no_module, begins) refl)
      ∘ ap with_left (last_way ts n module_declaration (interface_declaration ∣ package_declaration) i no_module module_declaration_full
      ∘ ap with_right (first_way ts n interface_declaration package_declaration i begins))

  pub design_package : Lacks module_keyword → has_kind (kind_at ts i) (Keyword KwInterface) ≡ false → has_kind (kind_at ts i) (Keyword KwPackage) ≡ true → Reads (opt design) ≡ with_left (with_right (with_right (Reads package_declaration)))
  unfolding design
  design_package m f h =
      let no_module : Lacks module_declaration = module_begins ∘ m in
      let no_interface : Lacks interface_declaration = interface_declaration_starts (kind_at ts i) ∘ f in
      let begins : starts package_declaration (kind_at ts i) ≡ true = package_declaration_starts (kind_at ts i) ∘ h in
      here (rw (no_module, no_interface, begins) refl)
      ∘ ap with_left (last_way ts n module_declaration (interface_declaration ∣ package_declaration) i no_module module_declaration_full
      ∘ ap with_right (last_way ts n interface_declaration package_declaration i no_interface interface_declaration_full))

  pub design_none : Lacks module_keyword → has_kind (kind_at ts i) (Keyword KwInterface) ≡ false → has_kind (kind_at ts i) (Keyword KwPackage) ≡ false → Reads (opt design) ≡ Ok (right none, i)
  unfolding design
  design_none m f h =
      let no_module : Lacks module_declaration = module_begins ∘ m in
      let no_interface : Lacks interface_declaration = interface_declaration_starts (kind_at ts i) ∘ f in
      let no_package : Lacks package_declaration = package_declaration_starts (kind_at ts i) ∘ h in
      last_way ts n design nothing i (rw (no_module, no_interface, no_package) refl) design_full
