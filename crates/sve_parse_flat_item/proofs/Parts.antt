-- What is read by an item's own rule, and by the rule whose alternative it is.
use Rattle.std.proofs.Common.{◌≡◌, ℕ, zero, suc, List, Result, Ok, Err, refl, ap, sym as flip, ◌∙◌ as ◌∘◌}
use Rattle.std.specs.Prelude.{IfOk}
use Rattle.sve_token.specs.declared.token.Token.{Token}
use Rattle.sve_grammar.specs.declared.stop.Stop.{Stop}
use Rattle.sve_grammar.specs.declared.stop.Stop.TheVariants.{At, NoMemory}
use Rattle.sve_grammar.specs.Items.{item, unit_item}
use Rattle.sve_grammar.specs.Reading.{Tree, Answer, with_right, reads, symbol}
use Rattle.sve_grammar.specs.Gives.{Fails, Gives}
use Rattle.sve_tree.specs.Shape.{way}
use Rattle.sve_tree.specs.Elements.{unit_item_tree}
use Rattle.sve_tree.specs.declared.element.UnitItem.{UnitItem}
use Rattle.sve_tree.specs.declared.element.UnitItem.TheVariants as is_unit_item
use Rattle.sve_parse_expr.specs.Alternatives.{alternative, last_alternative}
use Rattle.sve_parse_flat_item.specs.Alternatives.{package_number, package_rule, unit_way, UnitLeads, PackageLeads}
use Rattle.sve_parse_flat_item.specs.Parts.{form_of, part_tree}
use Rattle.sve_parse_flat_item.specs.declared.begins.PackageForm.{PackageForm}
use Rattle.sve_parse_flat_item.specs.declared.begins.PackageForm.TheVariants as package_forms

alternative_is : (n : ℕ) (t : Tree) (j : ℕ) → alternative n (Ok (t, j)) ≡ Ok (way n t, j)
alternative_is zero t j = refl
alternative_is (suc n) t j = ap with_right (alternative_is n t j)

alternative_fails : (n : ℕ) (e : Stop) (x : Answer) → Fails e x → Fails e (alternative n x)
alternative_fails n NoMemory x h = tt
alternative_fails zero (At index deep) x h = rw h refl
alternative_fails (suc n) (At index deep) x h = ap with_right (alternative_fails n (At index deep) x h)

last_fails : (n : ℕ) (e : Stop) (x : Answer) → Fails e x → Fails e (last_alternative n x)
last_fails n NoMemory x h = tt
last_fails zero (At index deep) x h = h
last_fails (suc n) (At index deep) x h = ap with_right (last_fails n (At index deep) x h)

unit_is : (part : UnitItem) (j : ℕ) → unit_way (form_of part) (Ok (part_tree part, j)) ≡ Ok (unit_item_tree part, j)
unit_is (is_unit_item.Empty semicolon) j = refl
unit_is (is_unit_item.Import declaration) j = refl
unit_is (is_unit_item.Parameters declaration) j = refl
unit_is (is_unit_item.Typedef declaration) j = refl
unit_is (is_unit_item.Function function) j = refl

unit_fails : (form : PackageForm) (e : Stop) (x : Answer) → Fails e x → Fails e (unit_way form x)
unit_fails package_forms.Empty e x h = alternative_fails 0 e x h
unit_fails package_forms.Import e x h = alternative_fails 1 e x h
unit_fails package_forms.Parameters e x h = alternative_fails 2 e x h
unit_fails package_forms.Typedef e x h = alternative_fails 3 e x h
unit_fails package_forms.Function e x h = last_fails 4 e x h

abbrev Part : Type 0
Part = UnitItem × ℕ

module _ (ts : List Token) (n i : ℕ) (form : PackageForm) where
  pub unit_gives : UnitLeads ts i form → (result : Result Part Stop) → Gives (λ x. (part_tree x.0, x.1)) result (reads ts (symbol ts n) (package_rule form) i) → IfOk result (λ x. form_of x.0 ≡ form)
      → Gives (λ x. (unit_item_tree x.0, x.1)) result (reads ts (symbol ts n) unit_item i)
  unit_gives leads (Ok x) g f = leads n ∘ ap (unit_way form) g ∘ ap (λ (p : PackageForm). unit_way p (Ok (part_tree x.0, x.1))) (flip f) ∘ unit_is x.0 x.1
  unit_gives leads (Err NoMemory) g f = tt
  unit_gives leads (Err (At index deep)) g f = leads n ∘ unit_fails form (At index deep) (reads ts (symbol ts n) (package_rule form) i) g

  pub item_gives : PackageLeads ts i form → (part : UnitItem) (j : ℕ) (t : Tree) → reads ts (symbol ts n) (package_rule form) i ≡ Ok (part_tree part, j) → form_of part ≡ form
      → t ≡ way (package_number (form_of part)) (part_tree part) → reads ts (symbol ts n) item i ≡ Ok (t, j)
  item_gives leads part j t g f e =
      leads n ∘ ap (alternative (package_number form)) g ∘ alternative_is (package_number form) (part_tree part) j
      ∘ ap (λ (p : PackageForm). let a : Answer = Ok (way (package_number p) (part_tree part), j) in a) (flip f) ∘ ap (λ (u : Tree). let a : Answer = Ok (u, j) in a) (flip e)

  pub item_fails : PackageLeads ts i form → (e : Stop) → Fails e (reads ts (symbol ts n) (package_rule form) i) → Fails e (reads ts (symbol ts n) item i)
  item_fails leads NoMemory h = tt
  item_fails leads (At index deep) h = leads n ∘ alternative_fails (package_number form) (At index deep) (reads ts (symbol ts n) (package_rule form) i) h
