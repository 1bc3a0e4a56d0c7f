-- To which of its alternatives an item leads, by its first token.
use Rattle.std.proofs.Common.{◌≡◌, ℕ, zero, suc, ◌<◌, ◌≤◌, Bool, true, false, cond, List, [], ◌∷◌, ◌++◌, length, Option, Some, None, Ok, refl, ap, subst, sym as flip, ◌∙◌ as ◌∘◌, arith}
use Rattle.std.specs.Prelude.{◌||◌}
use Rattle.sve_token.specs.declared.kind.Kind.{Kind}
use Rattle.sve_token.specs.declared.kind.Kind.TheVariants.{Semicolon, Identifier}
use Rattle.sve_token.specs.declared.token.Token.{Token}
use Rattle.sve_grammar.specs.declared.symbol.Symbol.TheVariants.{Item}
use Rattle.sve_grammar.specs.Token.{kind_at, has_kind}
use Rattle.sve_grammar.specs.Rule.{Rule, tok, ◌∙◌, ◌∣◌, nothing, starts, empties, opens}
use Rattle.sve_grammar.specs.Grammar.{rule}
use Rattle.sve_grammar.specs.Declarations.{import_declaration, parameter_declaration, type_declaration, net_declaration, variable_declaration, data_declaration}
use Rattle.sve_grammar.specs.Statements.{system_task, function_declaration}
use Rattle.sve_grammar.specs.Items.{item, genvar_declaration, continuous_assign, clocked_procedure, plain_procedure, generate_region, loop_generate, if_generate, case_generate, modport_declaration, named_item, unit_item}
use Rattle.sve_grammar.specs.Reading.{none, Answer, with_left, with_right, reads, symbol}
use Rattle.sve_grammar.proofs.Begins.{or_none, opens_is}
use Rattle.sve_grammar.proofs.Forward.{starts-none}
use Rattle.sve_grammar.proofs.Idle.{first_way, last_way}
use Rattle.sve_grammar.proofs.StartsOfStatements.{import_declaration_full, parameter_declaration_full, type_declaration_full, function_declaration_full, net_declaration_full, variable_declaration_full, data_declaration_full, system_task_full}
use Rattle.sve_grammar.proofs.StartsOfItems.{genvar_declaration_full, continuous_assign_full, clocked_procedure_full, plain_procedure_full, generate_region_full, loop_generate_full, if_generate_full, case_generate_full, modport_declaration_full}
use Rattle.sve_parse_form.specs.Forms.{first_begun}
use Rattle.sve_parse_flat_item.specs.Alternatives.{item_alternatives, number_of, package_number, LeadsTo, IsFormOf, FindsItem, FindsUnitItem}
use Rattle.sve_parse_flat_item.specs.declared.begins.ItemForm.{ItemForm}
use Rattle.sve_parse_flat_item.specs.declared.begins.PackageForm.{PackageForm}
use Rattle.sve_parse_flat_item.specs.declared.begins.DeclarationForm.{DeclarationForm}
use Rattle.sve_parse_flat_item.specs.declared.begins.ProcessForm.{ProcessForm}
use Rattle.sve_parse_flat_item.specs.declared.begins.ConstructForm.{ConstructForm}
use Rattle.sve_parse_flat_item.specs.declared.begins.PackageForm.TheVariants as package_forms
use Rattle.sve_parse_flat_item.specs.declared.begins.DeclarationForm.TheVariants as declarations
use Rattle.sve_parse_flat_item.specs.declared.begins.ProcessForm.TheVariants as processes
use Rattle.sve_parse_flat_item.specs.declared.begins.ConstructForm.TheVariants as constructs
use Rattle.sve_parse_flat_item.specs.declared.begins.ItemForm.TheVariants as forms

-- ---- alternatives as a list

-- one rule, or else the first of the others that fits
abbrev alternatives : Rule → List Rule → Rule
alternatives r [] = r
alternatives r (s ∷ rs) = r ∣ alternatives s rs

abbrev alternatives_of : List Rule → Rule
alternatives_of [] = nothing
alternatives_of (r ∷ rs) = alternatives r rs

-- none of them is empty
abbrev AreFull : List Rule → Type 0
AreFull [] = Unit {0}
AreFull (r ∷ rs) = (empties r ≡ false) × AreFull rs

-- the one of this number begins
abbrev BeginsAt : List Rule → Option Kind → ℕ → Type 0
BeginsAt [] k j = Unit {0}
BeginsAt (r ∷ rs) k zero = starts r k ≡ true
BeginsAt (r ∷ rs) k (suc j) = BeginsAt rs k j

begins_at : (rs : List Rule) (k : Option Kind) → BeginsAt rs k (first_begun rs k)
begins_at [] k = tt
begins_at (r ∷ rs) k = by_test (starts r k) refl (begins_at rs k)
  where
    by_test : (b : Bool) → starts r k ≡ b → BeginsAt rs k (first_begun rs k) → BeginsAt (r ∷ rs) k (cond b 0 (suc (first_begun rs k)))
    by_test true e h = e
    by_test false e h = h

none_begins : (r : Rule) (rs : List Rule) (k : Option Kind) → first_begun (r ∷ rs) k ≡ suc (length rs) → starts (alternatives r rs) k ≡ false
none_begins r [] k h = by_test (starts r k) h
  where
    by_test : (b : Bool) → cond b zero (suc zero) ≡ suc zero → b ≡ false
    by_test true e = absurd (omega (arith, e))
    by_test false e = refl
none_begins r (s ∷ rs) k h = by_test (starts r k) h (none_begins s rs k)
  where
    by_test : (b : Bool) → cond b 0 (suc (first_begun (s ∷ rs) k)) ≡ suc (suc (length rs)) → (first_begun (s ∷ rs) k ≡ suc (length rs) → starts (alternatives s rs) k ≡ false)
        → (b || starts (alternatives s rs) k) ≡ false
    by_test true e f = absurd (omega (arith, e))
    by_test false e f = f (omega (arith, e))

one_begins : (r : Rule) (rs : List Rule) (k : Option Kind) → first_begun (r ∷ rs) k < suc (length rs) → starts (alternatives r rs) k ≡ true
one_begins r [] k h = by_test (starts r k) h
  where
    by_test : (b : Bool) → cond b 0 1 < 1 → b ≡ true
    by_test true e = refl
    by_test false e = absurd (omega (arith, e))
one_begins r (s ∷ rs) k h = by_test (starts r k) h (one_begins s rs k)
  where
    by_test : (b : Bool) → cond b 0 (suc (first_begun (s ∷ rs) k)) < suc (suc (length rs)) → (first_begun (s ∷ rs) k < suc (length rs) → starts (alternatives s rs) k ≡ true)
        → (b || starts (alternatives s rs) k) ≡ true
    by_test true e f = refl
    by_test false e f = f (omega (arith, e))

none_begins_of : (rs : List Rule) (k : Option Kind) → first_begun rs k ≡ length rs → starts (alternatives_of rs) k ≡ false
none_begins_of [] k h = refl
none_begins_of (r ∷ rs) k h = none_begins r rs k h

one_begins_of : (rs : List Rule) (k : Option Kind) → first_begun rs k < length rs → starts (alternatives_of rs) k ≡ true
one_begins_of [] k h = absurd (omega (arith, h))
one_begins_of (r ∷ rs) k h = one_begins r rs k h

module _ (ts : List Token) (n i : ℕ) where
  -- what is read by the one of this number
  abbrev way_at : Rule → List Rule → ℕ → Answer
  way_at r [] j = reads ts (symbol ts n) r i
  way_at r (s ∷ rs) zero = with_left (reads ts (symbol ts n) r i)
  way_at r (s ∷ rs) (suc j) = with_right (way_at s rs j)

  abbrev way_of : List Rule → ℕ → Answer
  way_of [] j = Ok (none, i)
  way_of (r ∷ rs) j = way_at r rs j

  chosen : (r : Rule) (rs : List Rule) → AreFull (r ∷ rs) → reads ts (symbol ts n) (alternatives r rs) i ≡ way_at r rs (first_begun (r ∷ rs) (kind_at ts i))
  chosen r [] f = refl
  chosen r (s ∷ rs) f = by_test (starts r (kind_at ts i)) refl (chosen s rs f.1)
    where
      by_test : (b : Bool) → starts r (kind_at ts i) ≡ b → reads ts (symbol ts n) (alternatives s rs) i ≡ way_at s rs (first_begun (s ∷ rs) (kind_at ts i))
          → reads ts (symbol ts n) (r ∣ alternatives s rs) i ≡ way_at r (s ∷ rs) (cond b 0 (suc (first_begun (s ∷ rs) (kind_at ts i))))
      by_test true e h = first_way ts n r (alternatives s rs) i e
      by_test false e h = last_way ts n r (alternatives s rs) i e f.0 ∘ ap with_right h

  chosen_of : (rs : List Rule) → AreFull rs → reads ts (symbol ts n) (alternatives_of rs) i ≡ way_of rs (first_begun rs (kind_at ts i))
  chosen_of [] f = refl
  chosen_of (r ∷ rs) f = chosen r rs f

-- what begins with nothing
none_of : (rs : List Rule) → first_begun rs None ≡ length rs
none_of [] = refl
none_of (r ∷ rs) = rw (starts-none r) (ap suc (none_of rs))

-- the first alternatives by themselves
front_found : (rs ss : List Rule) (k : Option Kind) → first_begun (rs ++ ss) k < length rs → first_begun rs k ≡ first_begun (rs ++ ss) k
front_found [] ss k h = absurd (omega arith)
front_found (r ∷ rs) ss k h = by_test (starts r k) h (front_found rs ss k)
  where
    by_test : (b : Bool) → cond b 0 (suc (first_begun (rs ++ ss) k)) < suc (length rs) → (first_begun (rs ++ ss) k < length rs → first_begun rs k ≡ first_begun (rs ++ ss) k)
        → cond b 0 (suc (first_begun rs k)) ≡ cond b 0 (suc (first_begun (rs ++ ss) k))
    by_test true e f = refl
    by_test false e f = ap suc (f (omega (arith, e)))

front_missed : (rs ss : List Rule) (k : Option Kind) → length rs ≤ first_begun (rs ++ ss) k → first_begun rs k ≡ length rs
front_missed [] ss k h = refl
front_missed (r ∷ rs) ss k h = by_test (starts r k) h (front_missed rs ss k)
  where
    by_test : (b : Bool) → suc (length rs) ≤ cond b 0 (suc (first_begun (rs ++ ss) k)) → (length rs ≤ first_begun (rs ++ ss) k → first_begun rs k ≡ length rs)
        → cond b 0 (suc (first_begun rs k)) ≡ suc (length rs)
    by_test true e f = absurd (omega (arith, e))
    by_test false e f = ap suc (f (omega (arith, e)))

-- ---- items

items_full : AreFull item_alternatives
items_full = (refl, (import_declaration_full, (parameter_declaration_full, (type_declaration_full, (function_declaration_full, (genvar_declaration_full, (net_declaration_full, (variable_declaration_full, (data_declaration_full, (continuous_assign_full, (clocked_procedure_full, (plain_procedure_full, (generate_region_full, (loop_generate_full, (if_generate_full, (case_generate_full, (modport_declaration_full, (system_task_full, (refl, tt)))))))))))))))))))

item_is : item ≡ alternatives_of item_alternatives
unfolding item
item_is = refl

item_way : (ts : List Token) (i j : ℕ) → first_begun item_alternatives (kind_at ts i) ≡ j → (n : ℕ) → reads ts (symbol ts n) item i ≡ way_of ts n i item_alternatives j
item_way ts i j e n = ap (λ (r : Rule). reads ts (symbol ts n) r i) item_is ∘ chosen_of ts n i item_alternatives items_full ∘ ap (way_of ts n i item_alternatives) e

pub item_leads : (ts : List Token) (i : ℕ) (form : ItemForm) → first_begun item_alternatives (kind_at ts i) ≡ number_of form → LeadsTo ts i form
item_leads ts i (forms.Package package_forms.Empty) e = item_way ts i 0 e
item_leads ts i (forms.Package package_forms.Import) e = item_way ts i 1 e
item_leads ts i (forms.Package package_forms.Parameters) e = item_way ts i 2 e
item_leads ts i (forms.Package package_forms.Typedef) e = item_way ts i 3 e
item_leads ts i (forms.Package package_forms.Function) e = item_way ts i 4 e
item_leads ts i (forms.Declaration declarations.Genvars) e = item_way ts i 5 e
item_leads ts i (forms.Declaration declarations.Net) e = item_way ts i 6 e
item_leads ts i (forms.Declaration declarations.Variable) e = item_way ts i 7 e
item_leads ts i (forms.Declaration declarations.Data) e = item_way ts i 8 e
item_leads ts i (forms.Declaration declarations.Modports) e = item_way ts i 16 e
item_leads ts i (forms.Process processes.Assign) e = item_way ts i 9 e
item_leads ts i (forms.Process processes.Clocked) e = item_way ts i 10 e
item_leads ts i (forms.Process processes.Plain) e = item_way ts i 11 e
item_leads ts i (forms.Process processes.SystemTask) e = item_way ts i 17 e
item_leads ts i (forms.Process processes.Named) e =
    let named : BeginsAt item_alternatives (kind_at ts i) 18 = subst (BeginsAt item_alternatives (kind_at ts i)) e (begins_at item_alternatives (kind_at ts i)) in
    flip (or_none (has_kind (kind_at ts i) Identifier)) ∘ named
item_leads ts i (forms.Construct constructs.Region) e = item_way ts i 12 e
item_leads ts i (forms.Construct constructs.Loop) e = item_way ts i 13 e
item_leads ts i (forms.Construct constructs.If) e = item_way ts i 14 e
item_leads ts i (forms.Construct constructs.Case) e = item_way ts i 15 e

-- an item begins where one of its alternatives does
item_opens : (k : Option Kind) → opens Item k ≡ starts (alternatives_of item_alternatives) k
unfolding rule
item_opens k = opens_is Item k ∘ ap (λ (r : Rule). starts r k) item_is

few : (form : ItemForm) → number_of form < 19
few (forms.Package package_forms.Empty) = omega arith
few (forms.Package package_forms.Import) = omega arith
few (forms.Package package_forms.Parameters) = omega arith
few (forms.Package package_forms.Typedef) = omega arith
few (forms.Package package_forms.Function) = omega arith
few (forms.Declaration declarations.Genvars) = omega arith
few (forms.Declaration declarations.Net) = omega arith
few (forms.Declaration declarations.Variable) = omega arith
few (forms.Declaration declarations.Data) = omega arith
few (forms.Declaration declarations.Modports) = omega arith
few (forms.Process processes.Assign) = omega arith
few (forms.Process processes.Clocked) = omega arith
few (forms.Process processes.Plain) = omega arith
few (forms.Process processes.SystemTask) = omega arith
few (forms.Process processes.Named) = omega arith
few (forms.Construct constructs.Region) = omega arith
few (forms.Construct constructs.Loop) = omega arith
few (forms.Construct constructs.If) = omega arith
few (forms.Construct constructs.Case) = omega arith

pub finds_item : (ts : List Token) (i : ℕ) (found : Option ItemForm) → IsFormOf (kind_at ts i) found → FindsItem ts i found
finds_item ts i None e = item_opens (kind_at ts i) ∘ none_begins_of item_alternatives (kind_at ts i) e
finds_item ts i (Some form) e =
    let within : first_begun item_alternatives (kind_at ts i) < 19 = rw e (few form) in
    (item_opens (kind_at ts i) ∘ one_begins_of item_alternatives (kind_at ts i) within, item_leads ts i form e)

pub no_form_behind : IsFormOf None None
no_form_behind = none_of item_alternatives

-- ---- items of packages

abbrev unit_alternatives : List Rule
unit_alternatives = tok Semicolon ∷ import_declaration ∷ parameter_declaration ∷ type_declaration ∷ function_declaration ∷ []

abbrev other_alternatives : List Rule
other_alternatives =
    genvar_declaration ∷ net_declaration ∷ variable_declaration ∷ data_declaration
    ∷ continuous_assign ∷ clocked_procedure ∷ plain_procedure
    ∷ generate_region ∷ loop_generate ∷ if_generate ∷ case_generate
    ∷ modport_declaration ∷ system_task ∷ (tok Identifier ∙ named_item) ∷ []

unit_full : AreFull unit_alternatives
unit_full = (refl, (import_declaration_full, (parameter_declaration_full, (type_declaration_full, (function_declaration_full, tt)))))

unit_is : unit_item ≡ alternatives_of unit_alternatives
unfolding unit_item
unit_is = refl

unit_found : (k : Option Kind) (j : ℕ) → first_begun item_alternatives k ≡ j → j < 5 → first_begun unit_alternatives k ≡ j
unit_found k j e h = front_found unit_alternatives other_alternatives k (omega (arith, e, h)) ∘ e

unit_reads : (ts : List Token) (i j : ℕ) → first_begun item_alternatives (kind_at ts i) ≡ j → j < 5 → (n : ℕ) → reads ts (symbol ts n) unit_item i ≡ way_of ts n i unit_alternatives j
unit_reads ts i j e h n = ap (λ (r : Rule). reads ts (symbol ts n) r i) unit_is ∘ chosen_of ts n i unit_alternatives unit_full ∘ ap (way_of ts n i unit_alternatives) (unit_found (kind_at ts i) j e h)

unit_begins : (k : Option Kind) (j : ℕ) → first_begun item_alternatives k ≡ j → j < 5 → starts unit_item k ≡ true
unit_begins k j e h =
    let within : first_begun unit_alternatives k < 5 = rw (unit_found k j e h) h in
    ap (λ (r : Rule). starts r k) unit_is ∘ one_begins_of unit_alternatives k within

pub finds_unit : (ts : List Token) (i : ℕ) (form : PackageForm) → first_begun item_alternatives (kind_at ts i) ≡ package_number form → FindsUnitItem ts i (Some form)
finds_unit ts i package_forms.Empty e = (unit_begins _ 0 e (omega arith), unit_reads ts i 0 e (omega arith))
finds_unit ts i package_forms.Import e = (unit_begins _ 1 e (omega arith), unit_reads ts i 1 e (omega arith))
finds_unit ts i package_forms.Parameters e = (unit_begins _ 2 e (omega arith), unit_reads ts i 2 e (omega arith))
finds_unit ts i package_forms.Typedef e = (unit_begins _ 3 e (omega arith), unit_reads ts i 3 e (omega arith))
finds_unit ts i package_forms.Function e = (unit_begins _ 4 e (omega arith), unit_reads ts i 4 e (omega arith))

pub no_unit : (k : Option Kind) (j : ℕ) → first_begun item_alternatives k ≡ j → 5 ≤ j → starts unit_item k ≡ false
no_unit k j e h = ap (λ (r : Rule). starts r k) unit_is ∘ none_begins_of unit_alternatives k (front_missed unit_alternatives other_alternatives k (omega (arith, e, h)))

pub late_declaration : (form : DeclarationForm) → 5 ≤ number_of (forms.Declaration form)
late_declaration declarations.Genvars = omega arith
late_declaration declarations.Net = omega arith
late_declaration declarations.Variable = omega arith
late_declaration declarations.Data = omega arith
late_declaration declarations.Modports = omega arith

pub late_process : (form : ProcessForm) → 5 ≤ number_of (forms.Process form)
late_process processes.Assign = omega arith
late_process processes.Clocked = omega arith
late_process processes.Plain = omega arith
late_process processes.SystemTask = omega arith
late_process processes.Named = omega arith

pub late_construct : (form : ConstructForm) → 5 ≤ number_of (forms.Construct form)
late_construct constructs.Region = omega arith
late_construct constructs.Loop = omega arith
late_construct constructs.If = omega arith
late_construct constructs.Case = omega arith
