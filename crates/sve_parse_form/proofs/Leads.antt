-- From the kind of the next token to the alternative that is read.
use Rattle.std.proofs.Common.{◌≡◌, ◌≤◌, ℕ, suc, Bool, true, false, cond, List, [], ◌∷◌, ◌++◌, length, Option, Some, None, refl, ap, ◌∙◌ as ◌∘◌, arith}
use Rattle.std.specs.Prelude.{◌||◌}
use Rattle.sve_token.specs.declared.kind.Kind.{Kind}
use Rattle.sve_token.specs.declared.token.Token.{Token}
use Rattle.sve_grammar.specs.declared.symbol.Symbol.TheVariants.{DataType, Statement}
use Rattle.sve_grammar.specs.Token.{kind_at}
use Rattle.sve_grammar.specs.Rule.{Rule, sym, ◌∣◌, starts, empties}
use Rattle.sve_grammar.specs.Statements.{statement, name_statement, block, uniqueness, choice, if_statement, case_statement, case_keyword, for_statement, foreach_statement, loop_statement, loop_keyword, do_statement, return_statement, system_task, void_call, increment_statement, increment_operator, concatenation_assignment, left_concatenation, block_item}
use Rattle.sve_grammar.specs.Expressions.{scoped_name}
use Rattle.sve_grammar.specs.Declarations.{lifetime, variable_declaration, data_declaration, parameter_declaration, type_declaration}
use Rattle.sve_grammar.specs.Types.{parameter_keyword}
use Rattle.sve_grammar.specs.Reading.{with_right, reads, symbol}
use Rattle.sve_grammar.proofs.Idle.{first_way, last_way}
use Rattle.sve_grammar.proofs.Begins.{opens_none}
use Rattle.sve_parse_form.specs.Forms.{first_begun, taken, statement_ways, form_number, item_ways, item_number, IsForm, IsItem, LeadsTo, ItemLeads, FindsItem}
use Rattle.sve_parse_form.specs.declared.forms.Form.{Form}
use Rattle.sve_parse_form.specs.declared.forms.Form.TheVariants as forms
use Rattle.sve_parse_form.specs.declared.forms.Plain.{Plain}
use Rattle.sve_parse_form.specs.declared.forms.Plain.TheVariants as plain
use Rattle.sve_parse_form.specs.declared.forms.Declared.{Declared}
use Rattle.sve_parse_form.specs.declared.forms.Declared.TheVariants as declared
use Rattle.sve_parse_form.specs.declared.forms.ItemForm.{ItemForm}
use Rattle.sve_parse_form.specs.declared.forms.ItemForm.TheVariants as items

-- the rules one behind the other as alternatives, and a last one
abbrev any_of : List Rule → Rule → Rule
any_of [] last = last
any_of (r ∷ rs) last = r ∣ any_of rs last

-- none of the rules can be empty
abbrev AllFull : List Rule → Type 0
AllFull [] = Unit {0}
AllFull (r ∷ rs) = (empties r ≡ false) × AllFull rs

-- of alternatives the first is read that can begin here, and else the last
is_taken : (ts : List Token) (d i : ℕ) (rs more : List Rule) (last : Rule) → AllFull rs
    → reads ts (symbol ts d) (any_of rs last) i ≡ taken rs last (first_begun (rs ++ more) (kind_at ts i)) (λ r. reads ts (symbol ts d) r i)
is_taken ts d i [] more last full = refl
is_taken ts d i (r ∷ rs) more last full = split (starts r (kind_at ts i)) refl (is_taken ts d i rs more last full.1)
  where
    split : (b : Bool) → starts r (kind_at ts i) ≡ b
        → reads ts (symbol ts d) (any_of rs last) i ≡ taken rs last (first_begun (rs ++ more) (kind_at ts i)) (λ r. reads ts (symbol ts d) r i)
        → reads ts (symbol ts d) (r ∣ any_of rs last) i ≡ taken (r ∷ rs) last (cond b 0 (suc (first_begun (rs ++ more) (kind_at ts i)))) (λ r. reads ts (symbol ts d) r i)
    split true s e = first_way ts d r (any_of rs last) i s
    split false s e = last_way ts d r (any_of rs last) i s full.0 ∘ ap with_right e

-- ---- statements

statement_full : AllFull statement_ways
unfolding block uniqueness choice if_statement case_statement case_keyword for_statement foreach_statement loop_statement loop_keyword do_statement return_statement system_task void_call increment_statement increment_operator concatenation_assignment left_concatenation
statement_full = (refl, (refl, (refl, (refl, (refl, (refl, (refl, (refl, (refl, (refl, (refl, (refl, (refl, (refl, tt))))))))))))))

leads : (ts : List Token) (i : ℕ) (found : Form) → IsForm (kind_at ts i) found → LeadsTo ts i found
unfolding statement
leads ts i found h = λ d. is_taken ts d i statement_ways [] name_statement statement_full ∘ ap (λ (n : ℕ). taken statement_ways name_statement n (λ r. reads ts (symbol ts d) r i)) h

pub leads_here : (ts : List Token) (i : ℕ) (k : Kind) (form : Form) → Some k ≡ kind_at ts i → IsForm (Some k) form → LeadsTo ts i form
leads_here ts i k form e h = leads ts i form (rw (← e) h)

-- where the form is known
pub plain_leads : (ts : List Token) (i d : ℕ) (form known : Plain) → form ≡ known → LeadsTo ts i (forms.Plain form) → reads ts (symbol ts d) statement i ≡ taken statement_ways name_statement (form_number (forms.Plain known)) (λ r. reads ts (symbol ts d) r i)
plain_leads ts i d form known e h = rw (← e) (h d)

nowhere : IsForm None (forms.Plain plain.Name)
unfolding block uniqueness choice if_statement case_statement case_keyword for_statement foreach_statement loop_statement loop_keyword do_statement return_statement system_task void_call increment_statement increment_operator concatenation_assignment left_concatenation
nowhere = refl

-- behind the last token
pub leads_nowhere : (ts : List Token) (i : ℕ) → None ≡ kind_at ts i → LeadsTo ts i (forms.Plain plain.Name)
leads_nowhere ts i e = leads ts i (forms.Plain plain.Name) (rw (← e) nowhere)

-- ---- items of blocks

item_full : AllFull item_ways
unfolding lifetime variable_declaration data_declaration parameter_declaration parameter_keyword type_declaration scoped_name
item_full = (refl, (refl, (refl, (refl, (refl, (refl, tt))))))

-- where the number is behind the last, none of them begins
none_begins : (rs : List Rule) (last : Rule) (k : Option Kind) → first_begun (rs ++ last ∷ []) k ≡ suc (length rs) → starts (any_of rs last) k ≡ false
none_begins [] last k h = split (starts last k) h
  where
    split : (b : Bool) → ◌≡◌ {A = ℕ} (cond b 0 1) 1 → b ≡ false
    split true h = absurd cc
    split false h = refl
none_begins (r ∷ rs) last k h = split (starts r k) h (none_begins rs last k)
  where
    split : (b : Bool) → cond b 0 (suc (first_begun (rs ++ last ∷ []) k)) ≡ suc (suc (length rs)) → (first_begun (rs ++ last ∷ []) k ≡ suc (length rs) → starts (any_of rs last) k ≡ false)
        → (b || starts (any_of rs last) k) ≡ false
    split true h e = absurd cc
    split false h e = e (omega arith)

one_begins : (rs : List Rule) (last : Rule) (k : Option Kind) → first_begun (rs ++ last ∷ []) k ≤ length rs → starts (any_of rs last) k ≡ true
one_begins [] last k h = split (starts last k) h
  where
    split : (b : Bool) → cond b 0 1 ≤ 0 → b ≡ true
    split true h = refl
    split false h = absurd (omega arith)
one_begins (r ∷ rs) last k h = split (starts r k) h (one_begins rs last k)
  where
    split : (b : Bool) → cond b 0 (suc (first_begun (rs ++ last ∷ []) k)) ≤ suc (length rs) → (first_begun (rs ++ last ∷ []) k ≤ length rs → starts (any_of rs last) k ≡ true)
        → (b || starts (any_of rs last) k) ≡ true
    split true h e = refl
    split false h e = e (omega arith)

at_most : (form : ItemForm) → item_number (Some form) ≤ 6
at_most (items.Declared declared.Local) = omega arith
at_most (items.Declared declared.Variable) = omega arith
at_most (items.Declared declared.Data) = omega arith
at_most (items.Declared declared.Parameters) = omega arith
at_most (items.Declared declared.Typedef) = omega arith
at_most (items.Declared declared.Name) = omega arith
at_most items.Statement = omega arith

finds : (ts : List Token) (i : ℕ) (found : Option ItemForm) → IsItem (kind_at ts i) found → FindsItem ts i found
unfolding block_item
finds ts i None h = none_begins item_ways (sym Statement) (kind_at ts i) h
finds ts i (Some form) h = (
  one_begins item_ways (sym Statement) (kind_at ts i) (rw h (at_most form)),
  λ d. is_taken ts d i item_ways (sym Statement ∷ []) (sym Statement) item_full ∘ ap (λ (n : ℕ). taken item_ways (sym Statement) n (λ r. reads ts (symbol ts d) r i)) h,
)

-- where the form is known
pub declared_leads : (ts : List Token) (i d : ℕ) (form known : Declared) → form ≡ known → ItemLeads ts i (items.Declared form) → reads ts (symbol ts d) block_item i ≡ taken item_ways (sym Statement) (item_number (Some (items.Declared known))) (λ r. reads ts (symbol ts d) r i)
declared_leads ts i d form known e h = rw (← e) (h d)

pub item_here : (ts : List Token) (i : ℕ) (k : Kind) (found : Option ItemForm) → Some k ≡ kind_at ts i → IsItem (Some k) found → FindsItem ts i found
item_here ts i k found e h = finds ts i found (rw (← e) h)

no_item : IsItem None None
unfolding lifetime variable_declaration data_declaration parameter_declaration parameter_keyword type_declaration scoped_name
no_item = rw (opens_none DataType, opens_none Statement) refl

-- behind the last token
pub no_item_here : (ts : List Token) (i : ℕ) → None ≡ kind_at ts i → FindsItem ts i None
no_item_here ts i e = finds ts i None (rw (← e) no_item)
