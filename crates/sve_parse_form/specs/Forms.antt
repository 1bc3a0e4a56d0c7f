-- Which alternative of a statement, and of an item of a block, is read by its next token (IEEE 1800-2017, A.6.4 and A.2.8, and own).
use Rattle.std.specs.Prelude.{ℕ, zero, suc, true, false, List, [], ◌∷◌, ◌++◌, Option, Some, None, if◌then◌else◌, ◌≡◌}
use Rattle.sve_token.specs.declared.kind.Kind.{Kind}
use Rattle.sve_token.specs.declared.kind.Kind.TheVariants.{Semicolon}
use Rattle.sve_token.specs.declared.keywords.Keyword.TheVariants.{KwBreak, KwContinue}
use Rattle.sve_token.specs.declared.token.Token.{Token}
use Rattle.sve_grammar.specs.declared.symbol.Symbol.TheVariants.{Statement}
use Rattle.sve_grammar.specs.Token.{kind_at}
use Rattle.sve_grammar.specs.Rule.{Rule, tok, sym, word, ◌∙◌, opt, starts}
use Rattle.sve_grammar.specs.Expressions.{scoped_name, selects}
use Rattle.sve_grammar.specs.Declarations.{lifetime, variable_declaration, data_declaration, parameter_declaration, type_declaration}
use Rattle.sve_grammar.specs.Statements.{statement, block, uniqueness, choice, for_statement, foreach_statement, loop_statement, do_statement, return_statement, system_task, void_call, increment_statement, concatenation_assignment, name_statement, local_declaration, block_item, block_item_end}
use Rattle.sve_grammar.specs.Reading.{Answer, with_left, with_right, reads, symbol}
use Rattle.sve_parse_form.specs.declared.forms.Form.{Form}
use Rattle.sve_parse_form.specs.declared.forms.Form.TheVariants as forms
use Rattle.sve_parse_form.specs.declared.forms.Plain.TheVariants as plain
use Rattle.sve_parse_form.specs.declared.forms.Declared.TheVariants as declared
use Rattle.sve_parse_form.specs.declared.forms.ItemForm.{ItemForm}
use Rattle.sve_parse_form.specs.declared.forms.ItemForm.TheVariants as items

-- the alternatives of statement in their order, but the last
abbrev pub statement_ways : List Rule
statement_ways =
    tok Semicolon ∷ block ∷ (opt uniqueness ∙ choice) ∷ for_statement ∷ foreach_statement ∷ loop_statement ∷ do_statement ∷ return_statement
    ∷ (word KwBreak ∙ tok Semicolon) ∷ (word KwContinue ∙ tok Semicolon) ∷ system_task ∷ void_call ∷ increment_statement ∷ concatenation_assignment ∷ []

-- the number of a form's alternative, from 0
abbrev pub form_number : Form → ℕ
form_number (forms.Plain plain.Empty) = 0
form_number forms.Block = 1
form_number forms.Choice = 2
form_number forms.For = 3
form_number forms.Foreach = 4
form_number forms.Loop = 5
form_number forms.Do = 6
form_number (forms.Plain plain.Return) = 7
form_number (forms.Plain plain.Break) = 8
form_number (forms.Plain plain.Continue) = 9
form_number (forms.Plain plain.SystemTask) = 10
form_number (forms.Plain plain.VoidCall) = 11
form_number (forms.Plain plain.Step) = 12
form_number (forms.Plain plain.Concatenation) = 13
form_number (forms.Plain plain.Name) = 14

-- the alternatives of block_item in their order, but the last
abbrev pub item_ways : List Rule
item_ways =
    (lifetime ∙ local_declaration ∙ tok Semicolon) ∷ variable_declaration ∷ data_declaration ∷ parameter_declaration ∷ type_declaration
    ∷ (scoped_name ∙ selects ∙ block_item_end ∙ tok Semicolon) ∷ []

-- the number of a form's alternative, from 0; of no form, how many alternatives there are
abbrev pub item_number : Option ItemForm → ℕ
item_number (Some (items.Declared declared.Local)) = 0
item_number (Some (items.Declared declared.Variable)) = 1
item_number (Some (items.Declared declared.Data)) = 2
item_number (Some (items.Declared declared.Parameters)) = 3
item_number (Some (items.Declared declared.Typedef)) = 4
item_number (Some (items.Declared declared.Name)) = 5
item_number (Some items.Statement) = 6
item_number None = 7

-- the number of the first of the rules that can begin with this kind, from 0; where none can, how many rules there are
abbrev pub first_begun : List Rule → Option Kind → ℕ
first_begun [] k = 0
first_begun (r ∷ rs) k = if starts r k then 0 else suc (first_begun rs k)

abbrev pub IsForm : Option Kind → Form → Type 0
IsForm k form = first_begun statement_ways k ≡ form_number form

abbrev pub IsItem : Option Kind → Option ItemForm → Type 0
IsItem k form = first_begun (item_ways ++ sym Statement ∷ []) k ≡ item_number form

-- what is read by the alternative with this number
abbrev pub taken : List Rule → Rule → ℕ → (Rule → Answer) → Answer
taken [] last n f = f last
taken (r ∷ rs) last zero f = with_left (f r)
taken (r ∷ rs) last (suc n) f = with_right (taken rs last n f)

-- at every depth the statement that begins here is read by the form's alternative
abbrev pub LeadsTo : List Token → ℕ → Form → Type 0
LeadsTo ts i form = (d : ℕ) → reads ts (symbol ts d) statement i ≡ taken statement_ways name_statement (form_number form) (λ r. reads ts (symbol ts d) r i)

-- at every depth the item that begins here is read by the form's alternative
abbrev pub ItemLeads : List Token → ℕ → ItemForm → Type 0
ItemLeads ts i form = (d : ℕ) → reads ts (symbol ts d) block_item i ≡ taken item_ways (sym Statement) (item_number (Some form)) (λ r. reads ts (symbol ts d) r i)

-- what the item of a block that begins here is, or that none begins here
abbrev pub FindsItem : List Token → ℕ → Option ItemForm → Type 0
FindsItem ts i None = starts block_item (kind_at ts i) ≡ false
FindsItem ts i (Some form) = (starts block_item (kind_at ts i) ≡ true) × ItemLeads ts i form
