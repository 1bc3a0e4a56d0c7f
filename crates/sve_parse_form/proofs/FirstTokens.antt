-- Which alternative of a statement, and of an item of a block, is the first that can begin with a kind.
use Rattle.std.proofs.Common.{◌≡◌, ℕ, suc, false, cond, List, [], ◌∷◌, ◌++◌, Option, Some, None, refl, sym as flip, ap, subst, ◌∙◌ as ◌∘◌}
use Rattle.sve_token.specs.declared.kind.Kind.{Kind}
use Rattle.sve_token.specs.declared.kind.Kind.TheVariants.{Keyword, Semicolon, SystemName, PlusPlus, MinusMinus, LeftBrace, Identifier}
use Rattle.sve_token.specs.declared.keywords.Keyword.{Keyword as Word}
use Rattle.sve_token.specs.declared.keywords.Keyword.TheVariants.{KwAutomatic, KwStatic, KwVar, KwByte, KwShortint, KwInt, KwLongint, KwInteger, KwTime, KwBit, KwLogic, KwReg, KwString, KwEnum, KwStruct, KwParameter, KwLocalparam, KwTypedef, KwBegin, KwIf, KwCase, KwCasez, KwCasex, KwUnique, KwUnique0, KwPriority, KwFor, KwForeach, KwWhile, KwRepeat, KwDo, KwReturn, KwBreak, KwContinue, KwVoid}
use Rattle.sve_grammar.specs.declared.symbol.Symbol.TheVariants.{Statement}
use Rattle.sve_grammar.specs.Token.{same_kind}
use Rattle.sve_grammar.specs.Rule.{Rule, sym, is_among}
use Rattle.sve_grammar.specs.Statements.{block, uniqueness, choice, if_statement, case_statement, case_keyword, for_statement, foreach_statement, loop_statement, loop_keyword, do_statement, return_statement, system_task, void_call, increment_statement, increment_operator, concatenation_assignment, left_concatenation}
use Rattle.sve_grammar.specs.Declarations.{lifetime, variable_declaration, data_declaration, parameter_declaration, type_declaration}
use Rattle.sve_grammar.specs.Types.{parameter_keyword}
use Rattle.sve_grammar.specs.Expressions.{scoped_name}
use Rattle.sve_grammar.proofs.Begins.{heads, starts_heads}
use Rattle.sve_grammar.proofs.Unlike.{unlike_word}
use Rattle.sve_parse_form.specs.Forms.{first_begun, statement_ways, item_ways, IsForm, IsItem}
use Rattle.sve_parse_form.specs.declared.forms.Form.{Form}
use Rattle.sve_parse_form.specs.declared.forms.Form.TheVariants as forms
use Rattle.sve_parse_form.specs.declared.forms.Plain.TheVariants as plain
use Rattle.sve_parse_form.specs.declared.forms.ItemForm.{ItemForm}
use Rattle.sve_parse_form.specs.declared.forms.ItemForm.TheVariants as items
use Rattle.sve_parse_form.specs.declared.forms.Declared.TheVariants as declared

-- the kinds that each of the rules begins with
abbrev kinds_of : List Rule → List (List Kind)
kinds_of [] = []
kinds_of (r ∷ rs) = heads r ∷ kinds_of rs

-- the number of the first row that has this kind
abbrev first_with : List (List Kind) → Option Kind → ℕ
first_with [] k = 0
first_with (ks ∷ kss) k = cond (is_among ks k) 0 (suc (first_with kss k))

first_is : (rs : List Rule) (k : Option Kind) → first_begun rs k ≡ first_with (kinds_of rs) k
first_is [] k = refl
first_is (r ∷ rs) k = rw (starts_heads r k, first_is rs k) refl

-- ---- statements

abbrev statement_kinds : List (List Kind)
statement_kinds =
    (Semicolon ∷ [])
    ∷ (Keyword KwBegin ∷ [])
    ∷ (Keyword KwUnique ∷ Keyword KwUnique0 ∷ Keyword KwPriority ∷ Keyword KwIf ∷ Keyword KwCase ∷ Keyword KwCasez ∷ Keyword KwCasex ∷ [])
    ∷ (Keyword KwFor ∷ [])
    ∷ (Keyword KwForeach ∷ [])
    ∷ (Keyword KwWhile ∷ Keyword KwRepeat ∷ [])
    ∷ (Keyword KwDo ∷ [])
    ∷ (Keyword KwReturn ∷ [])
    ∷ (Keyword KwBreak ∷ [])
    ∷ (Keyword KwContinue ∷ [])
    ∷ (SystemName ∷ [])
    ∷ (Keyword KwVoid ∷ [])
    ∷ (PlusPlus ∷ MinusMinus ∷ [])
    ∷ (LeftBrace ∷ [])
    ∷ []

statement_kinds_are : kinds_of statement_ways ≡ statement_kinds
unfolding block uniqueness choice if_statement case_statement case_keyword for_statement foreach_statement loop_statement loop_keyword do_statement return_statement system_task void_call increment_statement increment_operator concatenation_assignment left_concatenation
statement_kinds_are = refl

form_first : (k : Kind) (n : ℕ) → first_with statement_kinds (Some k) ≡ n → first_begun statement_ways (Some k) ≡ n
form_first k n e = first_is statement_ways (Some k) ∘ ap (λ (kss : List (List Kind)). first_with kss (Some k)) statement_kinds_are ∘ e

-- ---- items of blocks

abbrev block_rules : List Rule
block_rules = item_ways ++ sym Statement ∷ []

abbrev item_kinds : List (List Kind)
item_kinds =
    (Keyword KwAutomatic ∷ Keyword KwStatic ∷ [])
    ∷ (Keyword KwVar ∷ [])
    ∷ (Keyword KwByte ∷ Keyword KwShortint ∷ Keyword KwInt ∷ Keyword KwLongint ∷ Keyword KwInteger ∷ Keyword KwTime ∷ Keyword KwBit ∷ Keyword KwLogic ∷ Keyword KwReg ∷ Keyword KwString ∷ Keyword KwEnum ∷ Keyword KwStruct ∷ [])
    ∷ (Keyword KwParameter ∷ Keyword KwLocalparam ∷ [])
    ∷ (Keyword KwTypedef ∷ [])
    ∷ (Identifier ∷ [])
    ∷ (Semicolon ∷ Keyword KwBegin ∷ Keyword KwUnique ∷ Keyword KwUnique0 ∷ Keyword KwPriority ∷ Keyword KwIf ∷ Keyword KwCase ∷ Keyword KwCasez ∷ Keyword KwCasex ∷ Keyword KwFor ∷ Keyword KwForeach ∷ Keyword KwWhile ∷ Keyword KwRepeat ∷ Keyword KwDo ∷ Keyword KwReturn ∷ Keyword KwBreak ∷ Keyword KwContinue ∷ SystemName ∷ Keyword KwVoid ∷ PlusPlus ∷ MinusMinus ∷ LeftBrace ∷ Identifier ∷ [])
    ∷ []

item_kinds_are : kinds_of block_rules ≡ item_kinds
unfolding lifetime variable_declaration data_declaration parameter_declaration parameter_keyword type_declaration scoped_name
item_kinds_are = refl

item_first : (k : Kind) (n : ℕ) → first_with item_kinds (Some k) ≡ n → first_begun block_rules (Some k) ≡ n
item_first k n e = first_is block_rules (Some k) ∘ ap (λ (kss : List (List Kind)). first_with kss (Some k)) item_kinds_are ∘ e

-- ---- a keyword that is none of theirs

unlike_marks : (w : Word) → (same_kind (Keyword w) Semicolon ≡ false) × (same_kind (Keyword w) SystemName ≡ false) × (same_kind (Keyword w) PlusPlus ≡ false) × (same_kind (Keyword w) MinusMinus ≡ false) × (same_kind (Keyword w) LeftBrace ≡ false) × (same_kind (Keyword w) Identifier ≡ false)
unfolding same_kind
unlike_marks w = (refl, refl, refl, refl, refl, refl)

pub form_of_other_word : (w : Word) → (w ≡ KwBegin → ⊥) → (w ≡ KwIf → ⊥) → (w ≡ KwCase → ⊥) → (w ≡ KwCasez → ⊥) → (w ≡ KwCasex → ⊥) → (w ≡ KwUnique → ⊥) → (w ≡ KwUnique0 → ⊥) → (w ≡ KwPriority → ⊥) → (w ≡ KwFor → ⊥) → (w ≡ KwForeach → ⊥) → (w ≡ KwWhile → ⊥) → (w ≡ KwRepeat → ⊥) → (w ≡ KwDo → ⊥) → (w ≡ KwReturn → ⊥) → (w ≡ KwBreak → ⊥) → (w ≡ KwContinue → ⊥) → (w ≡ KwVoid → ⊥) → IsForm (Some (Keyword w)) (forms.Plain plain.Name)
form_of_other_word w h0 h1 h2 h3 h4 h5 h6 h7 h8 h9 h10 h11 h12 h13 h14 h15 h16 =
    let marks = unlike_marks w in
    form_first (Keyword w) 14 (rw (marks.0, marks.1, marks.2, marks.3, marks.4, unlike_word w KwBegin h0, unlike_word w KwIf h1, unlike_word w KwCase h2, unlike_word w KwCasez h3, unlike_word w KwCasex h4, unlike_word w KwUnique h5, unlike_word w KwUnique0 h6, unlike_word w KwPriority h7, unlike_word w KwFor h8, unlike_word w KwForeach h9, unlike_word w KwWhile h10, unlike_word w KwRepeat h11, unlike_word w KwDo h12, unlike_word w KwReturn h13, unlike_word w KwBreak h14, unlike_word w KwContinue h15, unlike_word w KwVoid h16) refl)

pub item_of_other_word : (w : Word) → (w ≡ KwAutomatic → ⊥) → (w ≡ KwStatic → ⊥) → (w ≡ KwVar → ⊥) → (w ≡ KwByte → ⊥) → (w ≡ KwShortint → ⊥) → (w ≡ KwInt → ⊥) → (w ≡ KwLongint → ⊥) → (w ≡ KwInteger → ⊥) → (w ≡ KwTime → ⊥) → (w ≡ KwBit → ⊥) → (w ≡ KwLogic → ⊥) → (w ≡ KwReg → ⊥) → (w ≡ KwString → ⊥) → (w ≡ KwEnum → ⊥) → (w ≡ KwStruct → ⊥) → (w ≡ KwParameter → ⊥) → (w ≡ KwLocalparam → ⊥) → (w ≡ KwTypedef → ⊥) → (w ≡ KwBegin → ⊥) → (w ≡ KwIf → ⊥) → (w ≡ KwCase → ⊥) → (w ≡ KwCasez → ⊥) → (w ≡ KwCasex → ⊥) → (w ≡ KwUnique → ⊥) → (w ≡ KwUnique0 → ⊥) → (w ≡ KwPriority → ⊥) → (w ≡ KwFor → ⊥) → (w ≡ KwForeach → ⊥) → (w ≡ KwWhile → ⊥) → (w ≡ KwRepeat → ⊥) → (w ≡ KwDo → ⊥) → (w ≡ KwReturn → ⊥) → (w ≡ KwBreak → ⊥) → (w ≡ KwContinue → ⊥) → (w ≡ KwVoid → ⊥) → IsItem (Some (Keyword w)) None
item_of_other_word w h0 h1 h2 h3 h4 h5 h6 h7 h8 h9 h10 h11 h12 h13 h14 h15 h16 h17 h18 h19 h20 h21 h22 h23 h24 h25 h26 h27 h28 h29 h30 h31 h32 h33 h34 =
    let marks = unlike_marks w in
    item_first (Keyword w) 7 (rw (marks.0, marks.1, marks.2, marks.3, marks.4, marks.5, unlike_word w KwAutomatic h0, unlike_word w KwStatic h1, unlike_word w KwVar h2, unlike_word w KwByte h3, unlike_word w KwShortint h4, unlike_word w KwInt h5, unlike_word w KwLongint h6, unlike_word w KwInteger h7, unlike_word w KwTime h8, unlike_word w KwBit h9, unlike_word w KwLogic h10, unlike_word w KwReg h11, unlike_word w KwString h12, unlike_word w KwEnum h13, unlike_word w KwStruct h14, unlike_word w KwParameter h15, unlike_word w KwLocalparam h16, unlike_word w KwTypedef h17, unlike_word w KwBegin h18, unlike_word w KwIf h19, unlike_word w KwCase h20, unlike_word w KwCasez h21, unlike_word w KwCasex h22, unlike_word w KwUnique h23, unlike_word w KwUnique0 h24, unlike_word w KwPriority h25, unlike_word w KwFor h26, unlike_word w KwForeach h27, unlike_word w KwWhile h28, unlike_word w KwRepeat h29, unlike_word w KwDo h30, unlike_word w KwReturn h31, unlike_word w KwBreak h32, unlike_word w KwContinue h33, unlike_word w KwVoid h34) refl)

-- ---- a kind that is neither a keyword nor one of theirs

pub form_of_other : (k : Kind) → ((w : Word) → k ≡ Keyword w → ⊥) → (k ≡ Semicolon → ⊥) → (k ≡ SystemName → ⊥) → (k ≡ PlusPlus → ⊥) → (k ≡ MinusMinus → ⊥) → (k ≡ LeftBrace → ⊥) → IsForm (Some k) (forms.Plain plain.Name)
unfolding same_kind
form_of_other (Keyword w) h h0 h1 h2 h3 h4 = absurd (h w refl)
form_of_other Semicolon h h0 h1 h2 h3 h4 = absurd (h0 refl)
form_of_other SystemName h h0 h1 h2 h3 h4 = absurd (h1 refl)
form_of_other PlusPlus h h0 h1 h2 h3 h4 = absurd (h2 refl)
form_of_other MinusMinus h h0 h1 h2 h3 h4 = absurd (h3 refl)
form_of_other LeftBrace h h0 h1 h2 h3 h4 = absurd (h4 refl)
form_of_other k h h0 h1 h2 h3 h4 = form_first k 14 refl

pub item_of_other : (k : Kind) → ((w : Word) → k ≡ Keyword w → ⊥) → (k ≡ Semicolon → ⊥) → (k ≡ SystemName → ⊥) → (k ≡ PlusPlus → ⊥) → (k ≡ MinusMinus → ⊥) → (k ≡ LeftBrace → ⊥) → (k ≡ Identifier → ⊥) → IsItem (Some k) None
unfolding same_kind
item_of_other (Keyword w) h h0 h1 h2 h3 h4 h5 = absurd (h w refl)
item_of_other Semicolon h h0 h1 h2 h3 h4 h5 = absurd (h0 refl)
item_of_other SystemName h h0 h1 h2 h3 h4 h5 = absurd (h1 refl)
item_of_other PlusPlus h h0 h1 h2 h3 h4 h5 = absurd (h2 refl)
item_of_other MinusMinus h h0 h1 h2 h3 h4 h5 = absurd (h3 refl)
item_of_other LeftBrace h h0 h1 h2 h3 h4 h5 = absurd (h4 refl)
item_of_other Identifier h h0 h1 h2 h3 h4 h5 = absurd (h5 refl)
item_of_other k h h0 h1 h2 h3 h4 h5 = item_first k 7 refl

-- ---- one lemma for each kind, without variables, so that no test of kinds is left in them

pub form_of_KwBegin : IsForm (Some (Keyword KwBegin)) forms.Block
unfolding same_kind
form_of_KwBegin = form_first (Keyword KwBegin) 1 refl

pub form_of_KwIf : IsForm (Some (Keyword KwIf)) forms.Choice
unfolding same_kind
form_of_KwIf = form_first (Keyword KwIf) 2 refl

pub form_of_KwCase : IsForm (Some (Keyword KwCase)) forms.Choice
unfolding same_kind
form_of_KwCase = form_first (Keyword KwCase) 2 refl

pub form_of_KwCasez : IsForm (Some (Keyword KwCasez)) forms.Choice
unfolding same_kind
form_of_KwCasez = form_first (Keyword KwCasez) 2 refl

pub form_of_KwCasex : IsForm (Some (Keyword KwCasex)) forms.Choice
unfolding same_kind
form_of_KwCasex = form_first (Keyword KwCasex) 2 refl

pub form_of_KwUnique : IsForm (Some (Keyword KwUnique)) forms.Choice
unfolding same_kind
form_of_KwUnique = form_first (Keyword KwUnique) 2 refl

pub form_of_KwUnique0 : IsForm (Some (Keyword KwUnique0)) forms.Choice
unfolding same_kind
form_of_KwUnique0 = form_first (Keyword KwUnique0) 2 refl

pub form_of_KwPriority : IsForm (Some (Keyword KwPriority)) forms.Choice
unfolding same_kind
form_of_KwPriority = form_first (Keyword KwPriority) 2 refl

pub form_of_KwFor : IsForm (Some (Keyword KwFor)) forms.For
unfolding same_kind
form_of_KwFor = form_first (Keyword KwFor) 3 refl

pub form_of_KwForeach : IsForm (Some (Keyword KwForeach)) forms.Foreach
unfolding same_kind
form_of_KwForeach = form_first (Keyword KwForeach) 4 refl

pub form_of_KwWhile : IsForm (Some (Keyword KwWhile)) forms.Loop
unfolding same_kind
form_of_KwWhile = form_first (Keyword KwWhile) 5 refl

pub form_of_KwRepeat : IsForm (Some (Keyword KwRepeat)) forms.Loop
unfolding same_kind
form_of_KwRepeat = form_first (Keyword KwRepeat) 5 refl

pub form_of_KwDo : IsForm (Some (Keyword KwDo)) forms.Do
unfolding same_kind
form_of_KwDo = form_first (Keyword KwDo) 6 refl

pub form_of_KwReturn : IsForm (Some (Keyword KwReturn)) (forms.Plain plain.Return)
unfolding same_kind
form_of_KwReturn = form_first (Keyword KwReturn) 7 refl

pub form_of_KwBreak : IsForm (Some (Keyword KwBreak)) (forms.Plain plain.Break)
unfolding same_kind
form_of_KwBreak = form_first (Keyword KwBreak) 8 refl

pub form_of_KwContinue : IsForm (Some (Keyword KwContinue)) (forms.Plain plain.Continue)
unfolding same_kind
form_of_KwContinue = form_first (Keyword KwContinue) 9 refl

pub form_of_KwVoid : IsForm (Some (Keyword KwVoid)) (forms.Plain plain.VoidCall)
unfolding same_kind
form_of_KwVoid = form_first (Keyword KwVoid) 11 refl

pub form_of_Identifier : IsForm (Some Identifier) (forms.Plain plain.Name)
unfolding same_kind
form_of_Identifier = form_first Identifier 14 refl

pub form_of_Semicolon : IsForm (Some Semicolon) (forms.Plain plain.Empty)
unfolding same_kind
form_of_Semicolon = form_first Semicolon 0 refl

pub form_of_SystemName : IsForm (Some SystemName) (forms.Plain plain.SystemTask)
unfolding same_kind
form_of_SystemName = form_first SystemName 10 refl

pub form_of_PlusPlus : IsForm (Some PlusPlus) (forms.Plain plain.Step)
unfolding same_kind
form_of_PlusPlus = form_first PlusPlus 12 refl

pub form_of_MinusMinus : IsForm (Some MinusMinus) (forms.Plain plain.Step)
unfolding same_kind
form_of_MinusMinus = form_first MinusMinus 12 refl

pub form_of_LeftBrace : IsForm (Some LeftBrace) (forms.Plain plain.Concatenation)
unfolding same_kind
form_of_LeftBrace = form_first LeftBrace 13 refl

pub item_of_KwAutomatic : IsItem (Some (Keyword KwAutomatic)) (Some (items.Declared declared.Local))
unfolding same_kind
item_of_KwAutomatic = item_first (Keyword KwAutomatic) 0 refl

pub item_of_KwStatic : IsItem (Some (Keyword KwStatic)) (Some (items.Declared declared.Local))
unfolding same_kind
item_of_KwStatic = item_first (Keyword KwStatic) 0 refl

pub item_of_KwVar : IsItem (Some (Keyword KwVar)) (Some (items.Declared declared.Variable))
unfolding same_kind
item_of_KwVar = item_first (Keyword KwVar) 1 refl

pub item_of_KwByte : IsItem (Some (Keyword KwByte)) (Some (items.Declared declared.Data))
unfolding same_kind
item_of_KwByte = item_first (Keyword KwByte) 2 refl

pub item_of_KwShortint : IsItem (Some (Keyword KwShortint)) (Some (items.Declared declared.Data))
unfolding same_kind
item_of_KwShortint = item_first (Keyword KwShortint) 2 refl

pub item_of_KwInt : IsItem (Some (Keyword KwInt)) (Some (items.Declared declared.Data))
unfolding same_kind
item_of_KwInt = item_first (Keyword KwInt) 2 refl

pub item_of_KwLongint : IsItem (Some (Keyword KwLongint)) (Some (items.Declared declared.Data))
unfolding same_kind
item_of_KwLongint = item_first (Keyword KwLongint) 2 refl

pub item_of_KwInteger : IsItem (Some (Keyword KwInteger)) (Some (items.Declared declared.Data))
unfolding same_kind
item_of_KwInteger = item_first (Keyword KwInteger) 2 refl

pub item_of_KwTime : IsItem (Some (Keyword KwTime)) (Some (items.Declared declared.Data))
unfolding same_kind
item_of_KwTime = item_first (Keyword KwTime) 2 refl

pub item_of_KwBit : IsItem (Some (Keyword KwBit)) (Some (items.Declared declared.Data))
unfolding same_kind
item_of_KwBit = item_first (Keyword KwBit) 2 refl

pub item_of_KwLogic : IsItem (Some (Keyword KwLogic)) (Some (items.Declared declared.Data))
unfolding same_kind
item_of_KwLogic = item_first (Keyword KwLogic) 2 refl

pub item_of_KwReg : IsItem (Some (Keyword KwReg)) (Some (items.Declared declared.Data))
unfolding same_kind
item_of_KwReg = item_first (Keyword KwReg) 2 refl

pub item_of_KwString : IsItem (Some (Keyword KwString)) (Some (items.Declared declared.Data))
unfolding same_kind
item_of_KwString = item_first (Keyword KwString) 2 refl

pub item_of_KwEnum : IsItem (Some (Keyword KwEnum)) (Some (items.Declared declared.Data))
unfolding same_kind
item_of_KwEnum = item_first (Keyword KwEnum) 2 refl

pub item_of_KwStruct : IsItem (Some (Keyword KwStruct)) (Some (items.Declared declared.Data))
unfolding same_kind
item_of_KwStruct = item_first (Keyword KwStruct) 2 refl

pub item_of_KwParameter : IsItem (Some (Keyword KwParameter)) (Some (items.Declared declared.Parameters))
unfolding same_kind
item_of_KwParameter = item_first (Keyword KwParameter) 3 refl

pub item_of_KwLocalparam : IsItem (Some (Keyword KwLocalparam)) (Some (items.Declared declared.Parameters))
unfolding same_kind
item_of_KwLocalparam = item_first (Keyword KwLocalparam) 3 refl

pub item_of_KwTypedef : IsItem (Some (Keyword KwTypedef)) (Some (items.Declared declared.Typedef))
unfolding same_kind
item_of_KwTypedef = item_first (Keyword KwTypedef) 4 refl

pub item_of_KwBegin : IsItem (Some (Keyword KwBegin)) (Some items.Statement)
unfolding same_kind
item_of_KwBegin = item_first (Keyword KwBegin) 6 refl

pub item_of_KwIf : IsItem (Some (Keyword KwIf)) (Some items.Statement)
unfolding same_kind
item_of_KwIf = item_first (Keyword KwIf) 6 refl

pub item_of_KwCase : IsItem (Some (Keyword KwCase)) (Some items.Statement)
unfolding same_kind
item_of_KwCase = item_first (Keyword KwCase) 6 refl

pub item_of_KwCasez : IsItem (Some (Keyword KwCasez)) (Some items.Statement)
unfolding same_kind
item_of_KwCasez = item_first (Keyword KwCasez) 6 refl

pub item_of_KwCasex : IsItem (Some (Keyword KwCasex)) (Some items.Statement)
unfolding same_kind
item_of_KwCasex = item_first (Keyword KwCasex) 6 refl

pub item_of_KwUnique : IsItem (Some (Keyword KwUnique)) (Some items.Statement)
unfolding same_kind
item_of_KwUnique = item_first (Keyword KwUnique) 6 refl

pub item_of_KwUnique0 : IsItem (Some (Keyword KwUnique0)) (Some items.Statement)
unfolding same_kind
item_of_KwUnique0 = item_first (Keyword KwUnique0) 6 refl

pub item_of_KwPriority : IsItem (Some (Keyword KwPriority)) (Some items.Statement)
unfolding same_kind
item_of_KwPriority = item_first (Keyword KwPriority) 6 refl

pub item_of_KwFor : IsItem (Some (Keyword KwFor)) (Some items.Statement)
unfolding same_kind
item_of_KwFor = item_first (Keyword KwFor) 6 refl

pub item_of_KwForeach : IsItem (Some (Keyword KwForeach)) (Some items.Statement)
unfolding same_kind
item_of_KwForeach = item_first (Keyword KwForeach) 6 refl

pub item_of_KwWhile : IsItem (Some (Keyword KwWhile)) (Some items.Statement)
unfolding same_kind
item_of_KwWhile = item_first (Keyword KwWhile) 6 refl

pub item_of_KwRepeat : IsItem (Some (Keyword KwRepeat)) (Some items.Statement)
unfolding same_kind
item_of_KwRepeat = item_first (Keyword KwRepeat) 6 refl

pub item_of_KwDo : IsItem (Some (Keyword KwDo)) (Some items.Statement)
unfolding same_kind
item_of_KwDo = item_first (Keyword KwDo) 6 refl

pub item_of_KwReturn : IsItem (Some (Keyword KwReturn)) (Some items.Statement)
unfolding same_kind
item_of_KwReturn = item_first (Keyword KwReturn) 6 refl

pub item_of_KwBreak : IsItem (Some (Keyword KwBreak)) (Some items.Statement)
unfolding same_kind
item_of_KwBreak = item_first (Keyword KwBreak) 6 refl

pub item_of_KwContinue : IsItem (Some (Keyword KwContinue)) (Some items.Statement)
unfolding same_kind
item_of_KwContinue = item_first (Keyword KwContinue) 6 refl

pub item_of_KwVoid : IsItem (Some (Keyword KwVoid)) (Some items.Statement)
unfolding same_kind
item_of_KwVoid = item_first (Keyword KwVoid) 6 refl

pub item_of_Identifier : IsItem (Some Identifier) (Some (items.Declared declared.Name))
unfolding same_kind
item_of_Identifier = item_first Identifier 5 refl

pub item_of_Semicolon : IsItem (Some Semicolon) (Some items.Statement)
unfolding same_kind
item_of_Semicolon = item_first Semicolon 6 refl

pub item_of_SystemName : IsItem (Some SystemName) (Some items.Statement)
unfolding same_kind
item_of_SystemName = item_first SystemName 6 refl

pub item_of_PlusPlus : IsItem (Some PlusPlus) (Some items.Statement)
unfolding same_kind
item_of_PlusPlus = item_first PlusPlus 6 refl

pub item_of_MinusMinus : IsItem (Some MinusMinus) (Some items.Statement)
unfolding same_kind
item_of_MinusMinus = item_first MinusMinus 6 refl

pub item_of_LeftBrace : IsItem (Some LeftBrace) (Some items.Statement)
unfolding same_kind
item_of_LeftBrace = item_first LeftBrace 6 refl

-- ---- where the kind is known

pub form_same : (k known : Kind) (form : Form) → k ≡ known → IsForm (Some known) form → IsForm (Some k) form
form_same k known form e h = subst (λ (x : Kind). IsForm (Some x) form) (flip e) h

pub form_of_word : (w known : Word) (form : Form) → w ≡ known → IsForm (Some (Keyword known)) form → IsForm (Some (Keyword w)) form
form_of_word w known form e h = subst (λ (x : Word). IsForm (Some (Keyword x)) form) (flip e) h

pub item_same : (k known : Kind) (form : Option ItemForm) → k ≡ known → IsItem (Some known) form → IsItem (Some k) form
item_same k known form e h = subst (λ (x : Kind). IsItem (Some x) form) (flip e) h

pub item_of_word : (w known : Word) (form : Option ItemForm) → w ≡ known → IsItem (Some (Keyword known)) form → IsItem (Some (Keyword w)) form
item_of_word w known form e h = subst (λ (x : Word). IsItem (Some (Keyword x)) form) (flip e) h
