-- Which alternative of an item is the first that can begin with a kind.
use Rattle.std.proofs.Common.{◌≡◌, ℕ, suc, false, cond, List, [], ◌∷◌, Option, Some, refl, sym, subst, ◌∙◌ as ◌∘◌}
use Rattle.sve_token.specs.declared.kind.Kind.{Kind}
use Rattle.sve_token.specs.declared.kind.Kind.TheVariants.{Keyword, Semicolon, SystemName, Identifier}
use Rattle.sve_token.specs.declared.keywords.Keyword.{Keyword as Word}
use Rattle.sve_token.specs.declared.keywords.Keyword.TheVariants.{KwImport, KwParameter, KwLocalparam, KwTypedef, KwFunction, KwGenvar, KwWire, KwTri, KwUwire, KwWand, KwWor, KwTriand, KwTrior, KwTri0, KwTri1, KwSupply0, KwSupply1, KwVar, KwByte, KwShortint, KwInt, KwLongint, KwInteger, KwTime, KwBit, KwLogic, KwReg, KwString, KwEnum, KwStruct, KwAssign, KwAlways, KwAlwaysFf, KwAlwaysComb, KwAlwaysLatch, KwInitial, KwGenerate, KwFor, KwIf, KwCase, KwModport}
use Rattle.sve_grammar.specs.Token.{same_kind}
use Rattle.sve_grammar.specs.Rule.{is_among, opens}
use Rattle.sve_grammar.specs.Types.{parameter_keyword, net_type}
use Rattle.sve_grammar.specs.Declarations.{import_declaration, parameter_declaration, type_declaration, net_declaration, variable_declaration, data_declaration}
use Rattle.sve_grammar.specs.Statements.{function_declaration, system_task}
use Rattle.sve_grammar.specs.Items.{genvar_declaration, continuous_assign, clocked_keyword, clocked_procedure, plain_keyword, plain_procedure, generate_region, loop_generate, if_generate, case_generate, modport_declaration}
use Rattle.sve_grammar.proofs.Begins.{or_none}
use Rattle.sve_parse_form.specs.Forms.{first_begun}
use Rattle.sve_parse_flat_item.specs.Alternatives.{item_alternatives}

-- the kinds that each alternative begins with
abbrev pub alternative_kinds : List (List Kind)
alternative_kinds =
    (Semicolon ∷ [])
    ∷ (Keyword KwImport ∷ [])
    ∷ (Keyword KwParameter ∷ Keyword KwLocalparam ∷ [])
    ∷ (Keyword KwTypedef ∷ [])
    ∷ (Keyword KwFunction ∷ [])
    ∷ (Keyword KwGenvar ∷ [])
    ∷ (Keyword KwWire ∷ Keyword KwTri ∷ Keyword KwUwire ∷ Keyword KwWand ∷ Keyword KwWor ∷ Keyword KwTriand ∷ Keyword KwTrior ∷ Keyword KwTri0 ∷ Keyword KwTri1 ∷ Keyword KwSupply0 ∷ Keyword KwSupply1 ∷ [])
    ∷ (Keyword KwVar ∷ [])
    ∷ (Keyword KwByte ∷ Keyword KwShortint ∷ Keyword KwInt ∷ Keyword KwLongint ∷ Keyword KwInteger ∷ Keyword KwTime ∷ Keyword KwBit ∷ Keyword KwLogic ∷ Keyword KwReg ∷ Keyword KwString ∷ Keyword KwEnum ∷ Keyword KwStruct ∷ [])
    ∷ (Keyword KwAssign ∷ [])
    ∷ (Keyword KwAlways ∷ Keyword KwAlwaysFf ∷ [])
    ∷ (Keyword KwAlwaysComb ∷ Keyword KwAlwaysLatch ∷ Keyword KwInitial ∷ [])
    ∷ (Keyword KwGenerate ∷ [])
    ∷ (Keyword KwFor ∷ [])
    ∷ (Keyword KwIf ∷ [])
    ∷ (Keyword KwCase ∷ [])
    ∷ (Keyword KwModport ∷ [])
    ∷ (SystemName ∷ [])
    ∷ (Identifier ∷ [])
    ∷ []

abbrev pub first_with : List (List Kind) → Option Kind → ℕ
first_with [] k = 0
first_with (ks ∷ kss) k = cond (is_among ks k) 0 (suc (first_with kss k))

first_is : (k : Option Kind) → first_begun item_alternatives k ≡ first_with alternative_kinds k
unfolding import_declaration parameter_declaration parameter_keyword type_declaration function_declaration genvar_declaration net_declaration net_type variable_declaration data_declaration continuous_assign clocked_procedure clocked_keyword plain_procedure plain_keyword generate_region loop_generate if_generate case_generate modport_declaration system_task opens
first_is k = simp or_none

-- the number of a kind's alternative is that in the table
first : (k : Kind) (n : ℕ) → first_with alternative_kinds (Some k) ≡ n → first_begun item_alternatives (Some k) ≡ n
first k n e = first_is (Some k) ∘ e

-- a kind that is neither a keyword nor one of three begins no item
pub no_item_kind : (k : Kind) → ((w : Word) → k ≡ Keyword w → ⊥) → (k ≡ Semicolon → ⊥) → (k ≡ SystemName → ⊥) → (k ≡ Identifier → ⊥) → first_begun item_alternatives (Some k) ≡ 19
unfolding same_kind
no_item_kind (Keyword w) h i j l = absurd (h w refl)
no_item_kind Semicolon h i j l = absurd (i refl)
no_item_kind SystemName h i j l = absurd (j refl)
no_item_kind Identifier h i j l = absurd (l refl)
no_item_kind k h i j l = first k 19 refl

-- nor does a keyword that is none of these
abbrev Lacks : Word → Word → Type 0
Lacks w v = same_kind (Keyword w) (Keyword v) ≡ false

unlike_marks : (w : Word) → (same_kind (Keyword w) Semicolon ≡ false) × (same_kind (Keyword w) SystemName ≡ false) × (same_kind (Keyword w) Identifier ≡ false)
unfolding same_kind
unlike_marks w = (refl, refl, refl)

pub no_item_word : (w : Word) → Lacks w KwImport → Lacks w KwParameter → Lacks w KwLocalparam → Lacks w KwTypedef → Lacks w KwFunction → Lacks w KwGenvar → Lacks w KwWire → Lacks w KwTri → Lacks w KwUwire → Lacks w KwWand → Lacks w KwWor → Lacks w KwTriand → Lacks w KwTrior → Lacks w KwTri0 → Lacks w KwTri1 → Lacks w KwSupply0 → Lacks w KwSupply1 → Lacks w KwVar → Lacks w KwByte → Lacks w KwShortint → Lacks w KwInt → Lacks w KwLongint → Lacks w KwInteger → Lacks w KwTime → Lacks w KwBit → Lacks w KwLogic → Lacks w KwReg → Lacks w KwString → Lacks w KwEnum → Lacks w KwStruct → Lacks w KwAssign → Lacks w KwAlways → Lacks w KwAlwaysFf → Lacks w KwAlwaysComb → Lacks w KwAlwaysLatch → Lacks w KwInitial → Lacks w KwGenerate → Lacks w KwFor → Lacks w KwIf → Lacks w KwCase → Lacks w KwModport → first_begun item_alternatives (Some (Keyword w)) ≡ 19
no_item_word w h0 h1 h2 h3 h4 h5 h6 h7 h8 h9 h10 h11 h12 h13 h14 h15 h16 h17 h18 h19 h20 h21 h22 h23 h24 h25 h26 h27 h28 h29 h30 h31 h32 h33 h34 h35 h36 h37 h38 h39 h40 =
    let marks = unlike_marks w in
    first (Keyword w) 19 (rw (marks.0, marks.1, marks.2, h0, h1, h2, h3, h4, h5, h6, h7, h8, h9, h10, h11, h12, h13, h14, h15, h16, h17, h18, h19, h20, h21, h22, h23, h24, h25, h26, h27, h28, h29, h30, h31, h32, h33, h34, h35, h36, h37, h38, h39, h40) refl)

-- one lemma for each kind, without variables, so that no test of kinds is left in them

pub of_KwImport : first_begun item_alternatives (Some (Keyword KwImport)) ≡ 1
unfolding same_kind
of_KwImport = first (Keyword KwImport) 1 refl

pub of_KwParameter : first_begun item_alternatives (Some (Keyword KwParameter)) ≡ 2
unfolding same_kind
of_KwParameter = first (Keyword KwParameter) 2 refl

pub of_KwLocalparam : first_begun item_alternatives (Some (Keyword KwLocalparam)) ≡ 2
unfolding same_kind
of_KwLocalparam = first (Keyword KwLocalparam) 2 refl

pub of_KwTypedef : first_begun item_alternatives (Some (Keyword KwTypedef)) ≡ 3
unfolding same_kind
of_KwTypedef = first (Keyword KwTypedef) 3 refl

pub of_KwFunction : first_begun item_alternatives (Some (Keyword KwFunction)) ≡ 4
unfolding same_kind
of_KwFunction = first (Keyword KwFunction) 4 refl

pub of_KwGenvar : first_begun item_alternatives (Some (Keyword KwGenvar)) ≡ 5
unfolding same_kind
of_KwGenvar = first (Keyword KwGenvar) 5 refl

pub of_KwWire : first_begun item_alternatives (Some (Keyword KwWire)) ≡ 6
unfolding same_kind
of_KwWire = first (Keyword KwWire) 6 refl

pub of_KwTri : first_begun item_alternatives (Some (Keyword KwTri)) ≡ 6
unfolding same_kind
of_KwTri = first (Keyword KwTri) 6 refl

pub of_KwUwire : first_begun item_alternatives (Some (Keyword KwUwire)) ≡ 6
unfolding same_kind
of_KwUwire = first (Keyword KwUwire) 6 refl

pub of_KwWand : first_begun item_alternatives (Some (Keyword KwWand)) ≡ 6
unfolding same_kind
of_KwWand = first (Keyword KwWand) 6 refl

pub of_KwWor : first_begun item_alternatives (Some (Keyword KwWor)) ≡ 6
unfolding same_kind
of_KwWor = first (Keyword KwWor) 6 refl

pub of_KwTriand : first_begun item_alternatives (Some (Keyword KwTriand)) ≡ 6
unfolding same_kind
of_KwTriand = first (Keyword KwTriand) 6 refl

pub of_KwTrior : first_begun item_alternatives (Some (Keyword KwTrior)) ≡ 6
unfolding same_kind
of_KwTrior = first (Keyword KwTrior) 6 refl

pub of_KwTri0 : first_begun item_alternatives (Some (Keyword KwTri0)) ≡ 6
unfolding same_kind
of_KwTri0 = first (Keyword KwTri0) 6 refl

pub of_KwTri1 : first_begun item_alternatives (Some (Keyword KwTri1)) ≡ 6
unfolding same_kind
of_KwTri1 = first (Keyword KwTri1) 6 refl

pub of_KwSupply0 : first_begun item_alternatives (Some (Keyword KwSupply0)) ≡ 6
unfolding same_kind
of_KwSupply0 = first (Keyword KwSupply0) 6 refl

pub of_KwSupply1 : first_begun item_alternatives (Some (Keyword KwSupply1)) ≡ 6
unfolding same_kind
of_KwSupply1 = first (Keyword KwSupply1) 6 refl

pub of_KwVar : first_begun item_alternatives (Some (Keyword KwVar)) ≡ 7
unfolding same_kind
of_KwVar = first (Keyword KwVar) 7 refl

pub of_KwByte : first_begun item_alternatives (Some (Keyword KwByte)) ≡ 8
unfolding same_kind
of_KwByte = first (Keyword KwByte) 8 refl

pub of_KwShortint : first_begun item_alternatives (Some (Keyword KwShortint)) ≡ 8
unfolding same_kind
of_KwShortint = first (Keyword KwShortint) 8 refl

pub of_KwInt : first_begun item_alternatives (Some (Keyword KwInt)) ≡ 8
unfolding same_kind
of_KwInt = first (Keyword KwInt) 8 refl

pub of_KwLongint : first_begun item_alternatives (Some (Keyword KwLongint)) ≡ 8
unfolding same_kind
of_KwLongint = first (Keyword KwLongint) 8 refl

pub of_KwInteger : first_begun item_alternatives (Some (Keyword KwInteger)) ≡ 8
unfolding same_kind
of_KwInteger = first (Keyword KwInteger) 8 refl

pub of_KwTime : first_begun item_alternatives (Some (Keyword KwTime)) ≡ 8
unfolding same_kind
of_KwTime = first (Keyword KwTime) 8 refl

pub of_KwBit : first_begun item_alternatives (Some (Keyword KwBit)) ≡ 8
unfolding same_kind
of_KwBit = first (Keyword KwBit) 8 refl

pub of_KwLogic : first_begun item_alternatives (Some (Keyword KwLogic)) ≡ 8
unfolding same_kind
of_KwLogic = first (Keyword KwLogic) 8 refl

pub of_KwReg : first_begun item_alternatives (Some (Keyword KwReg)) ≡ 8
unfolding same_kind
of_KwReg = first (Keyword KwReg) 8 refl

pub of_KwString : first_begun item_alternatives (Some (Keyword KwString)) ≡ 8
unfolding same_kind
of_KwString = first (Keyword KwString) 8 refl

pub of_KwEnum : first_begun item_alternatives (Some (Keyword KwEnum)) ≡ 8
unfolding same_kind
of_KwEnum = first (Keyword KwEnum) 8 refl

pub of_KwStruct : first_begun item_alternatives (Some (Keyword KwStruct)) ≡ 8
unfolding same_kind
of_KwStruct = first (Keyword KwStruct) 8 refl

pub of_KwAssign : first_begun item_alternatives (Some (Keyword KwAssign)) ≡ 9
unfolding same_kind
of_KwAssign = first (Keyword KwAssign) 9 refl

pub of_KwAlways : first_begun item_alternatives (Some (Keyword KwAlways)) ≡ 10
unfolding same_kind
of_KwAlways = first (Keyword KwAlways) 10 refl

pub of_KwAlwaysFf : first_begun item_alternatives (Some (Keyword KwAlwaysFf)) ≡ 10
unfolding same_kind
of_KwAlwaysFf = first (Keyword KwAlwaysFf) 10 refl

pub of_KwAlwaysComb : first_begun item_alternatives (Some (Keyword KwAlwaysComb)) ≡ 11
unfolding same_kind
of_KwAlwaysComb = first (Keyword KwAlwaysComb) 11 refl

pub of_KwAlwaysLatch : first_begun item_alternatives (Some (Keyword KwAlwaysLatch)) ≡ 11
unfolding same_kind
of_KwAlwaysLatch = first (Keyword KwAlwaysLatch) 11 refl

pub of_KwInitial : first_begun item_alternatives (Some (Keyword KwInitial)) ≡ 11
unfolding same_kind
of_KwInitial = first (Keyword KwInitial) 11 refl

pub of_KwGenerate : first_begun item_alternatives (Some (Keyword KwGenerate)) ≡ 12
unfolding same_kind
of_KwGenerate = first (Keyword KwGenerate) 12 refl

pub of_KwFor : first_begun item_alternatives (Some (Keyword KwFor)) ≡ 13
unfolding same_kind
of_KwFor = first (Keyword KwFor) 13 refl

pub of_KwIf : first_begun item_alternatives (Some (Keyword KwIf)) ≡ 14
unfolding same_kind
of_KwIf = first (Keyword KwIf) 14 refl

pub of_KwCase : first_begun item_alternatives (Some (Keyword KwCase)) ≡ 15
unfolding same_kind
of_KwCase = first (Keyword KwCase) 15 refl

pub of_KwModport : first_begun item_alternatives (Some (Keyword KwModport)) ≡ 16
unfolding same_kind
of_KwModport = first (Keyword KwModport) 16 refl

pub of_Semicolon : first_begun item_alternatives (Some Semicolon) ≡ 0
unfolding same_kind
of_Semicolon = first Semicolon 0 refl

pub of_SystemName : first_begun item_alternatives (Some SystemName) ≡ 17
unfolding same_kind
of_SystemName = first SystemName 17 refl

pub of_Identifier : first_begun item_alternatives (Some Identifier) ≡ 18
unfolding same_kind
of_Identifier = first Identifier 18 refl

-- where the kind is known
pub kind_same : (k known : Kind) (n : ℕ) → k ≡ known → first_begun item_alternatives (Some known) ≡ n → first_begun item_alternatives (Some k) ≡ n
kind_same k known n e h = subst (λ (x : Kind). first_begun item_alternatives (Some x) ≡ n) (sym e) h

pub word_same : (w known : Word) (n : ℕ) → w ≡ known → first_begun item_alternatives (Some (Keyword known)) ≡ n → first_begun item_alternatives (Some (Keyword w)) ≡ n
word_same w known n e h = subst (λ (x : Word). first_begun item_alternatives (Some (Keyword x)) ≡ n) (sym e) h
