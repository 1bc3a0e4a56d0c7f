-- To which of its alternatives an operand leads, by its next token.
use Rattle.std.proofs.Common.{◌≡◌, ℕ, true, false, List, Some, refl, ap, sym as flip, ◌∙◌ as ◌∘◌}
use Rattle.sve_token.specs.declared.kind.Kind.{Kind}
use Rattle.sve_token.specs.declared.kind.Kind.TheVariants.{Identifier, SystemName, Decimal, Based, Unbased, Text, LeftParen, LeftBrace, ApostropheLeftBrace}
use Rattle.sve_token.specs.declared.token.Token.{Token}
use Rattle.sve_grammar.specs.Token.{kind_at, has_kind, same_kind}
use Rattle.sve_grammar.specs.Rule.{Rule, tok, ◌∙◌, ◌∣◌, opt, starts}
use Rattle.sve_grammar.specs.Expressions.{primary, decimal, parenthesized, cast, pattern, concatenation, signing, integer_type, integer_atom_type, integer_vector_type, unary_operator, typed_primary, system_call, scoped_name, postfixes}
use Rattle.sve_grammar.specs.Reading.{reads, symbol}
use Rattle.sve_grammar.proofs.Idle.{first_way, last_way}
use Rattle.sve_grammar.proofs.StartsOfExpressions.{decimal_starts, decimal_full, parenthesized_starts, parenthesized_full, pattern_starts, pattern_full, concatenation_starts, concatenation_full, signing_full, integer_type_starts, typed_primary_starts, typed_primary_full, system_call_starts, system_call_full}
use Rattle.sve_parse_expr.specs.Alternatives.{last_alternative, LeadsTo}
use Rattle.sve_parse_expr.specs.declared.begins.Operand.TheVariants as forms

-- the alternatives behind each
abbrev behind_system : Rule
behind_system = scoped_name ∙ postfixes

abbrev behind_type : Rule
behind_type = system_call ∣ behind_system

abbrev behind_sign : Rule
behind_sign = typed_primary ∣ behind_type

abbrev behind_concatenation : Rule
behind_concatenation = signing ∙ cast ∣ behind_sign

abbrev behind_pattern : Rule
behind_pattern = concatenation ∣ behind_concatenation

abbrev behind_parenthesized : Rule
behind_parenthesized = pattern ∣ behind_pattern

abbrev behind_text : Rule
behind_text = parenthesized ∙ opt cast ∣ behind_parenthesized

abbrev behind_unbased : Rule
behind_unbased = tok Text ∣ behind_text

abbrev behind_based : Rule
behind_based = tok Unbased ∣ behind_unbased

abbrev behind_decimal : Rule
behind_decimal = tok Based ∣ behind_based

module _ (ts : List Token) (i : ℕ) where
  -- the next token is of another kind
  abbrev Not : Kind → Type 0
  Not k = has_kind (kind_at ts i) k ≡ false

  -- the rule does not begin here
  abbrev Lacks : Rule → Type 0
  Lacks r = starts r (kind_at ts i) ≡ false

  -- ---- where all tests up to one have failed, what is left is read

  past_decimal : Not Decimal → (n : ℕ) → reads ts (symbol ts n) primary i ≡ last_alternative 1 (reads ts (symbol ts n) behind_decimal i)
  unfolding primary
  past_decimal h0 n = last_way ts n decimal behind_decimal i (decimal_starts (kind_at ts i) ∘ h0) decimal_full

  past_based : Not Decimal → Not Based → (n : ℕ) → reads ts (symbol ts n) primary i ≡ last_alternative 2 (reads ts (symbol ts n) behind_based i)
  past_based h0 h1 n = past_decimal h0 n ∘ ap (last_alternative 1) (last_way ts n (tok Based) behind_based i (h1) refl)

  past_unbased : Not Decimal → Not Based → Not Unbased → (n : ℕ) → reads ts (symbol ts n) primary i ≡ last_alternative 3 (reads ts (symbol ts n) behind_unbased i)
  past_unbased h0 h1 h2 n = past_based h0 h1 n ∘ ap (last_alternative 2) (last_way ts n (tok Unbased) behind_unbased i (h2) refl)

  past_text : Not Decimal → Not Based → Not Unbased → Not Text → (n : ℕ) → reads ts (symbol ts n) primary i ≡ last_alternative 4 (reads ts (symbol ts n) behind_text i)
  past_text h0 h1 h2 h3 n = past_unbased h0 h1 h2 n ∘ ap (last_alternative 3) (last_way ts n (tok Text) behind_text i (h3) refl)

  past_parenthesized : Not Decimal → Not Based → Not Unbased → Not Text → Not LeftParen → (n : ℕ) → reads ts (symbol ts n) primary i ≡ last_alternative 5 (reads ts (symbol ts n) behind_parenthesized i)
  past_parenthesized h0 h1 h2 h3 h4 n = past_text h0 h1 h2 h3 n ∘ ap (last_alternative 4) (last_way ts n (parenthesized ∙ opt cast) behind_parenthesized i (rw (parenthesized_starts (kind_at ts i), parenthesized_full, h4) refl) (rw parenthesized_full refl))

  past_pattern : Not Decimal → Not Based → Not Unbased → Not Text → Not LeftParen → Not ApostropheLeftBrace → (n : ℕ) → reads ts (symbol ts n) primary i ≡ last_alternative 6 (reads ts (symbol ts n) behind_pattern i)
  past_pattern h0 h1 h2 h3 h4 h5 n = past_parenthesized h0 h1 h2 h3 h4 n ∘ ap (last_alternative 5) (last_way ts n pattern behind_pattern i (pattern_starts (kind_at ts i) ∘ h5) pattern_full)

  past_concatenation : Not Decimal → Not Based → Not Unbased → Not Text → Not LeftParen → Not ApostropheLeftBrace → Not LeftBrace → (n : ℕ) → reads ts (symbol ts n) primary i ≡ last_alternative 7 (reads ts (symbol ts n) behind_concatenation i)
  past_concatenation h0 h1 h2 h3 h4 h5 h6 n = past_pattern h0 h1 h2 h3 h4 h5 n ∘ ap (last_alternative 6) (last_way ts n concatenation behind_concatenation i (concatenation_starts (kind_at ts i) ∘ h6) concatenation_full)

  past_sign : Not Decimal → Not Based → Not Unbased → Not Text → Not LeftParen → Not ApostropheLeftBrace → Not LeftBrace → Lacks signing → (n : ℕ) → reads ts (symbol ts n) primary i ≡ last_alternative 8 (reads ts (symbol ts n) behind_sign i)
  past_sign h0 h1 h2 h3 h4 h5 h6 h7 n = past_concatenation h0 h1 h2 h3 h4 h5 h6 n ∘ ap (last_alternative 7) (last_way ts n (signing ∙ cast) behind_sign i (rw (h7, signing_full) refl) (rw signing_full refl))

  past_type : Not Decimal → Not Based → Not Unbased → Not Text → Not LeftParen → Not ApostropheLeftBrace → Not LeftBrace → Lacks signing → Lacks integer_type → (n : ℕ) → reads ts (symbol ts n) primary i ≡ last_alternative 9 (reads ts (symbol ts n) behind_type i)
  past_type h0 h1 h2 h3 h4 h5 h6 h7 h8 n = past_sign h0 h1 h2 h3 h4 h5 h6 h7 n ∘ ap (last_alternative 8) (last_way ts n typed_primary behind_type i (typed_primary_starts (kind_at ts i) ∘ flip (integer_type_starts (kind_at ts i)) ∘ h8) typed_primary_full)

  past_system : Not Decimal → Not Based → Not Unbased → Not Text → Not LeftParen → Not ApostropheLeftBrace → Not LeftBrace → Lacks signing → Lacks integer_type → Not SystemName → (n : ℕ) → reads ts (symbol ts n) primary i ≡ last_alternative 10 (reads ts (symbol ts n) behind_system i)
  past_system h0 h1 h2 h3 h4 h5 h6 h7 h8 h9 n = past_type h0 h1 h2 h3 h4 h5 h6 h7 h8 n ∘ ap (last_alternative 9) (last_way ts n system_call behind_system i (system_call_starts (kind_at ts i) ∘ h9) system_call_full)

  -- ---- the first test that does not fail

  pub leads_decimal : has_kind (kind_at ts i) Decimal ≡ true → LeadsTo ts i forms.Decimal
  unfolding primary
  leads_decimal h0 n = first_way ts n decimal behind_decimal i (decimal_starts (kind_at ts i) ∘ h0)

  pub leads_based : Not Decimal → has_kind (kind_at ts i) Based ≡ true → LeadsTo ts i forms.Based
  leads_based h0 h1 n = past_decimal h0 n ∘ ap (last_alternative 1) (first_way ts n (tok Based) behind_based i (h1))

  pub leads_unbased : Not Decimal → Not Based → has_kind (kind_at ts i) Unbased ≡ true → LeadsTo ts i forms.Unbased
  leads_unbased h0 h1 h2 n = past_based h0 h1 n ∘ ap (last_alternative 2) (first_way ts n (tok Unbased) behind_unbased i (h2))

  pub leads_text : Not Decimal → Not Based → Not Unbased → has_kind (kind_at ts i) Text ≡ true → LeadsTo ts i forms.Text
  leads_text h0 h1 h2 h3 n = past_unbased h0 h1 h2 n ∘ ap (last_alternative 3) (first_way ts n (tok Text) behind_text i (h3))

  pub leads_parenthesized : Not Decimal → Not Based → Not Unbased → Not Text → has_kind (kind_at ts i) LeftParen ≡ true → LeadsTo ts i forms.Parenthesized
  leads_parenthesized h0 h1 h2 h3 h4 n = past_text h0 h1 h2 h3 n ∘ ap (last_alternative 4) (first_way ts n (parenthesized ∙ opt cast) behind_parenthesized i (rw (parenthesized_starts (kind_at ts i), parenthesized_full, h4) refl))

  pub leads_pattern : Not Decimal → Not Based → Not Unbased → Not Text → Not LeftParen → has_kind (kind_at ts i) ApostropheLeftBrace ≡ true → LeadsTo ts i forms.Pattern
  leads_pattern h0 h1 h2 h3 h4 h5 n = past_parenthesized h0 h1 h2 h3 h4 n ∘ ap (last_alternative 5) (first_way ts n pattern behind_pattern i (pattern_starts (kind_at ts i) ∘ h5))

  pub leads_concatenation : Not Decimal → Not Based → Not Unbased → Not Text → Not LeftParen → Not ApostropheLeftBrace → has_kind (kind_at ts i) LeftBrace ≡ true → LeadsTo ts i forms.Concatenation
  leads_concatenation h0 h1 h2 h3 h4 h5 h6 n = past_pattern h0 h1 h2 h3 h4 h5 n ∘ ap (last_alternative 6) (first_way ts n concatenation behind_concatenation i (concatenation_starts (kind_at ts i) ∘ h6))

  pub leads_sign : Not Decimal → Not Based → Not Unbased → Not Text → Not LeftParen → Not ApostropheLeftBrace → Not LeftBrace → starts signing (kind_at ts i) ≡ true → LeadsTo ts i forms.SignCast
  leads_sign h0 h1 h2 h3 h4 h5 h6 h7 n = past_concatenation h0 h1 h2 h3 h4 h5 h6 n ∘ ap (last_alternative 7) (first_way ts n (signing ∙ cast) behind_sign i (rw h7 refl))

  pub leads_type : Not Decimal → Not Based → Not Unbased → Not Text → Not LeftParen → Not ApostropheLeftBrace → Not LeftBrace → Lacks signing → starts integer_type (kind_at ts i) ≡ true → LeadsTo ts i forms.Type
  leads_type h0 h1 h2 h3 h4 h5 h6 h7 h8 n = past_sign h0 h1 h2 h3 h4 h5 h6 h7 n ∘ ap (last_alternative 8) (first_way ts n typed_primary behind_type i (typed_primary_starts (kind_at ts i) ∘ flip (integer_type_starts (kind_at ts i)) ∘ h8))

  pub leads_system : Not Decimal → Not Based → Not Unbased → Not Text → Not LeftParen → Not ApostropheLeftBrace → Not LeftBrace → Lacks signing → Lacks integer_type → has_kind (kind_at ts i) SystemName ≡ true → LeadsTo ts i forms.System
  leads_system h0 h1 h2 h3 h4 h5 h6 h7 h8 h9 n = past_type h0 h1 h2 h3 h4 h5 h6 h7 h8 n ∘ ap (last_alternative 9) (first_way ts n system_call behind_system i (system_call_starts (kind_at ts i) ∘ h9))

  pub leads_name : Not Decimal → Not Based → Not Unbased → Not Text → Not LeftParen → Not ApostropheLeftBrace → Not LeftBrace → Lacks signing → Lacks integer_type → Not SystemName → LeadsTo ts i forms.Name
  leads_name h0 h1 h2 h3 h4 h5 h6 h7 h8 h9 n = past_system h0 h1 h2 h3 h4 h5 h6 h7 h8 h9 n

-- ---- names

pub no_prefix : starts unary_operator (Some Identifier) ≡ false
unfolding unary_operator same_kind
no_prefix = refl

pub leads_identifier : (ts : List Token) (i : ℕ) → kind_at ts i ≡ Some Identifier → LeadsTo ts i forms.Name
unfolding same_kind signing integer_type integer_atom_type integer_vector_type
leads_identifier ts i e = leads_name ts i (rw e refl) (rw e refl) (rw e refl) (rw e refl) (rw e refl) (rw e refl) (rw e refl) (rw e refl) (rw e refl) (rw e refl)
