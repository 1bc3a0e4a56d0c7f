-- The alternatives of primary (IEEE 1800-2017, A.8.4) by their numbers from 0, and to which of them an operand leads (own).
use Rattle.std.specs.Prelude.{ℕ, zero, suc, List, ◌≡◌}
use Rattle.sve_token.specs.declared.kind.Kind.TheVariants.{Based, Unbased, Text}
use Rattle.sve_token.specs.declared.token.Token.{Token}
use Rattle.sve_grammar.specs.Rule.{Rule, tok, ◌∙◌, opt}
use Rattle.sve_grammar.specs.Expressions.{primary, decimal, parenthesized, cast, pattern, concatenation, signing, typed_primary, system_call, scoped_name, postfixes}
use Rattle.sve_grammar.specs.Reading.{Answer, with_left, with_right, reads, symbol}
use Rattle.sve_parse_expr.specs.declared.begins.Operand.{Operand}
use Rattle.sve_parse_expr.specs.declared.begins.Operand.TheVariants as forms

-- what is read by an alternative that is not the last
abbrev pub alternative : ℕ → Answer → Answer
alternative zero x = with_left x
alternative (suc n) x = with_right (alternative n x)

-- what is read by the last alternative
abbrev pub last_alternative : ℕ → Answer → Answer
last_alternative zero x = x
last_alternative (suc n) x = with_right (last_alternative n x)

-- an operand is read here by one of its alternatives, at every depth
abbrev pub Leads : List Token → ℕ → (Answer → Answer) → Rule → Type 0
Leads ts i way r = (n : ℕ) → reads ts (symbol ts n) primary i ≡ way (reads ts (symbol ts n) r i)

abbrev pub LeadsTo : List Token → ℕ → Operand → Type 0
LeadsTo ts i forms.Decimal = Leads ts i (alternative 0) decimal
LeadsTo ts i forms.Based = Leads ts i (alternative 1) (tok Based)
LeadsTo ts i forms.Unbased = Leads ts i (alternative 2) (tok Unbased)
LeadsTo ts i forms.Text = Leads ts i (alternative 3) (tok Text)
LeadsTo ts i forms.Parenthesized = Leads ts i (alternative 4) (parenthesized ∙ opt cast)
LeadsTo ts i forms.Pattern = Leads ts i (alternative 5) pattern
LeadsTo ts i forms.Concatenation = Leads ts i (alternative 6) concatenation
LeadsTo ts i forms.SignCast = Leads ts i (alternative 7) (signing ∙ cast)
LeadsTo ts i forms.Type = Leads ts i (alternative 8) typed_primary
LeadsTo ts i forms.System = Leads ts i (alternative 9) system_call
LeadsTo ts i forms.Name = Leads ts i (last_alternative 10) (scoped_name ∙ postfixes)
