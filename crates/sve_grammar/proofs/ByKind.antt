-- What is read depends on the kinds of the tokens alone.
use Rattle.std.proofs.Common.{◌≡◌, ℕ, zero, suc, ◌-◌, Bool, List, length, slice_get, Option, Ok, Err, refl, sym as flip, ap, ◌∙◌ as ◌∘◌}
use Rattle.std.proofs.lemmas.List.{length-map}
use Rattle.std.proofs.lemmas.Option.{slice_get-map}
use Rattle.sve_token.specs.declared.kind.Kind.{Kind}
use Rattle.sve_token.specs.declared.token.Token.{Token}
use Rattle.sve_grammar.specs.declared.symbol.Symbol.{Symbol}
use Rattle.sve_grammar.specs.Token.{kind_at, kinds}
use Rattle.sve_grammar.specs.Rule.{Rule, tok, sym, ◌∙◌, ◌∣◌, nothing, many, starts}
use Rattle.sve_grammar.specs.Grammar.{rule}
use Rattle.sve_grammar.specs.Reading.{Answer, both, turns, repeat, token, reads, symbol, ReadTheSame}

module _ (ts us : List Token) (same : kinds ts ≡ kinds us) where
  same_kinds : (i : ℕ) → kind_at ts i ≡ kind_at us i
  same_kinds i = flip (slice_get-map (λ (t : Token). t.kind) ts i) ∘ (ap (λ (ks : List Kind). slice_get ks i) same ∘ slice_get-map (λ (t : Token). t.kind) us i)

  same_length : length ts ≡ length us
  same_length = flip (length-map ts (λ (t : Token). t.kind)) ∘ (ap length same ∘ length-map us (λ (t : Token). t.kind))

same_both : (x y : Answer) (f g : ℕ → Answer) → x ≡ y → ((i : ℕ) → f i ≡ g i) → both x f ≡ both y g
same_both x y f g e h = rw e (go y)
  where
    go : (z : Answer) → both z f ≡ both z g
    go (Ok z) = rw (h z.1) refl
    go (Err z) = refl

same_turns : (x y : Answer) (f g : ℕ → Answer) → x ≡ y → ((i : ℕ) → f i ≡ g i) → turns x f ≡ turns y g
same_turns x y f g e h = rw e (go y)
  where
    go : (z : Answer) → turns z f ≡ turns z g
    go (Ok z) = rw (h z.1) refl
    go (Err z) = refl

module _ (ts us : List Token) (alike : (i : ℕ) → kind_at ts i ≡ kind_at us i) (long : length ts ≡ length us) where
  same_repeat : (p : Option Kind → Bool) (f g : ℕ → Answer) → ((i : ℕ) → f i ≡ g i) → (n i : ℕ) → repeat ts p f n i ≡ repeat us p g n i
  unfolding repeat
  same_repeat p f g h zero i = refl
  same_repeat p f g h (suc n) i = rw (alike i, same_turns (f i) (g i) (repeat ts p f n) (repeat us p g n) (h i) (same_repeat p f g h n)) refl

  same_reads : (below above : Symbol → ℕ → Answer) → ((s : Symbol) (i : ℕ) → below s i ≡ above s i) → (r : Rule) (i : ℕ) → reads ts below r i ≡ reads us above r i
  unfolding token
  same_reads below above h (tok k) i = rw (alike i) refl
  same_reads below above h (sym s) i = h s i
  same_reads below above h (a ∙ b) i = same_both (reads ts below a i) (reads us above a i) (reads ts below b) (reads us above b) (same_reads below above h a i) (same_reads below above h b)
  same_reads below above h (a ∣ b) i = rw (alike i, same_reads below above h a i, same_reads below above h b i) refl
  same_reads below above h nothing i = refl
  same_reads below above h (many a) i = rw long (same_repeat (starts a) (reads ts below a) (reads us above a) (same_reads below above h a) (length us - i) i)

  same_symbol : (n : ℕ) (s : Symbol) (i : ℕ) → symbol ts n s i ≡ symbol us n s i
  unfolding symbol
  same_symbol zero s i = rw (alike i) refl
  same_symbol (suc n) s i = rw (alike i, same_reads (symbol ts n) (symbol us n) (same_symbol n) (rule s) i) refl

-- tokens of the same kinds are read the same
pub read_by_kinds : (ts us : List Token) → kinds ts ≡ kinds us → ReadTheSame ts us
read_by_kinds ts us same d r i =
    same_reads ts us (same_kinds ts us same) (same_length ts us same) (symbol ts (512 - d)) (symbol us (512 - d)) (same_symbol ts us (same_kinds ts us same) (same_length ts us same) (512 - d)) r i
