-- What is read where a rule begins, and where it does not: there it takes no token, or stops.
use Rattle.std.proofs.Common.{◌≡◌, ℕ, zero, suc, ◌-◌, Bool, true, false, cond, List, length, Option, Some, None, Ok, refl}
use Rattle.std.specs.Prelude.{◌||◌, ◌&&◌, is_some}
use Rattle.sve_token.specs.declared.kind.Kind.{Kind}
use Rattle.sve_token.specs.declared.token.Token.{Token}
use Rattle.sve_grammar.specs.declared.symbol.Symbol.{Symbol}
use Rattle.sve_grammar.specs.declared.stop.Stop.{Stop}
use Rattle.sve_grammar.specs.declared.stop.Stop.TheVariants.{At, NoMemory}
use Rattle.sve_grammar.specs.Token.{kind_at}
use Rattle.sve_grammar.specs.Rule.{Rule, tok, sym, ◌∙◌, ◌∣◌, nothing, many, starts, empties, opens}
use Rattle.sve_grammar.specs.Reading.{Tree, none, pair, left, right, ended, Answer, halt, with_left, with_right, both, repeat, token, reads, symbol}
use Rattle.sve_grammar.specs.Gives.{Fails, Finds}

-- a rule that does not begin here is empty, or stops here

abbrev pub Idle : Bool → ℕ → Answer → Type 0
Idle true i read = (t : Tree) × (read ≡ Ok (t, i))
Idle false i read = read ≡ halt i false

both_idle : (sa sb ea eb : Bool) (i : ℕ) (x : Answer) (f : ℕ → Answer) → (sa || (ea && sb)) ≡ false → (sa ≡ false → Idle ea i x) → (sb ≡ false → Idle eb i (f i)) → Idle (ea && eb) i (both x f)
both_idle true sb ea eb i x f e p q = absurd cc
both_idle false sb false eb i x f e p q = rw (p refl) refl
both_idle false true true eb i x f e p q = absurd cc
both_idle false false true true i x f e p q = let a = p refl in let b = q refl in (pair a.0 b.0, rw (a.1, b.1) refl)
both_idle false false true false i x f e p q = let a = p refl in rw (a.1, q refl) refl

alt_idle : (sa sb ea eb : Bool) (i : ℕ) (x y : Answer) → (sa || sb) ≡ false → (sa ≡ false → Idle ea i x) → (sb ≡ false → Idle eb i y)
    → Idle (ea || eb) i (cond sa (with_left x) (cond sb (with_right y) (cond ea (with_left x) (cond eb (with_right y) (halt i false)))))
alt_idle true sb ea eb i x y e p q = absurd cc
alt_idle false true ea eb i x y e p q = absurd cc
alt_idle false false true eb i x y e p q = let a = p refl in (left a.0, rw a.1 refl)
alt_idle false false false true i x y e p q = let b = q refl in (right b.0, rw b.1 refl)
alt_idle false false false false i x y e p q = refl

abbrev pub AllIdle : List Token → (Symbol → ℕ → Answer) → Type 0
AllIdle ts below = (s : Symbol) (i : ℕ) → opens s (kind_at ts i) ≡ false → below s i ≡ halt i false

symbol_idle : (ts : List Token) (n : ℕ) → AllIdle ts (symbol ts n)
unfolding symbol
symbol_idle ts zero s i e = rw e refl
symbol_idle ts (suc n) s i e = rw e refl

repeat_idle : (ts : List Token) (p : Option Kind → Bool) (f : ℕ → Answer) (n i : ℕ) → p (kind_at ts i) ≡ false → repeat ts p f n i ≡ Ok (ended, i)
unfolding repeat
repeat_idle ts p f zero i e = refl
repeat_idle ts p f (suc n) i e = rw e refl

reads_idle : (ts : List Token) (below : Symbol → ℕ → Answer) → AllIdle ts below → (r : Rule) (i : ℕ) → starts r (kind_at ts i) ≡ false → Idle (empties r) i (reads ts below r i)
unfolding token
reads_idle ts below h (tok k) i e = rw e refl
reads_idle ts below h (sym s) i e = h s i e
reads_idle ts below h (a ∙ b) i e = both_idle (starts a (kind_at ts i)) (starts b (kind_at ts i)) (empties a) (empties b) i (reads ts below a i) (reads ts below b) e (reads_idle ts below h a i) (reads_idle ts below h b i)
reads_idle ts below h (a ∣ b) i e = alt_idle (starts a (kind_at ts i)) (starts b (kind_at ts i)) (empties a) (empties b) i (reads ts below a i) (reads ts below b i) e (reads_idle ts below h a i) (reads_idle ts below h b i)
reads_idle ts below h nothing i e = (none, refl)
reads_idle ts below h (many a) i e = (ended, repeat_idle ts (starts a) (reads ts below a) (length ts - i) i e)

-- of two rules the first is read where it begins
pub first_way : (ts : List Token) (n : ℕ) (a b : Rule) (i : ℕ) → starts a (kind_at ts i) ≡ true → reads ts (symbol ts n) (a ∣ b) i ≡ with_left (reads ts (symbol ts n) a i)
first_way ts n a b i s = rw s refl

-- of two rules the second is read where the first does not begin and is never empty
pub last_way : (ts : List Token) (n : ℕ) (a b : Rule) (i : ℕ) → starts a (kind_at ts i) ≡ false → empties a ≡ false → reads ts (symbol ts n) (a ∣ b) i ≡ with_right (reads ts (symbol ts n) b i)
last_way ts n a b i s e = rw (s, e) (go (starts b (kind_at ts i)) (empties b) (reads ts (symbol ts n) b i) (reads_idle ts (symbol ts n) (symbol_idle ts n) b i))
  where
    go : (sb eb : Bool) (y : Answer) → (sb ≡ false → Idle eb i y) → cond sb (with_right y) (cond eb (with_right y) (halt i false)) ≡ with_right y
    go true eb y q = refl
    go false true y q = refl
    go false false y q = rw (q refl) refl

-- a rule that is never empty and does not begin here stops here
pub stops_here : (ts : List Token) (n : ℕ) (r : Rule) (i : ℕ) → starts r (kind_at ts i) ≡ false → empties r ≡ false → reads ts (symbol ts n) r i ≡ halt i false
stops_here ts n r i s e = go (empties r) (reads ts (symbol ts n) r i) e (reads_idle ts (symbol ts n) (symbol_idle ts n) r i s)
  where
    go : (empty : Bool) (x : Answer) → empty ≡ false → Idle empty i x → x ≡ halt i false
    go true x e h = absurd cc
    go false x e h = h

-- whether a token of a set was found is whether its rule begins
pub found_begins : {X : Type 0} (ts : List Token) (r : Rule) (view : X → ℕ → Tree) (i : ℕ) (found : Option X) → Finds ts r view i found → starts r (kind_at ts i) ≡ is_some found
found_begins ts r view i None h = h
found_begins ts r view i (Some x) h = h.0

-- where the first part stops, the whole does
pub fails_both : (e : Stop) (x : Answer) (f : ℕ → Answer) → Fails e x → Fails e (both x f)
fails_both NoMemory x f h = tt
fails_both (At index deep) x f h = rw h refl

pub fails_later : (e : Stop) (t : Tree) (j : ℕ) (f : ℕ → Answer) → Fails e (f j) → Fails e (both (Ok (t, j)) f)
fails_later NoMemory t j f h = tt
fails_later (At index deep) t j f h = rw h refl
