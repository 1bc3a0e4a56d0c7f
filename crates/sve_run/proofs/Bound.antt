-- How many steps the machine takes at most: a rule costs so much where it takes no token, and so much more for each token.
use Rattle.std.proofs.Common.{◌≡◌, ℕ, zero, suc, ◌+◌, ◌-◌, ◌*◌, ◌<◌, ◌≤◌, Bool, true, false, cond, List, [], length, Option, Ok, Err, refl, subst, arith}
use Rattle.std.specs.Prelude.{max}
use Rattle.std.proofs.Math.Nat.{le-max_left, le-max_right, add-mul, mul-suc, mul-le-mul_left}
use Rattle.sve_token.specs.declared.kind.Kind.{Kind}
use Rattle.sve_token.specs.declared.token.Token.{Token}
use Rattle.sve_grammar.specs.declared.symbol.Symbol.{Symbol}
use Rattle.sve_grammar.specs.Token.{kind_at, has_kind}
use Rattle.sve_grammar.specs.Rule.{Rule, tok, sym, ◌∙◌, ◌∣◌, nothing, many, starts, empties, opens}
use Rattle.sve_grammar.specs.Grammar.{rule}
use Rattle.sve_run.proofs.Costs.{cost, rate, affordable, chunk_cost, chunk_rate}
use Rattle.sve_grammar.specs.Items.{chunk}
use Rattle.sve_grammar.specs.Machine.{State, Comes, here, then}
use Rattle.sve_grammar.specs.Reading.{pair, ended, turn as a_turn, Answer, ◌>>=◌, halt, with_left, with_right, both, turns, repeat, token, reads, symbol, at_depth}
use Rattle.sve_grammar.proofs.Forward.{Forward, reads_forward, symbol_forward}
use Rattle.sve_grammar.proofs.Held.{Held, held_token, reads_held, symbol_held}
use Rattle.sve_run.specs.Verdict.{start}
use Rattle.sve_run.specs.Runs.{steps_of}
use Rattle.sve_run.proofs.Steps.{behind, repeat_steps, steps, symbol_steps, steps_at, remaining, Shallow, falls}

-- up to where the steps are counted: the end, or behind the token that it stops at
abbrev pub reach : Answer → ℕ
reach (Ok x) = x.1
reach (Err h) = suc h.index

-- ---- where answers lie

further : (b : Bool) (n i : ℕ) (x : Answer) → Forward b i x → Held n i x → i ≤ reach x
further b n i (Ok x) f h = f.0
further b n i (Err e) f h = omega (arith, h.0)

strictly : (b : Bool) (n i : ℕ) (x : Answer) → b ≡ true → Forward b i x → Held n i x → i < reach x
strictly b n i (Ok x) e f h = f.1 e
strictly b n i (Err y) e f h = omega (arith, h.0)

within_end : (n i : ℕ) (x : Answer) → Held n i x → reach x ≤ suc n
within_end n i (Ok x) h = omega (arith, h)
within_end n i (Err e) h = omega (arith, h.1)

-- ---- what is paid

-- the steps from a place to another are paid by what a rule costs once, and by so much for each token
abbrev pub Pays : ℕ → ℕ → ℕ → ℕ → ℕ → Type 0
Pays each once s i j = s + each * i ≤ once + each * j

pays_both : (sa sb za zb p q r : ℕ) → sa + p ≤ za + q → sb + q ≤ zb + r → suc (sa + sb) + p ≤ suc (za + zb) + r
pays_both sa sb za zb p q r h k = omega arith

-- where a token is taken, what is paid once can be paid for it
pays_for : (each once s i j : ℕ) → i < j → Pays each once s i j → suc s + (each + suc once) * i ≤ (each + suc once) * j
pays_for each once s i j lt h =
    let di : (each + suc once) * i ≡ each * i + suc once * i = add-mul each (suc once) i in
    let dj : (each + suc once) * j ≡ each * j + suc once * j = add-mul each (suc once) j in
    let m : suc once * suc i ≤ suc once * j = mul-le-mul_left (suc once) lt in
    let n : suc once * suc i ≡ suc once * i + suc once = mul-suc (suc once) i in
    omega arith

waits : (each i j : ℕ) → i ≤ j → each * i ≤ each * j
waits each i j h = mul-le-mul_left each h

both_pays : (n each za zb i sa : ℕ) (x : Answer) (f : ℕ → Answer) (sb : ℕ → ℕ) → Held n i x → Pays each za sa i (reach x) → ((j : ℕ) → j ≤ n → Pays each zb (sb j) j (reach (f j)))
    → Pays each (suc (za + zb)) (suc (sa + behind x sb)) i (reach (both x f))
both_pays n each za zb i sa (Err e) f sb h p q = omega (arith, p)
both_pays n each za zb i sa (Ok x) f sb h p q = go (f x.1) (q x.1 h)
  where
    go : (y : Answer) → Pays each zb (sb x.1) x.1 (reach y) → Pays each (suc (za + zb)) (suc (sa + sb x.1)) i (reach (y >>= λ z. Ok (pair x.0 z.0, z.1)))
    go (Ok y) w = pays_both sa (sb x.1) za zb (each * i) (each * x.1) (each * y.1) p w
    go (Err e) w = pays_both sa (sb x.1) za zb (each * i) (each * x.1) (each * suc e.index) p w

reach_left : (x : Answer) → reach (with_left x) ≡ reach x
reach_left (Ok x) = refl
reach_left (Err e) = refl

reach_right : (x : Answer) → reach (with_right x) ≡ reach x
reach_right (Ok x) = refl
reach_right (Err e) = refl

first_pays : (p za zb sa q : ℕ) → sa + p ≤ za + q → suc sa + p ≤ suc (max za zb) + q
first_pays p za zb sa q h = omega (arith, le-max_left za zb)

second_pays : (p za zb sb q : ℕ) → sb + p ≤ zb + q → suc sb + p ≤ suc (max za zb) + q
second_pays p za zb sb q h = omega (arith, le-max_right za zb)

alt_pays : (each za zb i sa sb : ℕ) (ta tb ea eb : Bool) (x y : Answer) → Pays each za sa i (reach x) → Pays each zb sb i (reach y)
    → Pays each (suc (max za zb)) (suc (cond ta sa (cond tb sb (cond ea sa (cond eb sb 0))))) i (reach (cond ta (with_left x) (cond tb (with_right y) (cond ea (with_left x) (cond eb (with_right y) (halt i false))))))
alt_pays each za zb i sa sb true tb ea eb x y p q = rw (reach_left x) (first_pays (each * i) za zb sa (each * reach x) p)
alt_pays each za zb i sa sb false true ea eb x y p q = rw (reach_right y) (second_pays (each * i) za zb sb (each * reach y) q)
alt_pays each za zb i sa sb false false true eb x y p q = rw (reach_left x) (first_pays (each * i) za zb sa (each * reach x) p)
alt_pays each za zb i sa sb false false false true x y p q = rw (reach_right y) (second_pays (each * i) za zb sb (each * reach y) q)
alt_pays each za zb i sa sb false false false false x y p q = let w : each * i ≤ each * suc i = waits each i (suc i) (omega arith) in omega arith

module _ (ts : List Token) (p : Option Kind → Bool) (f : ℕ → Answer) (g : ℕ → ℕ) (each once : ℕ)
    (goes : (j : ℕ) → Forward (p (kind_at ts j)) j (f j)) (held : (j : ℕ) → j ≤ length ts → Held (length ts) j (f j)) (paid_turn : (j : ℕ) → j ≤ length ts → Pays each once (g j) j (reach (f j))) where
  repeat_pays : (n i : ℕ) → i ≤ length ts → Pays (each + suc once) 1 (repeat_steps ts p f g n i) i (reach (repeat ts p f n i))
  unfolding repeat repeat_steps
  repeat_pays zero i h = omega arith
  repeat_pays (suc n) i h = by_test (p (kind_at ts i)) (f i) (goes i) (held i h) (paid_turn i h) (repeat_pays n)
    where
      by_test : (b : Bool) (x : Answer) → Forward b i x → Held (length ts) i x → Pays each once (g i) i (reach x)
          → ((j : ℕ) → j ≤ length ts → Pays (each + suc once) 1 (repeat_steps ts p f g n j) j (reach (repeat ts p f n j)))
          → Pays (each + suc once) 1 (suc (cond b (g i + behind x (repeat_steps ts p f g n)) 0)) i (reach (cond b (turns x (repeat ts p f n)) (Ok (ended, i))))
      by_test false x w k v m = omega arith
      by_test true (Err e) w k v m = let all : suc (g i) + (each + suc once) * i ≤ (each + suc once) * suc e.index = pays_for each once (g i) i (suc e.index) (omega (arith, k.0)) v in omega arith
      by_test true (Ok x) w k v m = go (repeat ts p f n x.1) (m x.1 k)
        where
          turn_paid : suc (g i) + (each + suc once) * i ≤ (each + suc once) * x.1
          turn_paid = pays_for each once (g i) i x.1 (w.1 refl) v

          joined : (a b k l m : ℕ) → suc a + k ≤ l → b + l ≤ 1 + m → suc (a + b) + k ≤ 1 + m
          joined a b k l m s t = omega arith

          go : (y : Answer) → Pays (each + suc once) 1 (repeat_steps ts p f g n x.1) x.1 (reach y) → Pays (each + suc once) 1 (suc (g i + repeat_steps ts p f g n x.1)) i (reach (y >>= λ q. Ok (a_turn x.0 q.0, q.1)))
          go (Ok y) u = joined (g i) (repeat_steps ts p f g n x.1) ((each + suc once) * i) ((each + suc once) * x.1) ((each + suc once) * y.1) turn_paid u
          go (Err e) u = joined (g i) (repeat_steps ts p f g n x.1) ((each + suc once) * i) ((each + suc once) * x.1) ((each + suc once) * suc e.index) turn_paid u

-- each symbol is paid by so much for each token
abbrev pub SymbolsPaid : List Token → ℕ → ℕ → Type 0
SymbolsPaid ts n all = (each : ℕ) → all ≤ each → (s : Symbol) (i : ℕ) → i ≤ length ts → Pays each 1 (suc (symbol_steps ts n s i)) i (reach (symbol ts n s i))

module _ (ts : List Token) (n all : ℕ) (symbols : SymbolsPaid ts n all) where
  goes_on : (a : Rule) (j : ℕ) → Forward (starts a (kind_at ts j)) j (reads ts (symbol ts n) a j)
  goes_on a j = reads_forward ts (symbol ts n) (symbol_forward ts n) a j

  lies : (a : Rule) (j : ℕ) → j ≤ length ts → Held (length ts) j (reads ts (symbol ts n) a j)
  lies a j h = reads_held ts n (symbol_held ts n) a j h

  pub paid : (r : Rule) (each : ℕ) → rate r + all ≤ each → (i : ℕ) → i ≤ length ts → Pays each (cost r) (steps ts (symbol ts n) (symbol_steps ts n) r i) i (reach (reads ts (symbol ts n) r i))
  paid (tok k) each e i h = let w : each * i ≤ each * reach (token ts k i) = waits each i (reach (token ts k i)) (further (has_kind (kind_at ts i) k) (length ts) i (token ts k i) (goes_on (tok k) i) (held_token ts k i h)) in omega arith
  paid (sym s) each e i h = symbols each (omega (arith, e)) s i h
  paid (a ∙ b) each e i h = both_pays (length ts) each (cost a) (cost b) i (steps ts (symbol ts n) (symbol_steps ts n) a i) (reads ts (symbol ts n) a i) (reads ts (symbol ts n) b) (steps ts (symbol ts n) (symbol_steps ts n) b) (lies a i h)
      (paid a each (omega (arith, le-max_left (rate a) (rate b), e)) i h) (paid b each (omega (arith, le-max_right (rate a) (rate b), e)))
  paid (a ∣ b) each e i h = alt_pays each (cost a) (cost b) i (steps ts (symbol ts n) (symbol_steps ts n) a i) (steps ts (symbol ts n) (symbol_steps ts n) b i) (starts a (kind_at ts i)) (starts b (kind_at ts i)) (empties a) (empties b) (reads ts (symbol ts n) a i) (reads ts (symbol ts n) b i)
      (paid a each (omega (arith, le-max_left (rate a) (rate b), e)) i h) (paid b each (omega (arith, le-max_right (rate a) (rate b), e)) i h)
  paid nothing each e i h = omega arith
  paid (many a) each e i h =
      let same : each - suc (cost a) + suc (cost a) ≡ each = omega (arith, e) in
      let done : Pays (each - suc (cost a) + suc (cost a)) 1 (steps ts (symbol ts n) (symbol_steps ts n) (many a) i) i (reach (reads ts (symbol ts n) (many a) i)) =
      repeat_pays ts (starts a) (reads ts (symbol ts n) a) (steps ts (symbol ts n) (symbol_steps ts n) a) (each - suc (cost a)) (cost a) (goes_on a) (lies a) (paid a (each - suc (cost a)) (omega (arith, e))) (length ts - i) i h in
      subst (λ (k : ℕ). Pays k 1 (steps ts (symbol ts n) (symbol_steps ts n) (many a) i) i (reach (reads ts (symbol ts n) (many a) i))) same done

symbols_paid : (ts : List Token) (n : ℕ) → SymbolsPaid ts n (n * 208)
unfolding symbol symbol_steps
symbols_paid ts zero each e s i h = let w : each * i ≤ each * suc i = waits each i (suc i) (omega arith) in omega arith
symbols_paid ts (suc n) each e s i h = by_test (opens s (kind_at ts i)) (symbol_forward ts (suc n) s i) (symbol_held ts (suc n) s i h)
    (paid ts n (n * 208) (symbols_paid ts n) (rule s) (each - suc (cost (rule s))) (omega (arith, affordable s, e)) i h)
  where
    same : each - suc (cost (rule s)) + suc (cost (rule s)) ≡ each
    same = omega (arith, affordable s, e)

    by_test : (b : Bool) → Forward true i (cond b (reads ts (symbol ts n) (rule s) i) (halt i false)) → Held (length ts) i (cond b (reads ts (symbol ts n) (rule s) i) (halt i false))
        → Pays (each - suc (cost (rule s))) (cost (rule s)) (steps ts (symbol ts n) (symbol_steps ts n) (rule s) i) i (reach (reads ts (symbol ts n) (rule s) i))
        → Pays each 1 (suc (cond b (steps ts (symbol ts n) (symbol_steps ts n) (rule s) i) 0)) i (reach (cond b (reads ts (symbol ts n) (rule s) i) (halt i false)))
    by_test false f k in_rule = let w : each * i ≤ each * suc i = waits each i (suc i) (omega arith) in omega arith
    by_test true f k in_rule =
        let lt : i < reach (reads ts (symbol ts n) (rule s) i) = strictly true (length ts) i (reads ts (symbol ts n) (rule s) i) refl f k in
        let a : suc (steps ts (symbol ts n) (symbol_steps ts n) (rule s) i) + (each - suc (cost (rule s)) + suc (cost (rule s))) * i ≤ (each - suc (cost (rule s)) + suc (cost (rule s))) * reach (reads ts (symbol ts n) (rule s) i) =
        pays_for (each - suc (cost (rule s))) (cost (rule s)) (steps ts (symbol ts n) (symbol_steps ts n) (rule s) i) i (reach (reads ts (symbol ts n) (rule s) i)) lt in_rule in
        let b : suc (steps ts (symbol ts n) (symbol_steps ts n) (rule s) i) + each * i ≤ each * reach (reads ts (symbol ts n) (rule s) i) =
        subst (λ (k : ℕ). suc (steps ts (symbol ts n) (symbol_steps ts n) (rule s) i) + k * i ≤ k * reach (reads ts (symbol ts n) (rule s) i)) same a in
        omega arith

-- a run's steps and those that are left are all
counted : (ts : List Token) {s t : State} (c : Comes ts s t) → Shallow s.stack → steps_of c + remaining ts t.stack t.index ≡ remaining ts s.stack s.index
counted ts here h = omega arith
counted ts (then s next t e more) h = let f = falls ts s next h e in omega (arith, f.0, counted ts more f.1)

behind_zero : (x : Answer) → behind x (λ j. 0) ≡ 0
behind_zero (Ok x) = refl
behind_zero (Err e) = refl

-- all steps of a chunk
chunk_steps : (ts : List Token) → remaining ts start.stack start.index ≤ 209 * 513 * (length ts + 1)
chunk_steps ts =
    let none : behind (at_depth ts 0 chunk 0) (remaining ts []) ≡ 0 = behind_zero (at_depth ts 0 chunk 0) in
    let p : Pays 106637 (cost chunk) (steps_at ts 0 chunk 0) 0 (reach (at_depth ts 0 chunk 0)) = paid ts 512 (512 * 208) (symbols_paid ts 512) chunk 106637 (omega (arith, chunk_rate)) 0 (omega arith) in
    let w : reach (at_depth ts 0 chunk 0) ≤ suc (length ts) = within_end (length ts) 0 (at_depth ts 0 chunk 0) (reads_held ts 512 (symbol_held ts 512) chunk 0 (omega arith)) in
    omega (arith, chunk_cost)

pub bounded : (ts : List Token) (s : State) (c : Comes ts start s) → steps_of c ≤ 209 * 513 * (length ts + 1)
bounded ts s c = omega (arith, counted ts c (omega arith, tt), chunk_steps ts)
