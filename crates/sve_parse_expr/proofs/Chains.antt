-- The levels of operators: over the levels at which nothing goes on, and an operation of a level.
use Rattle.std.proofs.Common.{◌≡◌, ℕ, zero, suc, ◌+◌, ◌-◌, ◌<◌, ◌≤◌, eqb, Bool, true, false, cond, List, [], ◌∷◌, ◌++◌, length, Ok, Err, refl, ap, sym as flip, subst, ◌∙◌ as ◌∘◌, arith, inl, inr}
use Rattle.std.specs.Prelude.{◌||◌, ◌&&◌}
use Rattle.std.proofs.lemmas.Bool.{cases_lt, eqb-true}
use Rattle.sve_token.specs.declared.token.Token.{Token}
use Rattle.sve_grammar.specs.declared.stop.Stop.{Stop}
use Rattle.sve_grammar.specs.declared.stop.Stop.TheVariants.{At, NoMemory}
use Rattle.sve_grammar.specs.Token.{kind_at}
use Rattle.sve_grammar.specs.Rule.{Rule, ◌∙◌, ◌∣◌, starts, empties}
use Rattle.sve_grammar.specs.Expressions.{operators, operation, operations, membership}
use Rattle.sve_grammar.specs.Reading.{Tree, pair, left, ended, with_left, with_right, reads, symbol, at_depth}
use Rattle.sve_grammar.specs.Gives.{Fails}
use Rattle.sve_grammar.proofs.Idle.{first_way, last_way}
use Rattle.sve_grammar.proofs.Levels.{chain_of, level_passes, level_goes, chain_fails, operators_full}
use Rattle.sve_tree.specs.declared.word.BinaryOperator.{BinaryOperator}
use Rattle.sve_tree.specs.declared.expression.Expr.{Expr}
use Rattle.sve_tree.specs.Words.{binary_operator_tree}
use Rattle.sve_tree.specs.Expressions.{tree_at, height}
use Rattle.sve_tree.proofs.ExpressionTrees.{tree_up}
use Rattle.sve_parse_expr.specs.Levels.{goes_on}

pub not_five : (n : ℕ) → (n ≡ 5 → ⊥) → eqb n 5 ≡ false
not_five n h = go (eqb n 5) refl
  where
    go : (b : Bool) → eqb n 5 ≡ b → b ≡ false
    go true e = absurd (h (eqb-true n 5 e))
    go false e = refl

pub some_push : {X : Type 0} (xs : List X) (x : X) → length (xs ++ x ∷ []) ≡ 0 → ⊥
some_push [] x e = omega arith
some_push (y ∷ ys) x e = omega arith

-- where an operation goes on at one place and not at another behind it, these are two places
pub moved_on : (ts : List Token) (from at level : ℕ) → goes_on ts from level ≡ true → goes_on ts at level ≡ false → from ≤ at → from < at
moved_on ts from at level b f le = elim (cases_lt from at) [
  | inl lt ↦ lt
  | inr ge ↦ absurd (let same : at ≡ from = omega arith in let e : goes_on ts from level ≡ false = subst (λ (i : ℕ). goes_on ts i level ≡ false) same f in let a : true ≡ false = flip b ∘ e in cc)
]

-- a chain that began has an operation
pub chain_goes_on : {X : Type 0} (ts : List Token) (from at level : ℕ) (xs : List X) → goes_on ts from level ≡ true → goes_on ts at level ≡ false → (length xs ≡ 0 → at ≡ from) → 0 < length xs
chain_goes_on ts from at level [] b f h = absurd (let e : goes_on ts from level ≡ false = subst (λ (i : ℕ). goes_on ts i level ≡ false) (h refl) f in let a : true ≡ false = flip b ∘ e in cc)
chain_goes_on ts from at level (x ∷ xs) b f h = omega arith

-- ---- over the levels at which nothing goes on

module _ (ts : List Token) (d from at : ℕ) (e : Expr) where
  abbrev Stands : ℕ → Type 0
  Stands n = at_depth ts d (operations n) from ≡ Ok (tree_at n e, at)

  passes_one : (n : ℕ) → n < 11 → height e ≤ n → Stands n → goes_on ts at (n + 1) ≡ false → Stands (n + 1)
  passes_one n lt h s g =
      let same : n + 1 - 1 ≡ n = omega arith in
      let idle : starts (operation (n + 1) (operations n)) (kind_at ts at) ≡ false = subst (λ (m : ℕ). starts (operation (n + 1) (operations m)) (kind_at ts at) ≡ false) same g in
      let up : tree_at (n + 1) e ≡ pair (tree_at n e) ended = tree_up (n + 1) e (omega arith) (omega arith) (omega arith) ∘ ap (λ (m : ℕ). pair (tree_at m e) ended) same in
      rw up (level_passes ts d n from at (tree_at n e) s idle)

  passes_many : (n k : ℕ) → k + n ≤ 11 → height e ≤ n → Stands n → ((m : ℕ) → n < m → m ≤ k + n → goes_on ts at m ≡ false) → Stands (k + n)
  passes_many n zero le h s g = let same : n ≡ 0 + n = omega arith in subst Stands same s
  passes_many n (suc k) le h s g =
      let same : k + n + 1 ≡ suc k + n = omega arith in
      subst Stands same (passes_one (k + n) (omega arith) (omega arith) (passes_many n k (omega arith) h s (λ m lo hi. g m lo (omega arith))) (g (k + n + 1) (omega arith) (omega arith)))

-- what stands at a level stands at a looser one, where nothing goes on between
pub levels_pass : (ts : List Token) (d n m from at : ℕ) (e : Expr) → n ≤ m → m ≤ 11 → height e ≤ n → at_depth ts d (operations n) from ≡ Ok (tree_at n e, at)
    → ((k : ℕ) → n < k → k ≤ m → goes_on ts at k ≡ false) → at_depth ts d (operations m) from ≡ Ok (tree_at m e, at)
levels_pass ts d n m from at e le top h s g =
    let same : m - n + n ≡ m = omega arith in
    subst (Stands ts d from at e) same (passes_many ts d from at e n (m - n) (omega arith) h s (λ k lo hi. g k lo (omega arith)))

below_next : (ts : List Token) (d n next from at : ℕ) (e : Expr) → n < next → next ≤ 11 → height e ≤ n → at_depth ts d (operations n) from ≡ Ok (tree_at n e, at)
    → ((k : ℕ) → n < k → k < next → goes_on ts at k ≡ false) → at_depth ts d (operations (next - 1)) from ≡ Ok (tree_at (next - 1) e, at)
below_next ts d n next from at e lt top h s g = levels_pass ts d n (next - 1) from at e (omega arith) (omega arith) h s (λ k lo hi. g k lo (omega arith))

-- the next level at which something goes on
pub level_reached : (ts : List Token) (d n next from at : ℕ) (e : Expr) (y : Tree) (j : ℕ) → n < next → next ≤ 11 → height e ≤ n → at_depth ts d (operations n) from ≡ Ok (tree_at n e, at)
    → ((k : ℕ) → n < k → k < next → goes_on ts at k ≡ false) → chain_of ts d next (tree_at (next - 1) e) at ≡ Ok (y, j) → at_depth ts d (operations next) from ≡ Ok (y, j)
level_reached ts d n next from at e y j lt top h s g r =
    let same : next - 1 + 1 ≡ next = omega arith in
    let goes : chain_of ts d (next - 1 + 1) (tree_at (next - 1 + 1 - 1) e) at ≡ Ok (y, j) = subst (λ (m : ℕ). chain_of ts d m (tree_at (m - 1) e) at ≡ Ok (y, j)) (flip same) r in
    subst (λ (m : ℕ). at_depth ts d (operations m) from ≡ Ok (y, j)) same (level_goes ts d (next - 1) from at (λ k. tree_at k e) y j (below_next ts d n next from at e lt top h s g) goes)

pub level_stops : (ts : List Token) (d n next m from at : ℕ) (e : Expr) (stop : Stop) → n < next → next ≤ m → m ≤ 11 → height e ≤ n → at_depth ts d (operations n) from ≡ Ok (tree_at n e, at)
    → ((k : ℕ) → n < k → k < next → goes_on ts at k ≡ false) → Fails stop (chain_of ts d next (tree_at (next - 1) e) at) → Fails stop (at_depth ts d (operations m) from)
level_stops ts d n next m from at e stop lt le top h s g f =
    let same : next - 1 + 1 ≡ next = omega arith in
    let fails : Fails stop (chain_of ts d (next - 1 + 1) (tree_at (next - 1 + 1 - 1) e) at) = subst (λ (k : ℕ). Fails stop (chain_of ts d k (tree_at (k - 1) e) at)) (flip same) f in
    chain_fails ts d (next - 1) from at m (λ k. tree_at k e) stop (omega arith) (below_next ts d n next from at e lt (omega arith) h s g) fails

-- ---- an operation

module _ (ts : List Token) (n level : ℕ) (operand : Rule) (i : ℕ) where
  operation_here : starts (operators level) (kind_at ts i) ≡ true
      → reads ts (symbol ts n) (operation level operand) i ≡ cond (eqb level 5) (with_left (reads ts (symbol ts n) (operators level ∙ operand) i)) (reads ts (symbol ts n) (operators level ∙ operand) i)
  unfolding operation
  operation_here s = go (eqb level 5)
    where
      go : (b : Bool) → reads ts (symbol ts n) (cond b (operators level ∙ operand ∣ membership) (operators level ∙ operand)) i ≡ cond b (with_left (reads ts (symbol ts n) (operators level ∙ operand) i)) (reads ts (symbol ts n) (operators level ∙ operand) i)
      go true = first_way ts n (operators level ∙ operand) membership i (rw s refl)
      go false = refl

  pub operation_reads : (operator : BinaryOperator) (t : Tree) (j : ℕ) → starts (operators level) (kind_at ts i) ≡ true
      → reads ts (symbol ts n) (operators level) i ≡ Ok (binary_operator_tree operator i, i + 1) → reads ts (symbol ts n) operand (i + 1) ≡ Ok (t, j)
      → reads ts (symbol ts n) (operation level operand) i ≡ Ok (cond (eqb level 5) (left (pair (binary_operator_tree operator i) t)) (pair (binary_operator_tree operator i) t), j)
  operation_reads operator t j s r q = rw (operation_here s, r, q) (go (eqb level 5) (pair (binary_operator_tree operator i) t))
    where
      go : (b : Bool) (u : Tree) → cond b (with_left (Ok (u, j))) (Ok (u, j)) ≡ Ok (cond b (left u) u, j)
      go true u = refl
      go false u = refl

  pub operation_fails : (operator : BinaryOperator) (e : Stop) → starts (operators level) (kind_at ts i) ≡ true
      → reads ts (symbol ts n) (operators level) i ≡ Ok (binary_operator_tree operator i, i + 1) → Fails e (reads ts (symbol ts n) operand (i + 1))
      → Fails e (reads ts (symbol ts n) (operation level operand) i)
  operation_fails operator NoMemory s r f = tt
  operation_fails operator (At index deep) s r f = rw (operation_here s, r, f) (go (eqb level 5))
    where
      go : (b : Bool) → cond b (with_left (Err (record { index = index; deep = deep }))) (Err (record { index = index; deep = deep })) ≡ Err (record { index = index; deep = deep })
      go true = refl
      go false = refl

  -- what begins and is no operator is a membership
  pub operation_is_membership : starts (operation level operand) (kind_at ts i) ≡ true → starts (operators level) (kind_at ts i) ≡ false
      → (level ≡ 5) × (reads ts (symbol ts n) (operation level operand) i ≡ with_right (reads ts (symbol ts n) membership i))
  unfolding operation
  operation_is_membership s plain = go (eqb level 5) refl s
    where
      go : (b : Bool) → eqb level 5 ≡ b → starts (cond b (operators level ∙ operand ∣ membership) (operators level ∙ operand)) (kind_at ts i) ≡ true
          → (level ≡ 5) × (reads ts (symbol ts n) (cond b (operators level ∙ operand ∣ membership) (operators level ∙ operand)) i ≡ with_right (reads ts (symbol ts n) membership i))
      go true e h = (eqb-true level 5 e, last_way ts n (operators level ∙ operand) membership i (rw (plain, operators_full level) refl) (rw (operators_full level) refl))
      go false e h = absurd (let f : (starts (operators level) (kind_at ts i) || (empties (operators level) && starts operand (kind_at ts i))) ≡ false = rw (plain, operators_full level) refl in cc)
