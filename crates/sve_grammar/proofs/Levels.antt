-- The levels of operators, for a level that is not known.
use Rattle.std.proofs.Common.{◌≡◌, ℕ, zero, suc, ◌+◌, ◌-◌, ◌<◌, ◌≤◌, ◌==◌, eqb, Bool, true, false, cond, List, Option, Ok, refl, sym as flip, subst, ◌∙◌ as ◌∘◌, arith}
use Rattle.std.specs.Prelude.{◌||◌, ◌&&◌}
use Rattle.sve_token.specs.declared.kind.Kind.{Kind}
use Rattle.sve_token.specs.declared.kind.Kind.TheVariants.{Keyword}
use Rattle.sve_token.specs.declared.keywords.Keyword.TheVariants.{KwInside}
use Rattle.sve_token.specs.declared.token.Token.{Token}
use Rattle.sve_grammar.specs.declared.stop.Stop.{Stop}
use Rattle.sve_grammar.specs.Token.{kind_at, has_kind}
use Rattle.sve_grammar.specs.Rule.{Rule, ◌∙◌, ◌∣◌, many, starts, empties}
use Rattle.sve_grammar.specs.Expressions.{operators, operation, operations, membership}
use Rattle.sve_grammar.specs.Reading.{Tree, pair, ended, Answer, both, at_depth}
use Rattle.sve_grammar.specs.Gives.{Fails}
use Rattle.sve_grammar.proofs.Begins.{or_none}
use Rattle.sve_grammar.proofs.Idle.{fails_both}
use Rattle.sve_grammar.proofs.Loops.{many_goes}
use Rattle.sve_grammar.proofs.StartsOfExpressions.{membership_starts}

-- operations of a level are operands of the next tighter one, with this level's operators between
pub operations_is : (level : ℕ) → 0 < level → operations level ≡ (operations (level - 1) ∙ many (operation level (operations (level - 1))))
unfolding operations
operations_is zero h = absurd (omega arith)
operations_is (suc n) h = let e : suc n - 1 ≡ n = omega arith in rw e refl

cond_full : (b : Bool) (x y : Rule) → empties x ≡ false → empties y ≡ false → empties (cond b x y) ≡ false
cond_full true x y p q = p
cond_full false x y p q = q

pub operators_full : (level : ℕ) → empties (operators level) ≡ false
unfolding operators
operators_full level =
    cond_full (level == 1) _ _ refl (cond_full (level == 2) _ _ refl (cond_full (level == 3) _ _ refl (cond_full (level == 4) _ _ refl (cond_full (level == 5) _ _ refl
    (cond_full (level == 6) _ _ refl (cond_full (level == 7) _ _ refl (cond_full (level == 8) _ _ refl (cond_full (level == 9) _ _ refl (cond_full (level == 10) _ _ refl refl)))))))))

-- ---- from one level to the next

-- an operand of a level that was read, and what goes on behind it on that level
abbrev pub chain_of : List Token → ℕ → ℕ → Tree → ℕ → Answer
chain_of ts d level x at = both (Ok (x, at)) (λ i. at_depth ts d (many (operation level (operations (level - 1)))) i)

pub next_level : (ts : List Token) (d n from at : ℕ) (x : Tree) → at_depth ts d (operations n) from ≡ Ok (x, at) → at_depth ts d (operations (n + 1)) from ≡ chain_of ts d (n + 1) x at
next_level ts d n from at x h =
    let e : n + 1 - 1 ≡ n = omega arith in
    let pos : 0 < n + 1 = omega arith in
    let g : at_depth ts d (operations (n + 1 - 1)) from ≡ Ok (x, at) = rw e h in
    rw (operations_is (n + 1) pos, g) refl

-- a level at which nothing begins behind the operand has that operand alone
pub level_passes : (ts : List Token) (d n from at : ℕ) (x : Tree) → at_depth ts d (operations n) from ≡ Ok (x, at) → starts (operation (n + 1) (operations n)) (kind_at ts at) ≡ false
    → at_depth ts d (operations (n + 1)) from ≡ Ok (pair x ended, at)
level_passes ts d n from at x h s =
    let e : n + 1 - 1 ≡ n = omega arith in
    rw (next_level ts d n from at x h, e, many_goes ts (512 - d) (operation (n + 1) (operations n)) at, s) refl

pub level_goes : (ts : List Token) (d n from at : ℕ) (front : ℕ → Tree) (y : Tree) (j : ℕ) → at_depth ts d (operations n) from ≡ Ok (front n, at) → chain_of ts d (n + 1) (front (n + 1 - 1)) at ≡ Ok (y, j)
    → at_depth ts d (operations (n + 1)) from ≡ Ok (y, j)
level_goes ts d n from at front y j h g =
    let e : n + 1 - 1 ≡ n = omega arith in
    let P : ℕ → Type 0 = λ m. chain_of ts d (n + 1) (front m) at ≡ Ok (y, j) in
    next_level ts d n from at (front n) h ∘ subst P e g

fails_next : (ts : List Token) (d from : ℕ) (e : Stop) (n k : ℕ) → Fails e (at_depth ts d (operations n) from) → Fails e (at_depth ts d (operations (k + n)) from)
unfolding operations
fails_next ts d from e n zero h =
    let s : n ≡ 0 + n = omega arith in
    let P : ℕ → Type 0 = λ m. Fails e (at_depth ts d (operations m) from) in
    subst P s h
fails_next ts d from e n (suc k) h =
    let s : suc (k + n) ≡ suc k + n = omega arith in
    let P : ℕ → Type 0 = λ m. Fails e (at_depth ts d (operations m) from) in
    subst P s (fails_both e (at_depth ts d (operations (k + n)) from) (λ i. at_depth ts d (many (operation (suc (k + n)) (operations (k + n)))) i) (fails_next ts d from e n k h))

-- what stops at a level stops at every looser one
pub level_fails : (ts : List Token) (d from : ℕ) (e : Stop) (n m : ℕ) → n ≤ m → Fails e (at_depth ts d (operations n) from) → Fails e (at_depth ts d (operations m) from)
level_fails ts d from e n m le h =
    let s : m - n + n ≡ m = omega arith in
    let P : ℕ → Type 0 = λ k. Fails e (at_depth ts d (operations k) from) in
    subst P s (fails_next ts d from e n (m - n) h)

pub chain_fails : (ts : List Token) (d n from at m : ℕ) (front : ℕ → Tree) (e : Stop) → n + 1 ≤ m → at_depth ts d (operations n) from ≡ Ok (front n, at) → Fails e (chain_of ts d (n + 1) (front (n + 1 - 1)) at)
    → Fails e (at_depth ts d (operations m) from)
chain_fails ts d n from at m front e le h f =
    let same : n + 1 - 1 ≡ n = omega arith in
    let P : Answer → Type 0 = λ r. Fails e r in
    let Q : ℕ → Type 0 = λ k. Fails e (chain_of ts d (n + 1) (front k) at) in
    level_fails ts d from e (n + 1) m le (subst P (flip (next_level ts d n from at (front n) h)) (subst Q same f))

-- ---- what an operation begins with

pub operation_begins : (level : ℕ) (operand : Rule) (k : Option Kind) → starts (operation level operand) k ≡ (starts (operators level) k || (eqb level 5 && has_kind k (Keyword KwInside)))
unfolding operation
operation_begins level operand k = go (eqb level 5)
  where
    plain : starts (operators level ∙ operand) k ≡ starts (operators level) k
    plain = rw (operators_full level) (or_none (starts (operators level) k))

    go : (b : Bool) → starts (cond b (operators level ∙ operand ∣ membership) (operators level ∙ operand)) k ≡ (starts (operators level) k || (b && has_kind k (Keyword KwInside)))
    go true = rw (plain, membership_starts k) refl
    go false = plain ∘ flip (or_none (starts (operators level) k))
