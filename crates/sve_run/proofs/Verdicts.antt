-- The machine says one thing of the tokens, and it is what reading says.
use Rattle.std.proofs.Common.{◌≡◌, ℕ, Bool, true, false, cond, eqb, List, [], length, Ok, Err, refl, ap, subst, arith, inl, inr}
use Rattle.std.proofs.lemmas.Bool.{eqb-true, eq-eqb}
use Rattle.sve_token.specs.declared.token.Token.{Token}
use Rattle.sve_grammar.specs.Machine.{Move, State, state, Halt, Comes}
use Rattle.sve_grammar.specs.Items.{chunk}
use Rattle.sve_grammar.specs.Reading.{moves, Answer, at_depth}
use Rattle.sve_grammar.specs.Meaning.{Arrives}
use Rattle.sve_grammar.proofs.Runs.{runs}
use Rattle.sve_grammar.proofs.Held.{Held, reads_held, symbol_held}
use Rattle.sve_grammar.proofs.Unique.{ends_once, stops_once, never_both}
use Rattle.sve_run.specs.declared.verdict.Verdict.{Verdict}
use Rattle.sve_run.specs.declared.verdict.Verdict.TheVariants.{Accept, Stop}
use Rattle.sve_run.specs.Verdict.{start, Says, SaysOnly, judged}

one_place : (ts : List Token) (i j : ℕ) (ms ns : List Move) → Comes ts start (state [] i ms) → Comes ts start (state [] j ns) → i ≡ j
one_place ts i j ms ns p q = let same : state [] i ms ≡ state [] j ns = ends_once ts start (state [] i ms) (state [] j ns) p refl q refl in ap (λ (s : State). s.index) same

abbrev halted : ℕ → Bool → Halt
halted i deep = record { index = i; deep = deep }

-- two things that it says are one
one_verdict : (ts : List Token) (v w : Verdict) → Says ts v → Says ts w → w ≡ v
one_verdict ts Accept Accept p q = refl
one_verdict ts Accept (Stop i deep) p (inl q) = absurd (never_both ts start (state [] (length ts) p.0) (record { index = i; deep = deep }) q p.1 refl)
one_verdict ts Accept (Stop i deep) p (inr q) = absurd (omega (arith, q.1, one_place ts i (length ts) q.2.0 p.0 q.2.1 p.1))
one_verdict ts (Stop i deep) Accept (inl p) q = absurd (never_both ts start (state [] (length ts) q.0) (record { index = i; deep = deep }) p q.1 refl)
one_verdict ts (Stop i deep) Accept (inr p) q = absurd (omega (arith, p.1, one_place ts i (length ts) p.2.0 q.0 p.2.1 q.1))
one_verdict ts (Stop i deep) (Stop j other) (inl p) (inl q) =
    let same : halted i deep ≡ halted j other = stops_once ts start (record { index = i; deep = deep }) (record { index = j; deep = other }) p q in
    let index : i ≡ j = ap (λ (h : Halt). h.index) same in
    let depth : deep ≡ other = ap (λ (h : Halt). h.deep) same in
    cc
one_verdict ts (Stop i deep) (Stop j other) (inl p) (inr q) = absurd (never_both ts start (state [] j q.2.0) (record { index = i; deep = deep }) p q.2.1 refl)
one_verdict ts (Stop i deep) (Stop j other) (inr p) (inl q) = absurd (never_both ts start (state [] i p.2.0) (record { index = j; deep = other }) q p.2.1 refl)
one_verdict ts (Stop i deep) (Stop j other) (inr p) (inr q) = let same : i ≡ j = one_place ts i j p.2.0 q.2.0 p.2.1 q.2.1 in cc

-- what reading says the machine says
says_judged : (ts : List Token) → Says ts (judged (length ts) (at_depth ts 0 chunk 0))
says_judged ts = go (at_depth ts 0 chunk 0) (runs ts 0 (omega arith) chunk [] 0 []) (reads_held ts 512 (symbol_held ts 512) chunk 0 (omega arith))
  where
    go : (x : Answer) → Arrives ts [] [] x start → Held (length ts) 0 x → Says ts (judged (length ts) x)
    go (Err h) w k = inl w
    go (Ok x) w k = by_test (eqb x.1 (length ts)) refl
      where
        by_test : (b : Bool) → eqb x.1 (length ts) ≡ b → Says ts (cond b Accept (Stop x.1 false))
        by_test true e = (moves x.0, subst (λ (n : ℕ). Comes ts start (state [] n (moves x.0))) (eqb-true x.1 (length ts) e) w)
        by_test false e = inr (refl, omega (arith, k, different), (moves x.0, w))
          where
            different : x.1 ≡ length ts → ⊥
            different q = absurd (let t : eqb x.1 (length ts) ≡ true = rw q (eq-eqb (length ts) (length ts) refl) in cc)

pub only_one : (ts : List Token) (v : Verdict) → Says ts v → SaysOnly ts v
only_one ts v p = (p, λ w q. one_verdict ts v w p q)

pub is_judged : (ts : List Token) (v : Verdict) → Says ts v → v ≡ judged (length ts) (at_depth ts 0 chunk 0)
is_judged ts v p = one_verdict ts (judged (length ts) (at_depth ts 0 chunk 0)) v (says_judged ts) p
