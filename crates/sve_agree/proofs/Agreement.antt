-- From what is read of a chunk to what the machine says of it.
use Rattle.std.proofs.Common.{◌≡◌, ℕ, Bool, true, false, cond, eqb, List, length, Ok, Err, refl, ◌∙◌}
use Rattle.std.proofs.lemmas.Bool.{eq-eqb}
use Rattle.sve_token.specs.declared.token.Token.{Token}
use Rattle.sve_grammar.specs.declared.stop.Stop.TheVariants.{At}
use Rattle.sve_grammar.specs.Machine.{Halt}
use Rattle.sve_grammar.specs.Reading.{Tree, Answer, halt, at_depth}
use Rattle.sve_grammar.specs.Gives.{Fails}
use Rattle.sve_grammar.specs.Items.{chunk}
use Rattle.sve_run.specs.declared.verdict.Verdict.{Verdict}
use Rattle.sve_run.specs.declared.verdict.Verdict.TheVariants.{Accept, Stop}
use Rattle.sve_run.specs.Verdict.{judged}
use Rattle.sve_element.specs.Chunk.{whole, read_whole}

-- one stop, told in two ways
same_stop : (h g : Halt) → ◌≡◌ {A = Answer} (Err h) (Err g) → Stop h.index h.deep ≡ Stop g.index g.deep
same_stop h g e = let same : h ≡ g = cc in rw same refl

module _ (ts : List Token) (v : Verdict) (said : v ≡ judged (length ts) (at_depth ts 0 chunk 0)) where
  -- what is read to its end is accepted
  pub accepted : (t : Tree) → at_depth ts 0 chunk 0 ≡ Ok (t, length ts) → v ≡ Accept
  accepted t read = said ∙ rw (read, eq-eqb (length ts) (length ts) refl) refl

  -- where a whole chunk stops the machine stops
  pub stopped : (i : ℕ) (deep : Bool) → Fails (At i deep) (read_whole ts) → v ≡ Stop i deep
  stopped i deep fails = said ∙ of (at_depth ts 0 chunk 0) fails
    where
      of : (x : Answer) → whole (length ts) x ≡ halt i deep → judged (length ts) x ≡ Stop i deep
      of (Err h) e = same_stop h (record { index = i; deep = deep }) e
      of (Ok x) e = by_test (eqb x.1 (length ts)) e
        where
          by_test : (b : Bool) → cond b (Ok x) (halt x.1 false) ≡ halt i deep → cond b Accept (Stop x.1 false) ≡ Stop i deep
          by_test true e = absurd cc
          by_test false e = same_stop (record { index = x.1; deep = false }) (record { index = i; deep = deep }) e
