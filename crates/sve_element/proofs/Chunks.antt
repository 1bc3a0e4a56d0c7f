-- What is read of a whole chunk, by its two parts; and that its words decide it.
use Rattle.std.proofs.Common.{◌≡◌, ℕ, suc, ◌<◌, ◌≤◌, Bool, true, false, cond, eqb, List, [], ◌∷◌, map, length, Ok, refl, ap, sym as flip, ◌∙◌ as ◌∘◌, arith}
use Rattle.std.proofs.lemmas.Bool.{eqb-true}
use Rattle.sve_token.specs.declared.kind.Kind.{Kind}
use Rattle.sve_token.specs.declared.token.Token.{Token}
use Rattle.sve_grammar.specs.declared.stop.Stop.{Stop}
use Rattle.sve_grammar.specs.declared.stop.Stop.TheVariants.{At, NoMemory}
use Rattle.sve_grammar.specs.Rule.{opt}
use Rattle.sve_grammar.specs.Reading.{Tree, pair, Answer, halt, at_depth}
use Rattle.sve_grammar.specs.Gives.{Fails}
use Rattle.sve_grammar.specs.Items.{unit_items, design, chunk}
use Rattle.sve_grammar.proofs.ByKind.{read_by_kinds}
use Rattle.sve_tree.specs.TokenWords.{words_of}
use Rattle.sve_tree.proofs.WordKinds.{same_kinds}
use Rattle.sve_element.specs.Chunk.{read_whole}

module _ (ts : List Token) where
  pub fails_at_items : (e : Stop) → Fails e (at_depth ts 0 unit_items 0) → Fails e (read_whole ts)
  unfolding chunk
  fails_at_items NoMemory h = tt
  fails_at_items (At index deep) h = rw h refl

  module _ (t : Tree) (i : ℕ) (items : at_depth ts 0 unit_items 0 ≡ Ok (t, i)) where
    pub fails_at_design : (e : Stop) → Fails e (at_depth ts 0 (opt design) i) → Fails e (read_whole ts)
    unfolding chunk
    fails_at_design NoMemory h = tt
    fails_at_design (At index deep) h = rw (items, h) refl

    module _ (u : Tree) (j : ℕ) (behind : at_depth ts 0 (opt design) i ≡ Ok (u, j)) where
      chunk_read : at_depth ts 0 chunk 0 ≡ Ok (pair t u, j)
      unfolding chunk
      chunk_read = rw (items, behind) refl

      pub reads_all : length ts ≤ j → j ≤ length ts → at_depth ts 0 chunk 0 ≡ Ok (pair t u, length ts)
      reads_all p q =
          let same : j ≡ length ts = omega (arith, p, q) in
          chunk_read ∘ rw same refl

      pub tokens_left : j < length ts → Fails (At j false) (read_whole ts)
      tokens_left p = rw chunk_read (by_test (eqb j (length ts)) refl)
        where
          by_test : (b : Bool) → eqb j (length ts) ≡ b → cond {A = Answer} b (Ok (pair t u, j)) (halt j false) ≡ halt j false
          by_test true e = absurd (omega (arith, p, eqb-true j (length ts) e))
          by_test false e = refl

length_of_map : (f : Token → Kind) (ts : List Token) → length (map f ts) ≡ length ts
length_of_map f [] = refl
length_of_map f (t ∷ ts) = ap suc (length_of_map f ts)

-- chunks of the same words are read as the same tree
pub decided : (ts us : List Token) (t : Tree) → at_depth ts 0 chunk 0 ≡ Ok (t, length ts) → words_of us ≡ words_of ts → at_depth us 0 chunk 0 ≡ Ok (t, length us)
decided ts us t read same =
    let kinds = same_kinds us ts same in
    let long : length ts ≡ length us = flip (length_of_map (λ (x : Token). x.kind) ts) ∘ flip (ap length kinds) ∘ length_of_map (λ (x : Token). x.kind) us in
    read_by_kinds us ts kinds 0 chunk 0 ∘ read ∘ rw long refl
