-- Lines that are joined, one byte at a time.
use Rattle.std.proofs.Common.{◌≡◌, ℕ, ◌+◌, ◌<◌, Bool, true, false, cond, List, [], ◌∷◌, ◌++◌, length, get_or, drop, ap, sym, ◌∙◌, append_assoc}
use Rattle.std.proofs.lemmas.List.{drop_more}
use Rattle.sve_directive.specs.Define.{continues, joined}

one : (b : ℕ) (bs text : List ℕ) (v : Bool) → text ≡ b ∷ bs → continues text ≡ v → joined text ≡ cond v (joined bs) (b ∷ joined bs)
one b bs text v e h = ap joined e ∙ ap (λ x. cond x (joined bs) (b ∷ joined bs)) (ap continues (sym e) ∙ h)

pub joined-kept : (text : List ℕ) (i b : ℕ) (out more whole : List ℕ) → i < length text → b ≡ get_or text i 0 → continues (drop i text) ≡ false → more ≡ out ++ b ∷ [] → out ++ joined (drop i text) ≡ whole → more ++ joined (drop (i + 1) text) ≡ whole
joined-kept text i b out more whole h e n m s =
    ap (λ x. x ++ joined (drop (i + 1) text)) (m ∙ ap (λ x. out ++ x ∷ []) e)
    ∙ append_assoc out (get_or text i 0 ∷ []) (joined (drop (i + 1) text))
    ∙ ap (λ x. out ++ x) (sym (one (get_or text i 0) (drop (i + 1) text) (drop i text) false (drop_more text i 0 h) n)) ∙ s

pub joined-dropped : (text : List ℕ) (i : ℕ) (out whole : List ℕ) → i < length text → continues (drop i text) ≡ true → out ++ joined (drop i text) ≡ whole → out ++ joined (drop (i + 1) text) ≡ whole
joined-dropped text i out whole h n s = ap (λ x. out ++ x) (sym (one (get_or text i 0) (drop (i + 1) text) (drop i text) true (drop_more text i 0 h) n)) ∙ s
