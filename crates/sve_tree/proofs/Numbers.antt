-- Numbers one after the other.
use Rattle.std.proofs.Common.{ℕ, ◌+◌, List, [], ◌∷◌, ◌++◌, ◌≡◌, ◌≤◌, refl, sym, ap, arith, Ok}
use Rattle.sve_token.specs.declared.token.Token.{Token}
use Rattle.sve_grammar.specs.Items.{chunk}
use Rattle.sve_grammar.specs.Reading.{leaves, at_depth, Numbered}
use Rattle.sve_grammar.proofs.Spelled.{spelled}
use Rattle.sve_tree.specs.Elements.{element_tree}
use Rattle.sve_tree.specs.declared.element.Element.{Element}

up : (i j : ℕ) (xs : List ℕ) → Numbered i j xs → i ≤ j
up i j [] h = omega (arith, h)
up i j (x ∷ xs) h = let e = up (i + 1) j xs h.1 in omega (arith, e)

-- there is one list of the numbers from one to another
pub numbered_one : (i j : ℕ) (xs ys : List ℕ) → Numbered i j xs → Numbered i j ys → xs ≡ ys
numbered_one i j [] [] p q = refl
numbered_one i j [] (y ∷ ys) p q = let e = up (i + 1) j ys q.1 in absurd (omega (arith, e, p))
numbered_one i j (x ∷ xs) [] p q = let e = up (i + 1) j xs p.1 in absurd (omega (arith, e, q))
numbered_one i j (x ∷ xs) (y ∷ ys) p q = rw (p.0, q.0, numbered_one (i + 1) j xs ys p.1 q.1) refl

-- one number more
pub numbered_push : (i j : ℕ) (xs : List ℕ) → Numbered i j xs → Numbered i (j + 1) (xs ++ j ∷ [])
numbered_push i j [] h = (sym h, ap (λ (n : ℕ). n + 1) h)
numbered_push i j (x ∷ xs) h = (h.0, numbered_push (i + 1) j xs h.1)

-- the tokens of an element that reading gives
pub element_in_order : (tokens : List Token) (element : Element) (end : ℕ) → at_depth tokens 0 chunk 0 ≡ Ok (element_tree element, end) → Numbered 0 end (leaves (element_tree element))
element_in_order tokens element end read = spelled tokens 0 chunk 0 (element_tree element) end read
