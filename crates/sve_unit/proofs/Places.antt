-- Chunks from a token of the list on, by what stands at its number.
use Rattle.std.proofs.Common.{◌≡◌, ◌∙◌, refl, ℕ, zero, suc, ◌+◌, ◌<◌, Bool, true, false, ◌&&◌, cond, List, [], ◌∷◌, length, drop, Some, arith, add-one}
use Rattle.sve_token.specs.declared.kind.Kind.{Kind}
use Rattle.sve_token.specs.declared.kind.Kind.TheVariants.{Colon, Identifier}
use Rattle.sve_token.specs.declared.token.Token.{Token}
use Rattle.sve_grammar.specs.Token.{has_kind, kind_at}
use Rattle.sve_unit.specs.Chunks.{ends_at, first_size, label_size}

no_and : (b : Bool) → (b && false) ≡ false
no_and true = refl
no_and false = refl

label_at : (n : ℕ) (ts : List Token) → label_size (drop n ts) ≡ cond (has_kind (kind_at ts n) Colon && has_kind (kind_at ts (suc n)) Identifier) 2 0
label_at zero [] = refl
label_at zero (u ∷ []) = rw (no_and (has_kind (Some u.kind) Colon)) refl
label_at zero (u ∷ v ∷ ts) = refl
label_at (suc n) [] = refl
label_at (suc n) (t ∷ ts) = label_at n ts

pub label_here : (n : ℕ) (ts : List Token) → label_size (drop n ts) ≡ cond (has_kind (kind_at ts n) Colon && has_kind (kind_at ts (n + 1)) Identifier) 2 0
label_here n ts = rw (add-one n) (label_at n ts)

-- where a token of a kind stands, there is a token
pub stands_within : (n : ℕ) (ts : List Token) (kind : Kind) → has_kind (kind_at ts n) kind ≡ true → n < length ts
stands_within zero [] kind h = cc
stands_within zero (t ∷ ts) kind h = omega arith
stands_within (suc n) [] kind h = cc
stands_within (suc n) (t ∷ ts) kind h = let k = stands_within n ts kind h in omega arith

first_at : (n : ℕ) (ts : List Token) → n < length ts → first_size (drop n ts) ≡ cond (ends_at ts n) (suc (label_size (drop (suc n) ts))) (suc (first_size (drop (suc n) ts)))
unfolding first_size
first_at zero [] h = absurd (omega arith)
first_at zero (t ∷ ts) h = refl
first_at (suc n) [] h = absurd (omega arith)
first_at (suc n) (t ∷ ts) h = first_at n ts (omega arith)

-- at an end word the chunk ends behind its label
pub ended : (n : ℕ) (ts : List Token) → n < length ts → ends_at ts n ≡ true → n + first_size (drop n ts) ≡ n + 1 + label_size (drop (n + 1) ts)
ended n ts h e = let f : first_size (drop n ts) ≡ suc (label_size (drop (suc n) ts)) = first_at n ts h ∙ rw e refl in rw (add-one n, f) (omega arith)

-- at another token it goes on
pub passed : (n : ℕ) (ts : List Token) → n < length ts → ends_at ts n ≡ false → n + first_size (drop n ts) ≡ n + 1 + first_size (drop (n + 1) ts)
passed n ts h e = let f : first_size (drop n ts) ≡ suc (first_size (drop (suc n) ts)) = first_at n ts h ∙ rw e refl in rw (add-one n, f) (omega arith)

-- behind the last token no chunk goes on
pub behind : (ts : List Token) → first_size (drop (length ts) ts) ≡ 0
unfolding first_size
behind [] = refl
behind (t ∷ ts) = behind ts
