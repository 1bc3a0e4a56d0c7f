-- What a rule takes from a place on, or where it stops, without a stack: by recursion on the rule, and on how many depths are left (own).
use Rattle.std.specs.Prelude.{ℕ, zero, suc, ◌+◌, ◌-◌, Bool, false, List, [], ◌∷◌, ◌++◌, length, Option, Result, Ok, Err, if◌then◌else◌, ◌≡◌}
use Rattle.sve_token.specs.declared.kind.Kind.{Kind}
use Rattle.sve_token.specs.declared.token.Token.{Token}
use Rattle.sve_grammar.specs.declared.symbol.Symbol.{Symbol}
use Rattle.sve_grammar.specs.Token.{kind_at, has_kind}
use Rattle.sve_grammar.specs.Rule.{Rule, tok, sym, ◌∙◌, ◌∣◌, nothing, many, starts, empties, opens}
use Rattle.sve_grammar.specs.Grammar.{rule}
use Rattle.sve_grammar.specs.Machine.{Halt, Move, first, second, more, enough}

infixl 10 ◌>>=◌
-- what a rule took: the numbers of its tokens, and each choice
pub data Tree : Type 0 where
  leaf : ℕ → Tree
  none : Tree
  pair : Tree → Tree → Tree
  left : Tree → Tree
  right : Tree → Tree
  -- a turn of a repetition, and the turns behind it
  turn : Tree → Tree → Tree
  ended : Tree

-- the tree of a repetition, with further turns in place of its end; also below an operand in front of the repetition
abbrev pub joined : Tree → Tree → Tree
joined (leaf i) u = u
joined none u = u
joined (pair t ts) u = pair t (joined ts u)
joined (left t) u = u
joined (right t) u = u
joined (turn t ts) u = turn t (joined ts u)
joined ended u = u

-- the numbers of a tree's tokens, from left to right
abbrev pub leaves : Tree → List ℕ
leaves (leaf i) = i ∷ []
leaves none = []
leaves (pair t u) = leaves t ++ leaves u
leaves (left t) = leaves t
leaves (right t) = leaves t
leaves (turn t u) = leaves t ++ leaves u
leaves ended = []

-- the machine's moves for a tree, from left to right
abbrev pub moves : Tree → List Move
moves (leaf i) = []
moves none = []
moves (pair t u) = moves t ++ moves u
moves (left t) = first ∷ moves t
moves (right t) = second ∷ moves t
moves (turn t u) = more ∷ (moves t ++ moves u)
moves ended = enough ∷ []

-- the tree and the number of the token behind it, or where the machine stops
abbrev pub Answer : Type 0
Answer = Result (Tree × ℕ) Halt

abbrev pub ◌>>=◌ : {A B : Type 0} → Result A Halt → (A → Result B Halt) → Result B Halt
(Ok x) >>= f = f x
(Err e) >>= f = Err e

abbrev pub halt : ℕ → Bool → Answer
halt i deep = Err (record { index = i; deep = deep })

abbrev pub with_left : Answer → Answer
with_left x = x >>= λ p. Ok (left p.0, p.1)

abbrev pub with_right : Answer → Answer
with_right x = x >>= λ p. Ok (right p.0, p.1)

-- one reading, and another from where it ends
abbrev pub both : Answer → (ℕ → Answer) → Answer
both x f = x >>= λ p. f p.1 >>= λ q. Ok (pair p.0 q.0, q.1)

-- one turn, and the turns from where it ends
abbrev pub turns : Answer → (ℕ → Answer) → Answer
turns x f = x >>= λ p. f p.1 >>= λ q. Ok (turn p.0 q.0, q.1)

-- turn after turn while the next token passes the test, at most n turns
unfoldable pub repeat : List Token → (Option Kind → Bool) → (ℕ → Answer) → ℕ → ℕ → Answer
repeat ts p f zero i = Ok (ended, i)
repeat ts p f (suc n) i = if p (kind_at ts i) then turns (f i) (repeat ts p f n) else Ok (ended, i)

-- one token of this kind
unfoldable pub token : List Token → Kind → ℕ → Answer
token ts k i = if has_kind (kind_at ts i) k then Ok (leaf i, i + 1) else halt i false

-- a rule, where it is given what each symbol takes
abbrev pub reads : List Token → (Symbol → ℕ → Answer) → Rule → ℕ → Answer
reads ts below (tok k) i = token ts k i
reads ts below (sym s) i = below s i
reads ts below (a ∙ b) i = both (reads ts below a i) (reads ts below b)
reads ts below (a ∣ b) i =
    if starts a (kind_at ts i) then with_left (reads ts below a i) else
    if starts b (kind_at ts i) then with_right (reads ts below b i) else
    if empties a then with_left (reads ts below a i) else
    if empties b then with_right (reads ts below b i) else
    halt i false
reads ts below nothing i = Ok (none, i)
reads ts below (many a) i = repeat ts (starts a) (reads ts below a) (length ts - i) i

-- a symbol, where so many depths are left below it
unfoldable pub symbol : List Token → ℕ → Symbol → ℕ → Answer
symbol ts zero s i = halt i (opens s (kind_at ts i))
symbol ts (suc n) s i = if opens s (kind_at ts i) then reads ts (symbol ts n) (rule s) i else halt i false

-- a rule at a depth
abbrev pub at_depth : List Token → ℕ → Rule → ℕ → Answer
at_depth ts d r i = reads ts (symbol ts (512 - d)) r i

-- the list is i, i + 1, and so on, up to but not with j
abbrev pub Numbered : ℕ → ℕ → List ℕ → Type 0
Numbered i j [] = i ≡ j
Numbered i j (x ∷ xs) = (x ≡ i) × Numbered (i + 1) j xs

-- two lists of tokens read the same: by every rule and symbol, at every depth, from every place
abbrev pub ReadTheSame : List Token → List Token → Type 0
ReadTheSame ts us = (d : ℕ) (r : Rule) (i : ℕ) → at_depth ts d r i ≡ at_depth us d r i
