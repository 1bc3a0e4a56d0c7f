-- A text cut into pieces, from its first byte on.
use Rattle.std.specs.Prelude.{ℕ, zero, suc, List, [], ◌∷◌, length, drop}

-- the first piece of a text: what it is, how many bytes it has after its first one, and the state in which the rest is read
pub record First (S X : Type 0) : Type 0 where
  pub piece : X
  pub more : ℕ
  pub state : S

-- at most n pieces
unfoldable pub first_pieces : {S X : Type 0} → (S → List ℕ → First S X) → ℕ → S → List ℕ → List X
first_pieces first zero state text = []
first_pieces first (suc n) state [] = []
first_pieces first (suc n) state (v ∷ vs) =
    (first state (v ∷ vs)).piece ∷ first_pieces first n (first state (v ∷ vs)).state (drop (first state (v ∷ vs)).more vs)

-- all pieces: each has a byte at least, so there are at most as many as bytes
unfoldable pub pieces : {S X : Type 0} → (S → List ℕ → First S X) → S → List ℕ → List X
pieces first state text = first_pieces first (length text) state text
