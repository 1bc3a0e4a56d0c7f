-- What a definition makes of what is told (own).
use Rattle.std.specs.Prelude.{Option, Some, None}

-- a key is needed that is not told, or there is a value
pub data Made (K : Type 0) (V : Type 0) : Type 0 where
  Needs : K → Made K V
  Done : V → Made K V

-- a definition that goes on with the value of a key
abbrev pub with_key : {K V W : Type 0} → K → Option V → (V → Made K W) → Made K W
with_key key None go = Needs key
with_key key (Some v) go = go v

-- what is made of the value, where there is one
abbrev pub made_of : {K V W : Type 0} → (V → W) → Made K V → Made K W
made_of f (Needs key) = Needs key
made_of f (Done v) = Done (f v)

-- what is needed as an answer to a question is needed as the value of the question's key
abbrev pub by_keys : {Q K V : Type 0} → (Q → K) → Made Q V → Made K V
by_keys key_of (Needs question) = Needs (key_of question)
by_keys key_of (Done v) = Done v
