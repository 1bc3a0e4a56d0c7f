-- An object that tells the values of keys, seen as one that answers the questions of a layer: each question has a key, and its answer is read off the
-- value of that key (own).
use Rattle.std.specs.Prelude.{◌≡◌, ℕ, ◌⊎◌, List, Option, Some, option_map, option_and_then, refl}
use Rattle.std.specs.List.{filter_map}
use Rattle.std.proofs.Common.{inl, inr, ◌∙◌}
use Rattle.sve_told.specs.Keys.{TellSameKeys}

module _ {K V Q : Type 0} {A : Q → Type 0} (key_of : Q → K) (read : (q : Q) → V → A q) where
  -- what is told of a question's key, read as its answer
  abbrev pub seen_told : (K → Option V) → (q : Q) → Option (A q)
  seen_told told q = option_map (read q) (told (key_of q))

  -- the object tells a value of the question's key that is read as this answer
  abbrev pub seen_tells : (K → ℕ → V → Type 0) → (q : Q) → A q → Type 0
  seen_tells tells q a = (v : V) × tells (key_of q) 0 v × (a ≡ read q v)

module _ {K Q : Type 0} (question_of : K → Option Q) where
  -- the question of the key at which it halted, where that is the key of one
  abbrev pub seen_halted : Option K → Option Q
  seen_halted halted = option_and_then question_of halted

  -- the questions whose keys were asked for, where these are noted
  abbrev pub seen_asked : Option (List (K × ℕ)) → Option (List Q)
  seen_asked asked = option_map (λ keys. filter_map (λ key. question_of key.0) keys) asked

-- what a call that asks such questions alone leaves of the object: it tells the same, is the same but for its notes, and computes nothing where it
-- computed nothing before; and where it halted, it did so before, or at the key of a question
pub record Sees {F K V Q : Type 0} (tells : F → K → ℕ → V → Type 0) (keeps : F → F → Type 0) (quiet : F → Type 0) (count : F → ℕ) (halted : F → Option K) (key_of : Q → K) (old new : F) : Type 0 where
  pub same : TellSameKeys (tells old) (tells new)
  pub kept : keeps old new
  pub still : quiet old → quiet new × (count new ≡ count old)
  pub only : (k : K) → halted new ≡ Some k → (halted old ≡ Some k) ⊎ ((q : Q) × (k ≡ key_of q))

-- The two laws of an object: each is the same as itself, and what is the same as the same is the same.
module _ {F K V Q : Type 0} (tells : F → K → ℕ → V → Type 0) (keeps : F → F → Type 0) (quiet : F → Type 0) (count : F → ℕ) (halted : F → Option K) (key_of : Q → K) where
  pub sees_itself : (from : F) → keeps from from → Sees tells keeps quiet count halted key_of from from
  sees_itself from kept = record { same = λ k fuel v. (λ told. told, λ told. told); kept = kept; still = λ q. (q, refl); only = λ k is. inl is }

  only_on : (old now : F) → ((k : K) → halted now ≡ Some k → (halted old ≡ Some k) ⊎ ((q : Q) × (k ≡ key_of q))) → (k : K) → (halted now ≡ Some k) ⊎ ((q : Q) × (k ≡ key_of q)) → (halted old ≡ Some k) ⊎ ((q : Q) × (k ≡ key_of q))
  only_on old now before k (inl is) = before k is
  only_on old now before k (inr question) = inr question

  pub sees_on : (old now new : F) → (keeps old now → keeps now new → keeps old new) → Sees tells keeps quiet count halted key_of old now → Sees tells keeps quiet count halted key_of now new → Sees tells keeps quiet count halted key_of old new
  sees_on old now new keeps_on first second = record {
    same = λ k fuel v. (λ told. (second.same k fuel v).0 ((first.same k fuel v).0 told), λ told. (first.same k fuel v).1 ((second.same k fuel v).1 told));
    kept = keeps_on first.kept second.kept;
    still = λ q. let f = first.still q in let s = second.still f.0 in (s.0, s.1 ∙ f.1);
    only = λ k is. only_on old now first.only k (second.only k is);
  }
