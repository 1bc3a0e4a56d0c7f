-- What turns the clauses of an object that tells the values of keys into those of one that answers questions.
use Rattle.std.proofs.Common.{◌≡◌, ℕ, ◌⊎◌, List, [], ◌∷◌, ◌++◌, Option, Some, None, Result, inl, inr, refl, sym, ap, ◌∙◌}
use Rattle.std.specs.Prelude.{option_map, IsErr}
use Rattle.std.specs.List.{filter_map, cons_option}
use Rattle.std.proofs.lemmas.List.Elements.{filter_map-append}
use Rattle.sve_told.specs.Told.{Holds, Matches, TellSame, noted, IsMissing}
use Rattle.sve_told.specs.Keys.{HoldsKeys, MatchesKeys, TellSameKeys, HaltedAt}
use Rattle.sve_told.specs.Seen.{seen_told, seen_tells, seen_halted, seen_asked}

map_some : {V B : Type 0} (f : V → B) (o : Option V) (b : B) → option_map f o ≡ Some b → (v : V) × (o ≡ Some v) × (b ≡ f v)
map_some f None b is = absurd (cc)
map_some f (Some v) b is = (v, refl, cc)

module _ {K V Q : Type 0} {A : Q → Type 0} (key_of : Q → K) (read : (q : Q) → V → A q) where
  -- a map that holds what the object tells of keys holds what it tells of questions
  pub holds_seen : (told : K → Option V) (tells : K → ℕ → V → Type 0) → HoldsKeys told tells → Holds (seen_told key_of read told) (seen_tells key_of read tells)
  holds_seen told tells holds q a is = ap (option_map (read q)) (holds (key_of q) 0 is.0 is.1) ∙ ap Some (sym is.2)

  -- and one that holds nothing else
  pub matches_seen : (told : K → Option V) (tells : K → ℕ → V → Type 0) → MatchesKeys told tells → Matches (seen_told key_of read told) (seen_tells key_of read tells)
  matches_seen told tells matches q a =
      (λ is. ap (option_map (read q)) ((matches (key_of q) 0 is.0).0 is.1) ∙ ap Some (sym is.2), λ is. let v = map_some (read q) (told (key_of q)) a is in (v.0, (matches (key_of q) 0 v.0).1 v.1, v.2))

  -- what tells the same of keys tells the same of questions
  pub same_seen : (old new : K → ℕ → V → Type 0) → TellSameKeys old new → TellSame (seen_tells key_of read old) (seen_tells key_of read new)
  same_seen old new same q a = (λ is. (is.0, (same (key_of q) 0 is.0).0 is.1, is.2), λ is. (is.0, (same (key_of q) 0 is.0).1 is.1, is.2))

module _ {K Q : Type 0} (key_of : Q → K) (question_of : K → Option Q) (back : (q : Q) → question_of (key_of q) ≡ Some q) where
  halted_by : (o : Option K) (q : Q) → seen_halted question_of o ≡ Some q → (k : K) × (o ≡ Some k) × (question_of k ≡ Some q)
  halted_by None q is = absurd (cc)
  halted_by (Some k) q is = (k, refl, is)

  -- Where a call halts the object at a key, it halts it at the question of that key: `fetched` is how the object's call ended, `result` how that of
  -- the layer's object did.
  pub halt_seen : {V R E S G : Type 0} {A : Q → Type 0} (read : (q : Q) → V → A q) (tells : K → ℕ → V → Type 0) (before after : Option K) (old new : Option (List Q)) (question q : Q) (fetched : Result R E) (result : Result S G) → (IsErr fetched → IsErr result × (new ≡ noted question old)) → ((k : K) → after ≡ Some k → HaltedAt tells before (key_of question) fetched k) → seen_halted question_of after ≡ Some q
      → (seen_halted question_of before ≡ Some q) ⊎ IsMissing (seen_tells key_of read tells) old new question result q
  halt_seen read tells before after old new question q fetched result fails at is =
      let k = halted_by after q is in
      elim (at k.0 k.1) [
        | inl earlier ↦ inl (ap (seen_halted question_of) earlier ∙ k.2)
        | inr here ↦ inr ((fails here.0).0, (let one : Some q ≡ Some question = sym k.2 ∙ ap question_of here.1 ∙ back question in cc), (λ a told. here.2 0 told.0 told.1), (fails here.0).1)
      ]

  -- and where a call that asks such questions alone halts it at a key, that is the key of the question at which it is halted
  pub halted_seen : (before after : Option K) → ((k : K) → after ≡ Some k → (before ≡ Some k) ⊎ ((q : Q) × (k ≡ key_of q))) → before ≡ None → (k : K) → after ≡ Some k → (q : Q) × (k ≡ key_of q) × (seen_halted question_of after ≡ Some q)
  halted_seen before after only none k is =
      elim (only k is) [ inl earlier ↦ absurd (let no : None ≡ Some k = sym none ∙ earlier in cc) | inr here ↦ (here.0, here.1, ap (seen_halted question_of) (is ∙ ap Some here.1) ∙ back here.0) ]

  -- a key that is noted is its question that is noted
  pub noted_seen : (asked : Option (List (K × ℕ))) (q : Q) (fuel : ℕ) → seen_asked question_of (noted (key_of q, fuel) asked) ≡ noted q (seen_asked question_of asked)
  noted_seen None q fuel = refl
  noted_seen (Some asked) q fuel =
      ap Some (filter_map-append (λ (key : K × ℕ). question_of key.0) asked ((key_of q, fuel) ∷ []) ∙ ap (λ o. filter_map (λ (key : K × ℕ). question_of key.0) asked ++ cons_option o []) (back q))
