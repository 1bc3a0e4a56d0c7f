-- The key at which a call halts that fetches one key.
use Rattle.std.proofs.Common.{◌≡◌, ℕ, inl, inr, Option, Some, None, Result, refl, ap, sym, ◌∙◌}
use Rattle.sve_told.specs.Keys.{MatchesKeys, HaltedAt}
use Rattle.sve_told.specs.Made.{Made, Needs, with_key}

-- nothing is told of a key of which an object tells nothing
untold_by : {V : Type 0} (o : Option V) → ((v : V) → o ≡ Some v → ⊥) → o ≡ None
untold_by None nothing = refl
untold_by (Some v) nothing = absurd (nothing v refl)

no_other : {K : Type 0} (o : Option K) (j : K) → o ≡ None → o ≡ Some j → ⊥
no_other o j none some = absurd (cc)

-- where the fetch of a key halts, what goes on with its value needs that key
pub halts_at : {K V W R E : Type 0} (tells : K → ℕ → V → Type 0) (told : K → Option V) (halted : Option K) (key : K) (result : Result R E) (j : K) (go : V → Made K W) → MatchesKeys told tells → halted ≡ None → HaltedAt tells halted key result j → with_key key (told key) go ≡ Needs j
halts_at tells told halted key result j go same none (inl some) = absurd (no_other halted j none some)
halts_at tells told halted key result j go same none (inr at) = ap (λ o. with_key key o go) (untold_by (told key) (λ v is. at.2 0 v ((same key 0 v).1 is))) ∙ ap Needs (sym at.1)
