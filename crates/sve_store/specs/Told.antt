-- What an object promises that tells the values of keys (own). Most of its words are those of objects that answer questions.
use Rattle.std.specs.Prelude.{ℕ, ◌≡◌}
pub use Rattle.sve_told.specs.Told.{HasStopped, noted as with_asked}
pub use Rattle.sve_told.specs.Keys.{HoldsKeys as Holds, MatchesKeys as Matches, TellSameKeys as TellSame, HaltedAt}

-- what the object tells of each key says, to whoever asks with that fuel, what the table has of it
abbrev pub Follows : {K V : Type 0} → (V → ℕ → V) → (K → ℕ → V) → (K → ℕ → V → Type 0) → Type 0
Follows {K} {V} read_at table tells = (k : K) (f : ℕ) (v : V) → tells k f v → read_at v f ≡ table k f
