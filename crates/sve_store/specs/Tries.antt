-- What a try comes to.
use Rattle.std.specs.Prelude.{ℕ, ◌≡◌}
use Rattle.sve_store.specs.Made.{Made, Needs, Done, next_count}
use Rattle.sve_store.specs.declared.tries.Tried.{Tried}
use Rattle.sve_store.specs.declared.tries.Tried.TheVariants.{Came, Wants}

-- the try came to what the definition gives
abbrev pub IsTried : {K V : Type 0} → Made K V → Tried K V → Type 0
IsTried made (Came v) = made ≡ Done v
IsTried made (Wants j) = made ≡ Needs j

-- the count after a try: a value that it came to is counted
abbrev pub count_after : {K V : Type 0} → Tried K V → ℕ → ℕ
count_after (Came v) n = next_count n
count_after (Wants j) n = n
