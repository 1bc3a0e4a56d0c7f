-- Something that is found some bytes further on.
use Rattle.std.specs.Prelude.{ℕ, ◌+◌, Option, Some, None}

abbrev pub further : {W : Type 0} → ℕ → Option (W × ℕ) → Option (W × ℕ)
further i None = None
further i (Some (w, n)) = Some (w, i + n)
