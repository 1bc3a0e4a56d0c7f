-- The longest front of a text that is of a form (IEEE 1800-2017, 5.2).
use Rattle.std.specs.Prelude.{ℕ, ◌+◌, List, [], ◌∷◌, Option, Some, None}

-- what a spelling is, where other bytes come after it; None where it is nothing of this form
abbrev pub Form : Type 0 → Type 0
Form W = List ℕ → List ℕ → Option W

-- what may come after a first byte in this form
abbrev pub after : {W : Type 0} → ℕ → Form W → Form W
after c f = λ s rest. f (c ∷ s) rest

-- what was found one byte further on, else what stands here with no byte
abbrev pub or_here : {W : Type 0} → Option (W × ℕ) → Option W → Option (W × ℕ)
or_here (Some (w, n)) here = Some (w, n + 1)
or_here None (Some w) = Some (w, 0)
or_here None None = None

-- the longest front of a text that is of the form: what it is, and how many bytes it has
unfoldable pub longest : {W : Type 0} → List ℕ → Form W → Option (W × ℕ)
longest [] f = or_here None (f [] [])
longest (c ∷ cs) f = or_here (longest cs (after c f)) (f [] (c ∷ cs))
