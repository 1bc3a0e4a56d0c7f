-- In which order packages have their turns (own; IEEE 1800-2017, clause 26, leaves this open).
use Rattle.std.specs.Prelude.{ℕ, List, [], ◌∷◌, ◌+◌, Option}
use Rattle.std.specs.Option.{option_cmp}
use Rattle.std.specs.Ordering.{nat_cmp, on, then_cmp}
use Rattle.std.specs.declared.cmp.Ordering.{Ordering}
use Rattle.sve_ordered.specs.Ordered.{ordered}
use Rattle.sve_packages.specs.declared.turn.Turn.{Turn}

-- by their rounds, of which a missing one is first, and then by their places
abbrev pub turn_cmp : Turn → Turn → Ordering
turn_cmp = then_cmp (on (λ t. t.round) (option_cmp nat_cmp)) (on (λ t. t.place) nat_cmp)

-- the rounds of packages, with their places counted from k
abbrev pub numbered : ℕ → List (Option ℕ) → List Turn
numbered k [] = []
numbered k (r ∷ rs) = record { round = r; place = k } ∷ numbered (k + 1) rs

abbrev pub turns : List (Option ℕ) → List Turn
turns rounds = ordered turn_cmp (numbered 0 rounds)
