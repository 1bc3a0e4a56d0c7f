-- Where tokens stand (own): by file, by chunk and by number.
use Rattle.std.specs.Prelude.{ℕ, Bool, List}
use Rattle.std.specs.Cmp.{IsTotalOrder, nat_cmp_total, on_total, then_total}
use Rattle.std.specs.Cmp.Lexicographic.{slice_cmp, nat_list_cmp_total}
use Rattle.std.specs.Ordering.{is_le, is_lt, nat_cmp, on, then_cmp}
use Rattle.std.specs.declared.cmp.Ordering.{Ordering}
use Rattle.sve_scope.specs.declared.spot.Spot.{Spot}

-- a token of a chunk of a file
abbrev pub spot : List ℕ → ℕ → ℕ → Spot
spot file chunk token = record { file = file; chunk = chunk; token = token }

-- chunks go by the bytes of their files' names, then by their numbers
abbrev pub chunk_cmp : Spot → Spot → Ordering
chunk_cmp = then_cmp (on (λ s. s.file) (slice_cmp nat_cmp)) (on (λ s. s.chunk) nat_cmp)

-- and tokens by their chunks, then by their numbers
abbrev pub spot_cmp : Spot → Spot → Ordering
spot_cmp = then_cmp chunk_cmp (on (λ s. s.token) nat_cmp)

-- this is one order of all tokens of all files
pub spot_total : IsTotalOrder spot_cmp
spot_total = then_total (then_total (on_total (λ s. s.file) nat_list_cmp_total) (on_total (λ s. s.chunk) nat_cmp_total)) (on_total (λ s. s.token) nat_cmp_total)

-- the chunk of the first is that of the second, or stands before it
abbrev pub begins_by : Spot → Spot → Bool
begins_by s t = is_le (chunk_cmp s t)

-- the first stands before the second
abbrev pub stands_before : Spot → Spot → Bool
stands_before s t = is_lt (spot_cmp s t)
