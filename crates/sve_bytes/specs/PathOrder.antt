-- The order of paths (own): by their steps from the first, a path before those that it begins.
use Rattle.std.specs.Option.{option_cmp}
use Rattle.std.specs.Ordering.{nat_cmp, int_cmp, on, then_cmp}
use Rattle.std.specs.Cmp.{IsTotalOrder, then_total, on_total, int_cmp_total}
use Rattle.std.specs.Cmp.Lexicographic.{slice_cmp, lists_total, options_total, nat_list_cmp_total}
use Rattle.std.specs.declared.cmp.Ordering.{Ordering}
use Rattle.sve_bytes.specs.declared.path.Path.{Path}
use Rattle.sve_bytes.specs.declared.path.Step.{Step}

-- by the bytes of the names, then by the indices, of which a missing one is first
abbrev pub step_cmp : Step → Step → Ordering
step_cmp = then_cmp (on (λ s. s.name) (slice_cmp nat_cmp)) (on (λ s. s.index) (option_cmp int_cmp))

abbrev pub path_cmp : Path → Path → Ordering
path_cmp = on (λ p. p.steps) (slice_cmp step_cmp)

-- both are total orders
pub step_total : IsTotalOrder step_cmp
step_total = then_total (on_total (λ s. s.name) nat_list_cmp_total) (on_total (λ s. s.index) (options_total int_cmp_total))

pub path_total : IsTotalOrder path_cmp
path_total = on_total (λ p. p.steps) (lists_total step_total)
