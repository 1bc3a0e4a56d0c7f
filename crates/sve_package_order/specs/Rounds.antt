-- The rounds of packages (own; IEEE 1800-2017, clause 26).
use Rattle.std.specs.Prelude.{◌≡◌, ℕ, zero, suc, Bool, false, List, length, map, slice_get, nat_lt, Option, Some, None, if◌then◌else◌}
use Rattle.std.specs.List.{filter_map, list_all}
use Rattle.sve_table.specs.Tables.{item_of}
use Rattle.sve_package_order.specs.declared.package_imports.PackageImports.{PackageImports}

abbrev pub package_name : PackageImports → List ℕ
package_name p = p.name

-- the packages among these that a package imports; of two of one name it is the first
abbrev pub imported : List PackageImports → PackageImports → List PackageImports
imported ps p = filter_map (λ name. item_of package_name name ps) p.imports

-- a package has its turn before round k, where all that it imports have theirs before round k - 1
unfoldable pub is_early : List PackageImports → ℕ → PackageImports → Bool
is_early ps zero p = false
is_early ps (suc k) p = list_all (is_early ps k) (imported ps p)

-- The round of a package is the first in which all that it imports had an earlier one; of these rounds it is the first from k on.
abbrev pub first_round : List PackageImports → PackageImports → ℕ → ℕ → Option ℕ
first_round ps p k zero = None
first_round ps p k (suc more) = if is_early ps (suc k) p then Some k else first_round ps p (suc k) more

-- there are no more rounds than packages
abbrev pub round_of : List PackageImports → PackageImports → Option ℕ
round_of ps p = first_round ps p 0 (length ps)

abbrev pub rounds_of : List PackageImports → List (Option ℕ)
rounds_of ps = map (round_of ps) ps

-- a round, if there is one, is before round k
abbrev pub is_before : ℕ → Option ℕ → Bool
is_before k None = false
is_before k (Some r) = nat_lt r k

-- A package has this round where it has its turn before round k exactly if its round is before k, for every k. So one without a
-- round never has its turn, however long one waits.
abbrev pub IsRound : List PackageImports → PackageImports → Option ℕ → Type 0
IsRound ps p r = (k : ℕ) → is_early ps k p ≡ is_before k r

-- each package has its round
abbrev pub HaveTheirRounds : List PackageImports → Type 0
HaveTheirRounds ps = (i : ℕ) (p : PackageImports) → slice_get ps i ≡ Some p → IsRound ps p (round_of ps p)
