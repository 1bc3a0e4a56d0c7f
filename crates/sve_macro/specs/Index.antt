-- Places of words that stand in a map.
use Rattle.std.specs.Prelude.{ℕ, Option, List}
use Rattle.std.specs.BTreeMap.{BTreeMap, get_by}
use Rattle.std.specs.Borrow.{Bor}
use Rattle.std.specs.Cmp.Lexicographic.{slice_cmp}
use Rattle.std.specs.Ordering.{nat_cmp}

-- the place of a word, where the map has one
abbrev pub place_in : BTreeMap (Bor (List ℕ)) ℕ → List ℕ → Option ℕ
place_in index word = get_by (λ k. slice_cmp nat_cmp word k.now) index
