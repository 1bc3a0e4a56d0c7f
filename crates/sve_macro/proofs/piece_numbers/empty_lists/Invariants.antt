use Rattle.std.proofs.Common.{◌≡◌, ℕ, ◌-◌, ◌≤◌, [], length}
use Rattle.std.specs.Global.{Vec}
use Rattle.std.specs.List.{All}
use Rattle.sve_macro.proofs.piece_numbers.empty_lists.Given as goal

abbrev pub invariant-lists : goal.invariant-lists
invariant-lists l = record {
  within : length l.lists.items ≤ l.count;
  empty : All (λ (list : Vec ℕ). list.items ≡ []) l.lists.items;
}

abbrev pub decreases-lists : goal.decreases-lists
decreases-lists l = l.count - length l.lists.items
