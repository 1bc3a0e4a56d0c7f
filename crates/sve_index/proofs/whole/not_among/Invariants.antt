-- The names so far that are not in the table, and those among the names that are left, are all of them.
use Rattle.std.proofs.Common.{◌≡◌, ◌++◌, drop, not, is_some}
use Rattle.std.specs.List.{filter}
use Rattle.sve_table.specs.Tables.{item_of}
use Rattle.sve_index.specs.Instances.{itself}
use Rattle.sve_index.proofs.whole.not_among.Given as goal

abbrev pub invariant-loop-name : goal.invariant-loop-name
invariant-loop-name l = l.left.items ++ filter (λ name. not (is_some (item_of itself name l.table))) (drop l.name-index l.names) ≡ filter (λ name. not (is_some (item_of itself name l.table))) l.names
