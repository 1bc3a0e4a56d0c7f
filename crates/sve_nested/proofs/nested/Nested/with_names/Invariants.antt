-- What the names so far make of the first.
use Rattle.std.proofs.Common.{◌≡◌, take}
use Rattle.std.specs.List.{fold}
use Rattle.sve_nested.specs.Labels.{with_name}
use Rattle.sve_nested.proofs.nested.Nested.with_names.Given as goal

abbrev pub invariant-names : goal.invariant-names
invariant-names l = l.nested ≡ fold (with_name l.words) l.fn.self (take l.name-index l.names)
