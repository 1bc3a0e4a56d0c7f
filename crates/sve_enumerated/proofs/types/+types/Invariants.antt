-- The members so far, and behind them those that are left, are all of them.
use Rattle.std.proofs.Common.{◌≡◌, drop}
use Rattle.sve_enumerated.specs.Types.{named_behind, named_in_vec}
use Rattle.sve_enumerated.proofs.types.+types.Given as goal

abbrev pub invariant-in_members-members : goal.invariant-in_members-members
invariant-in_members-members l = named_behind l.words l.ty l.passed (drop l.next-index l.written.items) ≡ named_in_vec l.words l.ty l.fn.passed l.written
