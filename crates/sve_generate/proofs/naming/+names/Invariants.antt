-- What was added so far, and what the items that are left add, is what all add.
use Rattle.std.proofs.Common.{◌≡◌, ◌++◌, drop, length}
use Rattle.std.specs.List.{sum_by}
use Rattle.sve_generate.specs.Constructs.{constructs}
use Rattle.sve_generate.specs.BlockNames.{names_from, is_taken}
use Rattle.sve_generate.proofs.naming.+names.Given as goal

abbrev pub invariant-add_items-items : goal.invariant-add_items-items
invariant-add_items-items g l = l.names.items ++ names_from (is_taken g.T.Named.called l.declared) (length l.names.items) (sum_by constructs (drop l.item-index l.items))
    ≡ l.initial.names.items ++ names_from (is_taken g.T.Named.called l.declared) (length l.initial.names.items) (sum_by constructs l.items)
