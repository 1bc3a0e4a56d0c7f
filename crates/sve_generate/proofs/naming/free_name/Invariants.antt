use Rattle.std.proofs.Common.{◌≡◌, ◌-◌}
use Rattle.sve_generate.specs.BlockNames.{free_zeros, is_taken}
use Rattle.sve_generate.proofs.naming.free_name.Given as goal

abbrev pub invariant-tries : goal.invariant-tries
invariant-tries g l = free_zeros (is_taken g.T.Named.called l.declared) l.number (l.most - l.zeros) l.zeros ≡ free_zeros (is_taken g.T.Named.called l.declared) l.number l.most 0
