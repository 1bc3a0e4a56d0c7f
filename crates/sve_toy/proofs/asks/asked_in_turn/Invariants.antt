use Rattle.std.specs.Prelude.{◌<◌, All}
use Rattle.sve_history.specs.Histories.{commands_of}
use Rattle.sve_toy.proofs.asks.asked_in_turn.Given as goal

abbrev pub invariant-texts : goal.invariant-texts
invariant-texts l = All (λ k. k < l.command) (commands_of 1 l.asks.core.history.entries)
