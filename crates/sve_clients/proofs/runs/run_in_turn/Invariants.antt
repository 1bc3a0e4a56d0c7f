use Rattle.std.proofs.Common.{◌≡◌, ◌+◌, length, map}
use Rattle.std.specs.List.{range_with_len}
use Rattle.sve_board.specs.Values.{new_pass}
use Rattle.sve_clients.specs.Runs.{AreTurns}
use Rattle.sve_clients.proofs.runs.run_in_turn.Given as goal

abbrev pub invariant-loop-pass : goal.invariant-loop-pass
invariant-loop-pass g l = record {
  rest : l.pass-iterator.rest.items ≡ map (new_pass g.P.Plan.board.table) (range_with_len (length l.rans.items + 1) (length l.pass-iterator.rest.items));
  rest_len : l.pass-iterator.rest.len ≡ length l.pass-iterator.rest.items;
  count : length l.rans.items + length l.pass-iterator.rest.items ≡ g.P.Plan.board.clients;
  turns : AreTurns (g.C.Client.leaves l.client g.P.Plan.opening g.P.Plan.most) g.P.Plan.board.table l.rans.items;
}
