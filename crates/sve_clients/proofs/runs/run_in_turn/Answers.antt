use Rattle.std.proofs.Common.{◌≡◌, ◌+◌, ◌∷◌, ℕ, List, length, map, inl, sym, ◌∙◌, ap, arith}
use Rattle.std.specs.List.{range_with_len}
use Rattle.sve_board.specs.Values.{PassValue, new_pass, new_passes}
use Rattle.sve_clients.proofs.Places.{passes-length, next_pass, turns_done}
use Rattle.sve_clients.proofs.runs.run_in_turn.Goals as goal

pub loop-pass-init : goal.loop-pass-init
loop-pass-init g c =
    let table = g.P.Plan.board.table in
    let clients : ℕ = g.P.Plan.board.clients in
    let passes : List PassValue = c.into_iter-pass-iterator.result.rest.items in
    let gives = c.into_iter-pass-iterator.ensures.into_iter_gives in
    let none = c.new-rans.ensures.items in
    let items : passes ≡ new_passes table clients = gives.0 ∙ c.requires.passes in
    let size : length passes ≡ clients = ap length items ∙ passes-length table clients in
    let number : 1 ≡ length c.new-rans.result.items + 1 = omega (arith, ap length none) in
    record {
      rest = items ∙ (λ k. map (new_pass table) (range_with_len (number k) (sym size k)));
      rest_len = omega (arith, gives.1, ap length gives.0, c.args.passes.ok);
      count = omega (arith, ap length none, size);
      turns = inl none;
    }

pub loop-pass-preserved : goal.loop-pass-preserved
loop-pass-preserved g c =
    let table = g.P.Plan.board.table in
    let now = c.loop-pass.invariant in
    let rans : ℕ = length c.loop-pass.rans.items in
    let others : List PassValue = c.next.new.self.rest.items in
    let came = c.in-Some.ensures.steps in
    let first : c.loop-pass.pass-iterator.rest.items ≡ c.in-Some.pass ∷ others = came.0 in
    let left : length c.loop-pass.pass-iterator.rest.items ≡ length (c.in-Some.pass ∷ others) = ap length first in
    let two = next_pass table (rans + 1) c.in-Some.pass others (sym first ∙ now.rest ∙ ap (λ (n : ℕ). map (new_pass table) (range_with_len (rans + 1) n)) left) in
    let pushed : length c.run_next.new.rans.items ≡ rans + 1 = c.in_ok-run_next.ensures.count in
    let next : rans + 1 + 1 ≡ length c.run_next.new.rans.items + 1 = omega (arith, pushed) in
    record {
      rest = two.1 ∙ ap (λ (n : ℕ). map (new_pass table) (range_with_len n (length others))) next;
      rest_len = omega (arith, now.rest_len, came.1, left);
      count = omega (arith, now.count, pushed, left);
      turns = c.in_ok-run_next.ensures.turns;
    }

pub returns-clause-done : goal.returns-clause-done
returns-clause-done g c = turns_done (g.C.Client.leaves c.args.client.now g.P.Plan.opening g.P.Plan.most) g.P.Plan.board.table c.loop-pass.rans.items c.loop-pass.invariant.turns
