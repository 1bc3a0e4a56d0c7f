use Rattle.std.proofs.Common.{◌≡◌, ◌+◌, ◌∷◌, ◌++◌, [], List, length, inr, refl, ap, ◌∙◌, arith, length-append}
use Rattle.sve_board.specs.Values.{PassValue}
use Rattle.sve_clients.specs.declared.client.Ran.{Ran}
use Rattle.sve_clients.specs.Runs.{IsTurn}
use Rattle.sve_clients.proofs.Places.{no_items, first_turn, next_turn, turn_of}
use Rattle.sve_clients.proofs.runs.run_next.Goals as goal

pub returns-in_default-clause-turns : goal.returns-in_default-clause-turns
returns-in_default-clause-turns g c =
    let leaves = g.C.Client.leaves c.args.client.now g.P.Plan.opening g.P.Plan.most in
    let table = g.P.Plan.board.table in
    let none : c.pop.new.self.items ≡ [] = no_items c.pop.new.self.items (omega (arith, c.in_default.ensures.cases.1, c.pop.new.self.ok)) in
    let first : length c.args.rans.now.items + 1 ≡ 1 = omega (arith, c.in_default.ensures.cases.0, c.args.rans.now.ok) in
    let number : c.args.pass.number ≡ 1 = ap (λ (p : PassValue). p.number) c.requires.pass ∙ first in
    (inr ([], c.run.result, c.in_ok-push.ensures.items ∙ ap (λ (l : List (Ran g.row.C-Left.Denot)). l ++ c.run.result ∷ []) none, first_turn leaves table c.args.pass [] c.run.result refl number (record { ready = c.run.ensures.ready; who = c.run.ensures.number; does = c.run.ensures.does })))

pub returns-clause-turns : goal.returns-clause-turns
returns-clause-turns g c =
    let leaves = g.C.Client.leaves c.args.client.now g.P.Plan.opening g.P.Plan.most in
    let table = g.P.Plan.board.table in
    let rest = c.pop.new.self.items in
    let last = c.in-Some.last in
    let back = c.run_behind-last.result.0 in
    let ran = c.run_behind-last.result.1 in
    let turn : IsTurn leaves table rest last = turn_of leaves table rest last c.args.rans.now.items c.in-Some.ensures.items c.requires.turns in
    let more = c.run_behind-last.ensures.earlier in
    let behind = c.run_behind-last.ensures.ran in
    let place : length c.args.rans.now.items + 1 ≡ length rest + 2 = omega (arith, ap length c.in-Some.ensures.items, length-append rest (last ∷ [])) in
    let number : behind.0.number ≡ length rest + 2 = behind.1 ∙ ap (λ (p : PassValue). p.number) c.requires.pass ∙ place in
    (inr (c.push-2.new.self.items, ran, c.in_ok-push-3.ensures.items, next_turn leaves table rest c.push-2.new.self.items last back turn c.in_ok-push-2.ensures.items more.0 more.1 behind.0 ran number behind.2 behind.3))
