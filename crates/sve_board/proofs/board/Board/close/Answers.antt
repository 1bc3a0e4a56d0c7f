use Rattle.std.proofs.Common.{◌≡◌, ◌++◌, ◌∷◌, [], ℕ, List, sym, ◌∙◌, ap, subst, arith, rules, length, Some, slice_get, append_assoc}
use Rattle.std.specs.Prelude.{slice_index}
use Rattle.std.proofs.lemmas.List.{append-nil}
use Rattle.sve_board.specs.Knowledge.{writer_in, writer_view, pass_in, client_in, client_view}
use Rattle.sve_board.specs.Steps.{pass_returned}
use Rattle.sve_board.specs.Log.{AreOfClients}
use Rattle.sve_board.specs.Values.{PassValue, WriterValue, BoardValue}
use Rattle.sve_board.proofs.Lists.{slice_get_between, first_number}
use Rattle.sve_board.proofs.EachStep.{one_table, one_more_returned, takes_back, closes}
use Rattle.sve_board.proofs.board.Board.close.Goals as goal

pub loop-pass-init : goal.loop-pass-init
loop-pass-init c = (
  (writer_in c.writer.inside.seat.me.0).seats,
  [],
  [],
  one_table (ap (λ v. v.table) c.writer.view_is) c.requires.board c.self.view_is,
  c.writer.invariant ∙ ap (λ (v : WriterValue). (writer_view (writer_in c.writer.inside.seat.me.0).seats [] v, [])) c.writer.view_is,
  sym (append-nil c.args.passes.items),
  λ i pass is. absurd (cc),
)

pub join_seat-requires : goal.join_seat-requires
join_seat-requires c =
    let so_far = c.loop-pass.invariant in
    let left : List PassValue = c.pop.new.self.items in
    let x : PassValue = c.in-Some.pass in
    let whole : c.args.passes.items ≡ (left ++ x ∷ []) ++ so_far.2 = so_far.5 ∙ ap (λ (l : List PassValue). l ++ so_far.2) c.in-Some.ensures.items in
    let there : slice_get c.args.passes.items (length left) ≡ Some x = subst (λ (l : List PassValue). slice_get l (length left) ≡ Some x) (sym whole) (slice_get_between left so_far.2 x) in (
      so_far.3,
      one_table (ap (λ v. v.table) c.pass.view_is) (c.requires.boards (length left) x there) c.self.view_is,
      ap (λ me. me.1) c.pass.invariant.0,
      omega (arith, c.self.invariant.1),
      takes_back _ _ _ _ _ (writer_in (writer_view so_far.0 so_far.1 c.args.writer)) (pass_in c.pass.inside.seat.table_id c.pass.inside.seat.me.0) (ap (λ me. me.0) so_far.4) (ap (λ me. me.0) c.pass.invariant.0),
    )

pub loop-pass-preserved : goal.loop-pass-preserved
loop-pass-preserved c =
    let so_far = c.loop-pass.invariant in
    let left : List PassValue = c.pop.new.self.items in
    let x : PassValue = c.in-Some.pass in
    let whole : c.args.passes.items ≡ (left ++ x ∷ []) ++ so_far.2 = so_far.5 ∙ ap (λ (l : List PassValue). l ++ so_far.2) c.in-Some.ensures.items in (
      so_far.0,
      so_far.1 ++ client_in (client_view x) ∷ [],
      x ∷ so_far.2,
      c.join_seat.ensures.0 ∙ so_far.3,
      c.join_seat.ensures.2 ∙ (λ i. (pass_returned (so_far.4 i).0 (c.pass.invariant.0 i).0, (so_far.4 i).1))
          ∙ ap (λ (v : PassValue). (writer_view so_far.0 (so_far.1 ++ client_in (client_view v) ∷ []) c.args.writer, [])) c.pass.view_is,
      whole ∙ append_assoc left (x ∷ []) so_far.2,
      one_more_returned so_far.2 so_far.1 x so_far.6,
    )

pub returns-clause-length : goal.returns-clause-length
returns-clause-length c =
    let so_far = c.loop-pass.invariant in
    let end = c.close_with-ended.ensures.values.2 in
    let says = closes _ _ so_far.0 so_far.1 _ c.args.writer end.0 (ap (λ me. me.0) so_far.4) end.1.0 end.1.1 in
    sym (first_number _ _ c.word-total.ensures) ∙ ap (λ (words : List ℕ). slice_index words 0) (sym end.2) ∙ says.0

pub returns-clause-clients : goal.returns-clause-clients
returns-clause-clients c =
    let so_far = c.loop-pass.invariant in
    let end = c.close_with-ended.ensures.values.2 in
    let says = closes _ _ so_far.0 so_far.1 _ c.args.writer end.0 (ap (λ me. me.0) so_far.4) end.1.0 end.1.1 in
    subst (λ (b : BoardValue). AreOfClients b.clients c.args.writer.log) c.self.view_is (subst (λ (n : ℕ). AreOfClients n c.args.writer.log) c.self.invariant.0 says.1)

pub returns-clause-passes : goal.returns-clause-passes
returns-clause-passes c =
    let so_far = c.loop-pass.invariant in
    let end = c.close_with-ended.ensures.values.2 in
    let says = closes _ _ so_far.0 so_far.1 _ c.args.writer end.0 (ap (λ me. me.0) so_far.4) end.1.0 end.1.1 in
    let all_back : c.loop-pass.passes.items ≡ [] = search rules in
    let whole : c.args.passes.items ≡ so_far.2 = so_far.5 ∙ ap (λ (l : List PassValue). l ++ so_far.2) all_back in
    λ i pass is. let place = so_far.6 i pass (subst (λ (l : List PassValue). slice_get l i ≡ Some pass) whole is) in says.2 place.0 pass place.1
