use Rattle.std.proofs.Common.{◌≡◌, ◌+◌, ◌∷◌, ◌++◌, [], ℕ, List, replicate, sym, ◌∙◌, ap, subst, arith}
use Rattle.std.proofs.lemmas.List.FromFn.{map-range_with_len_more}
use Rattle.sve_board.specs.Values.{TableId, new_pass}
use Rattle.sve_board.specs.Knowledge.{opening_view, pass_in}
use Rattle.sve_board.specs.Steps.{pass_left, pass_made}
use Rattle.sve_board.specs.Rule.{IsBoard}
use Rattle.sve_board.proofs.EachStep.{opens, deals}
use Rattle.sve_board.proofs.board.Board.open.Goals as goal

pub of_words-requires : goal.of_words-requires
of_words-requires c =
    let clients : ℕ = c.from-count.result in
    let zeros : c.as_slice.result.now ≡ replicate (clients + 1) 0 =
    c.as_slice.ensures.value ∙ c.in_ok-zeros.ensures.items_if_clones_equal (λ y e. e) ∙ ap (λ (n : ℕ). replicate (n + 1) 0) (sym c.from-count.ensures) in
    subst (λ (words : List ℕ). IsBoard clients words (opening_view clients 1 ∷ [])) (sym zeros) (opens {S = Unit {0}} clients [])

pub split_seat-seat-requires : goal.split_seat-seat-requires
split_seat-seat-requires c =
    let so_far = c.loop-dealt.invariant in
    let made = c.in_ok-table.ensures in (
      so_far.0,
      omega (arith, made.0, c.as_slice.ensures.len, c.in_ok-zeros.ensures.len),
      deals _ _ _ _ _ (ap (λ me. me.0) so_far.1) (omega (arith, made.5, c.from-count.ensures, c.loop-dealt-test.true)),
    )

pub loop-dealt-preserved : goal.loop-dealt-preserved
loop-dealt-preserved c =
    let so_far = c.loop-dealt.invariant in
    let split = c.split_seat-seat.ensures in
    let table : TableId = c.in_ok-table.table.shared.table_id in
    let n : ℕ = c.loop-dealt.dealt in
    let dealt : pass_in c.split_seat-seat.result.table_id c.split_seat-seat.result.me.0 ≡ new_pass table (n + 1) =
    (λ i. pass_in ((split.3 ∙ so_far.0) i) ((split.4 ∙ ap (λ me. (pass_made me.0, [])) so_far.1) i).0) in (
      split.0 ∙ so_far.0,
      split.2 ∙ ap (λ me. (pass_left me.0, me.1)) so_far.1,
      c.in_ok-push.ensures.items ∙ (λ i. so_far.2 i ++ dealt i ∷ []) ∙ sym (map-range_with_len_more (new_pass table) 1 n (n + 1) (omega arith)),
    )
