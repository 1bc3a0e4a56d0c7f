use Rattle.std.proofs.Common.{◌≡◌, ◌-◌, ℕ, List, arith, drop, take, length, ap, sym, ◌∙◌, length-drop}
use Rattle.std.proofs.Math.Seq.{take-add, take-length}
use Rattle.sve_io.proofs.MovesInTurn.{Gains-then}
use Rattle.sve_serve.proofs.transfer.write_text.Goals as goal

-- what `&text[i..]` reads
rest_is : (i : ℕ) (text : List ℕ) → take (length text - i) (drop i text) ≡ drop i text
rest_is i text = ap (λ n. take n (drop i text)) (sym (length-drop i text)) ∙ take-length (drop i text)

-- the front of the text that is written grows by the front of the piece
pub writing-preserved : goal.writing-preserved
writing-preserved g c =
    let i = c.writing.written in
    let n = c.in_ok-count.count in
    let text = c.args.text.now in (
      omega (arith, c.in_ok-count.ensures.size),
      rw take-add (Gains-then _ (g.K.Sink.held c.writing.sink) _ (take i text) (take n (drop i text)) c.writing.invariant.1 (rw rest_is at c.in_ok-count.ensures.moved)),
      cc (c.in_ok-count.ensures.no_fault),
    )
