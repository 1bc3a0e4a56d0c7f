use Rattle.std.proofs.Common.{◌≡◌, ◌≤◌, ◌++◌, ◌∷◌, [], length, arith, ap, sym, ◌∙◌, append_assoc}
use Rattle.std.proofs.lemmas.List.{append-nil}
use Rattle.sve_report.specs.Cutting.{with_bars}
use Rattle.sve_report.proofs.Cuts.{line_feeds-few, run-in_text, run-written, run-counted, end-drop, barred-text}
use Rattle.sve_report.proofs.cutting.add_cut.Goals as goal

pub overflow_add-count : goal.overflow_add-count
overflow_add-count c =
    let run = c.run-run.result.now in
    let inside = run-in_text c.args.piece.now run c.runs.at c.runs.invariant.in_piece c.run-run.ensures.run in
    omega (arith, c.runs.invariant.few, c.in_ok-count.ensures.count, line_feeds-few run, inside, c.len.ensures)

pub runs-preserved : goal.runs-preserved
runs-preserved c =
    let now = c.runs.invariant in
    let piece = c.args.piece.now in
    let run = c.run-run.result.now in
    record {
      in_piece = run-in_text piece run c.runs.at now.in_piece c.run-run.ensures.run;
      written = run-written piece run c.runs.text.items c.add_run.new.text.items c.runs.at c.run-run.ensures.run c.in_ok-count.ensures.text ∙ now.written;
      counted = omega (arith, c.in_ok-count.ensures.count, run-counted piece run c.runs.at c.run-run.ensures.run, now.counted);
      few = omega (arith, now.few, c.in_ok-count.ensures.count, line_feeds-few run);
    }

pub returns-clause-text : goal.returns-clause-text
returns-clause-text c =
    let piece = c.args.piece.now in
    let old = c.args.text.now.items in
    let past : length piece ≤ c.runs.at = omega (arith, c.len.ensures, c.runs-test.false) in
    let whole : c.runs.text.items ≡ c.push.new.self.items ++ with_bars piece =
    sym (append-nil c.runs.text.items) ∙ ap (λ t. c.runs.text.items ++ with_bars t) (sym (end-drop piece c.runs.at past c.runs.invariant.in_piece)) ∙ c.runs.invariant.written in
    c.in_ok-push-2.ensures.items
    ∙ ap (λ t. t ++ 10 ∷ []) (whole ∙ ap (λ t. t ++ with_bars piece) c.in_ok-push.ensures.items)
    ∙ ap (λ t. t ++ 10 ∷ []) (append_assoc old (124 ∷ []) (with_bars piece))
    ∙ append_assoc old (124 ∷ with_bars piece) (10 ∷ [])
    ∙ ap (λ t. old ++ t) (sym (barred-text piece))
