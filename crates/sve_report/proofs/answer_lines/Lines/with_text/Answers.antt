use Rattle.std.proofs.Common.{◌++◌, length, arith, ap, ◌∙◌, length-append}
use Rattle.sve_report.specs.Lines.{lines_in, barred}
use Rattle.sve_report.proofs.LineTexts.{lines-added, lines_in-few}
use Rattle.sve_report.proofs.Cuts.{barred-are_lines, barred-length}
use Rattle.sve_report.proofs.answer_lines.Lines.with_text.Goals as goal

pub overflow_add-result : goal.overflow_add-result
overflow_add-result c =
    let old = c.self.inside.text.items in
    let new = c.add_cut.new.text in
    let added = lines-added old new.items (barred c.args.piece.now) c.self.invariant.0 (barred-are_lines c.args.piece.now) c.in_ok-line_feeds.ensures.text in
    omega (arith, c.self.invariant.1, c.in_ok-line_feeds.ensures.count, ap length added.lines, length-append (lines_in old) (barred c.args.piece.now), barred-length c.args.piece.now, lines_in-few new.items added.whole, new.ok.0, new.ok.1, new.small)

pub overflow_add-result-2 : goal.overflow_add-result-2
overflow_add-result-2 c =
    let old = c.self.inside.text.items in
    let new = c.add_cut.new.text in
    let added = lines-added old new.items (barred c.args.piece.now) c.self.invariant.0 (barred-are_lines c.args.piece.now) c.in_ok-line_feeds.ensures.text in
    omega (arith, c.self.invariant.1, c.in_ok-line_feeds.ensures.count, ap length added.lines, length-append (lines_in old) (barred c.args.piece.now), barred-length c.args.piece.now, lines_in-few new.items added.whole, new.ok.0, new.ok.1, new.small)

pub invariant_of-result : goal.invariant_of-result
invariant_of-result c =
    let old = c.self.inside.text.items in
    let added = lines-added old c.add_cut.new.text.items (barred c.args.piece.now) c.self.invariant.0 (barred-are_lines c.args.piece.now) c.in_ok-line_feeds.ensures.text in
    (added.whole, omega (arith, c.self.invariant.1, c.in_ok-line_feeds.ensures.count, ap length added.lines, length-append (lines_in old) (barred c.args.piece.now), barred-length c.args.piece.now))

pub returns : goal.returns
returns c =
    let old = c.self.inside.text.items in
    let added = lines-added old c.add_cut.new.text.items (barred c.args.piece.now) c.self.invariant.0 (barred-are_lines c.args.piece.now) c.in_ok-line_feeds.ensures.text in
    added.lines ∙ ap (λ l. l ++ barred c.args.piece.now) c.self.view_is
