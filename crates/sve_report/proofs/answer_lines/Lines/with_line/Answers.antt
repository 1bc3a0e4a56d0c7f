use Rattle.std.proofs.Common.{◌++◌, ◌∷◌, [], length, arith, ap, ◌∙◌, length-append}
use Rattle.sve_report.specs.Lines.{lines_in}
use Rattle.sve_report.proofs.LineTexts.{line-added, lines_in-few}
use Rattle.sve_report.proofs.answer_lines.Lines.with_line.Goals as goal

pub overflow_add-result : goal.overflow_add-result
overflow_add-result c =
    let old = c.self.inside.text in
    omega (arith, c.self.invariant.1, lines_in-few old.items c.self.invariant.0, old.ok.0, old.ok.1, old.small)

pub invariant_of-result : goal.invariant_of-result
invariant_of-result c =
    let old = c.self.inside.text.items in
    let added = line-added old c.extend_from_slice.new.self.items c.push.new.self.items c.args.line.now c.self.invariant.0 c.requires.one_line c.in_ok-extend_from_slice.ensures.items c.in_ok-push.ensures.items in
    (added.whole, omega (arith, c.self.invariant.1, ap length added.lines, length-append (lines_in old) (c.args.line.now ∷ [])))

pub returns : goal.returns
returns c =
    let old = c.self.inside.text.items in
    let added = line-added old c.extend_from_slice.new.self.items c.push.new.self.items c.args.line.now c.self.invariant.0 c.requires.one_line c.in_ok-extend_from_slice.ensures.items c.in_ok-push.ensures.items in
    added.lines ∙ ap (λ l. l ++ c.args.line.now ∷ []) c.self.view_is
