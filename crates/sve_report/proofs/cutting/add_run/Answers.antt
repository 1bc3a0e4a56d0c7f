use Rattle.std.proofs.Common.{◌++◌, arith, ap, sym, ◌∙◌}
use Rattle.sve_report.proofs.Cuts.{cut_off, uncut, rest_is}
use Rattle.sve_report.proofs.cutting.add_run.Goals as goal

pub lines-preserved : goal.lines-preserved
lines-preserved c =
    let now = c.lines.invariant in
    let cut = cut_off c.args.run.now c.lines.text.items c.extend_from_slice.new.self.items c.push.new.self.items c.lines.at c.in-Some.length c.in-Some.ensures c.in_ok-extend_from_slice.ensures.items c.in_ok-push.ensures.items in
    record {
      in_run = cut.inside;
      few = omega (arith, now.few);
      written = cut.written ∙ now.written;
      counted = omega (arith, cut.counted, now.counted);
    }

pub returns-clause-text : goal.returns-clause-text
returns-clause-text c =
    let run = c.args.run.now in
    let left = uncut run c.lines.at c.in_default.ensures in
    c.in_ok-extend_from_slice-2.ensures.items
    ∙ ap (λ t. c.lines.text.items ++ t) (rest_is c.lines.at run ∙ sym left.written)
    ∙ c.lines.invariant.written

pub returns-clause-count : goal.returns-clause-count
returns-clause-count c =
    let left = uncut c.args.run.now c.lines.at c.in_default.ensures in
    omega (arith, left.counted, c.lines.invariant.counted)
