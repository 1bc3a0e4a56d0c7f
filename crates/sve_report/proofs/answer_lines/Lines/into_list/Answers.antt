use Rattle.std.proofs.Common.{◌≡◌, ◌++◌, ◌∷◌, ◌-◌, ◌+◌, List, ℕ, [], length, take, drop, Some, None, subst, ap, sym, ◌∙◌, arith}
use Rattle.std.proofs.lemmas.List.{append-nil}
use Rattle.memchr.specs.Find.{IsFirstByte, is_byte}
use Rattle.sve_report.proofs.LineParts.{line_off, all_off}
use Rattle.sve_report.proofs.answer_lines.Lines.into_list.Goals as goal

pub lines-preserved : goal.lines-preserved
lines-preserved c =
    let now = c.lines.invariant in
    let off = line_off c.self.inside.text.items c.lines.lines.items c.push.new.self.items c.lines.at c.in-Some.length now.whole (subst (λ (t : List ℕ). IsFirstByte (is_byte 10) (take (length t - c.lines.at) (drop c.lines.at t)) (Some c.in-Some.length)) c.deref.ensures.value c.in-Some.ensures)
    (c.in_ok-push.ensures.items ∙ ap (λ (l : List ℕ). c.lines.lines.items ++ (l ∷ [])) (c.of.ensures ∙ c.in_ok-from_slice.ensures.items ∙ ap (λ (t : List ℕ). take (c.lines.at + c.in-Some.length - c.lines.at) (drop c.lines.at t)) c.deref-in-Some.ensures.value)) in
    record { in_text = off.inside; same = off.same ∙ now.same; whole = off.whole }

pub returns : goal.returns
returns c =
    let now = c.lines.invariant in
    let none = all_off c.self.inside.text.items c.lines.lines.items c.lines.at now.whole (subst (λ (t : List ℕ). IsFirstByte (is_byte 10) (take (length t - c.lines.at) (drop c.lines.at t)) None) c.deref.ensures.value c.in_default.ensures) in
    c.of-2.ensures ∙ sym (append-nil c.lines.lines.items) ∙ ap (λ (l : List (List ℕ)). c.lines.lines.items ++ l) (sym none) ∙ now.same ∙ c.self.view_is
