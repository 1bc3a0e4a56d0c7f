use Rattle.std.proofs.Common.{List, ℕ, sym, ap, ◌∙◌, ◌+◌, nat_lt, length}
use Rattle.sve_prep.specs.Uses.{Goes, Ends}
use Rattle.sve_prep.specs.View.{view}
use Rattle.sve_prep.proofs.Cases.{includes_too_much, includes}
use Rattle.sve_prep.proofs.work.Work.include_text.Goals as goal

pub returns-then-passes : goal.returns-then-passes
returns-then-passes c = λ asked.
    includes_too_much c.args.name c.args.count c.args.text.value (view c.args.self.now asked) (c.passes.ensures ∙ ap (λ (t : List ℕ). nat_lt 4194304 (c.args.self.now.work + 1 + length t)) (c.items.ensures ∙ c.deref.ensures)) c.if-passes.true
    ∙ ap Ends (sym (c.in_ok-give_up.ensures asked))

pub returns : goal.returns
returns c = λ asked.
    includes c.args.name c.args.count c.args.text.value (view c.args.self.now asked) (c.passes.ensures ∙ ap (λ (t : List ℕ). nat_lt 4194304 (c.args.self.now.work + 1 + length t)) (c.items.ensures ∙ c.deref.ensures)) c.if-passes.false
    ∙ ap Goes (sym (c.in_ok-place_text.ensures asked))
