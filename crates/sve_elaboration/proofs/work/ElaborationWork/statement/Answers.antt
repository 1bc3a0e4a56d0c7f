use Rattle.std.proofs.Common.{ℕ, ap, subst, ◌∙◌}
use Rattle.std.specs.List.{fold}
use Rattle.sve_fault.specs.Counts.{Spends}
use Rattle.sve_contents.specs.declared.contents.Contents.{Contents}
use Rattle.sve_statement_use.specs.Statements.{statement_steps}
use Rattle.sve_scoped.specs.Known.{told_in}
use Rattle.sve_local.specs.Steps.{stepped_in}
use Rattle.sve_count.specs.Statements.{statement_nodes}
use Rattle.sve_elaboration.specs.State.{Found}
use Rattle.sve_elaboration.specs.Scopes.{contents_of, packages_of, with_contents, words_of}
use Rattle.sve_elaboration.proofs.Folds.{nodes_alike, stepped_behind}
use Rattle.sve_elaboration.proofs.work.ElaborationWork.statement.Goals as goal

pub returns : goal.returns
returns c =
    let steps = statement_steps c.args.stmt.now in
    let taken = c.in_ok-contents.contents in
    let left = c.in_ok-self-inside.field-0 in
    let there = c.in_ok-contents.ensures ∙ ap contents_of c.self.view_is in
    let cost = ap (λ (s : Found). statement_nodes (told_in (packages_of s) (words_of s) taken) c.args.stmt.now) c.self.view_is
    ∙ ap (λ (d : Contents). statement_nodes (told_in (packages_of c.args.self.now) (words_of c.args.self.now) d) c.args.stmt.now) there
    ∙ nodes_alike c.args.self.now steps in (
      subst (λ (n : ℕ). Spends c.args.fuel.now c.statement_in.new.fuel n) cost c.in_ok-self-inside.ensures.0,
      ap (λ (s : Found). with_contents s left) c.self.view_is
          ∙ stepped_behind c.args.self.now steps taken left there
          (c.in_ok-self-inside.ensures.1 ∙ ap (λ (s : Found). fold (stepped_in (packages_of s) (words_of s)) taken steps) c.self.view_is),
    )
