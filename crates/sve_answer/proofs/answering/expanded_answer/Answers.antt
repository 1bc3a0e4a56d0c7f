use Rattle.std.proofs.Common.{ℕ, List, Some, ap, ◌∙◌}
use Rattle.sve_listing.specs.Files.{expanded_lines}
use Rattle.sve_answer.proofs.Expanding.{holds_table, expands_table}
use Rattle.sve_answer.proofs.answering.expanded_answer.Goals as goal

pub returns-clause-answered : goal.returns-clause-answered
returns-clause-answered g c = λ table follows.
    let done = c.in_ok-text.ensures.made (λ k. Some (table k 0)) (holds_table table (g.F.Fetch.tells c.args.from.now) follows) in
    c.in_ok-expanded_lines.ensures ∙ ap (λ (text : List ℕ). expanded_lines text) (c.bytes.ensures.bytes ∙ expands_table table c.args.name.now c.in_ok-text.text done)
