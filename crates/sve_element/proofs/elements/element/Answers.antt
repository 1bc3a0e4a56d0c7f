use Rattle.std.proofs.Common.{◌<◌, ◌≤◌, length, arith}
use Rattle.std.proofs.lemmas.Result.{err_from_is_err_and}
use Rattle.sve_grammar.specs.Items.{chunk}
use Rattle.sve_grammar.proofs.Spelled.{spelled}
use Rattle.sve_element.proofs.Chunks.{fails_at_items, fails_at_design, tokens_left, reads_all, decided}
use Rattle.sve_element.proofs.elements.element.Goals as goal

pub returns-in_err-items-clause-stop : goal.returns-in_err-items-clause-stop
returns-in_err-items-clause-stop c =
    let p = err_from_is_err_and c.from_residual.result c.from_residual.ensures.1 in
    rw (p.1, p.2) (fails_at_items c.args.tokens.now c.in_err-items.field-0.0 c.in_err-items.ensures.tree)

pub returns-in_err-design-clause-stop : goal.returns-in_err-design-clause-stop
returns-in_err-design-clause-stop c =
    let p = err_from_is_err_and c.from_residual-in_err-design.result c.from_residual-in_err-design.ensures.1 in
    rw (p.1, p.2) (fails_at_design c.args.tokens.now _ _ c.in_ok-items.ensures.tree c.in_err-design.field-0.0 c.in_err-design.ensures.tree)

pub returns-then-end-tokens-clause-stop : goal.returns-then-end-tokens-clause-stop
returns-then-end-tokens-clause-stop c =
    let less : c.in_ok-design.end < length c.args.tokens.now = omega arith in
    tokens_left c.args.tokens.now _ c.in_ok-items.at c.in_ok-items.ensures.tree _ c.in_ok-design.end c.in_ok-design.ensures.tree less

pub returns-clause-tree : goal.returns-clause-tree
returns-clause-tree c =
    let all : length c.args.tokens.now ≤ c.in_ok-design.end = omega arith in
    reads_all c.args.tokens.now _ c.in_ok-items.at c.in_ok-items.ensures.tree _ c.in_ok-design.end c.in_ok-design.ensures.tree all c.in_ok-design.ensures.end.1

pub returns-clause-order : goal.returns-clause-order
returns-clause-order c =
    let all : length c.args.tokens.now ≤ c.in_ok-design.end = omega arith in
    spelled c.args.tokens.now 0 chunk 0 _ (length c.args.tokens.now) (reads_all c.args.tokens.now _ c.in_ok-items.at c.in_ok-items.ensures.tree _ c.in_ok-design.end c.in_ok-design.ensures.tree all c.in_ok-design.ensures.end.1)

pub returns-clause-decided : goal.returns-clause-decided
returns-clause-decided c =
    let all : length c.args.tokens.now ≤ c.in_ok-design.end = omega arith in
    λ others same. decided c.args.tokens.now others _ (reads_all c.args.tokens.now _ c.in_ok-items.at c.in_ok-items.ensures.tree _ c.in_ok-design.end c.in_ok-design.ensures.tree all c.in_ok-design.ensures.end.1) same
