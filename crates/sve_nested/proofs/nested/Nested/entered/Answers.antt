-- The name that was made is that of the block.
use Rattle.std.proofs.Common.{◌≡◌, ℕ, List, IfOk, subst}
use Rattle.sve_nested.specs.Blocks.{entered_by}
use Rattle.sve_nested.proofs.nested.Nested.entered.Goals as goal

pub returns : goal.returns
returns c = subst (λ (n : List ℕ). IfOk c.entered_by.result (λ s. s ≡ entered_by c.args.words.now c.args.self n c.args.turn c.args.ahead)) c.in_ok-name.ensures c.entered_by.ensures
