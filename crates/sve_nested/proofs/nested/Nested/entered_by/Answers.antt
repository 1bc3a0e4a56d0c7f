-- The path that was made is that of the block.
use Rattle.std.proofs.Common.{◌≡◌, ℕ, List, IfOk, subst}
use Rattle.sve_bytes.specs.declared.path.Path.{Path}
use Rattle.sve_nested.specs.Blocks.{entered_as, inner_path, path_to}
use Rattle.sve_nested.proofs.nested.Nested.entered_by.Goals as goal

pub returns : goal.returns
returns c =
    let by_path = subst (λ (p : Path). IfOk c.entered_as.result (λ s. s ≡ entered_as c.args.words.now c.args.self c.args.name p c.args.turn c.args.ahead)) c.in_ok-path.ensures c.entered_as.ensures in
    subst (λ (n : List ℕ). IfOk c.entered_as.result (λ s. s ≡ entered_as c.args.words.now c.args.self c.args.name (path_to (inner_path c.args.self) n c.args.turn) c.args.turn c.args.ahead)) c.in_ok-copy.ensures by_path
