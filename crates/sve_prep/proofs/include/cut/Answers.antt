use Rattle.std.proofs.Common.{ℕ, List, Some, ap, ◌∙◌, take}
use Rattle.sve_prep.proofs.Written.{cut_some, some_bytes, take_least}
use Rattle.sve_prep.proofs.include.cut.Goals as goal

pub returns : goal.returns
returns c =
    ap (λ (x : List ℕ). Some x) (c.in_ok-name_of.ensures ∙ ap (λ k. take k c.args.bytes.now) c.min.ensures ∙ take_least c.args.bytes.now)
    ∙ cut_some c.args.bytes.now (some_bytes _ c.is_empty.ensures c.if-is_empty.false)
