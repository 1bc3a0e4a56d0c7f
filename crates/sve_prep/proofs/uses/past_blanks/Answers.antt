use Rattle.std.proofs.Common.{ℕ, List, ap, ◌∙◌, ◌+◌}
use Rattle.std.specs.List.{prefix_len}
use Rattle.std.proofs.lemmas.List.{take_rest}
use Rattle.sve_bytes.specs.Bytes.{is_white_space}
use Rattle.sve_prep.proofs.uses.past_blanks.Goals as goal

pub returns-clause-place : goal.returns-clause-place
returns-clause-place c =
    ap (λ (k : ℕ). c.args.from + k) (c.white_space_len.ensures.value ∙ ap (λ (t : List ℕ). prefix_len is_white_space t) (take_rest c.args.text.now c.args.from))
