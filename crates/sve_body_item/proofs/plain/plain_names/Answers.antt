-- The plain names that were found are those of the uses in it.
use Rattle.std.proofs.Common.{ℕ, List, ap, ◌∙◌}
use Rattle.std.specs.List.{fold}
use Rattle.sve_use.specs.LeftSides.{left_side_uses}
use Rattle.sve_body_item.specs.Plain.{after}
use Rattle.sve_body_item.proofs.PlainNames.{all_plain}
use Rattle.sve_body_item.proofs.plain.plain_names.Goals as goal

pub returns : goal.returns
returns c =
    c.names.view_is ∙ c.in_ok-names_in_left_side.ensures ∙ ap (λ (l : List ℕ). fold after l (left_side_uses c.args.side.now)) c.new.ensures.items ∙ all_plain (left_side_uses c.args.side.now)
