-- Passes that go on.
use Rattle.std.proofs.Common.{List, length, ap, sym, ◌∙◌, subst}
use mathlib.Core.List.{IsPrefix}
use Rattle.sve_board.specs.declared.knowledge.Entry.{Entry}
use Rattle.sve_board.specs.Values.{PassValue, TableId}
use Rattle.sve_board.proofs.Prefixes.{prefix_refl, prefix_trans}
use Rattle.sve_watch.specs.Looks.{HasLooked}
use Rattle.sve_session.specs.Passes.{IsLater, IsReady}

pub looked_later : (before after : PassValue) → HasLooked before after → IsLater before after
looked_later before after looked = record { table = looked.table; number = looked.number; seen = subst (IsPrefix before.seen) (sym looked.seen) (prefix_refl before.seen); looks = looked.looks }

pub later_on : (before now after : PassValue) → IsLater before now → IsLater now after → IsLater before after
later_on before now after first second = record {
  table = second.table ∙ first.table;
  number = second.number ∙ first.number;
  seen = prefix_trans before.seen now.seen after.seen first.seen second.seen;
  looks = prefix_trans before.looks now.looks after.looks first.looks second.looks;
}

pub looked_ready : (board : TableId) (before after : PassValue) → IsReady board before → HasLooked before after → IsReady board after
looked_ready board before after ready looked = record { board = looked.table ∙ ready.board; even = looked.raises ∙ ready.even ∙ ap (λ (l : List Entry). length l) (sym looked.mine) }

-- what a pass went through that began, looked and went on
pub asked_later : (before begun looked : PassValue) → IsLater before begun → HasLooked begun looked → IsLater before looked
asked_later before begun looked first second = later_on before begun looked first (looked_later begun looked second)

pub ask_later : (before begun looked after : PassValue) → IsLater before begun → HasLooked begun looked → IsLater looked after → IsLater before after
ask_later before begun looked after first second third = later_on before looked after (asked_later before begun looked first second) third
