-- A pass before a call of a session and after it (own).
use Rattle.std.specs.Prelude.{ℕ, ◌≡◌, ◌<◌, length, All}
use mathlib.Core.List.{IsPrefix}
use Rattle.sve_board.specs.Values.{PassValue, TableId}

-- The call leaves the pass its board and its number. What the pass has seen, and what it has looked up, are still there, and maybe more.
pub record IsLater (before after : PassValue) : Type 0 where
  pub table : after.table ≡ before.table
  pub number : after.number ≡ before.number
  pub seen : IsPrefix before.seen after.seen
  pub looks : IsPrefix before.looks after.looks

-- the pass is of this board, and has announced as many commits as it has entries
pub record IsReady (table : TableId) (pass : PassValue) : Type 0 where
  pub board : pass.table ≡ table
  pub even : pass.raises ≡ length pass.mine

-- the call leaves the pass ready for the next, with the entries of its client that it had
pub record HasGoneOn (table : TableId) (before after : PassValue) : Type 0 where
  pub later : IsLater before after
  pub ready : IsReady table after
  pub mine : after.mine ≡ before.mine

-- the commands of the pass's client that it has seen in the log have lower numbers
abbrev pub IsNext : PassValue → ℕ → Type 0
IsNext pass command = All (λ entry. entry.command < command) pass.mine
