-- What contracts see of a board, of passes, of the writer's seat and of notes (own).
use Rattle.std.specs.Prelude.{◌≡◌, ℕ, ◌≤◌, List, [], length, map}
use Rattle.std.specs.List.{range_with_len}
use mathlib.Core.List.{IsPrefix}
pub use Rattle.atomic_table.specs.Seated.{TableId}
use Rattle.sve_board.specs.declared.knowledge.Entry.{Entry}
use Rattle.sve_board.specs.Log.{entries_of, largest}

pub record BoardValue : Type 0 where
  -- which board it is
  pub table : TableId
  -- how many clients it has
  pub clients : ℕ

pub record PassValue : Type 0 where
  -- the board that it is of
  pub table : TableId
  -- its client, from 1
  pub number : ℕ
  -- the prefix of the log that it has seen
  pub seen : List Entry
  -- its own entries there
  pub mine : List Entry
  -- the lengths that it was told of
  pub looks : List ℕ
  -- how many commits it has announced
  pub raises : ℕ

pub record WriterValue : Type 0 where
  pub table : TableId
  -- the whole log
  pub log : List Entry
  -- at each client's number what was read in its word
  pub known : List ℕ

pub record NoteValue : Type 0 where
  pub table : TableId
  -- the log as it was
  pub seen : List Entry

-- the pass of a client that has seen nothing
abbrev pub new_pass : TableId → ℕ → PassValue
new_pass table number = record { table = table; number = number; seen = []; mine = []; looks = []; raises = 0 }

-- one pass for each client, from the first on
abbrev pub new_passes : TableId → ℕ → List PassValue
new_passes table clients = map (new_pass table) (range_with_len 1 clients)

-- a pass beside the whole log, once that has ended
pub record FitsLog (log : List Entry) (pass : PassValue) : Type 0 where
  pub seen : IsPrefix pass.seen log
  pub mine : pass.mine ≡ entries_of pass.number pass.seen
  pub looks : largest pass.looks ≤ length log
  pub raises : length (entries_of pass.number log) ≤ pass.raises
