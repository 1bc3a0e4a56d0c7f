-- A pass that meets the whole log, which has no new entry of its client.
use Rattle.std.specs.Prelude.{◌≡◌, ◌≤◌, List, length}
use Rattle.std.specs.List.{Contains}
use mathlib.Core.List.{IsPrefix}
use Rattle.sve_board.specs.declared.knowledge.Entry.{Entry}
use Rattle.sve_board.specs.Log.{entries_of, largest}
use Rattle.sve_board.specs.Values.{PassValue}
use Rattle.sve_watch.specs.Looks.{looks_of}

pub record HasMet (log : List Entry) (before after : PassValue) : Type 0 where
  pub table : after.table ≡ before.table
  pub number : after.number ≡ before.number
  pub raises : after.raises ≡ before.raises
  pub mine : after.mine ≡ before.mine
  pub own : after.mine ≡ entries_of after.number log
  pub met : IsPrefix before.seen log
  pub seen : after.seen ≡ log
  pub grown : IsPrefix before.looks after.looks
  pub look : Contains (looks_of before after) (length log)
  pub not_below : largest before.looks ≤ length log
  pub not_above : largest after.looks ≤ length log
