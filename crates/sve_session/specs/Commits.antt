-- What a commit of a session is told, and what its pass knows then (own).
use Rattle.std.specs.Prelude.{ℕ, ◌≡◌, ◌<◌, ◌≤◌, List, [], ◌∷◌, ◌++◌, length, Some, None}
use Rattle.std.specs.List.{Contains}
use Rattle.sve_board.specs.declared.knowledge.Entry.{Entry as LogEntry}
use Rattle.sve_board.specs.Log.{largest}
use Rattle.sve_board.specs.Values.{PassValue}
use Rattle.sve_text.specs.declared.why.Why.{Why}
use Rattle.sve_text.specs.Files.{FilesValue}
use Rattle.sve_text.specs.Refusals.{refusal_of}
use Rattle.sve_history.specs.Histories.{Table, newest_files}
use Rattle.sve_core.specs.declared.commit.Commit.{Commit}
use Rattle.sve_core.specs.declared.commit.Commit.TheVariants.{Accepted, Refused, Full}
use Rattle.sve_watch.specs.Looks.{looks_of}
use Rattle.sve_session.specs.Shared.{history_of}

-- the commit of a client's command, as an entry of the log
abbrev pub entry : ℕ → ℕ → LogEntry
entry client command = record { client = client; command = command }

module _ (opening : FilesValue) (table : Table) (most command : ℕ) (before after : PassValue) where
  -- The commit is entry r, the last that the pass has seen, and a look of the call above all earlier ones. The files before it do not refuse its edits,
  -- and there was room for it. Of the client's own entries it alone is new.
  pub record IsAccepted (r : ℕ) : Type 0 where
    pub look : Contains (looks_of before after) r
    pub above : largest before.looks < r
    pub reached : length after.seen ≡ r
    pub earlier : List LogEntry
    pub last : after.seen ≡ earlier ++ entry before.number command ∷ []
    pub room : length earlier < most
    pub met : refusal_of (newest_files (history_of opening table earlier)) (table before.number command) ≡ None
    pub mine : after.mine ≡ before.mine ++ entry before.number command ∷ []

  -- The files of revision r, a look of the call that is not below an earlier one, refuse the edits for this reason. There was room, and no entry of the
  -- client's own is new.
  pub record IsRefused (r edit : ℕ) (why : Why) : Type 0 where
    pub look : Contains (looks_of before after) r
    pub not_below : largest before.looks ≤ r
    pub reached : length after.seen ≡ r
    pub room : r < most
    pub refusal : refusal_of (newest_files (history_of opening table after.seen)) (table before.number command) ≡ Some (record { edit = edit; why = why })
    pub mine : after.mine ≡ before.mine

  -- the history, all of which the pass has seen, has as many entries as it may have
  pub record IsFull : Type 0 where
    pub reached : length after.seen ≡ most
    pub mine : after.mine ≡ before.mine

  abbrev pub IsTold : Commit → Type 0
  IsTold (Accepted r) = IsAccepted r
  IsTold (Refused r edit why) = IsRefused r edit why
  IsTold Full = IsFull
