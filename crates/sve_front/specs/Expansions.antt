-- What an expansion over the files of one revision gives (IEEE 1800-2017, clause 22).
use Rattle.std.specs.Prelude.{ℕ, List, Some, None}
use Rattle.sve_origin.specs.Expanded.{ExpandedValue}
use Rattle.sve_prep.specs.State.{State}
use Rattle.sve_prep.specs.Told.{Told}
use Rattle.sve_prep.specs.Expansion.{Outcome, Done, Wants, expand, fresh}
use Rattle.sve_text.specs.Rows.{Row, text_of}

-- the files tell of each name its text, or that no file of it is there
abbrev pub told_by : List Row → Told
told_by rows name = Some (text_of rows name)

-- with what an expansion ends; where every name is told of, none is wanted
abbrev pub state_in : Outcome → State
state_in (Done s) = s
state_in (Wants name s) = s

abbrev pub written : State → ExpandedValue
written s = record { cells = s.out; diags = s.diags; net_types = s.net_types }

-- the expansion of the file of this name
abbrev pub expanded : List Row → List ℕ → ExpandedValue
expanded rows name = written (state_in (expand (told_by rows) fresh None name))
