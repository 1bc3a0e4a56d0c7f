-- What the program's state stands for (own).
use Rattle.std.specs.Prelude.{◌≡◌, ℕ, ◌+◌, ◌*◌, ◌≤◌, ◌<◌, ◌^◌, Bool, if◌then◌else◌, List, [], ◌∷◌, length, reverse, Option}
use Rattle.sve_unread.specs.Bytes.{Byte}
use Rattle.sve_prep.specs.State.{State, limit}
use Rattle.sve_prep.specs.Uses.{Next, Goes, Ends}
use Rattle.sve_prep.specs.declared.work.Work.{Work}

abbrev pub view : Work → Option (List (List ℕ)) → State
view w asked = record {
  rest = w.rest;
  table = w.table;
  conditions = reverse w.conditions.items;
  work = w.work;
  net_type = w.net_type;
  out = w.out;
  diags = w.diags.items;
  net_types = w.net_types.items;
  asked = asked;
}

-- the file's name and the line of a byte are short enough to be written in its place
pub record IsPlaced (b : Byte) : Type 0 where
  pub file : length b.origin.file ≤ 1024
  pub line : b.line < 2 ^ 32

abbrev pub ArePlaced : List Byte → Type 0
ArePlaced [] = Unit {0}
ArePlaced (b ∷ bs) = IsPlaced b × ArePlaced bs

-- all that is written and left was paid for
pub record Fits (s : State) : Type 0 where
  pub paid : length s.out + 600 * length s.rest ≤ 600 * s.work
  pub bounded : s.work ≤ limit
  pub placed : ArePlaced s.rest

-- the new state is f of the old one, whatever was asked
abbrev pub Becomes : Work → Work → (State → State) → Type 0
Becomes old new f = (asked : Option (List (List ℕ))) → view new asked ≡ f (view old asked)

-- what a step comes to where it needs nothing
abbrev pub flow : Bool → State → Next
flow on s = if on then Goes s else Ends s

-- f leads from the old state to the new one, and says whether it goes on
abbrev pub Leads : Bool → Work → Work → (State → Next) → Type 0
Leads on old new f = (asked : Option (List (List ℕ))) → f (view old asked) ≡ flow on (view new asked)
