-- What the program finds of a use before it does anything about it (own).
use Rattle.std.specs.Prelude.{◌≡◌, ℕ, ◌+◌, ◌<◌, ◌≤◌, List, length, Option, Some}
use Rattle.sve_unread.specs.Head.{head_macros}
use Rattle.sve_prep.specs.State.{State, limit, refuse}
use Rattle.sve_prep.specs.Uses.{Next, Goes, Ends, give_up, read_result}
use Rattle.sve_prep.specs.View.{view}
use Rattle.sve_prep.specs.declared.work.Work.{Work}
use Rattle.sve_prep.specs.declared.uses.Use.{Use}
use Rattle.sve_prep.specs.declared.uses.Use.TheVariants.{Refused, Gives, PassesLimit}

abbrev pub use_length : Use → ℕ
use_length (Refused code n) = n
use_length (Gives text n) = n
use_length PassesLimit = 0

-- what is to be done
abbrev pub next_of : Use → List ℕ → State → Next
next_of (Refused code n) name s = Goes (refuse code (Some name) n s)
next_of (Gives text n) name s = read_result name n text s
next_of PassesLimit name s = Ends (give_up s)

-- where a text is given, a use may stand there, and the text may be read
abbrev pub MayGive : Use → Work → Type 0
MayGive (Refused code n) w = Unit {0}
MayGive (Gives text n) w = (length (head_macros w.rest) < 64) × (w.work + 1 + length text ≤ limit)
MayGive PassesLimit w = Unit {0}

-- it is what f says of the state
pub record Comes (w : Work) (name : List ℕ) (u : Use) (f : State → Next) : Type 0 where
  pub next : (asked : Option (List (List ℕ))) → f (view w asked) ≡ next_of u name (view w asked)
  pub may : MayGive u w
