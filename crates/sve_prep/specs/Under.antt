-- What holds while an expansion is under way (own).
use Rattle.std.specs.Prelude.{◌≡◌, ℕ, Bool, true, List, Option, if◌then◌else◌}
use Rattle.sve_prep.specs.Told.{Told, Tells, Holds, TellSame}
use Rattle.sve_prep.specs.State.{State}
use Rattle.sve_prep.specs.Expansion.{Outcome, Done, go}
use Rattle.sve_prep.specs.View.{Fits}

-- what the rest gives is what the whole gives, over whatever holds what the object tells
pub record IsUnderWay (on : Bool) (tells0 tells : Tells) (whole : Told → Outcome) (s : State) (halted0 halted : Option (List ℕ)) (stops0 stops : List ℕ) : Type 0 where
  pub same : TellSame tells0 tells
  pub rest : (told : Told) → Holds told tells0 → whole told ≡ (if on then go told s else Done s)
  pub fits : on ≡ true → Fits s
  pub not_halted : halted ≡ halted0
  pub not_stopped : stops ≡ stops0
