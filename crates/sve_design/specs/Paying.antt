-- Instances that are paid for one after the other (own).
use Rattle.std.specs.Prelude.{ℕ, zero, suc, ◌-◌, Bool, true, false, nat_le, if◌then◌else◌, Option, List, [], ◌∷◌, ◌++◌}
use Rattle.sve_told.specs.Told.{asked_on}
use Rattle.sve_facts.specs.Bodies.{Design, Question, OfBody, OfTops}
use Rattle.sve_design.specs.declared.visits.Visit.{Visit}
use Rattle.sve_design.specs.Walk.{instances}

-- the bodies that are asked for: that of each instance which something is left for, up to the first that costs more than that
abbrev pub bodies_asked : Design → ℕ → List Visit → List Question
bodies_asked design left [] = []
bodies_asked design zero (v ∷ vs) = []
bodies_asked design (suc left) (v ∷ vs) =
    OfBody v.spec left ∷ (if nat_le (design.cost v.spec) left then bodies_asked design (left - design.cost v.spec) vs else [])

-- all that a walk asks for
abbrev pub walk_asks : Design → ℕ → List Question
walk_asks design budget = OfTops ∷ bodies_asked design budget (instances design)

-- what was visited, what is left of the budget, and what was asked for
pub record Account : Type 0 where
  pub visits : List Visit
  pub left : ℕ
  pub asked : Option (List Question)

-- the body of an instance is asked for with all that is left but one
abbrev pub asking : Visit → ℕ → Account → Account
asking v left a = record a { asked = asked_on (OfBody v.spec left ∷ []) a.asked }

abbrev pub paid : Design → Visit → ℕ → Account → Account
paid design v left a = record { visits = a.visits ++ v ∷ []; left = left - design.cost v.spec; asked = asked_on (OfBody v.spec left ∷ []) a.asked }

-- an instance is paid for, and then the rest, where enough is left for it
abbrev pub pay_first : Design → Visit → ℕ → Account → (Account → Bool × Account) → Bool × Account
pay_first design v zero a rest = (false, a)
pay_first design v (suc left) a rest = if nat_le (design.cost v.spec) left then rest (paid design v left a) else (false, asking v left a)

-- instances paid for one after the other, up to the first for which not enough is left; and whether there is none such
abbrev pub pay_all : Design → List Visit → Account → Bool × Account
pay_all design [] a = (true, a)
pay_all design (v ∷ vs) a = pay_first design v a.left a (pay_all design vs)
