-- Instances that are paid for and shown to a visitor, one after the other (own).
use Rattle.std.specs.Prelude.{ℕ, zero, suc, ◌-◌, Bool, true, false, nat_le, if◌then◌else◌, Option, List, [], ◌∷◌}
use Rattle.sve_told.specs.Told.{asked_on}
use Rattle.sve_facts.specs.Bodies.{Design, Question, OfBody}
use Rattle.sve_survey.specs.Seen.{Instance}
use Rattle.sve_survey.specs.Visitors.{VisitorState, having_seen}

-- what the visitor holds, what is left of the budget, and what was asked for
pub record Progress (A : Type 0) : Type 0 where
  pub visitor : VisitorState A
  pub left : ℕ
  pub asked : Option (List Question)

-- the body of an instance is asked for with all that is left but one
abbrev pub asking : {A : Type 0} → Instance → ℕ → Progress A → Progress A
asking i left p = record p { asked = asked_on (OfBody i.visit.spec left ∷ []) p.asked }

-- an instance that is paid for is shown
abbrev pub shown : {A : Type 0} → Design → Instance → ℕ → Progress A → Progress A
shown design i left p = record { visitor = having_seen i p.visitor; left = left - design.cost i.visit.spec; asked = asked_on (OfBody i.visit.spec left ∷ []) p.asked }

-- an instance is shown, and then the rest, where enough is left for it
abbrev pub show_first : {A : Type 0} → Design → Instance → ℕ → Progress A → (Progress A → Bool × Progress A) → Bool × Progress A
show_first design i zero p rest = (false, p)
show_first design i (suc left) p rest = if nat_le (design.cost i.visit.spec) left then rest (shown design i left p) else (false, asking i left p)

-- instances shown one after the other, up to the first for which not enough is left; and whether there is none such
abbrev pub show_all : {A : Type 0} → Design → List Instance → Progress A → Bool × Progress A
show_all design [] p = (true, p)
show_all design (i ∷ is) p = show_first design i p.left p (show_all design is)
