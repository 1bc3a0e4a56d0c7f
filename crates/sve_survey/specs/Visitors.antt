-- What visitors hold that are shown the instances of a design (own).
use Rattle.std.specs.Prelude.{ℕ, nat_le, if◌then◌else◌, Option, Some, None, List, ◌++◌}
use Rattle.std.specs.List.{flat_map}
use Rattle.sve_facts.specs.Bodies.{Design}
use Rattle.sve_design.specs.Walk.{cost_of_all, instances}
use Rattle.sve_survey.specs.Seen.{Instance, seen}

-- a visitor: its meaning, which is what one instance gives, and what it holds
pub record VisitorState (A : Type 0) : Type 0 where
  pub meaning : Instance → List A
  pub held : List A

-- a visitor that holds these too, behind what it held; its meaning is the same
abbrev pub holding_more : {A : Type 0} → List A → VisitorState A → VisitorState A
holding_more more visitor = record visitor { held = visitor.held ++ more }

-- a visitor once it was shown an instance
abbrev pub having_seen : {A : Type 0} → Instance → VisitorState A → VisitorState A
having_seen instance visitor = holding_more (visitor.meaning instance) visitor

-- a visitor once it was shown these instances, one after the other
abbrev pub having_seen_all : {A : Type 0} → List Instance → VisitorState A → VisitorState A
having_seen_all instances visitor = holding_more (flat_map visitor.meaning instances) visitor

-- what all instances of a design give, where a budget is enough for them
abbrev pub given_by_all : {A : Type 0} → (Instance → List A) → Design → ℕ → Option (List A)
given_by_all meaning design budget = if nat_le (cost_of_all design (instances design)) budget then Some (flat_map meaning (seen design)) else None
