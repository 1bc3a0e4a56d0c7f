-- Where an object with bodies halts in a call that asks it several questions (own).
use Rattle.std.specs.Prelude.{◌≡◌, ◌⊎◌, Option, Some, List}
use Rattle.std.specs.List.{Contains}
use Rattle.sve_told.specs.Told.{Tells}
use Rattle.sve_facts.specs.Bodies.{Answer, Question}

-- Where the object halted at a question, it had before the call, or the question is one of these, and nothing is told of it.
abbrev pub HaltedAmong : Tells Answer → List Question → Option Question → Option Question → Type 0
HaltedAmong tells questions old new = (other : Question) → new ≡ Some other → (old ≡ Some other) ⊎ (Contains questions other × ((answer : Answer other) → tells other answer → ⊥))
