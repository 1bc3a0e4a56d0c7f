-- Grouping from the left (IEEE 1800-2017, 11.3.2): a chain of operators of one level applies each of them to all that stands
-- before it.
use Rattle.std.specs.Prelude.{List, [], ◌∷◌}

-- what a chain gives, where its first operand gives b, and an operation behind what gives b gives step b x
abbrev pub grouped : {A B : Type 0} → (B → A → B) → B → List A → B
grouped step b [] = b
grouped step b (x ∷ xs) = grouped step (step b x) xs
