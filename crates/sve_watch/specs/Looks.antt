-- What a pass looks up in a call (own).
use Rattle.std.specs.Prelude.{ℕ, ◌≡◌, ◌<◌, ◌≤◌, List, length, drop, nat_lt, All, Contains, refl}
use Rattle.std.specs.List.{filter}
use Rattle.std.proofs.Common.{◌∙◌}
use mathlib.Core.List.{IsPrefix}
use Rattle.sve_io.specs.declared.halt.Halt.{Halt}
use Rattle.sve_io.specs.declared.halt.Halt.TheVariants.{Stopped, NoMemory}
use Rattle.sve_board.specs.Values.{PassValue}
use Rattle.sve_board.proofs.Prefixes.{prefix_refl, prefix_trans}

-- the looks of a call: those by which the looks of its pass grew
abbrev pub looks_of : PassValue → PassValue → List ℕ
looks_of before after = drop (length before.looks) after.looks

-- a pass before a call that does nothing with it but look, and after it
pub record HasLooked (before after : PassValue) : Type 0 where
  pub table : after.table ≡ before.table
  pub number : after.number ≡ before.number
  pub seen : after.seen ≡ before.seen
  pub mine : after.mine ≡ before.mine
  pub raises : after.raises ≡ before.raises
  pub looks : IsPrefix before.looks after.looks

-- the looks above a revision
abbrev pub newer_than : ℕ → List ℕ → List ℕ
newer_than revision looks = filter (nat_lt revision) looks

-- a call looked at least once, and saw nothing above the revision
pub record SawNothingNewer (revision : ℕ) (before after : PassValue) : Type 0 where
  pub looked : 0 < length (looks_of before after)
  pub none : All (λ look. look ≤ revision) (looks_of before after)

-- this number is above the revision, and a call looked it up
pub record SawNewer (revision : ℕ) (before after : PassValue) (number : ℕ) : Type 0 where
  pub newer : revision < number
  pub looked : Contains (looks_of before after) number

-- what stopped a call is a later revision that it looked up, or want of memory
abbrev pub IsStopped : ℕ → PassValue → PassValue → Halt → Type 0
IsStopped revision before after (Stopped number) = SawNewer revision before after number
IsStopped revision before after NoMemory = Unit {0}

-- ---- laws

pub looked_itself : (pass : PassValue) → HasLooked pass pass
looked_itself pass = record { table = refl; number = refl; seen = refl; mine = refl; raises = refl; looks = prefix_refl pass.looks }

pub looked_on : (before now after : PassValue) → HasLooked before now → HasLooked now after → HasLooked before after
looked_on before now after first second = record {
  table = second.table ∙ first.table;
  number = second.number ∙ first.number;
  seen = second.seen ∙ first.seen;
  mine = second.mine ∙ first.mine;
  raises = second.raises ∙ first.raises;
  looks = prefix_trans before.looks now.looks after.looks first.looks second.looks;
}
