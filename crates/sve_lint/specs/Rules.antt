-- Rules that see the instances of a design (own).
use Rattle.std.specs.Prelude.{◌≡◌, ℕ, List, [], ◌∷◌, ◌++◌}
use Rattle.std.specs.List.{flat_map}
use Rattle.sve_lint.specs.declared.instance.Finding.{Finding}
use Rattle.sve_lint.specs.declared.instance.InstanceFacts.{InstanceFacts}

-- a rule: its name, its meaning, which is the findings that one instance gives, and the findings that it holds
pub record RuleState : Type 0 where
  pub name : List ℕ
  pub meaning : InstanceFacts → List Finding
  pub found : List Finding

-- a rule that holds these findings too, behind those that it held; its name and its meaning are the same
abbrev pub holding_more : List Finding → RuleState → RuleState
holding_more more rule = record rule { found = rule.found ++ more }

-- a rule once it has seen an instance
abbrev pub having_seen : InstanceFacts → RuleState → RuleState
having_seen instance rule = holding_more (rule.meaning instance) rule

-- a rule once it has seen all instances of a design
abbrev pub having_seen_all : List InstanceFacts → RuleState → RuleState
having_seen_all design rule = holding_more (flat_map rule.meaning design) rule

-- a rule to which all of these findings but the last were added
abbrev pub HasAllBut : List Finding → List Finding → RuleState → RuleState → Type 0
HasAllBut last findings old new = (first : List Finding) × (first ++ last ≡ findings) × (new ≡ holding_more first old)

-- a rule to which the first of these findings were added, perhaps none and perhaps all
abbrev pub HasPart : List Finding → RuleState → RuleState → Type 0
HasPart findings old new = (last : List Finding) × HasAllBut last findings old new

-- each of these rules has a part of what it would find in a design
abbrev pub HaveParts : List InstanceFacts → List RuleState → List RuleState → Type 0
HaveParts design [] [] = Unit {0}
HaveParts design (old ∷ olds) (new ∷ news) = HasPart (flat_map old.meaning design) old new × HaveParts design olds news
HaveParts design [] (new ∷ news) = ⊥
HaveParts design (old ∷ olds) [] = ⊥
