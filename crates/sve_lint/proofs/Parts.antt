-- Findings that are added one after the other.
use Rattle.std.proofs.Common.{◌≡◌, refl, ℕ, ◌+◌, ◌<◌, ◌≤◌, List, [], ◌∷◌, ◌++◌, length, get_or, drop, ap, sym, subst, ◌∙◌, append-nil, append_assoc}
use Rattle.std.proofs.lemmas.List.{at_drop_more, at_drop_all}
use Rattle.std.specs.List.{flat_map}
use Rattle.sve_lint.specs.declared.instance.Finding.{Finding}
use Rattle.sve_lint.specs.declared.instance.InstanceFacts.{InstanceFacts}
use Rattle.sve_lint.specs.Rules.{RuleState, holding_more, having_seen, having_seen_all, HasAllBut, HasPart}

-- nothing was added yet
pub nothing_yet : (findings : List Finding) (old : RuleState) → HasAllBut findings findings old old
nothing_yet findings old = ([], refl, ap (λ (found : List Finding). record old { found = found }) (sym (append-nil old.found)))

-- all was added
pub all_added : (findings : List Finding) (old new : RuleState) → HasAllBut [] findings old new → new ≡ holding_more findings old
all_added findings old new held =
    held.2 ∙ ap (λ (f : List Finding). holding_more f old) (sym (append-nil held.0) ∙ held.1)

-- the next were added
pub more_added : (more last findings : List Finding) (old now new : RuleState) → HasAllBut (more ++ last) findings old now → new ≡ holding_more more now → HasAllBut last findings old new
more_added more last findings old now new held new_is = (
  held.0 ++ more,
  append_assoc held.0 more last ∙ held.1,
  new_is ∙ ap (holding_more more) held.2 ∙ ap (λ (f : List Finding). record old { found = f }) (append_assoc old.found held.0 more),
)

-- a part of the next was added
pub part_added : (more last findings : List Finding) (old now new : RuleState) → HasAllBut (more ++ last) findings old now → HasPart more now new → HasPart findings old new
part_added more last findings old now new held part =
    let first : List Finding = part.1.0 in
    let left : List Finding = part.0 in
    let whole : first ++ left ++ last ≡ more ++ last = ap (λ (l : List Finding). l ++ last) part.1.1 in
    let ahead : HasAllBut (first ++ (left ++ last)) findings old now =
    (held.0, ap (λ (l : List Finding). held.0 ++ l) (sym (append_assoc first left last) ∙ whole) ∙ held.1, held.2) in
    (left ++ last, more_added first (left ++ last) findings old now new ahead part.1.2)

-- what things that are left give is what the next of them gives, and what those behind it do
pub left_next : {X : Type 0} (gives : X → List Finding) (things : List X) (i : ℕ) (thing : X) → i < length things → thing ≡ get_or things i thing
    → flat_map gives (drop i things) ≡ gives thing ++ flat_map gives (drop (i + 1) things)
left_next {X} gives things i thing below is =
    at_drop_more (flat_map gives) things i thing below ∙ ap (λ (x : X). gives x ++ flat_map gives (drop (i + 1) things)) (sym is)

-- what one more thing gives was added
pub one_more : {X : Type 0} (gives : X → List Finding) (things : List X) (i : ℕ) (thing : X) (findings : List Finding) (old now new : RuleState) → i < length things → thing ≡ get_or things i thing
    → HasAllBut (flat_map gives (drop i things)) findings old now → new ≡ holding_more (gives thing) now → HasAllBut (flat_map gives (drop (i + 1) things)) findings old new
one_more gives things i thing findings old now new below is held new_is =
    more_added (gives thing) (flat_map gives (drop (i + 1) things)) findings old now new
    (subst (λ (l : List Finding). HasAllBut l findings old now) (left_next gives things i thing below is) held) new_is

-- what all things give was added
pub all_given : {X : Type 0} (gives : X → List Finding) (things : List X) (i : ℕ) (old new : RuleState) → length things ≤ i
    → HasAllBut (flat_map gives (drop i things)) (flat_map gives things) old new → new ≡ holding_more (flat_map gives things) old
all_given gives things i old new end held =
    all_added (flat_map gives things) old new (subst (λ (l : List Finding). HasAllBut l (flat_map gives things) old new) (at_drop_all (flat_map gives) things i end) held)

-- one more instance of a design is seen
pub one_more_seen : (design : List InstanceFacts) (i : ℕ) (instance : InstanceFacts) (findings : List Finding) (old now new : RuleState) → i < length design → instance ≡ get_or design i instance
    → HasAllBut (flat_map old.meaning (drop i design)) findings old now → new ≡ having_seen instance now → HasAllBut (flat_map old.meaning (drop (i + 1) design)) findings old new
one_more_seen design i instance findings old now new below is held new_is =
    let same : now.meaning ≡ old.meaning = ap (λ (r : RuleState). r.meaning) held.2 in
    one_more old.meaning design i instance findings old now new below is held
    (new_is ∙ ap (λ (m : InstanceFacts → List Finding). holding_more (m instance) now) same)

-- of one more instance a part is found
pub one_more_in_part : (design : List InstanceFacts) (i : ℕ) (instance : InstanceFacts) (findings : List Finding) (old now new : RuleState) → i < length design → instance ≡ get_or design i instance
    → HasAllBut (flat_map old.meaning (drop i design)) findings old now → HasPart (now.meaning instance) now new → HasPart findings old new
one_more_in_part design i instance findings old now new below is held part =
    let same : now.meaning ≡ old.meaning = ap (λ (r : RuleState). r.meaning) held.2 in
    part_added (old.meaning instance) (flat_map old.meaning (drop (i + 1) design)) findings old now new
    (subst (λ (l : List Finding). HasAllBut l findings old now) (left_next old.meaning design i instance below is) held)
    (subst (λ (m : InstanceFacts → List Finding). HasPart (m instance) now new) same part)

-- nothing is a part of all findings
pub nothing_in_part : (findings : List Finding) (old : RuleState) → HasPart findings old old
nothing_in_part findings old = (findings, nothing_yet findings old)

-- all findings are a part of them
pub all_is_part : (findings : List Finding) (old new : RuleState) → new ≡ holding_more findings old → HasPart findings old new
all_is_part findings old new is = ([], (findings, append-nil findings, is))
