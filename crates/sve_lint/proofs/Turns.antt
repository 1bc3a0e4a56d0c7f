-- Rules that see a design in turn.
use Rattle.std.proofs.Common.{◌≡◌, refl, ℕ, zero, suc, ◌+◌, ◌<◌, ◌≤◌, List, [], ◌∷◌, map, length, get_or, set, add-one, ap, sym, subst, ◌∙◌, arith}
use Rattle.std.proofs.lemmas.List.{get_or-map, length-map, map-set}
use Rattle.std.specs.List.{flat_map}
use Rattle.sve_lint.specs.declared.instance.InstanceFacts.{InstanceFacts}
use Rattle.sve_lint.specs.Rules.{RuleState, having_seen_all, HasPart, HaveParts}
use Rattle.sve_lint.proofs.Parts.{nothing_yet, all_is_part}

-- so many rules have seen the whole design, and the others are as they were
abbrev pub Through : List InstanceFacts → ℕ → List RuleState → List RuleState → Type 0
Through design zero olds news = news ≡ olds
Through design (suc i) [] news = ⊥
Through design (suc i) (old ∷ olds) [] = ⊥
Through design (suc i) (old ∷ olds) (new ∷ news) = (new ≡ having_seen_all design old) × Through design i olds news

-- all have seen it
pub all_through : (design : List InstanceFacts) (i : ℕ) (olds news : List RuleState) → Through design i olds news → length news ≤ i → news ≡ map (having_seen_all design) olds
all_through design zero olds [] through end = ap (map (having_seen_all design)) through
all_through design zero olds (new ∷ news) through end = absurd (omega arith)
all_through design (suc i) [] news through end = absurd through
all_through design (suc i) (old ∷ olds) [] through end = absurd through
all_through design (suc i) (old ∷ olds) (new ∷ news) (is, through) end =
    ap (λ (r : RuleState). r ∷ news) is ∙ ap (λ (l : List RuleState). having_seen_all design old ∷ l) (all_through design i olds news through (omega arith))

-- the next has seen it
pub next_through : (design : List InstanceFacts) (i : ℕ) (olds news : List RuleState) (d new : RuleState) → i < length news → Through design i olds news
    → new ≡ having_seen_all design (get_or news i d) → Through design (suc i) olds (set news i new)
next_through design zero [] [] d new below through is = absurd (omega arith)
next_through design zero (old ∷ olds) [] d new below through is = absurd (omega arith)
next_through design zero [] (now ∷ news) d new below through is = cc
next_through design zero (old ∷ olds) (now ∷ news) d new below through is =
    (is ∙ ap (having_seen_all design) (cc), (cc))
next_through design (suc i) [] news d new below through is = absurd through
next_through design (suc i) (old ∷ olds) [] d new below through is = absurd through
next_through design (suc i) (old ∷ olds) (now ∷ news) d new below (first, through) is = (first, next_through design i olds news d new (omega arith) through is)

-- rules that are as they were have a part
pub all_as_they_were : (design : List InstanceFacts) (olds : List RuleState) → HaveParts design olds olds
all_as_they_were design [] = tt
all_as_they_were design (old ∷ olds) = ((flat_map old.meaning design, nothing_yet (flat_map old.meaning design) old), all_as_they_were design olds)

-- the next has a part
pub next_in_part : (design : List InstanceFacts) (i : ℕ) (olds news : List RuleState) (d new : RuleState) → i < length news → Through design i olds news
    → HasPart (flat_map (get_or news i d).meaning design) (get_or news i d) new → HaveParts design olds (set news i new)
next_in_part design zero olds [] d new below through part = absurd (omega arith)
next_in_part design zero olds (now ∷ news) d new below through part =
    subst (λ (l : List RuleState). HaveParts design l (new ∷ news)) through (part, all_as_they_were design news)
next_in_part design (suc i) [] news d new below through part = absurd through
next_in_part design (suc i) (old ∷ olds) [] d new below through part = absurd through
next_in_part design (suc i) (old ∷ olds) (now ∷ news) d new below (first, through) part =
    (all_is_part (flat_map old.meaning design) old now first, next_in_part design i olds news d new (omega arith) through part)

have_parts : (design : List InstanceFacts) (rules : List RuleState) → HaveParts design rules (map (having_seen_all design) rules)
have_parts design [] = tt
have_parts design (r ∷ rs) = (all_is_part (flat_map r.meaning design) r (having_seen_all design r) refl, have_parts design rs)

-- rules that have seen the whole design have a part
pub all_have_parts : (design : List InstanceFacts) (olds news : List RuleState) → news ≡ map (having_seen_all design) olds → HaveParts design olds news
all_have_parts design olds news is = subst (λ (l : List RuleState). HaveParts design olds l) (sym is) (have_parts design olds)

-- the next of rules that are seen as something has seen the whole design
pub next_is_through : {X : Type 0} (state : X → RuleState) (design : List InstanceFacts) (i : ℕ) (olds news : List X) (d new : X) → i < length news → Through design i (map state olds) (map state news)
    → state new ≡ having_seen_all design (state (get_or news i d)) → Through design (i + 1) (map state olds) (map state (set news i new))
next_is_through state design i olds news d new below through seen =
    subst (λ (n : ℕ). Through design n (map state olds) (map state (set news i new))) (sym (add-one i))
    (subst (λ (l : List RuleState). Through design (suc i) (map state olds) l) (sym (map-set state news i new))
    (next_through design i (map state olds) (map state news) (state d) (state new) (omega (arith, length-map news state)) through
    (seen ∙ ap (having_seen_all design) (sym (get_or-map state news i d (state d) below)))))

-- the next of rules that are seen as something has a part
pub next_has_part : {X : Type 0} (state : X → RuleState) (design : List InstanceFacts) (i : ℕ) (olds news : List X) (d new : X) → i < length news → Through design i (map state olds) (map state news)
    → HasPart (flat_map (state (get_or news i d)).meaning design) (state (get_or news i d)) (state new) → HaveParts design (map state olds) (map state (set news i new))
next_has_part state design i olds news d new below through part =
    subst (λ (l : List RuleState). HaveParts design (map state olds) l) (sym (map-set state news i new))
    (next_in_part design i (map state olds) (map state news) (state d) (state new) (omega (arith, length-map news state)) through
    (subst (λ (r : RuleState). HasPart (flat_map r.meaning design) r (state new)) (sym (get_or-map state news i d (state d) below)) part))

-- all rules that are seen as something have seen the whole design
pub all_are_through : {X : Type 0} (state : X → RuleState) (design : List InstanceFacts) (i : ℕ) (olds news : List X) → length news ≤ i
    → Through design i (map state olds) (map state news) → map state news ≡ map (having_seen_all design) (map state olds)
all_are_through state design i olds news end through = all_through design i (map state olds) (map state news) through (omega (arith, length-map news state))
