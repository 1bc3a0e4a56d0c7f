-- Names that are looked up in a set, and the ports of these names.
use Rattle.std.proofs.Common.{◌≡◌, ℕ, ◌+◌, ◌<◌, ◌≤◌, ◌++◌, ◌||◌, Bool, true, false, cond, List, [], ◌∷◌, length, get_or, drop, bytes_eq, refl, ap, sym, ◌∙◌}
use Rattle.std.specs.List.{flat_map}
use Rattle.std.specs.Ordering.{nat_cmp, is_eq}
use Rattle.std.specs.Cmp.Lexicographic.{slice_cmp}
use Rattle.std.proofs.lemmas.List.{drop_all}
use Rattle.std.proofs.lemmas.Map.Text.{is_eq-slice_cmp}
use Rattle.sve_facts.specs.declared.facts.Port.{Port}
use Rattle.sve_lint.specs.declared.instance.UnconnectedPort.{UnconnectedPort}
use Rattle.sve_design.proofs.Accounts.{next_at}
use Rattle.sve_survey.specs.Lint.{is_among, port_if}

regroup : (a b c : Bool) → (a || (b || c)) ≡ (cond b true a || c)
regroup true true c = refl
regroup true false c = refl
regroup false true c = refl
regroup false false c = refl

or_false : (a : Bool) → (a || false) ≡ a
or_false true = refl
or_false false = refl

-- one more name is put in the set
pub one_more : (set now : List ℕ → Bool) (names : List (List ℕ)) (i : ℕ) (name copy : List ℕ) → i < length names → name ≡ get_or names i name → copy ≡ name → ((q : List ℕ) → now q ≡ cond (is_eq (slice_cmp nat_cmp copy q)) true (set q)) → ((q : List ℕ) → is_among names q ≡ (set q || is_among (drop i names) q)) → (q : List ℕ) → is_among names q ≡ (now q || is_among (drop (i + 1) names) q)
one_more set now names i name copy lt is same updates held q =
    let rest : Bool = is_among (drop (i + 1) names) q in
    held q ∙ ap (λ (ns : List (List ℕ)). set q || is_among ns q) (next_at names i name lt is)
    ∙ regroup (set q) (bytes_eq name q) rest
    ∙ ap (λ (b : Bool). cond b true (set q) || rest) (sym (is_eq-slice_cmp name q))
    ∙ ap (λ (n : List ℕ). cond (is_eq (slice_cmp nat_cmp n q)) true (set q) || rest) (sym same)
    ∙ ap (λ (b : Bool). b || rest) (sym (updates q))

-- all names are in the set
pub all_in : (set : List ℕ → Bool) (names : List (List ℕ)) (i : ℕ) (q : List ℕ) → length names ≤ i → is_among names q ≡ (set q || is_among (drop i names) q) → is_among names q ≡ set q
all_in set names i q le held =
    held ∙ ap (λ (ns : List (List ℕ)). set q || is_among ns q) (drop_all i names le) ∙ or_false (set q)

-- two sets with the same names have the same ports
pub same_ports : (set other : List ℕ → Bool) (ports : List Port) → ((q : List ℕ) → set q ≡ other q) → flat_map (port_if set) ports ≡ flat_map (port_if other) ports
same_ports set other [] same = refl
same_ports set other (p ∷ ps) same =
    ap (λ (b : Bool). cond b (record { name = p.name; direction = p.direction } ∷ []) [] ++ flat_map (port_if set) ps) (same p.name)
    ∙ ap (λ (l : List UnconnectedPort). port_if other p ++ l) (same_ports set other ps same)
