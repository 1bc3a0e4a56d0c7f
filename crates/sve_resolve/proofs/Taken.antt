-- Which of the things that are given the parameters of a header take.
use Rattle.std.proofs.Common.{◌≡◌, ◌<◌, ℕ, ◌+◌, ◌-◌, ◌^◌, Bool, true, false, not, cond, min, List, [], ◌∷◌, ◌++◌, Option, Some, None, is_some, map, refl, sym, ap, ◌∙◌, arith}
use Rattle.std.specs.List.{flat_map, slice_get}
use Rattle.std.proofs.lemmas.List.Sums.{sum_by-append, sum_by-cons}
use Rattle.sve_tree.specs.declared.word.ParameterKeyword.TheVariants.{Parameter}
use Rattle.sve_tree.specs.declared.header.ParameterPort.{ParameterPort}
use Rattle.sve_tree.specs.declared.header.ParameterPorts.{ParameterPorts}
use Rattle.sve_tree.specs.declared.declaration.ParameterAssignment.{ParameterAssignment}
use Rattle.sve_tree.specs.declared.item.Item.{Item}
use Rattle.sve_tree.specs.declared.item.Item.TheVariants as is_item
use Rattle.sve_tree.specs.declared.item.GenerateRegion.{Row_of-Item, end_of-Item, more_of-Item}
use Rattle.sve_spec.specs.declared.given.Given.{Given}
use Rattle.sve_env.specs.Told.{Told}
use Rattle.sve_formal.specs.declared.formal.Formal.{Formal}
use Rattle.sve_formal.specs.Formals.{assignment_formal, can_be_overridden, header_formal, header_formals, is_local_keyword, item_formals, keyword_after, list_formals, overridable_count, row_formals}
use Rattle.sve_resolve.specs.declared.resolving.Resolving.{Resolving}
use Rattle.sve_resolve.specs.Resolving.{given_for, no_parameters, nodes_of_parameters, parameter_nodes, parameters_in, params_of, with_parameter, with_parameters}
use Rattle.sve_resolve.specs.Within.{told_within}
use Rattle.sve_resolve.specs.Values.{found_nodes, given_or_default}
use Rattle.sve_resolve.specs.Taken.{ListsHaveAll, TakeInOrder, TakeNoOthers, taken_by, with_taken}

same_last : {X : Type 0} (xs : List X) (a b : X) → xs ++ a ∷ [] ≡ xs ++ b ∷ [] → a ≡ b
same_last [] a b e = cc
same_last (x ∷ xs) a b e = same_last xs a b (cc)

below : (a b n : ℕ) → a ≡ b → b < n → a < n
below a b n e h = rw e h

-- ---- counts

counted : (formal : Formal) (formals : List Formal) → overridable_count (formal ∷ formals) ≡ cond (not formal.is_local) 1 0 + overridable_count formals
counted formal formals = sum_by-cons (λ (x : Formal). cond (can_be_overridden x) 1 0) formal formals

both : (xs ys : List Formal) → overridable_count (xs ++ ys) ≡ overridable_count xs + overridable_count ys
both xs ys = sum_by-append (λ (x : Formal). cond (can_be_overridden x) 1 0) xs ys

less_of : (a b c n : ℕ) → b ≡ c → a + b < n → a + c < n
less_of a b c n e h = omega arith

less_in : (i a b c : ℕ) → b ≡ c → i < a + c → i < a + b
less_in i a b c e h = omega arith

in_list : (i a b : ℕ) → a ≡ b → i < 0 + a → i < b
in_list i a b e h = omega arith

-- ---- behind one more, the next place is one on where the one more can be overridden

one_on : (local : Bool) (place rest top : ℕ) → place + (cond (not local) 1 0 + rest) < top → cond local place (min (place + 1) (top - 1)) + rest ≡ place + (cond (not local) 1 0 + rest)
one_on true place rest top h = omega arith
one_on false place rest top h = omega arith

not_beyond : (local : Bool) (place rest top i : ℕ) → i < cond local place (min (place + 1) (top - 1)) + rest → i < place + (cond (not local) 1 0 + rest)
not_beyond true place rest top i h = omega arith
not_beyond false place rest top i h = omega arith

here : (local : Bool) (given others : List Given) (place rest : ℕ) → ((i : ℕ) → i < place + (cond (not local) 1 0 + rest) → slice_get given i ≡ slice_get others i) → given_for given local place ≡ given_for others local place
here true given others place rest h = refl
here false given others place rest h = ap given_or_default (h place (omega arith))

-- ---- one parameter behind several

appended : (m : Told) (given : List Given) (ports : List ParameterPort) (port : ParameterPort) (r : Resolving) → with_parameters m given r (ports ++ port ∷ []) ≡ with_parameter m given (with_parameters m given r ports) port
unfolding with_parameters
appended m given [] port r = refl
appended m given (p ∷ ports) port r = appended m given ports port (with_parameter m given r p)

formal_behind : (m : Told) (given : List Given) (ports : List ParameterPort) (port : ParameterPort) (r : Resolving) → header_formals r.keyword (ports ++ port ∷ []) ≡ header_formals r.keyword ports ++ header_formal (keyword_after (with_parameters m given r ports).keyword port.keyword) port ∷ []
unfolding with_parameters header_formals
formal_behind m given [] port r = refl
formal_behind m given (p ∷ ports) port r = ap (λ (fs : List Formal). header_formal (keyword_after r.keyword p.keyword) p ∷ fs) (formal_behind m given ports port (with_parameter m given r p))

place_behind : (m : Told) (given : List Given) (ports : List ParameterPort) (r : Resolving) → r.place + overridable_count (header_formals r.keyword ports) < 2 ^ 64 → (with_parameters m given r ports).place ≡ r.place + overridable_count (header_formals r.keyword ports)
unfolding with_parameters header_formals
place_behind m given [] r h = omega arith
place_behind m given (p ∷ ports) r h =
    let keyword = keyword_after r.keyword p.keyword in
    let rest = overridable_count (header_formals keyword ports) in
    let first = counted (header_formal keyword p) (header_formals keyword ports) in
    let room = less_of r.place _ _ (2 ^ 64) first h in
    let e = one_on (is_local_keyword keyword) r.place rest (2 ^ 64) room in
    place_behind m given ports (with_parameter m given r p) (below _ _ _ e room) ∙ e ∙ ap (λ (n : ℕ). r.place + n) (sym first)

taken_at : (given : List Given) (before : List Formal) (formal : Formal) (local : Bool) (place : ℕ) → formal.is_local ≡ local → place ≡ overridable_count before → given_for given local place ≡ taken_by given before formal
taken_at given before formal local place l p =
    ap (λ (n : ℕ). given_for given local n) p ∙ ap (λ (b : Bool). given_for given b (overridable_count before)) (sym l)

pub in_order : TakeInOrder
in_order m given before port formal f h =
    let r = with_parameters m given no_parameters before in
    let l = same_last (header_formals Parameter before) formal (header_formal (keyword_after r.keyword port.keyword) port) (sym f ∙ formal_behind m given before port no_parameters) in
    let p = place_behind m given before no_parameters (omega (arith, h)) in
    appended m given before port no_parameters
    ∙ ap (λ (g : Given). with_taken m given g r port) (taken_at given (header_formals Parameter before) formal (is_local_keyword (keyword_after r.keyword port.keyword)) r.place (ap (λ (x : Formal). x.is_local) l) (omega (arith, p)))

-- ---- no other is looked at

same_found : (m : Told) (given others : List Given) (ports : List ParameterPort) (r : Resolving) → ((i : ℕ) → i < r.place + overridable_count (header_formals r.keyword ports) → slice_get given i ≡ slice_get others i) → with_parameters m given r ports ≡ with_parameters m others r ports
unfolding with_parameters header_formals
same_found m given others [] r h = refl
same_found m given others (p ∷ ports) r h =
    let keyword = keyword_after r.keyword p.keyword in
    let local = is_local_keyword keyword in
    let rest = overridable_count (header_formals keyword ports) in
    let first = counted (header_formal keyword p) (header_formals keyword ports) in
    same_found m given others ports (with_parameter m given r p) (λ i b. h i (less_in i r.place _ _ first (not_beyond local r.place rest (2 ^ 64) i b)))
    ∙ ap (λ (g : Given). with_parameters m others (with_taken m others g r p) ports) (here local given others r.place rest (λ i b. h i (less_in i r.place _ _ first b)))

same_counted : (m : Told) (given others : List Given) (ports : List ParameterPort) (r : Resolving) → ((i : ℕ) → i < r.place + overridable_count (header_formals r.keyword ports) → slice_get given i ≡ slice_get others i) → nodes_of_parameters m given r ports ≡ nodes_of_parameters m others r ports
unfolding nodes_of_parameters header_formals
same_counted m given others [] r h = refl
same_counted m given others (p ∷ ports) r h =
    let keyword = keyword_after r.keyword p.keyword in
    let local = is_local_keyword keyword in
    let rest = overridable_count (header_formals keyword ports) in
    let first = counted (header_formal keyword p) (header_formals keyword ports) in
    ap (λ (n : ℕ). parameter_nodes m given r p + n) (same_counted m given others ports (with_parameter m given r p) (λ i b. h i (less_in i r.place _ _ first (not_beyond local r.place rest (2 ^ 64) i b))))
    ∙ ap (λ (g : Given). found_nodes (told_within m r.known) g p + nodes_of_parameters m others (with_taken m others g r p) ports) (here local given others r.place rest (λ i b. h i (less_in i r.place _ _ first b)))

listed : (list : Option ParameterPorts) → header_formals Parameter (parameters_in list) ≡ list_formals list
unfolding header_formals
listed None = refl
listed (Some list) = refl

pub no_others : TakeNoOthers
no_others m given others header h =
    let ports = parameters_in header.parameters in
    let all : (i : ℕ) → i < 0 + overridable_count (header_formals Parameter ports) → slice_get given i ≡ slice_get others i = λ i b. h i (in_list i _ _ (ap (λ (fs : List Formal). overridable_count fs) (listed header.parameters)) b) in
    (ap (λ (r : Resolving). params_of m given r) (same_found m given others ports no_parameters all), same_counted m given others ports no_parameters all)

-- ---- where a header has a list, those of the body are local

none_of_assignments : (assignments : List ParameterAssignment) → overridable_count (map (assignment_formal true) assignments) ≡ 0
none_of_assignments [] = refl
none_of_assignments (assignment ∷ assignments) = none_of_assignments assignments

neither : (xs ys : List Formal) → overridable_count xs ≡ 0 → overridable_count ys ≡ 0 → overridable_count (xs ++ ys) ≡ 0
neither xs ys a b = both xs ys ∙ omega (arith, a, b)

mutual
  unfolding item_formals

  none_of_item : (item : Item) → overridable_count (item_formals true item) ≡ 0
  none_of_item (is_item.Parameters declaration) = none_of_assignments declaration.value.assignments.items.items
  none_of_item (is_item.Region' _ keyword _ items end) = none_of_row items
  none_of_item item = refl

  none_of_row : {n : _} (row : Row_of-Item n) → overridable_count (row_formals true row) ≡ 0
  none_of_row end_of-Item = refl
  none_of_row (more_of-Item item rest) = neither (item_formals true item) (row_formals true rest) (none_of_item item) (none_of_row rest)

none_of_items : (items : List Item) → overridable_count (flat_map (item_formals true) items) ≡ 0
none_of_items [] = refl
none_of_items (item ∷ items) = neither (item_formals true item) (flat_map (item_formals true) items) (none_of_item item) (none_of_items items)

pub all_in_list : ListsHaveAll
all_in_list d h =
    let none : overridable_count (flat_map (item_formals (is_some d.header.parameters)) d.items.items) ≡ 0 = ap (λ (b : Bool). overridable_count (flat_map (item_formals b) d.items.items)) h ∙ none_of_items d.items.items in
    both (list_formals d.header.parameters) (flat_map (item_formals (is_some d.header.parameters)) d.items.items) ∙ omega (arith, none)
