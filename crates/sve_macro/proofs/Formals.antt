-- Formals, their number and their texts.
use Rattle.std.proofs.Common.{◌≡◌, ℕ, zero, suc, ◌+◌, ◌<◌, ◌≤◌, ◌==◌, Bool, true, false, ◌&&◌, cond, List, [], ◌∷◌, length, drop, get_or, Option, Some, None, option_map, is_some, refl, ap, sym, ◌∙◌, arith, bytes_eq, nat_eq, nat_le, nat_lt, add-one}
use Rattle.std.proofs.Math.Seq.{drop-nil, drop-cons}
use Rattle.std.proofs.lemmas.List.{get_or_default}
use Rattle.std.specs.Map.{lookup}
use Rattle.std.specs.BTreeMap.{BTreeMap, UpdatesBy, get_by}
use Rattle.std.specs.Borrow.{Bor}
use Rattle.std.specs.Cmp.Lexicographic.{slice_cmp}
use Rattle.std.specs.Ordering.{nat_cmp}
use Rattle.std.proofs.lemmas.Map.Text.{btree_map_updates_str}
use Rattle.std.proofs.lemmas.Bool.Decides.{nat_tests}
use Rattle.sve_macro.specs.Index.{place_in}
use Rattle.sve_macro.specs.Substitution.{Formal, accepts_each, given, actual_at, assigned}
use Rattle.sve_macro.specs.Template.{value_at, needed_of}

needed_case : (some : Bool) (n k : ℕ) → (nat_le (cond (some && n == 0) 0 (n + 1)) (suc k)) ≡ nat_le n k
needed_case true zero k = grind (arith, nat_tests)
needed_case true (suc n) k = grind (arith, nat_tests)
needed_case false n k = grind (arith, nat_tests)

needed_none : (some : Bool) (n m : ℕ) → (some && (nat_le n 0 && nat_le 0 m)) ≡ (nat_le (cond (some && n == 0) 0 (n + 1)) 0 && nat_le 0 (suc m))
needed_none true zero m = grind (arith, nat_tests)
needed_none true (suc n) m = grind (arith, nat_tests)
needed_none false n m = grind (arith, nat_tests)

one_less : (n m : ℕ) → nat_le (suc n) (suc m) ≡ nat_le n m
one_less n m = grind (arith, nat_tests)

-- as many actuals are accepted as are needed and have a formal
pub accepts_by_count : (formals : List Formal) (actuals : List (List ℕ)) → (nat_le (needed_of formals) (length actuals) && nat_le (length actuals) (length formals)) ≡ accepts_each formals actuals
accepts_by_count [] [] = refl
accepts_by_count [] (a ∷ actuals) = grind (arith, nat_tests)
accepts_by_count (f ∷ formals) [] =
    sym (ap (λ b. is_some f.1 && b) (sym (accepts_by_count formals [])) ∙ needed_none (is_some f.1) (needed_of formals) (length formals))
accepts_by_count (f ∷ formals) (a ∷ actuals) =
    ap (λ b. b && nat_le (suc (length actuals)) (suc (length formals))) (needed_case (is_some f.1) (needed_of formals) (length actuals))
    ∙ ap (λ b. nat_le (needed_of formals) (length actuals) && b) (one_less (length actuals) (length formals)) ∙ accepts_by_count formals actuals

pub by_count_enough : (formals : List Formal) (actuals : List (List ℕ)) (needed count : ℕ) → needed ≡ needed_of formals → count ≡ length actuals → needed ≤ count → nat_le count (length formals) ≡ accepts_each formals actuals
by_count_enough formals actuals needed count n e h =
    let t : nat_le (needed_of formals) (length actuals) ≡ true = grind (arith, nat_tests) in
    ap (λ k. nat_le k (length formals)) e ∙ ap (λ b. b && nat_le (length actuals) (length formals)) (sym t) ∙ accepts_by_count formals actuals

pub by_count_short : (formals : List Formal) (actuals : List (List ℕ)) (needed count : ℕ) → needed ≡ needed_of formals → count ≡ length actuals → count < needed → nat_le needed count ≡ accepts_each formals actuals
by_count_short formals actuals needed count n e h =
    let t : nat_le (needed_of formals) (length actuals) ≡ false = grind (arith, nat_tests) in
    let f : nat_le needed count ≡ false = grind (arith, nat_tests) in
    f ∙ ap (λ b. b && nat_le (length actuals) (length formals)) (sym t) ∙ accepts_by_count formals actuals

pub needed-drop : (formals : List Formal) (left more count : ℕ) (d : Formal) → left < length formals → more ≡ left + 1 → count ≡ needed_of (drop more formals) →
    cond (is_some (get_or formals left d).1 && count == 0) 0 (count + 1) ≡ needed_of (drop left formals)
needed-drop formals left more count d l m e =
    let next : drop left formals ≡ get_or formals left d ∷ drop more formals = drop-cons formals left d l ∙ ap (λ n. get_or formals left d ∷ drop n formals) (sym (m ∙ add-one left)) in
    ap (λ n. cond (is_some (get_or formals left d).1 && n == 0) 0 (n + 1)) e ∙ ap needed_of (sym next)

assigned-suc : (i : ℕ) (formals : List Formal) (actuals : List (List ℕ)) (d : Formal) → i < length formals →
    assigned (drop i formals) (drop i actuals) ≡ ((get_or formals i d).0, given (get_or formals i d).1 (actual_at actuals i)) ∷ assigned (drop (suc i) formals) (drop (suc i) actuals)
assigned-suc i [] actuals d h = absurd (omega arith)
assigned-suc zero (f ∷ formals) [] d h = refl
assigned-suc zero (f ∷ formals) (a ∷ actuals) d h = refl
assigned-suc (suc i) (f ∷ formals) [] d h =
    ap (λ x. assigned (drop i formals) x) (sym (drop-nil i))
    ∙ assigned-suc i formals [] d (omega arith)
    ∙ ap (λ x. ((get_or formals i d).0, given (get_or formals i d).1 x) ∷ assigned (drop (suc i) formals) []) (none_at i)
  where
    none_at : (i : ℕ) → actual_at [] i ≡ []
    none_at zero = refl
    none_at (suc i) = refl
assigned-suc (suc i) (f ∷ formals) (a ∷ actuals) d h = assigned-suc i formals actuals d (omega arith)

pub assigned-drop : (i : ℕ) (formals : List Formal) (actuals : List (List ℕ)) (d : Formal) → i < length formals →
    assigned (drop i formals) (drop i actuals) ≡ ((get_or formals i d).0, given (get_or formals i d).1 (actual_at actuals i)) ∷ assigned (drop (i + 1) formals) (drop (i + 1) actuals)
assigned-drop i formals actuals d h =
    assigned-suc i formals actuals d h
    ∙ ap (λ n. ((get_or formals i d).0, given (get_or formals i d).1 (actual_at actuals i)) ∷ assigned (drop n formals) (drop n actuals)) (sym (add-one i))

-- the map has the places of the formals from a place on
pub record IsIndexFrom (index : BTreeMap (Bor (List ℕ)) ℕ) (formals : List Formal) (left : ℕ) : Type 0 where
  pub found : (actuals : List (List ℕ)) (word : List ℕ) → option_map (value_at formals actuals) (place_in index word) ≡ lookup (bytes_eq word) (assigned (drop left formals) (drop left actuals))
  pub within : left ≤ length formals

byte_sym : (a b : ℕ) → nat_eq a b ≡ nat_eq b a
byte_sym a b = grind (arith, nat_tests)

bytes_sym : (xs ys : List ℕ) → bytes_eq xs ys ≡ bytes_eq ys xs
bytes_sym [] [] = refl
bytes_sym [] (y ∷ ys) = refl
bytes_sym (x ∷ xs) [] = refl
bytes_sym (x ∷ xs) (y ∷ ys) = ap (λ b. b && bytes_eq xs ys) (byte_sym x y) ∙ ap (λ b. nat_eq y x && b) (bytes_sym xs ys)

map_choice : {X Y : Type 0} (f : X → Y) (b : Bool) (v : X) (o : Option X) → option_map f (cond b (Some v) o) ≡ cond b (Some (f v)) (option_map f o)
map_choice f true v o = refl
map_choice f false v o = refl

value-there : (formals : List Formal) (actuals : List (List ℕ)) (left : ℕ) (d : Formal) → left < length formals → value_at formals actuals left ≡ given (get_or formals left d).1 (actual_at actuals left)
value-there formals actuals left d l =
    let there : nat_lt left (length formals) ≡ true = grind arith in
    ap (λ b. cond b (given (get_or formals left ([], None)).1 (actual_at actuals left)) []) there
    ∙ ap (λ (f : Formal). given f.1 (actual_at actuals left)) (get_or_default formals left ([], None) d l)

-- the formal before those that the map has was put into it
pub one_more : (old new : BTreeMap (Bor (List ℕ)) ℕ) (formals : List Formal) (more left : ℕ) (name : List ℕ) (d : Formal) →
    IsIndexFrom old formals more → more ≡ left + 1 → name ≡ (get_or formals left d).0 →
    UpdatesBy (λ (x y : Bor (List ℕ)). slice_cmp nat_cmp x.now y.now) (λ (k : Bor (List ℕ)). slice_cmp nat_cmp name k.now) old new (Some left) →
    IsIndexFrom new formals left
one_more old new formals more left name d h m n u =
    let there : left < length formals = omega (arith, h.within) in
    record {
      found = λ actuals word.
          let behind = lookup (bytes_eq word) (assigned (drop (left + 1) formals) (drop (left + 1) actuals)) in
          ap (λ o. option_map (value_at formals actuals) o) (btree_map_updates_str name old new (Some left) u word)
          ∙ map_choice (value_at formals actuals) (bytes_eq name word) left (get_by (λ (k : Bor (List ℕ)). slice_cmp nat_cmp word k.now) old)
          ∙ ap (λ o. cond (bytes_eq name word) (Some (value_at formals actuals left)) o) (h.found actuals word ∙ ap (λ k. lookup (bytes_eq word) (assigned (drop k formals) (drop k actuals))) m)
          ∙ ap (λ b. cond b (Some (value_at formals actuals left)) behind) (bytes_sym name word ∙ ap (λ x. bytes_eq word x) n)
          ∙ ap (λ x. cond (bytes_eq word (get_or formals left d).0) (Some x) behind) (value-there formals actuals left d there)
          ∙ ap (λ x. lookup (bytes_eq word) x) (sym (assigned-drop left formals actuals d there));
      within = omega (arith, h.within);
    }

pub none_left : (index : BTreeMap (Bor (List ℕ)) ℕ) (formals : List Formal) (left : ℕ) → IsIndexFrom index formals left → left ≡ 0 →
    (actuals : List (List ℕ)) (word : List ℕ) → option_map (value_at formals actuals) (place_in index word) ≡ lookup (bytes_eq word) (assigned formals actuals)
none_left index formals left h e = λ actuals word. h.found actuals word ∙ ap (λ n. lookup (bytes_eq word) (assigned (drop n formals) (drop n actuals))) e
