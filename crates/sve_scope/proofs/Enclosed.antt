-- A list whose last item is the innermost.
use Rattle.std.proofs.Common.{arith, ◌≡◌, ◌∙◌, ◌≤◌, ◌<◌, ◌+◌, ◌-◌, ◌++◌, ℕ, zero, suc, List, [], ◌∷◌, length, drop, get_or, set, reverse, slice_get, Option, MatchOption, None, Some, refl, sym, ap}
use Rattle.std.specs.Option.{option_to_list}
use Rattle.std.proofs.lemmas.Grind.{reverse_onto}
use Rattle.std.proofs.lemmas.List.{get_or-reverse, length-reverse, reverse-append, set_at, set-append_left}
use Rattle.std.proofs.lemmas.Option.{slice_get_read}
use Rattle.sve_scope.specs.declared.scope.Scope.{Scope}
use Rattle.sve_scope.specs.Scopes.{taking, taking_at}

module _ {X : Type 0} where
  -- what is taken from the end is the first seen from there, and what is left the others
  pub first_of : (xs ys : List X) (x : Option X) → xs ≡ ys ++ option_to_list x → MatchOption x ((length xs ≡ 0) × (length ys ≡ 0)) (λ _. length ys + 1 ≡ length xs) → x ≡ slice_get (reverse xs) 0
  first_of [] ys None e h = refl
  first_of (x ∷ xs) ys None e h = absurd (omega (arith, h.0))
  first_of xs ys (Some y) e h = rw (e, reverse-append ys (y ∷ [])) refl

  pub others_of : (xs ys : List X) (x : Option X) → xs ≡ ys ++ option_to_list x → MatchOption x ((length xs ≡ 0) × (length ys ≡ 0)) (λ _. length ys + 1 ≡ length xs) → reverse ys ≡ drop 1 (reverse xs)
  others_of [] [] None e h = refl
  others_of (x ∷ xs) ys None e h = absurd (omega (arith, h.0))
  others_of xs (y ∷ ys) None e h = absurd (omega (arith, h.1))
  others_of xs ys (Some y) e h = rw (e, reverse-append ys (y ∷ [])) refl

  -- an item is set from behind
  pub set_behind : (xs : List X) (i : ℕ) (y : X) → i < length xs → reverse (set xs i y) ≡ set (reverse xs) (length xs - 1 - i) y
  set_behind [] i y h = absurd (omega (arith, h))
  set_behind (x ∷ xs) zero y h =
      let e : length (x ∷ xs) - 1 - 0 ≡ length xs = omega arith in
      rw (reverse_onto xs y [], reverse_onto xs x [], e) (sym (set_at (reverse xs) x [] y (length xs) (length-reverse xs)))
  set_behind (x ∷ xs) (suc i) y h =
      let within : i < length xs = omega (arith, h) in
      let e : length (x ∷ xs) - 1 - suc i ≡ length xs - 1 - i = omega arith in
      let inner : length xs - 1 - i < length (reverse xs) = rw (length-reverse xs) (omega (arith, within)) in
      rw (reverse_onto (set xs i y) x [], reverse_onto xs x [], e, set_behind xs i y within) (sym (set-append_left (reverse xs) (x ∷ []) (length xs - 1 - i) y inner))

taking_there : (ss : List Scope) (i : ℕ) (n : List ℕ) (d : Scope) → i < length ss → taking_at ss i n ≡ set ss i (taking (get_or ss i d) n)
taking_there [] i n d h = absurd (omega (arith, h))
taking_there (s ∷ ss) zero n d h = refl
taking_there (s ∷ ss) (suc i) n d h = ap (λ rest. s ∷ rest) (taking_there ss i n d (omega (arith, h)))

-- an import takes effect in a scope, by its place from behind
pub taken_behind : (ss : List Scope) (i k : ℕ) (s : Scope) (n : List ℕ) → i < length ss → k ≡ length ss - 1 - i → s ≡ get_or ss k s
    → reverse (set ss k (taking s n)) ≡ taking_at (reverse ss) i n
taken_behind ss i k s n h e g =
    let within : k < length ss = omega (arith, h, e) in
    let place : length ss - 1 - k ≡ i = omega (arith, h, e) in
    let there : i < length (reverse ss) = rw (length-reverse ss) h in
    let same : get_or (reverse ss) i s ≡ s = get_or-reverse ss i s h ∙ (rw (sym e) (sym g)) in
    set_behind ss k (taking s n) within ∙ (rw place (sym (taking_there (reverse ss) i n s there ∙ (rw same refl))))

pub none_taken : (ss : List Scope) (i : ℕ) (n : List ℕ) → length ss ≤ i → taking_at ss i n ≡ ss
none_taken [] i n h = refl
none_taken (s ∷ ss) zero n h = absurd (omega (arith, h))
none_taken (s ∷ ss) (suc i) n h = ap (λ rest. s ∷ rest) (none_taken ss i n (omega (arith, h)))
