-- Prefixes of one log, the entries of one client in them, and looks.
use Rattle.std.proofs.Common.{◌≡◌, ℕ, ◌+◌, ◌≤◌, ◌<◌, Bool, true, false, cond, leb, eqb, List, [], ◌∷◌, ◌++◌, length, if◌then◌else◌, refl, ap, sym, ◌∙◌, subst, ⊎_elim, arith, append_assoc, length-append}
use Rattle.std.specs.Prelude.{nat_le, nat_eq, slice_index}
use Rattle.std.proofs.lemmas.List.{append-nil}
use Rattle.std.proofs.lemmas.List.Elements.{filter-append}
use Rattle.std.proofs.lemmas.Bool.Decides.{leb_tells, eqb_tells}
use mathlib.Core.List.{IsPrefix}
use Rattle.sve_board.specs.declared.knowledge.Entry.{Entry}
use Rattle.sve_board.specs.Log.{entries_of, longer, largest, with_length}

module _ {A : Type 0} where
  pub prefix_refl : (xs : List A) → IsPrefix xs xs
  prefix_refl xs = ([], append-nil xs)

  pub prefix_trans : (xs ys zs : List A) → IsPrefix xs ys → IsPrefix ys zs → IsPrefix xs zs
  prefix_trans xs ys zs p q =
      let joined : (xs ++ p.0) ++ q.0 ≡ zs = ap (λ (l : List A). l ++ q.0) p.1 ∙ q.1 in
      (p.0 ++ q.0, sym (append_assoc xs p.0 q.0) ∙ joined)

  pub prefix_length : (xs ys : List A) → IsPrefix xs ys → length xs ≤ length ys
  prefix_length xs ys p = omega (arith, length-append xs p.0, ap length p.1)

  begins_one : (xs ys s t : List A) → xs ++ s ≡ ys ++ t → length xs ≤ length ys → IsPrefix xs ys
  begins_one [] ys s t e le = (ys, refl)
  begins_one (x ∷ xs) [] s t e le = absurd (omega arith)
  begins_one (x ∷ xs) (y ∷ ys) s t e le =
      let tails : xs ++ s ≡ ys ++ t = cc in
      let rest = begins_one xs ys s t tails (omega arith) in
      (rest.0, cc (e, rest.1))

  -- two prefixes of one list
  pub shorter_prefix : (xs ys zs : List A) → IsPrefix xs zs → IsPrefix ys zs → length xs ≤ length ys → IsPrefix xs ys
  shorter_prefix xs ys zs p q le = begins_one xs ys p.0 q.0 (p.1 ∙ sym q.1) le

-- what holds either way of a choice by size
by_size : {A : Type 0} (P : A → Type 0) (m n : ℕ) (x y : A) → (m ≤ n → P x) → (n < m → P y) → P (if nat_le m n then x else y)
by_size P m n x y first second = ⊎_elim
    (λ (t : (leb m n ≡ true) × (m ≤ n)). subst (λ (b : Bool). P (if b then x else y)) (sym t.0) (first t.1))
    (λ (t : (leb m n ≡ false) × (n < m)). subst (λ (b : Bool). P (if b then x else y)) (sym t.0) (second t.1))
    (leb_tells m n)

module _ (xs ys zs : List Entry) (p : IsPrefix xs zs) (q : IsPrefix ys zs) where
  -- the longer of two prefixes is one too, and begins with both
  pub longer_is_prefix : IsPrefix (longer xs ys) zs
  longer_is_prefix = by_size (λ l. IsPrefix l zs) (length ys) (length xs) xs ys (λ _. p) (λ _. q)

  pub longer_begins_first : IsPrefix xs (longer xs ys)
  longer_begins_first = by_size (λ l. IsPrefix xs l) (length ys) (length xs) xs ys (λ _. prefix_refl xs) (λ lt. shorter_prefix xs ys zs p q (omega arith))

  pub longer_begins_second : IsPrefix ys (longer xs ys)
  longer_begins_second = by_size (λ l. IsPrefix ys l) (length ys) (length xs) xs ys (λ le. shorter_prefix ys xs zs q p le) (λ _. prefix_refl ys)

pub entries_of-prefix : (number : ℕ) (xs ys : List Entry) → IsPrefix xs ys → IsPrefix (entries_of number xs) (entries_of number ys)
entries_of-prefix number xs ys p = (entries_of number p.0, sym (filter-append (λ (e : Entry). nat_eq e.client number) xs p.0) ∙ ap (entries_of number) p.1)

-- where a client has fewer entries than are known of its word, it may have one more
pub entries_of-push : (log : List Entry) (known : List ℕ) (e : Entry) → length (entries_of e.client log) < slice_index known e.client
    → ((i : ℕ) → length (entries_of i log) ≤ slice_index known i) → (i : ℕ) → length (entries_of i (log ++ e ∷ [])) ≤ slice_index known i
entries_of-push log known e fewer all i =
    let joined : entries_of i (log ++ e ∷ []) ≡ entries_of i log ++ entries_of i (e ∷ []) = filter-append (λ (x : Entry). nat_eq x.client i) log (e ∷ []) in
    let long = length-append (entries_of i log) (entries_of i (e ∷ [])) in
    subst (λ (l : List Entry). length l ≤ slice_index known i) (sym joined) (⊎_elim (own long) (other long) (eqb_tells e.client i))
  where
    own : length (entries_of i log ++ entries_of i (e ∷ [])) ≡ length (entries_of i log) + length (entries_of i (e ∷ [])) → (eqb e.client i ≡ true) × (e.client ≡ i)
        → length (entries_of i log ++ entries_of i (e ∷ [])) ≤ slice_index known i
    own long t =
        let one : length (entries_of i (e ∷ [])) ≡ 1 = ap (λ (b : Bool). length (cond b (e ∷ []) [])) t.0 in
        omega (arith, long, one, subst (λ (j : ℕ). length (entries_of j log) < slice_index known j) t.1 fewer)

    other : length (entries_of i log ++ entries_of i (e ∷ [])) ≡ length (entries_of i log) + length (entries_of i (e ∷ [])) → (eqb e.client i ≡ false) × (e.client ≡ i → ⊥)
        → length (entries_of i log ++ entries_of i (e ∷ [])) ≤ slice_index known i
    other long t =
        let none : length (entries_of i (e ∷ [])) ≡ 0 = ap (λ (b : Bool). length (cond b (e ∷ []) [])) t.0 in
        omega (arith, long, none, all i)

-- looks that stay within a bound
pub largest-push : (looks : List ℕ) (n bound : ℕ) → largest looks ≤ bound → n ≤ bound → largest (looks ++ n ∷ []) ≤ bound
largest-push [] n bound all le = omega arith
largest-push (m ∷ ms) n bound all le = omega (arith, largest-push ms n bound (omega arith) le)

pub with_length_below : (looks : List ℕ) (n bound : ℕ) → largest looks ≤ bound → n ≤ bound → largest (with_length looks n) ≤ bound
with_length_below looks n bound all le = by_size (λ l. largest l ≤ bound) (largest looks) n (looks ++ n ∷ []) looks (λ _. largest-push looks n bound all le) (λ _. all)
