-- Truth and reductions over words.
use Rattle.std.proofs.Common.{◌≡◌, ℕ, zero, suc, ◌+◌, ◌-◌, ◌/◌, ◌%◌, ◌<◌, ◌≤◌, ◌^◌, Bool, true, false, ◌&&◌, ◌||◌, ◌==◌, if◌then◌else◌, Option, Some, None, List, [], ◌∷◌, refl, ap, ◌∙◌, sym, arith, inl, inr, lit<}
use Rattle.std.specs.List.{list_any, list_all}
use Rattle.std.specs.Int.Count.{ones as count_ones, ones_step}
use Rattle.std.proofs.lemmas.Nat.{and_le_l, and_mask, ones_le_self}
use Rattle.std.proofs.Math.Nat.{mod-eq_of_lt}
use Rattle.sve_value.specs.declared.bit.Bit.{Bit}
use Rattle.sve_value.specs.declared.bit.Bit.TheVariants.{Zero, One, X, Z}
use Rattle.sve_value.specs.Planes.{bit_of, planes}
use Rattle.sve_value.specs.Back.{is_digit, half_below}
use Rattle.sve_value.specs.Bitwise.{each, not_bit, and_bit, or_bit, xor_bit}
use Rattle.sve_value.specs.Numbers.{is_one, is_zero}
use Rattle.sve_value.specs.Truths.{truth_bit, conjunction, disjunction, parity}
use Rattle.sve_value.proofs.Words.{below_128}
use Rattle.sve_value.proofs.Gates.{Gate, left_ones, left_unknowns, meet, invert, word, Fit, lowest, rest}

-- the places of known ones
abbrev pub known_ones : Gate
known_ones = meet left_ones (invert left_unknowns)

halves : (k o u : ℕ) → o < 2 ^ suc k → u < 2 ^ suc k → Fit k (o / 2) (u / 2) (o / 2) (u / 2)
halves k o u h l = record { first = half_below k o h; second = half_below k u l; third = half_below k o h; fourth = half_below k u l }

same_fit : (k o u : ℕ) → o < 2 ^ k → u < 2 ^ k → Fit k o u o u
same_fit k o u h l = record { first = h; second = l; third = h; fourth = l }

pub any-one : (width k o u : ℕ) → width ≤ k → o < 2 ^ width → o < 2 ^ k → u < 2 ^ k → 0 < word k o u o u known_ones → list_any is_one (planes width o u) ≡ true
unfolding planes
any-one zero k o u l a b c h = absurd (omega (arith, and_le_l o (2 ^ k - 1 - u)))
any-one (suc width) zero o u l a b c h = absurd (omega arith)
any-one (suc width) (suc k) o u l a b c h =
    let low = lowest k o u o u (same_fit (suc k) o u b c) known_ones in
    let high = rest k o u o u (same_fit (suc k) o u b c) known_ones in
    let below : 0 < word k (o / 2) (u / 2) (o / 2) (u / 2) known_ones → list_any is_one (planes width (o / 2) (u / 2)) ≡ true =
    any-one width k (o / 2) (u / 2) (omega arith) (half_below width o a) (half_below k o b) (half_below k u c) in
    elim (is_digit o) [
      | inl p ↦ elim (is_digit u) [
        | inl q ↦ (let e = rw p at low in rw (p, q, below (omega (arith, e, high))) refl)
        | inr q ↦ (let e = rw p at low in rw (p, q, below (omega (arith, e, high))) refl)
      ]
      | inr p ↦ elim (is_digit u) [
        | inl q ↦ rw (p, q) refl
        | inr q ↦ (let e = rw (p, q) at low in rw (p, q, below (omega (arith, e, high))) refl)
      ]
    ]

pub any-none : (width k o u : ℕ) → width ≤ k → o < 2 ^ k → u < 2 ^ k → word k o u o u known_ones ≡ 0 → list_any is_one (planes width o u) ≡ false
unfolding planes
any-none zero k o u l b c h = refl
any-none (suc width) zero o u l b c h = absurd (omega arith)
any-none (suc width) (suc k) o u l b c h =
    let low = lowest k o u o u (same_fit (suc k) o u b c) known_ones in
    let high = rest k o u o u (same_fit (suc k) o u b c) known_ones in
    let below : list_any is_one (planes width (o / 2) (u / 2)) ≡ false =
    any-none width k (o / 2) (u / 2) (omega arith) (half_below k o b) (half_below k u c) (omega (arith, high)) in
    elim (is_digit o) [
      | inl p ↦ elim (is_digit u) [ inl q ↦ rw (p, q, below) refl | inr q ↦ rw (p, q, below) refl ]
      | inr p ↦ elim (is_digit u) [
        | inl q ↦ (let e = rw (p, q) at low in absurd (omega (arith, e, h)))
        | inr q ↦ rw (p, q, below) refl
      ]
    ]

pub all-zero : (width : ℕ) → list_all is_zero (planes width 0 0) ≡ true
unfolding planes
all-zero zero = refl
all-zero (suc width) = rw (all-zero width) refl

and-false : (b : Bool) → (b && false) ≡ false
and-false true = refl
and-false false = refl

pub all-unknown : (width o u : ℕ) → u < 2 ^ width → 0 < u → list_all is_zero (planes width o u) ≡ false
unfolding planes
all-unknown zero o u h k = absurd (omega arith)
all-unknown (suc width) o u h k = elim (is_digit u) [
  | inl q ↦ rw (all-unknown width (o / 2) (u / 2) (half_below width u h) (omega arith)) (and-false (is_zero (bit_of (o % 2) (u % 2))))
  | inr q ↦ elim (is_digit o) [ inl p ↦ rw (p, q) refl | inr p ↦ rw (p, q) refl ]
]

-- ---- truth as a test of the two kinds of bits

abbrev pub truth_by : Bool → Bool → Option Bool
truth_by any all = if any then Some true else (if all then Some false else None)

one_more : (b : Bit) (any all : Bool) → truth_bit (truth_by (is_one b || any) (is_zero b && all)) ≡ or_bit b (truth_bit (truth_by any all))
one_more Zero true true = refl
one_more Zero true false = refl
one_more Zero false true = refl
one_more Zero false false = refl
one_more One true true = refl
one_more One true false = refl
one_more One false true = refl
one_more One false false = refl
one_more X true true = refl
one_more X true false = refl
one_more X false true = refl
one_more X false false = refl
one_more Z true true = refl
one_more Z true false = refl
one_more Z false true = refl
one_more Z false false = refl

-- a value is true as far as one of its bits is
pub disjunction-truth : (bs : List Bit) → truth_bit (truth_by (list_any is_one bs) (list_all is_zero bs)) ≡ disjunction bs
unfolding disjunction
disjunction-truth [] = refl
disjunction-truth (b ∷ bs) = one_more b (list_any is_one bs) (list_all is_zero bs) ∙ ap (or_bit b) (disjunction-truth bs)

dual : (a b : Bit) → not_bit (or_bit (not_bit a) b) ≡ and_bit a (not_bit b)
dual Zero Zero = refl
dual Zero One = refl
dual Zero X = refl
dual Zero Z = refl
dual One Zero = refl
dual One One = refl
dual One X = refl
dual One Z = refl
dual X Zero = refl
dual X One = refl
dual X X = refl
dual X Z = refl
dual Z Zero = refl
dual Z One = refl
dual Z X = refl
dual Z Z = refl

pub conjunction-dual : (bs : List Bit) → not_bit (disjunction (each not_bit bs)) ≡ conjunction bs
unfolding conjunction disjunction each
conjunction-dual [] = refl
conjunction-dual (b ∷ bs) = dual b (disjunction (each not_bit bs)) ∙ ap (and_bit b) (conjunction-dual bs)

-- ---- parity

unknown_left : (b : Bit) → xor_bit X b ≡ X
unknown_left Zero = refl
unknown_left One = refl
unknown_left X = refl
unknown_left Z = refl

floating_left : (b : Bit) → xor_bit Z b ≡ X
floating_left Zero = refl
floating_left One = refl
floating_left X = refl
floating_left Z = refl

unknown_right : (b : Bit) → xor_bit b X ≡ X
unknown_right Zero = refl
unknown_right One = refl
unknown_right X = refl
unknown_right Z = refl

pub parity-unknown : (width o u : ℕ) → u < 2 ^ width → 0 < u → parity (planes width o u) ≡ X
unfolding planes parity
parity-unknown zero o u h k = absurd (omega arith)
parity-unknown (suc width) o u h k = elim (is_digit u) [
  | inl q ↦ rw (parity-unknown width (o / 2) (u / 2) (half_below width u h) (omega arith)) (unknown_right (bit_of (o % 2) (u % 2)))
  | inr q ↦ elim (is_digit o) [
    | inl p ↦ rw (p, q) (unknown_left (parity (planes width (o / 2) (u / 2))))
    | inr p ↦ rw (p, q) (floating_left (parity (planes width (o / 2) (u / 2))))
  ]
]

odd_more : (d n : ℕ) → xor_bit (bit_of (d % 2) 0) (if n % 2 == 1 then One else Zero) ≡ (if (d % 2 + n) % 2 == 1 then One else Zero)
odd_more d n = elim (is_digit d) [
  | inl p ↦ elim (is_digit n) [
    | inl q ↦ (let e : (0 + n) % 2 ≡ 0 = omega (arith, q) in rw (p, q, e) refl)
    | inr q ↦ (let e : (0 + n) % 2 ≡ 1 = omega (arith, q) in rw (p, q, e) refl)
  ]
  | inr p ↦ elim (is_digit n) [
    | inl q ↦ (let e : (1 + n) % 2 ≡ 1 = omega (arith, q) in rw (p, q, e) refl)
    | inr q ↦ (let e : (1 + n) % 2 ≡ 0 = omega (arith, q) in rw (p, q, e) refl)
  ]
]

pub parity-known : (width o : ℕ) → o < 2 ^ width → parity (planes width o 0) ≡ (if count_ones o % 2 == 1 then One else Zero)
unfolding planes parity
parity-known zero o h = let e : o ≡ 0 = omega arith in let f : count_ones 0 ≡ 0 = omega (arith, ones_le_self 0) in rw (e, f) refl
parity-known (suc width) o h = rw (parity-known width (o / 2) (half_below width o h)) (odd_more o (count_ones (o / 2)) ∙
    ap (λ n. if n % 2 == 1 then One else Zero) (sym (ones_step o)))

-- ---- what the words of a value decide

pub is_true : (width o u : ℕ) → width ≤ 128 → o < 2 ^ width → u < 2 ^ width → 0 < word 128 o u o u known_ones → Some true ≡ truth_by (list_any is_one (planes width o u)) (list_all is_zero (planes width o u))
is_true width o u l a b h = rw (any-one width 128 o u l a (below_128 width o l a) (below_128 width u l b) h) refl

-- with no known 1 and nothing unknown there is no digit at all
all_clear : (o : ℕ) → o < 2 ^ 128 → word 128 o 0 o 0 known_ones ≡ 0 → o ≡ 0
all_clear o a h = omega (arith, mod-eq_of_lt a, and_mask o 128, h)

pub is_false : (width o u : ℕ) → width ≤ 128 → o < 2 ^ width → u ≡ 0 → word 128 o u o u known_ones ≡ 0 → Some false ≡ truth_by (list_any is_one (planes width o u)) (list_all is_zero (planes width o u))
is_false width o u l a e h =
    let g = rw e at h in
    let f : o ≡ 0 = all_clear o (below_128 width o l a) g in
    rw (any-none width 128 o u l (below_128 width o l a) (rw e (lit< tt)) h, e, f, all-zero width) refl

pub is_neither : (width o u : ℕ) → width ≤ 128 → o < 2 ^ width → u < 2 ^ width → word 128 o u o u known_ones ≡ 0 → 0 < u → None ≡ truth_by (list_any is_one (planes width o u)) (list_all is_zero (planes width o u))
is_neither width o u l a b h k = rw (any-none width 128 o u l (below_128 width o l a) (below_128 width u l b) h, all-unknown width o u b k) refl

pub parity-odd : (width o u : ℕ) → o < 2 ^ width → u ≡ 0 → count_ones o % 2 ≡ 1 → One ≡ parity (planes width o u)
parity-odd width o u a e h = rw (e, parity-known width o a, h) refl

pub parity-even : (width o u : ℕ) → o < 2 ^ width → u ≡ 0 → count_ones o % 2 ≡ 0 → Zero ≡ parity (planes width o u)
parity-even width o u a e h = rw (e, parity-known width o a, h) refl
