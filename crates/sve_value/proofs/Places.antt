-- Bits by their places: how moves of words are moves of lists.
use Rattle.std.proofs.Common.{◌≡◌, ℕ, zero, suc, ◌+◌, ◌-◌, ◌*◌, ◌/◌, ◌%◌, ◌<◌, ◌≤◌, ◌^◌, ◌==◌, if◌then◌else◌, List, ◌∷◌, length, take, replicate, get_or, slice_get, Some, refl, ap, ◌∙◌, sym, subst, arith, bit_or, max, inl, inr}
use Rattle.std.specs.Int.{bit_at}
use Rattle.std.proofs.lemmas.Bool.{cases_lt}
use Rattle.std.proofs.lemmas.Nat.{pow_pos, one_shl, shr-shr, field_of}
use Rattle.std.proofs.lemmas.Nat.Bits.{bit_at_lowest, bit_at-suc, bit_at_or, bit_at_ones, bit_at_ones_above, bit_at-zero, bit_at_cat_low, bit_at_cat_high}
use Rattle.std.proofs.lemmas.List.{same_lists, get_or_default, get_or-replicate, get_or-take, length-take-le, length-replicate}
use Rattle.sve_value.specs.declared.bit.Bit.{Bit}
use Rattle.sve_value.specs.declared.bit.Bit.TheVariants.{Zero, One, X, Z}
use Rattle.sve_value.specs.Planes.{bit_of, planes, ones_digit, unknowns_digit}
use Rattle.sve_value.specs.Back.{length-planes, half_below}
use Rattle.sve_value.specs.Numbers.{leftmost}
use Rattle.sve_value.proofs.Words.{low_digit-mod}

pub by_order : {P : Type 0} (a b : ℕ) → (a < b → P) → (b ≤ a → P) → P
by_order a b f g = elim (cases_lt a b) [ inl h ↦ f h | inr h ↦ g h ]

-- the bit that two words have at a place
abbrev pub bit_in : ℕ → ℕ → ℕ → Bit
bit_in o u i = bit_of (bit_at o i) (bit_at u i)

bit_in-lowest : (o u : ℕ) → bit_of (o % 2) (u % 2) ≡ bit_in o u 0
bit_in-lowest o u = rw (bit_at_lowest o, bit_at_lowest u) refl

bit_in-suc : (o u i : ℕ) → bit_in (o / 2) (u / 2) i ≡ bit_in o u (suc i)
bit_in-suc o u i = rw (bit_at-suc o i, bit_at-suc u i) refl

pub get_or-planes : (width o u i : ℕ) (d : Bit) → i < width → get_or (planes width o u) i d ≡ bit_in o u i
unfolding planes
get_or-planes zero o u i d l = absurd (omega arith)
get_or-planes (suc width) o u zero d l = bit_in-lowest o u
get_or-planes (suc width) o u (suc i) d l = get_or-planes width (o / 2) (u / 2) i d (omega arith) ∙ bit_in-suc o u i

pub slice_get-planes : (width o u i : ℕ) → i < width → slice_get (planes width o u) i ≡ Some (bit_in o u i)
unfolding planes
slice_get-planes zero o u i l = absurd (omega arith)
slice_get-planes (suc width) o u zero l = ap (λ b. Some b) (bit_in-lowest o u)
slice_get-planes (suc width) o u (suc i) l = slice_get-planes width (o / 2) (u / 2) i (omega arith) ∙ ap (λ b. Some b) (bit_in-suc o u i)

-- words stand for a list where they have its bit at each place
pub same_planes : (width p q : ℕ) (d : Bit) (bs : List Bit) → length bs ≡ width → ((i : ℕ) → i < width → bit_in p q i ≡ get_or bs i d) → planes width p q ≡ bs
same_planes width p q d bs e h = same_lists (planes width p q) bs (length-planes width p q ∙ sym e)
    (λ i d' l. let k : i < width = omega (arith, length-planes width p q) in
    get_or-planes width p q i d' k ∙ h i k ∙ get_or_default bs i d d' (omega (arith, k, e)))

-- ---- one word

pub set_digit : (i : ℕ) → i < 128 → bit_at (2 ^ 128 - 1) i ≡ 1
set_digit i l = bit_at_ones 128 i l

bit_at-mod : (n i : ℕ) → i < 128 → bit_at (n % 2 ^ 128) i ≡ bit_at n i
bit_at-mod n i l =
    let e : suc (128 - suc i) + i ≡ 128 = omega arith in
    let P : ℕ → Type 0 = λ k. bit_at (n % 2 ^ k) i ≡ bit_at n i in
    subst P e (ap (λ m. m % 2) (field_of n (suc (128 - suc i)) i) ∙ low_digit-mod (128 - suc i) (n / 2 ^ i))

pub raised_low : (n by i : ℕ) → by < 128 → i < by → bit_at (n * 2 ^ by % 2 ^ 128) i ≡ 0
raised_low n by i h l = bit_at-mod (n * 2 ^ by) i (omega arith) ∙
    (let e : n * 2 ^ by + 0 ≡ n * 2 ^ by = omega arith in
    let P : ℕ → Type 0 = λ m. bit_at m i ≡ 0 in
    subst P e (bit_at_cat_low n by 0 i l ∙ bit_at-zero i))

pub raised_high : (n by i : ℕ) → by ≤ i → i < 128 → bit_at (n * 2 ^ by % 2 ^ 128) i ≡ bit_at n (i - by)
raised_high n by i h l = bit_at-mod (n * 2 ^ by) i l ∙
    (let e : n * 2 ^ by + 0 ≡ n * 2 ^ by = omega arith in
    let P : ℕ → Type 0 = λ m. bit_at m i ≡ bit_at n (i - by) in
    subst P e (bit_at_cat_high n by 0 i (pow_pos by) h))

max-zero-left : (n : ℕ) → max 0 n ≡ n
max-zero-left n = omega arith

max-zero-right : (n : ℕ) → max n 0 ≡ n
max-zero-right n = omega arith

-- the same with the places below set
low_ones : (by : ℕ) → by < 128 → 1 * 2 ^ by % 2 ^ 128 - 1 ≡ 2 ^ by - 1
low_ones by h = ap (λ n. n - 1) (one_shl by 128 h)

pub raised_low_set : (n by i : ℕ) → by < 128 → i < by → bit_at (bit_or (n * 2 ^ by % 2 ^ 128) (1 * 2 ^ by % 2 ^ 128 - 1)) i ≡ 1
raised_low_set n by i h l = rw (low_ones by h) (bit_at_or (n * 2 ^ by % 2 ^ 128) (2 ^ by - 1) i ∙
    rw (raised_low n by i h l, bit_at_ones by i l) refl)

pub raised_high_set : (n by i : ℕ) → by < 128 → by ≤ i → i < 128 → bit_at (bit_or (n * 2 ^ by % 2 ^ 128) (1 * 2 ^ by % 2 ^ 128 - 1)) i ≡ bit_at n (i - by)
raised_high_set n by i h l k = rw (low_ones by h) (bit_at_or (n * 2 ^ by % 2 ^ 128) (2 ^ by - 1) i ∙
    rw (raised_high n by i l k, bit_at_ones_above by i l) (max-zero-right (bit_at n (i - by))))

-- ---- lists

-- the digits of a bit give it back
pub digits_back : (b : Bit) → bit_of (if ones_digit b == 1 then 1 else 0) (if unknowns_digit b == 1 then 1 else 0) ≡ b
digits_back Zero = refl
digits_back One = refl
digits_back X = refl
digits_back Z = refl

pub filled_planes : (width p q : ℕ) (b : Bit) → width ≤ 128 →
    ((i : ℕ) → i < 128 → bit_at p i ≡ (if ones_digit b == 1 then 1 else 0)) →
    ((i : ℕ) → i < 128 → bit_at q i ≡ (if unknowns_digit b == 1 then 1 else 0)) →
    planes width p q ≡ replicate width b
filled_planes width p q b h f g = same_planes width p q b (replicate width b) (length-replicate width b) (λ i l.
    let k : i < 128 = omega arith in
    rw (f i k, g i k) (digits_back b ∙ sym (get_or-replicate width i b b l)))

pub shift_in_planes : (width o u p q : ℕ) (b : Bit) → width ≤ 128 →
    ((i : ℕ) → i < 1 → bit_at p i ≡ (if ones_digit b == 1 then 1 else 0)) → ((i : ℕ) → 1 ≤ i → i < 128 → bit_at p i ≡ bit_at o (i - 1)) →
    ((i : ℕ) → i < 1 → bit_at q i ≡ (if unknowns_digit b == 1 then 1 else 0)) → ((i : ℕ) → 1 ≤ i → i < 128 → bit_at q i ≡ bit_at u (i - 1)) →
    planes width p q ≡ take width (b ∷ planes width o u)
shift_in_planes width o u p q b h pl ph ql qh = same_planes width p q Zero (take width (b ∷ planes width o u))
    (length-take-le width (b ∷ planes width o u) (omega (arith, length-planes width o u)))
    (λ i l. at_place i l (omega arith) ∙ sym (get_or-take width (b ∷ planes width o u) i Zero l))
  where
    at_place : (i : ℕ) → i < width → i < 128 → bit_in p q i ≡ get_or (b ∷ planes width o u) i Zero
    at_place zero l k = rw (pl 0 (omega arith), ql 0 (omega arith)) (digits_back b)
    at_place (suc i) l k =
        let e : suc i - 1 ≡ i = omega arith in
        rw (ph (suc i) (omega arith) k, qh (suc i) (omega arith) k, e) (sym (get_or-planes width o u i Zero (omega arith)))

-- the most significant bit
pub leftmost-planes : (width o u : ℕ) → 1 ≤ width → o < 2 ^ width → u < 2 ^ width → leftmost (planes width o u) ≡ bit_of (o / 2 ^ (width - 1)) (u / 2 ^ (width - 1))
unfolding planes leftmost
leftmost-planes zero o u h a b = absurd (omega arith)
leftmost-planes (suc zero) o u h a b =
    let e : o % 2 ≡ o / 1 = omega arith in let f : u % 2 ≡ u / 1 = omega arith in rw (e, f) refl
leftmost-planes (suc (suc width)) o u h a b =
    leftmost-planes (suc width) (o / 2) (u / 2) (omega arith) (half_below (suc width) o a) (half_below (suc width) u b) ∙ rw (step o width, step u width) refl
  where
    step : (n width : ℕ) → n / 2 / 2 ^ (suc width - 1) ≡ n / 2 ^ (suc (suc width) - 1)
    step n width = let e : suc width - 1 ≡ width = omega arith in let f : suc (suc width) - 1 ≡ 1 + width = omega arith in rw (e, f) (shr-shr n 1 width)
