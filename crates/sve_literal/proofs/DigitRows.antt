-- Digits one after another.
use Rattle.std.proofs.Common.{◌≡◌, ℕ, zero, suc, ◌+◌, ◌-◌, ◌*◌, ◌%◌, ◌^◌, ◌<◌, ◌≤◌, min, Bool, true, false, List, [], ◌∷◌, ◌++◌, length, take, drop, get_or, Some, refl, ap, sym, ◌∙◌, if◌then◌else◌, arith}
use Rattle.std.proofs.lemmas.List.{drop_more, take-take, length-take-le}
use Rattle.std.proofs.lemmas.Option.{get_or_from_slice_get}
use Rattle.std.proofs.lemmas.Nat.{mul-mod_second}
use Rattle.std.proofs.Math.Nat.{add-mod, mod-mod, mod-eq_of_lt}
use Rattle.std.specs.Prelude.{slice_get}
use Rattle.sve_value.proofs.Words.{length-binary}
use Rattle.sve_value.proofs.Integers.{low-size, low-cut}
use Rattle.sve_value.specs.Numbers.{number_of}
use Rattle.std.proofs.Math.ListN.{drop_of_length-le}
use Rattle.sve_value.specs.declared.bit.Bit.{Bit}
use Rattle.sve_value.specs.declared.bit.Bit.TheVariants.{Zero}
use Rattle.sve_value.specs.Vector.{Vector}
use Rattle.sve_literal.specs.Digits.{number_behind, decimal_from, is_between, is_number_letter, digit_of, behind_of, digits_behind, padding_of, pads_with}

pub decimal_step : (cs : List ℕ) (i n : ℕ) → i < length cs → decimal_from (number_behind n (get_or cs i 0)) (drop (i + 1) cs) ≡ decimal_from n (drop i cs)
unfolding decimal_from
decimal_step cs i n h = rw (drop_more cs i 0 h) refl

pub decimal_end : (cs : List ℕ) (i n : ℕ) → length cs ≤ i → decimal_from n (drop i cs) ≡ n
unfolding decimal_from
decimal_end cs i n h = rw (drop_of_length-le cs h) refl

-- digits behind a number that is too large already
pub capped : (m n : ℕ) (cs : List ℕ) → min m 4294967296 ≡ min n 4294967296 → min (decimal_from m cs) 4294967296 ≡ min (decimal_from n cs) 4294967296
unfolding decimal_from
capped m n [] h = h
capped m n (c ∷ cs) h = capped (number_behind m c) (number_behind n c) cs (by (is_between 48 57 c))
  where
    by : (b : Bool) → min (if b then 10 * m + (c - 48) else m) 4294967296 ≡ min (if b then 10 * n + (c - 48) else n) 4294967296
    by true = omega arith
    by false = h

pub capped_step : (cs : List ℕ) (i m n : ℕ) → i < length cs → m ≡ min (number_behind n (get_or cs i 0)) 4294967296 →
    min (decimal_from m (drop (i + 1) cs)) 4294967296 ≡ min (decimal_from n (drop i cs)) 4294967296
capped_step cs i m n h k = capped m (number_behind n (get_or cs i 0)) (drop (i + 1) cs) (omega arith) ∙ ap (λ (x : ℕ). min x 4294967296) (decimal_step cs i n h)

-- digits behind the lowest digits of a number in base two
behind_low : (m n c k : ℕ) → m % k ≡ n % k → number_behind m c % k ≡ number_behind n c % k
behind_low m n c k h = by (is_between 48 57 c)
  where
    by : (b : Bool) → (if b then 10 * m + (c - 48) else m) % k ≡ (if b then 10 * n + (c - 48) else n) % k
    by true = add-mod (10 * m) (c - 48) k ∙ ap (λ (x : ℕ). (x + (c - 48) % k) % k) (sym (mul-mod_second 10 m k) ∙ ap (λ (x : ℕ). (10 * x) % k) h ∙ mul-mod_second 10 n k) ∙ sym (add-mod (10 * n) (c - 48) k)
    by false = h

low : (m n k : ℕ) (cs : List ℕ) → m % k ≡ n % k → decimal_from m cs % k ≡ decimal_from n cs % k
unfolding decimal_from
low m n k [] h = h
low m n k (c ∷ cs) h = low (number_behind m c) (number_behind n c) k cs (behind_low m n c k h)

pub low_step : (cs : List ℕ) (i m n k : ℕ) → i < length cs → m ≡ number_behind n (get_or cs i 0) % k → decimal_from m (drop (i + 1) cs) % k ≡ decimal_from n (drop i cs) % k
low_step cs i m n k h e = low m (number_behind n (get_or cs i 0)) k (drop (i + 1) cs) (ap (λ (x : ℕ). x % k) e ∙ mod-mod (number_behind n (get_or cs i 0)) k) ∙ ap (λ (x : ℕ). x % k) (decimal_step cs i n h)

pub low_end : (cs : List ℕ) (i n k : ℕ) → length cs ≤ i → n < k → decimal_from n (drop i cs) % k ≡ n
low_end cs i n k h l = ap (λ (x : ℕ). x % k) (decimal_end cs i n h) ∙ mod-eq_of_lt l

-- a value sees the lowest digits alone
pub number_cut : (width n : ℕ) (s : Bool) → width ≤ 128 → number_of width s (n % 2 ^ 128) ≡ number_of width s n
number_cut width n s h = ap (λ (bs : List Bit). record { signed = s; bits = bs }) (low-size width (n % 2 ^ 128) false refl ∙ low-cut width n false h ∙ sym (low-size width n false refl))

-- the letters of a number
pub padding_here : (cs : List ℕ) (i : ℕ) → i < length cs → is_number_letter (get_or cs i 0) ≡ true → padding_of (drop i cs) ≡ pads_with (get_or cs i 0)
unfolding padding_of
padding_here cs i h e = rw (drop_more cs i 0 h, e) refl

pub padding_later : (cs : List ℕ) (i : ℕ) → i < length cs → is_number_letter (get_or cs i 0) ≡ false → padding_of (drop i cs) ≡ padding_of (drop (i + 1) cs)
unfolding padding_of
padding_later cs i h e = rw (drop_more cs i 0 h, e) refl

pub padding_end : (cs : List ℕ) (i : ℕ) → length cs ≤ i → padding_of (drop i cs) ≡ Zero
unfolding padding_of
padding_end cs i h = rw (drop_of_length-le cs h) refl

-- the digits of a value
pub digits_step : (places : ℕ) (cs : List ℕ) (i : ℕ) (v : Vector) → i < length cs →
    digits_behind places (drop (i + 1) cs) (if is_number_letter (get_or cs i 0) then behind_of v (digit_of places (get_or cs i 0)) else v) ≡ digits_behind places (drop i cs) v
unfolding digits_behind
digits_step places cs i v h = rw (drop_more cs i 0 h) refl

pub digits_end : (places : ℕ) (cs : List ℕ) (i : ℕ) (v : Vector) → length cs ≤ i → digits_behind places (drop i cs) v ≡ v
unfolding digits_behind
digits_end places cs i v h = rw (drop_of_length-le cs h) refl

-- one more bit of a digit
take_again : (w : ℕ) (b : Bit) (xs : List Bit) → take w (b ∷ take w xs) ≡ take w (b ∷ xs)
take_again zero b xs = refl
take_again (suc w) b xs = ap (λ (ys : List Bit). b ∷ ys) (take-take w (suc w) xs (omega arith))

pub bit_behind : (w places done : ℕ) (digit before now : List Bit) (b : Bit) → length digit ≡ places → done < places → slice_get digit (places - 1 - done) ≡ Some b →
    now ≡ take w (drop (places - done) digit ++ before) → take w (b ∷ now) ≡ take w (drop (places - (done + 1)) digit ++ before)
bit_behind w places done digit before now b l h g e =
    let i : places - 1 - done < length digit = omega arith in
    let j : places - (done + 1) ≡ places - 1 - done = omega arith in
    let k : places - 1 - done + 1 ≡ places - done = omega arith in
    ap (λ (xs : List Bit). take w (b ∷ xs)) e ∙ take_again w b (drop (places - done) digit ++ before)
    ∙ ap (λ (xs : List Bit). take w (xs ++ before)) (sym (ap (λ (n : ℕ). drop n digit) j ∙ drop_more digit (places - 1 - done) b i ∙ ap (λ (x : Bit). x ∷ drop (places - 1 - done + 1) digit) (get_or_from_slice_get digit (places - 1 - done) b b g) ∙ ap (λ (n : ℕ). b ∷ drop n digit) k))

pub number_bits : (places n : ℕ) → length (number_of places false n).bits ≡ places
number_bits places n = length-binary places n

pub length_shifted : (bs : List Bit) (b : Bit) → length (take (length bs) (b ∷ bs)) ≡ length bs
length_shifted bs b = length-take-le (length bs) (b ∷ bs) (omega arith)
