-- Windows on a list: what the words of a moved value stand for.
use Rattle.std.proofs.Common.{◌≡◌, ℕ, zero, suc, ◌+◌, ◌-◌, ◌*◌, ◌/◌, ◌%◌, ◌<◌, ◌≤◌, ◌^◌, ◌==◌, if◌then◌else◌, List, [], ◌∷◌, ◌++◌, length, take, drop, replicate, get_or, refl, ap, ◌∙◌, sym, subst, arith, bit_or, max, pos}
use Rattle.std.specs.Int.{bit_at}
use Rattle.std.proofs.lemmas.Nat.{pow_pos, shr-shr, shr_below, shl_whole, or_shifted}
use Rattle.std.proofs.lemmas.Nat.Bits.{bit_at_or, bit_at_above, bit_at_mask_inside, bit_at_mask_below}
use Rattle.std.proofs.lemmas.List.{get_or_append_left, get_or-append_right, get_or-replicate, get_or-take, get_or-drop, get_or_past, length-append, length-replicate, length-take-le, take-append-le, take-replicate}
use Rattle.std.proofs.Math.ListN.{drop_of_length-le}
use Rattle.std.proofs.Math.Nat.{pow-suc}
use Rattle.sve_value.specs.declared.bit.Bit.{Bit}
use Rattle.sve_value.specs.Planes.{bit_of, planes, ones_digit, unknowns_digit}
use Rattle.sve_value.specs.Back.{length-planes, half_below}
use Rattle.sve_value.specs.Moves.{window}
use Rattle.sve_value.proofs.Places.{by_order, get_or-planes, same_planes, digits_back}

-- ---- one word

complement : (width : ℕ) → 2 ^ 128 - 1 - (2 ^ width - 1) ≡ 2 ^ 128 - 2 ^ width
complement width = omega (arith, pow_pos width)

max-zero : (n : ℕ) → max n 0 ≡ n
max-zero n = omega arith

pub padded_low : (width n i : ℕ) → i < width → bit_at (bit_or n (2 ^ 128 - 1 - (2 ^ width - 1))) i ≡ bit_at n i
padded_low width n i l = rw (complement width) (bit_at_or n (2 ^ 128 - 2 ^ width) i ∙ rw (bit_at_mask_below width 128 i l) (max-zero (bit_at n i)))

pub padded_high : (width n i : ℕ) → n < 2 ^ width → width ≤ i → i < 128 → bit_at (bit_or n (2 ^ 128 - 1 - (2 ^ width - 1))) i ≡ 1
padded_high width n i h l k = rw (complement width) (bit_at_or n (2 ^ 128 - 2 ^ width) i ∙ rw (bit_at_above n width i h l, bit_at_mask_inside width 128 i l k) refl)

pub shifted_fits : (width low n : ℕ) → low < width → n < 2 ^ width → n / 2 ^ low < 2 ^ (width - low)
shifted_fits width low n l h =
    let e : width - low + low ≡ width = omega arith in
    let P : ℕ → Type 0 = λ k. n < 2 ^ k in
    shr_below n (width - low) low (subst P (sym e) h)

bit_at-shifted : (n low i : ℕ) → bit_at (n / 2 ^ low) i ≡ bit_at n (low + i)
bit_at-shifted n low i = ap (λ m. m % 2) (shr-shr n low i)

-- ---- lists

-- more of the bit that stands outside changes no place
get_or-padded : (bs : List Bit) (n i : ℕ) (out : Bit) → get_or (bs ++ replicate n out) i out ≡ get_or bs i out
get_or-padded bs n i out = by_order i (length bs)
    (λ h. get_or_append_left bs (replicate n out) out i h)
    (λ h. get_or-append_right bs (replicate n out) (length bs) i out refl h ∙
    by_order (i - length bs) n
    (λ k. get_or-replicate n (i - length bs) out out k)
    (λ k. get_or_past (replicate n out) (i - length bs) out (omega (arith, length-replicate n out, k))) ∙
    sym (get_or_past bs i out h))

fixed_length : (width : ℕ) (bs : List Bit) (out : Bit) → length (take width (bs ++ replicate width out)) ≡ width
fixed_length width bs out = length-take-le width (bs ++ replicate width out) (omega (arith, length-append bs (replicate width out), length-replicate width out))

get_or-above : (low width i : ℕ) (bs : List Bit) (out : Bit) → i < width → get_or (take width (drop low bs ++ replicate width out)) i out ≡ get_or bs (low + i) out
get_or-above low width i bs out l =
    get_or-take width (drop low bs ++ replicate width out) i out l ∙ get_or-padded (drop low bs) width i out ∙ get_or-drop low bs i out

get_or-below : (below width i : ℕ) (bs : List Bit) (out : Bit) → i < width → get_or (take width (replicate below out ++ bs ++ replicate width out)) i out ≡ get_or (replicate below out ++ bs) i out
get_or-below below width i bs out l =
    get_or-take width (replicate below out ++ bs ++ replicate width out) i out l ∙ get_or-padded (replicate below out ++ bs) width i out

get_or-behind : (below i : ℕ) (bs : List Bit) (out : Bit) → below ≤ i → get_or (replicate below out ++ bs) i out ≡ get_or bs (i - below) out
get_or-behind below i bs out h = get_or-append_right (replicate below out) bs below i out (length-replicate below out) h

get_or-before : (below i : ℕ) (bs : List Bit) (out : Bit) → i < below → get_or (replicate below out ++ bs) i out ≡ out
get_or-before below i bs out h =
    get_or_append_left (replicate below out) bs out i (omega (arith, length-replicate below out, h)) ∙ get_or-replicate below i out out h

-- ---- windows

past_planes : (width o u i : ℕ) (out : Bit) → width ≤ i → get_or (planes width o u) i out ≡ out
past_planes width o u i out h = get_or_past (planes width o u) i out (omega (arith, length-planes width o u, h))

-- a word holds the digits of one word below a place, and from there on one digit
pub record IsPadded (from : ℕ → ℕ) (digit width word : ℕ) : Type 0 where
  pub below : (i : ℕ) → i < width → bit_at word i ≡ from i
  pub above : (i : ℕ) → width ≤ i → i < 128 → bit_at word i ≡ digit

pub window_above_planes : (width o u low n p q : ℕ) (out : Bit) → low < width → n ≤ 128 →
    IsPadded (bit_at (o / 2 ^ low)) (if ones_digit out == 1 then 1 else 0) (width - low) p →
    IsPadded (bit_at (u / 2 ^ low)) (if unknowns_digit out == 1 then 1 else 0) (width - low) q →
    planes n p q ≡ window (pos low) n out (planes width o u)
window_above_planes width o u low n p q out l m f g = same_planes n p q out _ (fixed_length n (drop low (planes width o u)) out) (λ i k.
    by_order (low + i) width
    (λ inside. rw (f.below i (omega (arith, inside)), g.below i (omega (arith, inside)), bit_at-shifted o low i, bit_at-shifted u low i)
    (sym (get_or-planes width o u (low + i) out inside)))
    (λ outside. rw (f.above i (omega (arith, outside)) (omega (arith, k)), g.above i (omega (arith, outside)) (omega (arith, k)))
    (digits_back out ∙ sym (past_planes width o u (low + i) out outside))) ∙
    sym (get_or-above low n i (planes width o u) out k))

pub window_below_planes : (width o u below n p q : ℕ) (v w : ℕ) (out : Bit) → n ≤ 128 →
    IsPadded (bit_at o) (if ones_digit out == 1 then 1 else 0) width v →
    IsPadded (bit_at u) (if unknowns_digit out == 1 then 1 else 0) width w →
    ((i : ℕ) → i < below → bit_at p i ≡ (if ones_digit out == 1 then 1 else 0)) → ((i : ℕ) → below ≤ i → i < 128 → bit_at p i ≡ bit_at v (i - below)) →
    ((i : ℕ) → i < below → bit_at q i ≡ (if unknowns_digit out == 1 then 1 else 0)) → ((i : ℕ) → below ≤ i → i < 128 → bit_at q i ≡ bit_at w (i - below)) →
    planes n p q ≡ take n (replicate below out ++ planes width o u ++ replicate n out)
window_below_planes width o u below n p q v w out m f g pl ph ql qh = same_planes n p q out _ (fixed_length n (replicate below out ++ planes width o u) out) (λ i k.
    by_order i below
    (λ before. rw (pl i before, ql i before) (digits_back out ∙ sym (get_or-before below i (planes width o u) out before)))
    (λ behind. rw (ph i behind (omega (arith, k)), qh i behind (omega (arith, k)))
    (by_order (i - below) width
    (λ inside. rw (f.below (i - below) inside, g.below (i - below) inside) (sym (get_or-planes width o u (i - below) out inside)))
    (λ outside. rw (f.above (i - below) outside (omega (arith, k)), g.above (i - below) outside (omega (arith, k)))
    (digits_back out ∙ sym (past_planes width o u (i - below) out outside))) ∙
    sym (get_or-behind below i (planes width o u) out behind))) ∙
    sym (get_or-below below n i (planes width o u) out k))

-- a window that lies wholly outside
pub window_past : (low width : ℕ) (bs : List Bit) (out : Bit) → length bs ≤ low → replicate width out ≡ window (pos low) width out bs
window_past low width bs out h =
    let e : drop low bs ≡ [] = drop_of_length-le bs h in
    rw e (sym (take-replicate width width out (omega arith)))

pub left_past : (by width : ℕ) (bs : List Bit) (out : Bit) → width ≤ by → replicate width out ≡ take width (replicate by out ++ bs)
left_past by width bs out h = sym (take-append-le width (replicate by out) bs (omega (arith, length-replicate by out, h)) ∙ take-replicate width by out h)

-- a window that ends before the first bit
pub window_before : (below width : ℕ) (bs : List Bit) (out : Bit) → width ≤ below → replicate width out ≡ take width (replicate below out ++ bs ++ replicate width out)
window_before below width bs out h =
    left_past below width bs out h ∙
    sym (take-append-le width (replicate below out ++ bs) (replicate width out)
    (omega (arith, length-append (replicate below out) bs, length-replicate below out, h)))

-- ---- concatenation

doubled : (a k : ℕ) → a * 2 ^ suc k ≡ 2 * (a * 2 ^ k)
doubled a k = rw (pow-suc 2 k) (grind arith)

even_low : (t o : ℕ) → (2 * t + o) % 2 ≡ o % 2
even_low t o = omega arith

even_half : (t o : ℕ) → (2 * t + o) / 2 ≡ t + o / 2
even_half t o = omega arith

pub planes-append : (width more o u p q : ℕ) → o < 2 ^ width → u < 2 ^ width → planes (width + more) (p * 2 ^ width + o) (q * 2 ^ width + u) ≡ planes width o u ++ planes more p q
unfolding planes
planes-append zero more o u p q h k =
    let e : p * 1 + o ≡ p = omega arith in let f : q * 1 + u ≡ q = omega arith in let g : 0 + more ≡ more = omega arith in rw (e, f, g) refl
planes-append (suc width) more o u p q h k =
    let e : suc width + more ≡ suc (width + more) = omega arith in
    rw (e, doubled p width, doubled q width) (rw (even_low (p * 2 ^ width) o, even_low (q * 2 ^ width) u, even_half (p * 2 ^ width) o, even_half (q * 2 ^ width) u)
    (ap (λ bs. bit_of (o % 2) (u % 2) ∷ bs) (planes-append width more (o / 2) (u / 2) p q (half_below width o h) (half_below width u k))))

-- the word of the left operand moved past that of the right one
pub joined_word : (more width p o : ℕ) → p < 2 ^ more → o < 2 ^ width → more + width ≤ 128 → bit_or (p * 2 ^ width % 2 ^ 128) o ≡ p * 2 ^ width + o
joined_word more width p o a b h = rw (shl_whole p more width 128 a h) (or_shifted p width o b)
