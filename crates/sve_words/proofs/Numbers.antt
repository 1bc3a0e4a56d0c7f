-- Numbers that words write.
use Rattle.std.proofs.Common.{◌≡◌, ℕ, ◌==◌, ◌<◌, ◌≤◌, ◌^◌, Bool, true, false, cond, List, [], ◌∷◌, Some, None, drop, decimal, slice_index, nat_le, refl, ap, sym, ◌∙◌, subst, arith}
use Rattle.std.specs.Char.{digit_value}
use Rattle.std.specs.Str.{bytes_eq}
use Rattle.std.specs.Str.Parse.{AllDigits, IsNumeral, digits_value, without_leading_plus}
use Rattle.std.proofs.lemmas.Bool.{eqb-true}
use Rattle.std.proofs.lemmas.Fmt.{decimal_is_IsNumeral}
use Rattle.std.proofs.lemmas.Slice.Eq.{bytes_eq-Decides}
use Rattle.sve_words.specs.Words.{number_to}

-- the text writes this number, which is at most this
pub record Writes (limit : ℕ) (text : List ℕ) (n : ℕ) : Type 0 where
  pub some : 1 ≤ n
  pub most : n ≤ limit
  pub written : decimal n ≡ text

pub same_text : (xs ys : List ℕ) → bytes_eq xs ys ≡ true → xs ≡ ys
same_text xs ys is = grind (arith, bytes_eq-Decides xs ys, is)

pub text_same : (xs ys : List ℕ) → xs ≡ ys → bytes_eq xs ys ≡ true
text_same xs ys is = grind (arith, bytes_eq-Decides xs ys, is)

fits : (limit n : ℕ) → limit < 2 ^ 32 → n ≤ limit → n < 2 ^ 64
fits limit n small le = omega (arith, small, le)

value_of : (limit : ℕ) (text : List ℕ) (n : ℕ) → limit < 2 ^ 32 → Writes limit text n → digits_value 10 text ≡ n
value_of limit text n small w = ap (digits_value 10) (sym w.written) ∙ (decimal_is_IsNumeral n (fits limit n small w.most)).1

pub number_is : (limit : ℕ) (text : List ℕ) (n : ℕ) → limit < 2 ^ 32 → Writes limit text n → number_to limit text ≡ Some n
number_is limit text n small w =
    let some : nat_le 1 n ≡ true = grind (arith, w.some) in
    let most : nat_le n limit ≡ true = grind (arith, w.most) in
    let same = text_same (decimal n) text w.written in
    rw (value_of limit text n small w, some, most, same) refl

pub no_number : (limit : ℕ) (text : List ℕ) → ((n : ℕ) → Writes limit text n → ⊥) → number_to limit text ≡ None
no_number limit text none = by_test (nat_le 1 n) (nat_le n limit) (bytes_eq (decimal n) text) refl refl refl
  where
    n : ℕ
    n = digits_value 10 text

    by_test : (a b c : Bool) → nat_le 1 n ≡ a → nat_le n limit ≡ b → bytes_eq (decimal n) text ≡ c → number_to limit text ≡ None
    by_test false b c ea eb ec = rw (ea) refl
    by_test true false c ea eb ec = rw (ea, eb) refl
    by_test true true false ea eb ec = rw (ea, eb, ec) refl
    by_test true true true ea eb ec = absurd (none n (record { some = grind (arith, ea); most = grind (arith, eb); written = same_text (decimal n) text ec }))

no_plus : (text : List ℕ) → AllDigits 10 text → (slice_index text 0 == 43) ≡ false
no_plus [] digits = refl
no_plus (c ∷ cs) (digit, rest) = by_test (c == 43) refl
  where
    by_test : (t : Bool) → (c == 43) ≡ t → (c == 43) ≡ false
    by_test false is = is
    by_test true is = let same : c ≡ 43 = eqb-true c 43 is in absurd (omega (arith, subst (λ (b : ℕ). digit_value b < 10) same digit))

pub plain : (limit : ℕ) (text : List ℕ) (n : ℕ) → limit < 2 ^ 32 → Writes limit text n → IsNumeral 10 (without_leading_plus text) × (digits_value 10 (without_leading_plus text) ≡ n)
plain limit text n small w =
    let numeral = subst (IsNumeral 10) w.written (decimal_is_IsNumeral n (fits limit n small w.most)).0 in
    let same : without_leading_plus text ≡ text = ap (λ (b : Bool). drop (cond b 1 0) text) (no_plus text numeral.1) in
    (subst (IsNumeral 10) (sym same) numeral, ap (digits_value 10) same ∙ value_of limit text n small w)

pub number_fits : (limit : ℕ) (text : List ℕ) (n m : ℕ) → limit < 2 ^ 32 → Writes limit text n → m ≡ n → m < 2 ^ 32
number_fits limit text n m small w same = omega (arith, small, w.most, same)
