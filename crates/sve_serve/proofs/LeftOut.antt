-- Bytes that are no text write no number.
use Rattle.std.proofs.Common.{◌≡◌, ℕ, ◌-◌, ◌^◌, Bool, true, false, List, None, take, drop, cond, codes, decimal, bytes_eq, refl, subst, arith}
use Rattle.std.specs.Str.{IsUtf8}
use Rattle.std.proofs.lemmas.Fmt.{IsAscii-decimal}
use Rattle.std.proofs.lemmas.Str.{IsUtf8-from_ascii}
use Rattle.sve_words.specs.Words.{number_to}
use Rattle.sve_words.proofs.Numbers.{no_number}
use Rattle.sve_serve.specs.Summary.{left_out}

no_digits : (digits : List ℕ) → (IsUtf8 digits → ⊥) → number_to (2 ^ 32 - 1) digits ≡ None
no_digits digits not_text = no_number (2 ^ 32 - 1) digits (λ n w. not_text (subst IsUtf8 w.written (IsUtf8-from_ascii (decimal n) (IsAscii-decimal n (omega (arith, w.most))))))

-- what stands behind `more ` says nothing then
pub none_left : (line : List ℕ) → (IsUtf8 (drop 5 line) → ⊥) → left_out line ≡ None
none_left line not_text = by_test (bytes_eq (take 5 line) (codes "more ")) (no_digits (drop 5 line) not_text)
  where
    by_test : (b : Bool) → number_to (2 ^ 32 - 1) (drop 5 line) ≡ None → cond b (number_to (2 ^ 32 - 1) (drop 5 line)) None ≡ None
    by_test true none = none
    by_test false none = refl
