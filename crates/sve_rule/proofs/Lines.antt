-- Bits one after another.
use Rattle.std.proofs.Common.{add-one, ◌≡◌, ℕ, zero, suc, ◌+◌, ◌*◌, List, [], ◌++◌, length, refl, arith}
use Rattle.std.proofs.lemmas.List.{append-nil, length-append}
use Rattle.sve_value.specs.declared.bit.Bit.{Bit}
use Rattle.sve_rule.specs.Rows.{copies}

pub append_nil_bits : (xs : List Bit) → xs ++ [] ≡ xs
append_nil_bits xs = append-nil xs

pub length_copies : (n : ℕ) (xs : List Bit) → length (copies n xs) ≡ n * length xs
unfolding copies
length_copies zero xs = omega arith
length_copies (suc n) xs = omega (arith, length-append xs (copies n xs), length_copies n xs)

pub copies_zero : (xs : List Bit) → copies 0 xs ≡ []
unfolding copies
copies_zero xs = refl

pub copies_more : (n : ℕ) (xs : List Bit) → copies (n + 1) xs ≡ xs ++ copies n xs
unfolding copies
copies_more n xs = rw (add-one n) refl
