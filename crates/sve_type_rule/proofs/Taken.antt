-- A value is found by its digits exactly where a name has it.
use Rattle.std.proofs.Common.{◌≡◌, ◌∙◌, sym, refl, ap, ◌≤◌, ◌+◌, ℕ, suc, Bool, true, false, ◌||◌, cond, List, [], ◌∷◌, ◌++◌, length, drop, Option, Some, is_some, nat_eq, slice_get}
use Rattle.std.specs.Cmp.Lexicographic.{pointwise}
use Rattle.std.proofs.lemmas.List.{drop_more, append_assoc, append-nil}
use Rattle.std.proofs.lemmas.Option.{slice_get_within, get_or_from_slice_get}
use Rattle.std.proofs.Math.ListN.{drop_of_length-le}
use Rattle.sve_value.specs.declared.bit.Bit.{Bit}
use Rattle.sve_value.specs.declared.bit.Bit.TheVariants.{Zero, One, X, Z}
use Rattle.sve_value.specs.Vector.{Vector}
use Rattle.sve_table.specs.Tables.{item_of, with_item}
use Rattle.sve_table.proofs.Entries.{with_item-absent}
use Rattle.sve_type_rule.specs.Same.{same_bit, same_bits, digit_of, digits_of, digits_of_names}
use Rattle.sve_type_rule.specs.Names.{is_taken}

-- ---- the digits one by one

pub digit_count : (bs : List Bit) → length (digits_of bs) ≡ length bs
unfolding digits_of
digit_count [] = refl
digit_count (b ∷ bs) = ap suc (digit_count bs)

pub digit_more : (bs : List Bit) (i : ℕ) (b : Bit) → slice_get bs i ≡ Some b → digits_of (drop i bs) ≡ digit_of b ∷ digits_of (drop (i + 1) bs)
unfolding digits_of
digit_more bs i b h = rw (drop_more bs i b (slice_get_within bs i b h), get_or_from_slice_get bs i b b h) refl

pub no_digit_more : (bs : List Bit) (i : ℕ) → length bs ≤ i → digits_of (drop i bs) ≡ []
unfolding digits_of
no_digit_more bs i h = rw (drop_of_length-le bs h) refl

-- what the loop keeps, from one bit to the next and at the end
pub digit_behind : (xs : List ℕ) (bs : List Bit) (i : ℕ) (b : Bit) (whole : List ℕ) → slice_get bs i ≡ Some b → xs ++ digits_of (drop i bs) ≡ whole → (xs ++ digit_of b ∷ []) ++ digits_of (drop (i + 1) bs) ≡ whole
digit_behind xs bs i b whole h e = append_assoc xs (digit_of b ∷ []) (digits_of (drop (i + 1) bs)) ∙ ap (λ l. xs ++ l) (sym (digit_more bs i b h)) ∙ e

pub digits_whole : (xs : List ℕ) (bs : List Bit) (i : ℕ) (whole : List ℕ) → length bs ≤ i → xs ++ digits_of (drop i bs) ≡ whole → xs ≡ whole
digits_whole xs bs i whole h e = sym (append-nil xs) ∙ ap (λ l. xs ++ l) (sym (no_digit_more bs i h)) ∙ e

-- ---- two values by their digits

same_digit : (a b : Bit) → nat_eq (digit_of b) (digit_of a) ≡ same_bit a b
same_digit Zero Zero = refl
same_digit Zero One = refl
same_digit Zero X = refl
same_digit Zero Z = refl
same_digit One Zero = refl
same_digit One One = refl
same_digit One X = refl
same_digit One Z = refl
same_digit X Zero = refl
same_digit X One = refl
same_digit X X = refl
same_digit X Z = refl
same_digit Z Zero = refl
same_digit Z One = refl
same_digit Z X = refl
same_digit Z Z = refl

same_digits : (as' bs : List Bit) → pointwise nat_eq (digits_of bs) (digits_of as') ≡ same_bits as' bs
unfolding digits_of same_bits
same_digits [] [] = refl
same_digits [] (b ∷ bs) = refl
same_digits (a ∷ as') [] = refl
same_digits (a ∷ as') (b ∷ bs) = rw (same_digit a b, same_digits as' bs) refl

either_way : {X : Type 0} (b : Bool) (x : X) (o : Option X) → is_some (cond b (Some x) o) ≡ (b || is_some o)
either_way true x o = refl
either_way false x o = refl

pub taken_is : (names : List (List ℕ × Vector)) (v : Vector) (d : List ℕ) → d ≡ digits_of v.bits → is_some (item_of (λ (n : List ℕ). n) d (digits_of_names names)) ≡ is_taken names v
unfolding digits_of_names
taken_is [] v d e = refl
taken_is (n ∷ ns) v d e =
    either_way (pointwise nat_eq d (digits_of n.1.bits)) (digits_of n.1.bits) (item_of (λ (n : List ℕ). n) d (digits_of_names ns))
    ∙ rw (e, same_digits n.1.bits v.bits, ← e, taken_is ns v d e) refl

-- the answer of a table that holds the digits of the values
pub taken_by : (names : List (List ℕ × Vector)) (values : List (List ℕ)) (v : Vector) (d : List ℕ) (r : Bool) → values ≡ digits_of_names names → d ≡ digits_of v.bits → r ≡ is_some (item_of (λ (n : List ℕ). n) d values) → r ≡ is_taken names v
taken_by names values v d r a e h = h ∙ ap (λ (l : List (List ℕ)). is_some (item_of (λ (n : List ℕ). n) d l)) a ∙ taken_is names v d e

pub digits_behind : (names : List (List ℕ × Vector)) (name : List ℕ) (v : Vector) → digits_of_names (names ++ (name, v) ∷ []) ≡ digits_of_names names ++ digits_of v.bits ∷ []
unfolding digits_of_names
digits_behind [] name v = refl
digits_behind (n ∷ ns) name v = ap (λ ds. digits_of n.1.bits ∷ ds) (digits_behind ns name v)

-- the digits of a value that no name has are put behind the others
pub added_is : (names : List (List ℕ × Vector)) (v : Vector) (d : List ℕ) → d ≡ digits_of v.bits → is_taken names v ≡ false → with_item (λ (n : List ℕ). n) (digits_of_names names) d ≡ digits_of_names names ++ d ∷ []
added_is names v d e h = with_item-absent (λ (n : List ℕ). n) (digits_of_names names) d (taken_is names v d e ∙ h)
