-- The kind of the keyword that a text is, among some kinds.
use Rattle.std.proofs.Common.{◌≡◌, ℕ, suc, ◌+◌, ◌<◌, ◌≤◌, List, [], ◌∷◌, length, drop, get_or, map, zero, Option, Some, None, IsSome, is_some, IsTrue, nat_eq, eqb-true, Bool, true, false, ◌⊎◌, inl, inr, ◌↔◌, refl, sym, ap, ◌∙◌, arith, add-one}
use Rattle.std.specs.Str.{bytes_eq}
use Rattle.std.specs.Cmp.Lexicographic.{same_text}
use Rattle.std.proofs.Math.Seq.{drop-cons}
use Rattle.std.proofs.lemmas.List.{drop_all}
use Rattle.sve_bytes.specs.declared.keyword.Keyword.{Keyword as Word}
use Rattle.sve_bytes.specs.Keywords.{keywords_from, is_among, is_keyword_text}
use Rattle.sve_token.specs.declared.keywords.Keyword.{Keyword}
use Rattle.sve_token.specs.declared.reserved.Reserved.{Reserved}
use Rattle.sve_token.specs.declared.kind.Kind.{Kind}
use Rattle.sve_token.specs.declared.kind.Kind.TheVariants as is_kind
use Rattle.sve_token.specs.WordText.{keyword_text, reserved_text, word_text}
use Rattle.sve_token.specs.Keywords.{keyword_of, kinds_at, spelled_so}
use Rattle.sve_token.proofs.EachKeyword.{keyword_found, reserved_found}

abbrev pub SameWords : List Kind → List Word → Type 0
SameWords ks ws = map word_text ks ≡ map (λ w. w.text.now) ws

bit : (b : Bool) → (b ≡ true) ⊎ (b ≡ false)
bit true = inl refl
bit false = inr refl

pub same_length : (ks : List Kind) (ws : List Word) → SameWords ks ws → length ks ≡ length ws
same_length [] [] e = refl
same_length [] (w ∷ ws) e = cc
same_length (k ∷ ks) [] e = cc
same_length (k ∷ ks) (w ∷ ws) e =
    let f : map word_text ks ≡ map (λ v. v.text.now) ws = cc in
    let g : length ks ≡ length ws = same_length ks ws f in
    omega (arith, g)

same_at : (ks : List Kind) (ws : List Word) (i : ℕ) (k : Kind) (w : Word) → SameWords ks ws → i < length ws → word_text (get_or ks i k) ≡ (get_or ws i w).text.now
same_at [] [] i k w e l = absurd (omega arith)
same_at [] (v ∷ ws) i k w e l = cc
same_at (j ∷ ks) [] i k w e l = cc
same_at (j ∷ ks) (v ∷ ws) zero k w e l = cc
same_at (j ∷ ks) (v ∷ ws) (suc i) k w e l =
    let f : map word_text ks ≡ map (λ u. u.text.now) ws = cc in
    same_at ks ws i k w f (omega arith)

spelled_yes : (k : Kind) (ks : List Kind) (text : List ℕ) → bytes_eq (word_text k) text ≡ true → spelled_so (k ∷ ks) text ≡ Some k
spelled_yes k ks text e = rw e refl

spelled_no : (k : Kind) (ks : List Kind) (text : List ℕ) → bytes_eq (word_text k) text ≡ false → spelled_so (k ∷ ks) text ≡ spelled_so ks text
spelled_no k ks text e = rw e refl

-- the loop that looks one up
pub spelled_at : (ks : List Kind) (ws : List Word) (i : ℕ) (k : Kind) (w : Word) (text : List ℕ) → SameWords ks ws → i < length ws → spelled_so (drop i ks) text ≡ spelled_so ks text → bytes_eq (get_or ws i w).text.now text ≡ true → Some (get_or ks i k) ≡ spelled_so ks text
spelled_at ks ws i k w text e l same h =
    let m : length ks ≡ length ws = same_length ks ws e in
    let n : i < length ks = omega (arith, m) in
    sym (ap (λ js. spelled_so js text) (drop-cons ks i k n)
    ∙ spelled_yes (get_or ks i k) (drop (suc i) ks) text (ap (λ t. bytes_eq t text) (same_at ks ws i k w e l) ∙ h)) ∙ same

pub spelled_on : (ks : List Kind) (ws : List Word) (i : ℕ) (k : Kind) (w : Word) (text : List ℕ) → SameWords ks ws → i < length ws → spelled_so (drop i ks) text ≡ spelled_so ks text → bytes_eq (get_or ws i w).text.now text ≡ false → spelled_so (drop (i + 1) ks) text ≡ spelled_so ks text
spelled_on ks ws i k w text e l same h =
    let m : length ks ≡ length ws = same_length ks ws e in
    let n : i < length ks = omega (arith, m) in
    rw add-one (
    sym (ap (λ js. spelled_so js text) (drop-cons ks i k n)
    ∙ spelled_no (get_or ks i k) (drop (suc i) ks) text (ap (λ t. bytes_eq t text) (same_at ks ws i k w e l) ∙ h)) ∙ same)

-- once all are passed, it is none of them
pub spelled_past : (ks : List Kind) (ws : List Word) (i : ℕ) (text : List ℕ) → SameWords ks ws → length ws ≤ i → spelled_so (drop i ks) text ≡ spelled_so ks text → None ≡ spelled_so ks text
spelled_past ks ws i text e l same =
    let m : length ks ≡ length ws = same_length ks ws e in
    let n : length ks ≤ i = omega (arith, m, l) in
    sym (ap (λ js. spelled_so js text) (drop_all i ks n)) ∙ same

pub within_keywords : (ks : List Kind) (ws : List Word) (i : ℕ) → SameWords ks ws → i < length ws → i < length ks
within_keywords ks ws i e l =
    let m : length ks ≡ length ws = same_length ks ws e in
    omega (arith, m, l)

-- what is found is spelled so
spelled_is : (ks : List Kind) (text : List ℕ) (k : Kind) → spelled_so ks text ≡ Some k → text ≡ word_text k
spelled_is [] text k e = cc
spelled_is (j ∷ ks) text k e = elim (bit (bytes_eq (word_text j) text)) [
  | inl y ↦
      let s : word_text j ≡ text = same_text _ _ (sym y) in
      let f : ◌≡◌ {A = Option Kind} (Some j) (Some k) = sym (spelled_yes j ks text y) ∙ e in
      let g : j ≡ k = cc in
      sym s ∙ ap word_text g
  | inr n ↦ spelled_is ks text k (sym (spelled_no j ks text n) ∙ e)
]

pub keyword_is : (text : List ℕ) (k : Kind) → keyword_of text ≡ Some k → text ≡ word_text k
unfolding keyword_of
keyword_is [] k e = cc
keyword_is (b ∷ bs) k e = spelled_is (kinds_at b) (b ∷ bs) k e

-- it is found exactly where it is among the words
among : (ks : List Kind) (text : List ℕ) → is_some (spelled_so ks text) ≡ is_among (map word_text ks) text
among [] text = refl
among (k ∷ ks) text = elim (bit (bytes_eq (word_text k) text)) [
  | inl y ↦ rw y refl
  | inr n ↦ rw n (among ks text)
]

-- what is found in the table of the first letter
pub none_of_empty : (text : List ℕ) → nat_eq (length text) 0 ≡ true → None ≡ keyword_of text
unfolding keyword_of
none_of_empty [] e = refl
none_of_empty (b ∷ bs) e = absurd (let h : length (b ∷ bs) ≡ 0 = eqb-true _ _ e in omega (arith, h))

pub empty_reserved : (text : List ℕ) → nat_eq (length text) 0 ≡ true → IsSome {T = Kind} None ↔ IsTrue (is_keyword_text text)
empty_reserved [] e = (λ h. h, λ h. h)
empty_reserved (b ∷ bs) e = absurd (let h : length (b ∷ bs) ≡ 0 = eqb-true _ _ e in omega (arith, h))

pub found_value : (text : List ℕ) (ks : List Kind) (r : Option Kind) → 0 < length text → ks ≡ kinds_at (get_or text 0 0) → r ≡ spelled_so ks text → r ≡ keyword_of text
unfolding keyword_of
found_value [] ks r l t e = absurd (omega arith)
found_value (b ∷ bs) ks r l t e = e ∙ ap (λ js. spelled_so js (b ∷ bs)) t

either : (a b : Bool) → a ≡ b → IsTrue a ↔ IsTrue b
either a b e = (λ h. sym e ∙ h, λ h. e ∙ h)

pub found_reserved : (text : List ℕ) (ks : List Kind) (r : Option Kind) → 0 < length text → map word_text ks ≡ keywords_from (get_or text 0 0) → r ≡ spelled_so ks text → IsSome r ↔ IsTrue (is_keyword_text text)
found_reserved [] ks r l t e = absurd (omega arith)
found_reserved (b ∷ bs) ks r l t e =
    either (is_some r) (is_among (keywords_from b) (b ∷ bs))
    (ap is_some e ∙ among ks (b ∷ bs) ∙ ap (λ ws. is_among ws (b ∷ bs)) t)

-- the kind that is answered
pub keyword_exactly : (text : List ℕ) (r : Option Kind) (k : Keyword) → r ≡ keyword_of text → (r ≡ Some (is_kind.Keyword k)) ↔ (text ≡ keyword_text k)
keyword_exactly text r k e =
    (λ h. keyword_is text (is_kind.Keyword k) (sym e ∙ h), λ h. e ∙ ap keyword_of h ∙ keyword_found k)

pub reserved_exactly : (text : List ℕ) (r : Option Kind) (k : Reserved) → r ≡ keyword_of text → (r ≡ Some (is_kind.Reserved k)) ↔ (text ≡ reserved_text k)
reserved_exactly text r k e =
    (λ h. keyword_is text (is_kind.Reserved k) (sym e ∙ h), λ h. e ∙ ap keyword_of h ∙ reserved_found k)

pub filled_if : (text : List ℕ) → nat_eq (length text) 0 ≡ false → 0 < length text
filled_if [] e = cc
filled_if (b ∷ bs) e = omega arith
