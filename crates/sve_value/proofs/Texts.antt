-- The text of all bits, one letter at a time.
use Rattle.std.proofs.Common.{◌≡◌, ℕ, zero, suc, ◌≤◌, List, [], ◌∷◌, ◌++◌, length, drop, slice_get, Some, refl, ap, ◌∙◌}
use Rattle.std.proofs.Math.ListN.{drop_of_length-le}
use Rattle.std.proofs.Common.{append_assoc}
use Rattle.std.proofs.lemmas.List.{append-nil}
use Rattle.sve_value.specs.declared.bit.Bit.{Bit}
use Rattle.sve_value.specs.Text.{bit_letter, bit_text}

drop_at : (bs : List Bit) (i : ℕ) (b : Bit) → slice_get bs i ≡ Some b → drop i bs ≡ b ∷ drop (suc i) bs
drop_at [] i b e = cc
drop_at (c ∷ bs) zero b e = let f : c ≡ b = cc in ap (λ x. x ∷ bs) f
drop_at (c ∷ bs) (suc i) b e = drop_at bs i b e

-- the text of the bits from a place on begins with that of the later ones
pub bit_text-drop : (bs : List Bit) (i : ℕ) (b : Bit) → slice_get bs i ≡ Some b → bit_text (drop i bs) ≡ bit_text (drop (suc i) bs) ++ bit_letter b ∷ []
unfolding bit_text
bit_text-drop bs i b e = rw (drop_at bs i b e) refl

pub bit_text-none : (bs : List Bit) (i : ℕ) → length bs ≤ i → bit_text (drop i bs) ≡ []
unfolding bit_text
bit_text-none bs i h = rw (drop_of_length-le bs h) refl

-- before the first letter, and with one more
pub text_init : (bs : List Bit) (i : ℕ) (front mark new old start : List ℕ) → length bs ≤ i → start ≡ [] → old ≡ start ++ front → new ≡ old ++ mark → new ≡ front ++ mark ++ bit_text (drop i bs)
text_init bs i front mark new old start h e f g =
    rw (bit_text-none bs i h, append-nil (front ++ mark)) (g ∙ ap (λ xs. xs ++ mark) (f ∙ ap (λ xs. xs ++ front) e))

pub text_more : (bs : List Bit) (i j : ℕ) (b : Bit) (front new old : List ℕ) → slice_get bs i ≡ Some b → j ≡ suc i → old ≡ front ++ bit_text (drop j bs) → new ≡ old ++ bit_letter b ∷ [] → new ≡ front ++ bit_text (drop i bs)
text_more bs i j b front new old s e f g =
    rw (bit_text-drop bs i b s) (g ∙ ap (λ xs. xs ++ bit_letter b ∷ []) (f ∙ ap (λ k. front ++ bit_text (drop k bs)) e) ∙
    append_assoc front (bit_text (drop (suc i) bs)) (bit_letter b ∷ []))
