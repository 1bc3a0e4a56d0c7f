-- Every text is cut into pieces in one way.
use Rattle.std.proofs.Common.{◌≡◌, ℕ, zero, suc, ◌<◌, ◌≤◌, inl, inr, List, [], ◌∷◌, ◌++◌, length, take, drop, Option, Some, None, refl, sym, ap, ◌∙◌, arith, length-append, length-drop, subst}
use Rattle.std.specs.List.{flat_map}
use Rattle.std.proofs.Math.Seq.{take-append_seam, drop-append_seam}
use Rattle.std.proofs.lemmas.List.{take-append-drop, length-take-le}
use Rattle.sve_lex.specs.Longest.{longest}
use Rattle.sve_lex.proofs.Longest.{IsLongest as IsLongestAt, longest_is, longest_none, is_longest, is_none}
use Rattle.sve_lex.specs.declared.class.Class.{Class}
use Rattle.sve_lex.specs.Classes.{class_of, piece_of, or_bad}
use Rattle.sve_lex.proofs.Pieces.{piece_filled}
use Rattle.sve_lex.specs.Pieces.{Piece, front_piece, pieces}
use Rattle.sve_lex.specs.OneList.{IsLongest, IsStray, Begins, Lexes, OneList, NothingLost}
use Rattle.sve_lex.proofs.Cutting.{pieces_end, pieces_next}

-- whatever begins a text is the piece that the definition finds
longest_piece : (w : Class) (s rest : List ℕ) → IsLongest w s rest → piece_of (s ++ rest) ≡ (w, length s)
unfolding piece_of
longest_piece w s rest p =
    ap or_bad (longest_is class_of (s ++ rest) w (length s) (record {
      within = omega (arith, length-append s rest);
      found = rw (take-append_seam s rest, drop-append_seam s rest) p.is_piece;
      most = λ t more e l. p.longest t more e l;
    }))

stray_piece : (w : Class) (s rest : List ℕ) → IsStray w s rest → piece_of (s ++ rest) ≡ (w, length s)
unfolding piece_of
stray_piece w s rest p = ap or_bad (longest_none (s ++ rest) class_of p.none) ∙ (rw (p.is_bad, p.one) refl)

begins_piece : (w : Class) (s rest : List ℕ) → Begins w s rest → piece_of (s ++ rest) ≡ (w, length s)
begins_piece w s rest (inl p) = longest_piece w s rest p
begins_piece w s rest (inr p) = stray_piece w s rest p

-- and that piece begins it
piece_begins_at : (text : List ℕ) (r : Option (Class × ℕ)) → 0 < length text → longest text class_of ≡ r → Begins (or_bad r).0 (take (or_bad r).1 text) (drop (or_bad r).1 text)
piece_begins_at text (Some (w, n)) l e =
    let p : IsLongestAt class_of text w n = is_longest text class_of w n e in
    inl (record {
      is_piece = p.found;
      longest = λ t more g k. p.most t more (g ∙ take-append-drop n text) (omega (arith, length-take-le n text p.within));
    })
piece_begins_at text None l e =
    inr (record {
      is_bad = refl;
      one = length-take-le 1 text (omega arith);
      none = λ t more g. is_none text class_of e t more (g ∙ take-append-drop 1 text);
    })

piece_begins : (text : List ℕ) → 0 < length text → Begins (piece_of text).0 (take (piece_of text).1 text) (drop (piece_of text).1 text)
unfolding piece_of
piece_begins text l = piece_begins_at text (longest text class_of) l refl

no_piece : (w : Class) (rest : List ℕ) → class_of [] rest ≡ Some w → ⊥
unfolding class_of
no_piece w rest e = cc

filled : (w : Class) (s rest : List ℕ) → Begins w s rest → 0 < length s
filled w [] rest (inl p) = absurd (no_piece w rest p.is_piece)
filled w (c ∷ s) rest (inl p) = omega arith
filled w s rest (inr p) = omega (arith, p.one)

joined : (w : Class) (s rest : List ℕ) → Begins w s rest → pieces (s ++ rest) ≡ ((w, s) ∷ pieces rest)
joined w s rest b =
    let f : 0 < length s = filled w s rest b in
    let l : 0 < length (s ++ rest) = omega (arith, length-append s rest) in
    pieces_next (s ++ rest) l
    ∙ ap (λ (p : Class × ℕ). front_piece (s ++ rest) p ∷ pieces (drop p.1 (s ++ rest))) (begins_piece w s rest b)
    ∙ (rw (take-append_seam s rest, drop-append_seam s rest) refl)

-- a list with the property is the one of the definition
pub lexes_are : (text : List ℕ) (ps : List Piece) → Lexes text ps → ps ≡ pieces text
lexes_are text [] e = sym (ap pieces e ∙ pieces_end)
lexes_are text (p ∷ ps) x =
    ap (λ qs. p ∷ qs) (lexes_are x.0 ps x.3) ∙ sym (ap pieces x.1 ∙ joined p.0 p.1 x.0 x.2)

-- which has the property
pub pieces_lex : (n : ℕ) (text : List ℕ) → length text ≤ n → Lexes text (pieces text)
pieces_lex n [] l = rw pieces_end refl
pieces_lex zero (b ∷ bs) l = absurd (omega arith)
pieces_lex (suc n) (b ∷ bs) l =
    let P : List Piece → Type 0 = λ ps. Lexes (b ∷ bs) ps in
    let f : 0 < length (b ∷ bs) = omega arith in
    let g : 0 < (piece_of (b ∷ bs)).1 = piece_filled (b ∷ bs) f in
    subst P (sym (pieces_next (b ∷ bs) f)) (
      drop (piece_of (b ∷ bs)).1 (b ∷ bs),
      sym (take-append-drop (piece_of (b ∷ bs)).1 (b ∷ bs)),
      piece_begins (b ∷ bs) f,
      pieces_lex n (drop (piece_of (b ∷ bs)).1 (b ∷ bs)) (omega (arith, length-drop (piece_of (b ∷ bs)).1 (b ∷ bs))),
    )

pub one_list : OneList
one_list text ps = (lexes_are text ps, λ e. rw e (pieces_lex (length text) text (omega arith)))

joined_text : (text : List ℕ) (ps : List Piece) → Lexes text ps → flat_map (λ p. p.1) ps ≡ text
joined_text text [] e = sym e
joined_text text (p ∷ ps) x = ap (λ t. p.1 ++ t) (joined_text x.0 ps x.3) ∙ sym x.1

pub nothing_lost : NothingLost
nothing_lost text = joined_text text (pieces text) (pieces_lex (length text) text (omega arith))
