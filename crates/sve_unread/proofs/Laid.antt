-- Laws of texts and fronts.
use Rattle.std.proofs.Common.{◌≡◌, ℕ, suc, zero, ◌+◌, ◌<◌, ◌≤◌, Bool, true, false, cond, ◌&&◌, List, [], ◌∷◌, ◌++◌, length, take, drop, map, refl, ap, sym, ◌∙◌, arith, nat_eq}
use Rattle.std.specs.List.{count_by}
use Rattle.std.proofs.lemmas.List.{length-map}
use Rattle.std.proofs.lemmas.List.Sums.{sum_by-cons}
use Rattle.sve_bytes.specs.LineColumn.{is_line_feed}
use Rattle.sve_origin.specs.Origins.{Origin, moved, marked}
use Rattle.sve_origin.proofs.Marks.{moved-zero, moved-next}
use Rattle.sve_unread.specs.Bytes.{Byte, laid, line_behind, line_past, cell, depth, while_depth, front, value_of, ahead}

-- a text, from its n-th byte on
pub drop-laid : (n : ℕ) (text : List ℕ) (o : Origin) (line : ℕ) (ms : List (List ℕ)) (l : ℕ) → drop n (laid text o line ms l) ≡ laid (drop n text) (moved n o) (line_past o.copied (take n text) line) ms l
drop-laid zero text o line ms l = ap (λ (p : Origin). laid text p line ms l) (sym (moved-zero o))
drop-laid (suc n) [] o line ms l = refl
drop-laid (suc n) (v ∷ vs) o line ms l =
    drop-laid n vs (moved 1 o) (line_behind o.copied v line) ms l
    ∙ ap (λ (p : Origin). laid (drop n vs) p (line_past o.copied (take n vs) (line_behind o.copied v line)) ms l) (moved-next n o)

pub take-laid : (n : ℕ) (text : List ℕ) (o : Origin) (line : ℕ) (ms : List (List ℕ)) (l : ℕ) → take n (laid text o line ms l) ≡ laid (take n text) o line ms l
take-laid zero text o line ms l = refl
take-laid (suc n) [] o line ms l = refl
take-laid (suc n) (v ∷ vs) o line ms l =
    ap (λ r. record { value = v; origin = o; line = line; macros = ms; level = l } ∷ r) (take-laid n vs (moved 1 o) (line_behind o.copied v line) ms l)

-- as it is written
pub cells-laid : (text : List ℕ) (o : Origin) (line : ℕ) (ms : List (List ℕ)) (l : ℕ) → map cell (laid text o line ms l) ≡ marked text o
cells-laid [] o line ms l = refl
cells-laid (v ∷ vs) o line ms l = ap (λ r. (v, o) ∷ r) (cells-laid vs (moved 1 o) (line_behind o.copied v line) ms l)

pub values : (vs : List ℕ) (o : Origin) (line : ℕ) (ms : List (List ℕ)) (l : ℕ) → map value_of (laid vs o line ms l) ≡ vs
values [] o line ms l = refl
values (v ∷ vs) o line ms l = ap (λ r. v ∷ r) (values vs (moved 1 o) (line_behind o.copied v line) ms l)

pub length-laid : (vs : List ℕ) (o : Origin) (line : ℕ) (ms : List (List ℕ)) (l : ℕ) → length (laid vs o line ms l) ≡ length vs
length-laid [] o line ms l = refl
length-laid (v ∷ vs) o line ms l = ap suc (length-laid vs (moved 1 o) (line_behind o.copied v line) ms l)

line_more : (c x : Bool) (line k : ℕ) → (line + cond (c && x) 1 0) + cond c k 0 ≡ line + cond c (cond x 1 0 + k) 0
line_more true true line k = omega arith
line_more true false line k = omega arith
line_more false true line k = omega arith
line_more false false line k = omega arith

line_none : (c : Bool) (line : ℕ) → line ≡ line + cond c 0 0
line_none true line = omega arith
line_none false line = omega arith

count_cons : (v : ℕ) (vs : List ℕ) → count_by is_line_feed (v ∷ vs) ≡ cond (is_line_feed v) 1 0 + count_by is_line_feed vs
count_cons v vs = sum_by-cons (λ b. cond (is_line_feed b) 1 0) v vs

-- the line behind is further on by the line feeds
pub line_past-count : (c : Bool) (vs : List ℕ) (line : ℕ) → line_past c vs line ≡ line + cond c (count_by is_line_feed vs) 0
line_past-count c [] line = line_none c line
line_past-count c (v ∷ vs) line =
    line_past-count c vs (line_behind c v line) ∙ line_more c (is_line_feed v) line (count_by is_line_feed vs)
    ∙ ap (λ (k : ℕ). line + cond c k 0) (sym (count_cons v vs))

-- all of one depth
abbrev pub AreAt : ℕ → List Byte → Type 0
AreAt d [] = Unit {0}
AreAt d (b ∷ bs) = (depth b ≡ d) × AreAt d bs

-- each is less deep
abbrev pub AreLess : ℕ → List Byte → Type 0
AreLess d [] = Unit {0}
AreLess d (b ∷ bs) = (depth b < d) × AreLess d bs

pub AreAt-laid : (vs : List ℕ) (o : Origin) (line : ℕ) (ms : List (List ℕ)) (l : ℕ) → AreAt (length ms + l) (laid vs o line ms l)
AreAt-laid [] o line ms l = tt
AreAt-laid (v ∷ vs) o line ms l = (refl, AreAt-laid vs (moved 1 o) (line_behind o.copied v line) ms l)

pub AreLess-at : (d e : ℕ) (bs : List Byte) → d < e → AreAt d bs → AreLess e bs
AreLess-at d e [] h p = tt
AreLess-at d e (b ∷ bs) h p = (omega arith, AreLess-at d e bs h p.1)

pub AreLess-append : (d : ℕ) (xs ys : List Byte) → AreLess d xs → AreLess d ys → AreLess d (xs ++ ys)
AreLess-append d [] ys p q = q
AreLess-append d (x ∷ xs) ys p q = (p.0, AreLess-append d xs ys p.1 q)

same_depth : (m n : ℕ) → m ≡ n → nat_eq m n ≡ true
same_depth m n e = grind arith

less_deep : (m n : ℕ) → m < n → nat_eq m n ≡ false
less_deep m n h = grind arith

while_depth-append : (d : ℕ) (xs ys : List Byte) → AreAt d xs → AreLess d ys → while_depth d (xs ++ ys) ≡ xs
while_depth-append d [] [] p q = refl
while_depth-append d [] (y ∷ ys) p q = ap (λ t. cond t (y ∷ while_depth d ys) []) (less_deep (depth y) d q.0)
while_depth-append d (x ∷ xs) ys p q =
    ap (λ t. cond t (x ∷ while_depth d (xs ++ ys)) []) (same_depth (depth x) d p.0) ∙ ap (λ r. x ∷ r) (while_depth-append d xs ys p.1 q)

-- what is left of one text stands before the others
pub front-append : (d : ℕ) (xs ys : List Byte) → 0 < length xs → AreAt d xs → AreLess d ys → front (xs ++ ys) ≡ xs
front-append d [] ys h p q = absurd (omega arith)
front-append d (x ∷ xs) ys h p q =
    ap (λ e. x ∷ while_depth e (xs ++ ys)) p.0 ∙ ap (λ r. x ∷ r) (while_depth-append d xs ys p.1 q)

kept : (t : Bool) (b : Byte) (xs bs : List Byte) → length xs ≤ length bs → length (cond t (b ∷ xs) []) ≤ length (b ∷ bs)
kept true b xs bs h = omega arith
kept false b xs bs h = omega arith

length-while_depth : (d : ℕ) (bs : List Byte) → length (while_depth d bs) ≤ length bs
length-while_depth d [] = omega arith
length-while_depth d (b ∷ bs) = kept (nat_eq (depth b) d) b (while_depth d bs) bs (length-while_depth d bs)

-- the text that is read is a part of what is left
pub length-ahead : (bs : List Byte) → length (ahead bs) ≤ length bs
length-ahead [] = omega arith
length-ahead (b ∷ bs) = omega (arith, length-map (front (b ∷ bs)) value_of, length-while_depth (depth b) bs)
