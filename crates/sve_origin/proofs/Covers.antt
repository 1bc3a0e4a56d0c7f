-- What a text keeps while it grows.
use Rattle.std.proofs.Common.{◌≡◌, ℕ, ◌+◌, ◌<◌, ◌^◌, Bool, true, cond, List, [], ◌∷◌, ◌++◌, length, ap, sym, subst, ◌∙◌, arith, length-append}
use Rattle.std.specs.List.{All}
use Rattle.std.proofs.lemmas.List.Elements.{All-append}
use Rattle.sve_origin.specs.Origins.{Origin, Cell, marked, origin_of, cells, HasOffset}
use Rattle.sve_origin.specs.Segments.{Cover, IsCovered, IsNextOfLast}
use Rattle.sve_origin.specs.declared.segment.Segment.{Segment}
use Rattle.sve_origin.proofs.Marks.{offsets-marked}
use Rattle.sve_origin.proofs.Spots.{same_cells, length-cells}
use Rattle.sve_origin.proofs.Growth.{Cover-push, Cover-more, runs-push, runs-more}

-- a piece that begins a segment of its own
pub cells-push : (ss : List Segment) (u : Segment) (bytes piece : List ℕ) → Cover ss (length bytes) → u.from ≡ length bytes → 0 < length piece → cells (ss ++ u ∷ []) (bytes ++ piece) ≡ cells ss bytes ++ marked piece (origin_of u)
cells-push ss u bytes piece c e h =
    same_cells (ss ++ u ∷ []) (bytes ++ piece) (Cover-push (length bytes) (length (bytes ++ piece)) ss u c e (omega (arith, length-append bytes piece)))
    ∙ runs-push ss u bytes piece c e ∙ ap (λ (r : List Cell). r ++ marked piece (origin_of u)) (sym (same_cells ss bytes c))

-- a piece that goes on from the last segment
pub cells-more : (ss : List Segment) (bytes piece : List ℕ) (o : Origin) → Cover ss (length bytes) → IsNextOfLast ss (length bytes) o → cells ss (bytes ++ piece) ≡ cells ss bytes ++ marked piece o
cells-more ss bytes piece o c n =
    same_cells ss (bytes ++ piece) (Cover-more ss (length bytes) (length (bytes ++ piece)) o c n (omega (arith, length-append bytes piece)))
    ∙ runs-more ss bytes piece o c n ∙ ap (λ (r : List Cell). r ++ marked piece o) (sym (same_cells ss bytes c))

-- the text before, after and the piece between
pub record Grows (ss ss2 : List Segment) (bytes bytes2 piece : List ℕ) (o : Origin) (old : List Cell) : Type 0 where
  pub covered : IsCovered ss2 bytes2
  pub text : cells ss2 bytes2 ≡ old ++ marked piece o

grown : (ss ss2 : List Segment) (bytes bytes2 piece : List ℕ) (o : Origin) (old : List Cell) → IsCovered ss bytes → Cover ss2 (length bytes2) → bytes2 ≡ bytes ++ piece → cells ss bytes ≡ old → cells ss2 bytes2 ≡ cells ss bytes ++ marked piece o → length old + length piece < 2 ^ 32 → o.offset + cond o.copied (length piece) 0 < 2 ^ 32 → Grows ss ss2 bytes bytes2 piece o old
grown ss ss2 bytes bytes2 piece o old p c e v w r f =
    let l : length bytes2 ≡ length bytes + length piece = ap length e ∙ length-append bytes piece in
    let k : length bytes ≡ length old = sym (length-cells ss bytes) ∙ ap length v in
    record {
      covered = record {
        small = omega arith;
        cover = c;
        offsets = subst (All HasOffset) (sym w) (All-append HasOffset (cells ss bytes) (marked piece o) p.offsets (offsets-marked piece o f));
      };
      text = w ∙ ap (λ (x : List Cell). x ++ marked piece o) v;
    }

pub grows_by_segment : (ss ss2 : List Segment) (u : Segment) (bytes bytes2 piece : List ℕ) (old : List Cell) → IsCovered ss bytes → bytes2 ≡ bytes ++ piece → ss2 ≡ ss ++ u ∷ [] → u.from ≡ length bytes → cells ss bytes ≡ old → 0 < length piece → length old + length piece < 2 ^ 32 → u.place.offset + cond u.copied (length piece) 0 < 2 ^ 32 → Grows ss ss2 bytes bytes2 piece (origin_of u) old
grows_by_segment ss ss2 u bytes bytes2 piece old p e g f v h r q =
    let l : length bytes2 ≡ length bytes + length piece = ap length e ∙ length-append bytes piece in
    grown ss ss2 bytes bytes2 piece (origin_of u) old p
    (subst (λ (k : List Segment). Cover k (length bytes2)) (sym g) (Cover-push (length bytes) (length bytes2) ss u p.cover f (omega arith)))
    e v (ap (λ (k : List Segment). cells k bytes2) g ∙ ap (cells (ss ++ u ∷ [])) e ∙ cells-push ss u bytes piece p.cover f h) r q

pub grows_on : (ss : List Segment) (bytes bytes2 piece : List ℕ) (o : Origin) (old : List Cell) → IsCovered ss bytes → bytes2 ≡ bytes ++ piece → IsNextOfLast ss (length bytes) o → cells ss bytes ≡ old → length old + length piece < 2 ^ 32 → o.offset + cond o.copied (length piece) 0 < 2 ^ 32 → Grows ss ss bytes bytes2 piece o old
grows_on ss bytes bytes2 piece o old p e n v r q =
    let l : length bytes2 ≡ length bytes + length piece = ap length e ∙ length-append bytes piece in
    grown ss ss bytes bytes2 piece o old p (Cover-more ss (length bytes) (length bytes2) o p.cover n (omega arith)) e v (ap (cells ss) e ∙ cells-more ss bytes piece o p.cover n) r q

pub chosen_true : (b : Bool) (xs ys zs : List Segment) → b ≡ true → xs ≡ cond b ys zs → xs ≡ ys
chosen_true b xs ys zs e h = h ∙ ap (λ t. cond t ys zs) e

pub next_along : (ss ss2 : List Segment) (n m : ℕ) (o : Origin) → IsNextOfLast ss n o → ss ≡ ss2 → n ≡ m → IsNextOfLast ss2 m o
next_along ss ss2 n m o h e f = subst (λ (k : ℕ). IsNextOfLast ss2 k o) f (subst (λ (r : List Segment). IsNextOfLast r n o) e h)
