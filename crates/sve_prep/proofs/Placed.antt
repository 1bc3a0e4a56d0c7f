-- The files' names and the lines of the bytes that are left are short.
use Rattle.std.proofs.Common.{ℕ, zero, suc, ◌+◌, ◌<◌, ◌≤◌, ◌^◌, Bool, true, false, cond, ◌&&◌, List, [], ◌∷◌, ◌++◌, length, drop, arith}
use Rattle.sve_bytes.specs.LineColumn.{is_line_feed}
use Rattle.sve_origin.specs.Origins.{Origin, moved}
use Rattle.sve_unread.specs.Bytes.{Byte, laid, line_behind}
use Rattle.sve_unread.specs.Head.{head_origin, head_line}
use Rattle.sve_prep.specs.View.{ArePlaced}

pub placed-drop : (n : ℕ) (bs : List Byte) → ArePlaced bs → ArePlaced (drop n bs)
placed-drop zero bs p = p
placed-drop (suc n) [] p = tt
placed-drop (suc n) (b ∷ bs) p = placed-drop n bs p.1

pub placed-append : (xs ys : List Byte) → ArePlaced xs → ArePlaced ys → ArePlaced (xs ++ ys)
placed-append [] ys p q = q
placed-append (x ∷ xs) ys p q = (p.0, placed-append xs ys p.1 q)

line_on : (c f : Bool) (line n : ℕ) → line + cond c (suc n) 0 < 2 ^ 32 → (line < 2 ^ 32) × (line + cond (c && f) 1 0 + cond c n 0 < 2 ^ 32)
line_on true true line n h = (omega arith, omega arith)
line_on true false line n h = (omega arith, omega arith)
line_on false true line n h = (omega arith, omega arith)
line_on false false line n h = (omega arith, omega arith)

pub placed-laid : (text : List ℕ) (o : Origin) (line : ℕ) (ms : List (List ℕ)) (l : ℕ) → length o.file ≤ 1024 → line + cond o.copied (length text) 0 < 2 ^ 32 → ArePlaced (laid text o line ms l)
placed-laid [] o line ms l f h = tt
placed-laid (v ∷ vs) o line ms l f h =
    let k = line_on o.copied (is_line_feed v) line (length vs) h in
    (record { file = f; line = k.0 }, placed-laid vs (moved 1 o) (line_behind o.copied v line) ms l f k.1)

-- those of the next byte
pub record HeadIsPlaced (bs : List Byte) : Type 0 where
  pub file : length (head_origin bs).file ≤ 1024
  pub line : head_line bs < 2 ^ 32

pub head_placed : (bs : List Byte) → ArePlaced bs → HeadIsPlaced bs
head_placed [] p = record { file = omega arith; line = omega arith }
head_placed (b ∷ bs) p = record { file = p.0.file; line = p.0.line }
