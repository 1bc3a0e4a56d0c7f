-- What a stack of texts stands for (own).
use Rattle.std.specs.Prelude.{ℕ, cond, ◌≡◌, ◌+◌, ◌-◌, ◌<◌, ◌^◌, List, [], ◌∷◌, ◌++◌, length, drop, take}
use Rattle.sve_origin.specs.Origins.{Origin, moved}
use Rattle.sve_unread.specs.Bytes.{Byte, laid, front, line_past}
use Rattle.sve_unread.specs.declared.frame.Frame.{Frame}

abbrev pub frame_origin : Frame → Origin
frame_origin f = record { file = f.file; offset = f.offset; copied = f.copied }

-- what is left of one text
abbrev pub left_of : Frame → List Byte
left_of f = laid (drop f.at f.text.value) (moved f.at (frame_origin f)) f.line f.macros f.level

-- what is left of all, where the last one is read first
abbrev pub left_of_all : List Frame → List Byte
left_of_all [] = []
left_of_all (f ∷ fs) = left_of_all fs ++ left_of f

-- a text of which n bytes more are read
abbrev pub passed : ℕ → Frame → Frame
passed n f = record f { at = f.at + n; line = line_past f.copied (take n (drop f.at f.text.value)) f.line }

abbrev pub frame_depth : Frame → ℕ
frame_depth f = length f.macros + f.level

-- each is deeper than d
abbrev pub AreAbove : ℕ → List Frame → Type 0
AreAbove d [] = Unit {0}
AreAbove d (f ∷ fs) = (d < frame_depth f) × AreAbove d fs

-- each is less deep than d
abbrev pub AreBelow : ℕ → List Frame → Type 0
AreBelow d [] = Unit {0}
AreBelow d (f ∷ fs) = (frame_depth f < d) × AreBelow d fs

-- it is not at its end, and its offsets and lines have 32 bits
pub record IsOpen (f : Frame) : Type 0 where
  pub more : f.at < length f.text.value
  pub short : length f.text.value < 2 ^ 32
  pub offsets : f.offset + cond f.copied (length f.text.value) 0 < 2 ^ 32
  pub lines : f.line + cond f.copied (length f.text.value - f.at) 0 < 2 ^ 32
  pub shallow : length f.macros + f.level < 2 ^ 64

-- no text is at its end, and each is deeper than those around it
abbrev pub AreNested : List Frame → Type 0
AreNested [] = Unit {0}
AreNested (f ∷ fs) = IsOpen f × AreAbove (frame_depth f) fs × AreNested fs

-- it is the text that is read next, of all these bytes
pub record IsTop (f : Frame) (bs : List Byte) : Type 0 where
  pub is_open : IsOpen f
  pub rest : List Byte
  pub is : bs ≡ left_of f ++ rest
  pub front_is : front bs ≡ left_of f
