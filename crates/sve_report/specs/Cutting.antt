-- A text that is cut into lines after bars, as one text again.
use Rattle.std.specs.Prelude.{ℕ, ◌+◌, ◌==◌, List, [], ◌∷◌, if◌then◌else◌}

-- the text with a bar behind each line feed
abbrev pub with_bars : List ℕ → List ℕ
with_bars [] = []
with_bars (b ∷ bs) = if b == 10 then 10 ∷ 124 ∷ with_bars bs else b ∷ with_bars bs

-- how many line feeds there are
abbrev pub line_feeds : List ℕ → ℕ
line_feeds [] = 0
line_feeds (b ∷ bs) = if b == 10 then line_feeds bs + 1 else line_feeds bs
