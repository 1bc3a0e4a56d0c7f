-- What a splice makes of a text.
use Rattle.std.specs.Prelude.{ℕ, ◌+◌, List, ◌++◌, take, drop}

-- the text in which new bytes take the place of those that begin at this offset, so many of them
abbrev pub spliced : ℕ → ℕ → List ℕ → List ℕ → List ℕ
spliced offset cut new text = take offset text ++ new ++ drop (offset + cut) text
