-- What is read of a whole chunk (IEEE 1800-2017, A.1.2, and own).
use Rattle.std.specs.Prelude.{ℕ, false, List, length, Ok, Err, ◌==◌, if◌then◌else◌}
use Rattle.sve_token.specs.declared.token.Token.{Token}
use Rattle.sve_grammar.specs.Items.{chunk}
use Rattle.sve_grammar.specs.Reading.{Answer, halt, at_depth}

-- of so many tokens, all are to be read: else reading stops in front of the first that is not
abbrev pub whole : ℕ → Answer → Answer
whole n (Ok x) = if x.1 == n then Ok x else halt x.1 false
whole n (Err h) = Err h

-- the tree of a chunk, all of whose tokens it has; or where the chunk stops
abbrev pub read_whole : List Token → Answer
read_whole ts = whole (length ts) (at_depth ts 0 chunk 0)
