-- Sources and sinks in memory, as their users see them (own).
use Rattle.std.specs.Prelude.{ℕ, List, Contains}
use Rattle.sve_io.specs.Faults.{counted}

-- after so many calls the next one is one of those that fail
abbrev pub NextFails : List ℕ → ℕ → Type 0
NextFails failing calls = Contains failing (counted calls)

-- a source in memory
pub record SourceValue : Type 0 where
  -- the bytes that are left, in order
  pub left : List ℕ
  -- the most bytes that one call moves
  pub most : ℕ
  -- the numbers of the calls that fail, counted from 1
  pub failing : List ℕ
  -- how many calls there were
  pub calls : ℕ
  -- how many of them failed
  pub faults : ℕ

-- a sink in memory
pub record SinkValue : Type 0 where
  -- the bytes that were taken, in order
  pub held : List ℕ
  -- how many more bytes there is room for
  pub room : ℕ
  -- the most bytes that one call takes
  pub most : ℕ
  -- the numbers of the calls that fail, counted from 1
  pub failing : List ℕ
  -- how many calls there were
  pub calls : ℕ
  -- how many of them failed
  pub faults : ℕ
