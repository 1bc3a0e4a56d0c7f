-- Which pieces of a macro's text a use looks at, so that it costs what it gives (own).
use Rattle.std.specs.Prelude.{◌≡◌, ℕ, ◌<◌, ◌⊎◌, List, [], length, slice_index_or}
use Rattle.std.specs.Global.{Vec}
use Rattle.std.specs.List.{All, Contains}
use Rattle.std.specs.List.Sorted.{IsStrictlyIncreasing}
use Rattle.sve_macro.specs.declared.piece_numbers.PieceNumbers.{PieceNumbers}
use Rattle.sve_macro.specs.declared.template.Piece.{Piece}
use Rattle.sve_macro.specs.Substitution.{Formal, actual_at}
use Rattle.sve_macro.specs.Template.{value_at, piece_value}

-- the piece gives nothing where the actual at this place is empty or missing
abbrev pub WaitsFor : List Formal → Piece → ℕ → Type 0
WaitsFor formals piece place =
    (text : List ℕ) (actuals : List (List ℕ)) → actual_at actuals place ≡ [] → piece_value text (value_at formals actuals) piece ≡ []

-- the number of a piece stands in the list of the formal for whose actual it waits
pub record IsListed (formals : List Formal) (ps : List Piece) (lists : List (Vec ℕ)) (number : ℕ) : Type 0 where
  pub place : ℕ
  pub known : place < length lists
  pub listed : (d : Vec ℕ) → Contains (slice_index_or lists place d).items number
  pub waits : (d : Piece) → WaitsFor formals (slice_index_or ps number d) place

-- each of the first pieces is in a list, and each list has numbers of pieces
pub record AreNumbered (formals : List Formal) (ps : List Piece) (count : ℕ) (numbers : PieceNumbers) : Type 0 where
  pub each : (number : ℕ) → number < count → Contains numbers.always.items number ⊎ IsListed formals ps numbers.by_formal.items number
  pub places : length numbers.by_formal.items ≡ length formals
  pub always : All (λ n. n < length ps) numbers.always.items
  pub lists : (place : ℕ) (d : Vec ℕ) → place < length numbers.by_formal.items → All (λ n. n < length ps) (slice_index_or numbers.by_formal.items place d).items

-- what stands in each use, and what is in the list of each formal whose actual, one of the first, gives something
pub record Gathers (numbers : PieceNumbers) (actuals : List (List ℕ)) (count : ℕ) (ns : List ℕ) : Type 0 where
  pub always : (n : ℕ) → Contains numbers.always.items n → Contains ns n
  pub given : (place n : ℕ) (d : Vec ℕ) → place < count → place < length numbers.by_formal.items → 0 < length (actual_at actuals place) → Contains (slice_index_or numbers.by_formal.items place d).items n → Contains ns n
  pub below : (bound : ℕ) → All (λ n. n < bound) numbers.always.items →
      ((place : ℕ) (d : Vec ℕ) → place < length numbers.by_formal.items → All (λ n. n < bound) (slice_index_or numbers.by_formal.items place d).items) → All (λ n. n < bound) ns

-- the numbers rise, and each piece whose number is not among them gives nothing
pub record Covers (value : Piece → List ℕ) (ps : List Piece) (ns : List ℕ) : Type 0 where
  pub rise : IsStrictlyIncreasing ns
  pub below : All (λ n. n < length ps) ns
  pub others : (number : ℕ) (d : Piece) → number < length ps → (value (slice_index_or ps number d) ≡ []) ⊎ Contains ns number
