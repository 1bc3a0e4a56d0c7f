-- The bytes of a piece.
use Rattle.std.specs.Prelude.{ℕ, List}
use Rattle.sve_text.specs.declared.piece.Lent.{Lent}
use Rattle.sve_text.specs.declared.piece.Lent.TheVariants.{Bytes, Whole}

abbrev pub bytes_lent : Lent → List ℕ
bytes_lent (Bytes bytes) = bytes.now
bytes_lent (Whole text) = text.now
