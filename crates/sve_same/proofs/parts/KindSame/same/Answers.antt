use Rattle.std.proofs.Common.{sym, ap, ◌∙◌}
use Rattle.sve_same.specs.Kinds.{word_of, reserved_of}
use Rattle.sve_same.proofs.Exact.{one_kind}
use Rattle.sve_same.proofs.parts.KindSame.same.Goals as goal

pub returns-then-place_of : goal.returns-then-place_of
returns-then-place_of c = (
  λ is. one_kind _ _ (sym c.place_of.ensures ∙ c.if-place_of.true ∙ c.place_of-2.ensures) (c.same_words.ensures.0 is).0 (c.same_words.ensures.0 is).1,
  λ e. c.same_words.ensures.1 (ap word_of e, ap reserved_of e),
)
