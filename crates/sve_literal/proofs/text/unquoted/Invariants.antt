use Rattle.std.proofs.Common.{◌≡◌, ◌++◌, drop}
use Rattle.sve_literal.specs.Strings.{spelled}
use Rattle.sve_literal.specs.declared.escapes.Escape.TheVariants.{Closed}
use Rattle.sve_literal.proofs.text.unquoted.Given as goal

abbrev pub invariant-literal : goal.invariant-literal
invariant-literal l = l.bytes.items ++ spelled l.escape (drop l.byte-index l.literal) ≡ spelled Closed l.literal
