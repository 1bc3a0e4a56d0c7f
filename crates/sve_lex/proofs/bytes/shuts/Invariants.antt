use Rattle.std.proofs.Common.{◌≡◌, drop}
use Rattle.sve_lex.specs.Classes.{shuts}
use Rattle.sve_lex.proofs.bytes.shuts.Given as goal

abbrev pub invariant-loop-b : goal.invariant-loop-b
invariant-loop-b l = shuts (drop l.b-index l.text) ≡ shuts l.text
