use Rattle.std.proofs.Common.{◌≡◌, drop, false}
use Rattle.sve_lex.specs.Longest.{longest}
use Rattle.sve_lex.specs.Classes.{string}
use Rattle.sve_lex.specs.Shift.{further}
use Rattle.sve_lex.proofs.scan.string.Given as goal

abbrev pub invariant-bytes : goal.invariant-bytes
invariant-bytes l = further l.i (longest (drop l.i l.rest) (string l.escaped)) ≡ longest l.rest (string false)
