use Rattle.std.proofs.Common.{◌≡◌, drop, IsTrue}
use Rattle.sve_token.specs.Operators.{entries, descends}
use Rattle.sve_lex.specs.Classes.{listed}
use Rattle.sve_lex.specs.Longest.{longest}
use Rattle.sve_lex.proofs.front.front.Given as goal

abbrev pub invariant-loop-operator : goal.invariant-loop-operator
invariant-loop-operator l = record {
  same : longest l.text (listed (entries (drop l.operator-index l.table))) ≡ longest l.text (listed (entries l.table));
  falls : IsTrue (descends (entries (drop l.operator-index l.table)));
}
