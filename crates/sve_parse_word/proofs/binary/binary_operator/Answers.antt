use Rattle.std.proofs.Common.{◌≡◌, arith}
use Rattle.sve_parse_word.proofs.binary.binary_operator.Goals as goal

-- behind the arms for 1 to 10 the level is 11
pub returns-in_default-clause-found : goal.returns-in_default-clause-found
returns-in_default-clause-found c = let last : c.args.level ≡ 11 = omega arith in rw last c.logical_or.ensures.found
