use Rattle.std.proofs.Common.{arith, sym, length-take}
use Rattle.std.proofs.lemmas.List.{length-take-le}
use Rattle.sve_lex.proofs.TokenSteps.{take_whole}
use Rattle.sve_lex.proofs.lexing.spelling.Goals as goal

pub returns : goal.returns
returns c = rw (sym (take_whole c.args.bytes.now (omega arith))) c.name_of-2.ensures

pub slice_bounds-name_of-end : goal.slice_bounds-name_of-end
slice_bounds-name_of-end c = sym (length-take-le 1024 c.args.bytes.now (omega arith))

pub name_of-requires-clause-short : goal.name_of-requires-clause-short
name_of-requires-clause-short c = omega (arith, length-take 1024 c.args.bytes.now)
