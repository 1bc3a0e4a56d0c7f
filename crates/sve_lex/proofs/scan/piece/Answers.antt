use Rattle.std.proofs.Common.{arith, sym}
use Rattle.sve_lex.proofs.Pieces.{piece_begun, some_within}
use Rattle.sve_lex.proofs.scan.piece.Goals as goal

pub overflow_add-result : goal.overflow_add-result
overflow_add-result c = omega (arith, some_within _ _ _ _ c.requires c.in-Some.ensures)

pub returns-in-None-clause-piece : goal.returns-in-None-clause-piece
returns-in-None-clause-piece c = sym (piece_begun _ _ c.requires c.in-None.ensures)

pub returns-in-Some-clause-piece : goal.returns-in-Some-clause-piece
returns-in-Some-clause-piece c = sym (piece_begun _ _ c.requires c.in-Some.ensures)

pub returns-in-Some-clause-within : goal.returns-in-Some-clause-within
returns-in-Some-clause-within c = some_within _ _ _ _ c.requires c.in-Some.ensures
