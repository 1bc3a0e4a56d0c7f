use Rattle.sve_directive.proofs.DefinitionLaws.{each_piece_has_a_byte}
use Rattle.sve_directive.proofs.laws.each_piece_has_a_byte.Goals as goal

pub returns : goal.returns
returns c = each_piece_has_a_byte
