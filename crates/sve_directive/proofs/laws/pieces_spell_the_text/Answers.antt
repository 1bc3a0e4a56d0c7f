use Rattle.sve_directive.proofs.DefinitionLaws.{pieces_spell_the_text}
use Rattle.sve_directive.proofs.laws.pieces_spell_the_text.Goals as goal

pub returns : goal.returns
returns c = pieces_spell_the_text
