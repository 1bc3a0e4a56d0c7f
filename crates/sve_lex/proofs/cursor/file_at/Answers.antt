use Rattle.std.proofs.Common.{◌∙◌, sym}
use Rattle.sve_lex.proofs.Spots.{file_is}
use Rattle.sve_lex.proofs.cursor.file_at.Goals as goal

pub returns : goal.returns
returns c = c.bytes.ensures.bytes ∙ sym (file_is c.args.segment c.args.segments.now c.index-segments-segment.result c.requires)
