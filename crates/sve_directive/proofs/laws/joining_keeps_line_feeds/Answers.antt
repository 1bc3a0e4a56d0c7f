use Rattle.sve_directive.proofs.DefinitionLaws.{joining_keeps_line_feeds}
use Rattle.sve_directive.proofs.laws.joining_keeps_line_feeds.Goals as goal

pub returns : goal.returns
returns c = joining_keeps_line_feeds
