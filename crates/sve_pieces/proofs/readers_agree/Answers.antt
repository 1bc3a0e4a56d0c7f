use Rattle.sve_pieces.proofs.Lexed.{same_strings, same_comments, same_identifiers}
use Rattle.sve_pieces.proofs.readers_agree.Goals as goal

pub returns-clause-strings : goal.returns-clause-strings
returns-clause-strings c = same_strings

pub returns-clause-comments : goal.returns-clause-comments
returns-clause-comments c = same_comments

pub returns-clause-identifiers : goal.returns-clause-identifiers
returns-clause-identifiers c = same_identifiers
