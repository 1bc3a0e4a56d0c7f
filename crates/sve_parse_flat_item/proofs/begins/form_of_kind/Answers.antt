use Rattle.sve_parse_flat_item.proofs.FirstTokens.{kind_same, no_item_kind, of_Semicolon, of_SystemName, of_Identifier}
use Rattle.sve_parse_flat_item.proofs.begins.form_of_kind.Goals as goal

pub returns-in-Semicolon : goal.returns-in-Semicolon
returns-in-Semicolon c = kind_same _ _ 0 c.in-Semicolon.is of_Semicolon

pub returns-in-SystemName : goal.returns-in-SystemName
returns-in-SystemName c = kind_same _ _ 17 c.in-SystemName.is of_SystemName

pub returns-in-Identifier : goal.returns-in-Identifier
returns-in-Identifier c = kind_same _ _ 18 c.in-Identifier.is of_Identifier

pub returns-in_default : goal.returns-in_default
returns-in_default c = no_item_kind c.args.kind c.in_default.not-Keyword c.in_default.not-Semicolon c.in_default.not-SystemName c.in_default.not-Identifier
