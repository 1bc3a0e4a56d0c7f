use Rattle.std.proofs.Common.{Some}
use Rattle.sve_parse_form.specs.declared.forms.Declared.TheVariants as declared
use Rattle.sve_parse_form.specs.declared.forms.ItemForm.TheVariants as items
use Rattle.sve_parse_form.proofs.FirstTokens.{item_same, item_of_other, item_of_Identifier, item_of_Semicolon, item_of_SystemName, item_of_PlusPlus, item_of_MinusMinus, item_of_LeftBrace}
use Rattle.sve_parse_form.proofs.forms.item_of.Goals as goal

pub returns-in-Identifier : goal.returns-in-Identifier
returns-in-Identifier c = item_same _ _ (Some (items.Declared declared.Name)) c.in-Identifier.is item_of_Identifier

pub returns-in-Semicolon : goal.returns-in-Semicolon
returns-in-Semicolon c = item_same _ _ (Some items.Statement) c.in-Semicolon.is item_of_Semicolon

pub returns-in-SystemName : goal.returns-in-SystemName
returns-in-SystemName c = item_same _ _ (Some items.Statement) c.in-SystemName.is item_of_SystemName

pub returns-in-PlusPlus : goal.returns-in-PlusPlus
returns-in-PlusPlus c = item_same _ _ (Some items.Statement) c.in-PlusPlus.is item_of_PlusPlus

pub returns-in-MinusMinus : goal.returns-in-MinusMinus
returns-in-MinusMinus c = item_same _ _ (Some items.Statement) c.in-MinusMinus.is item_of_MinusMinus

pub returns-in-LeftBrace : goal.returns-in-LeftBrace
returns-in-LeftBrace c = item_same _ _ (Some items.Statement) c.in-LeftBrace.is item_of_LeftBrace

pub returns-in-Keyword : goal.returns-in-Keyword
returns-in-Keyword c = item_same _ _ c.item_of_keyword.result c.in-Keyword.is c.item_of_keyword.ensures

pub returns-in_default : goal.returns-in_default
returns-in_default c = item_of_other c.args.kind c.in_default.not-Keyword c.in_default.not-Semicolon c.in_default.not-SystemName c.in_default.not-PlusPlus c.in_default.not-MinusMinus c.in_default.not-LeftBrace c.in_default.not-Identifier
