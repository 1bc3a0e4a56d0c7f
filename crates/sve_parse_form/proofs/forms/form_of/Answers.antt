use Rattle.sve_parse_form.specs.declared.forms.Form.TheVariants as forms
use Rattle.sve_parse_form.specs.declared.forms.Plain.TheVariants as plain
use Rattle.sve_parse_form.proofs.FirstTokens.{form_same, form_of_other, form_of_Identifier, form_of_Semicolon, form_of_SystemName, form_of_PlusPlus, form_of_MinusMinus, form_of_LeftBrace}
use Rattle.sve_parse_form.proofs.forms.form_of.Goals as goal

pub returns-in-Identifier : goal.returns-in-Identifier
returns-in-Identifier c = form_same _ _ (forms.Plain plain.Name) c.in-Identifier.is form_of_Identifier

pub returns-in-Semicolon : goal.returns-in-Semicolon
returns-in-Semicolon c = form_same _ _ (forms.Plain plain.Empty) c.in-Semicolon.is form_of_Semicolon

pub returns-in-SystemName : goal.returns-in-SystemName
returns-in-SystemName c = form_same _ _ (forms.Plain plain.SystemTask) c.in-SystemName.is form_of_SystemName

pub returns-in-PlusPlus : goal.returns-in-PlusPlus
returns-in-PlusPlus c = form_same _ _ (forms.Plain plain.Step) c.in-PlusPlus.is form_of_PlusPlus

pub returns-in-MinusMinus : goal.returns-in-MinusMinus
returns-in-MinusMinus c = form_same _ _ (forms.Plain plain.Step) c.in-MinusMinus.is form_of_MinusMinus

pub returns-in-LeftBrace : goal.returns-in-LeftBrace
returns-in-LeftBrace c = form_same _ _ (forms.Plain plain.Concatenation) c.in-LeftBrace.is form_of_LeftBrace

pub returns-in-Keyword : goal.returns-in-Keyword
returns-in-Keyword c = form_same _ _ c.form_of_keyword.result c.in-Keyword.is c.form_of_keyword.ensures

pub returns-in_default : goal.returns-in_default
returns-in_default c = form_of_other c.args.kind c.in_default.not-Keyword c.in_default.not-Semicolon c.in_default.not-SystemName c.in_default.not-PlusPlus c.in_default.not-MinusMinus c.in_default.not-LeftBrace
