use Rattle.std.proofs.Common.{inl, inr}
use Rattle.sve_parse_form.specs.declared.forms.Form.TheVariants as forms
use Rattle.sve_parse_form.specs.declared.forms.Plain.TheVariants as plain
use Rattle.sve_parse_form.proofs.FirstTokens.{form_of_word, form_of_other_word, form_of_KwBegin, form_of_KwIf, form_of_KwCase, form_of_KwCasez, form_of_KwCasex, form_of_KwUnique, form_of_KwUnique0, form_of_KwPriority, form_of_KwFor, form_of_KwForeach, form_of_KwWhile, form_of_KwRepeat, form_of_KwDo, form_of_KwReturn, form_of_KwBreak, form_of_KwContinue, form_of_KwVoid}
use Rattle.sve_parse_form.proofs.forms.form_of_keyword.Goals as goal

pub returns-in-KwBegin : goal.returns-in-KwBegin
returns-in-KwBegin c = form_of_word _ _ forms.Block c.in-KwBegin.is form_of_KwBegin

pub returns-in-KwIf : goal.returns-in-KwIf
returns-in-KwIf c = elim c.in-KwIf.is [
  | inl e ↦ form_of_word _ _ forms.Choice e form_of_KwIf
  | inr (inl e) ↦ form_of_word _ _ forms.Choice e form_of_KwCase
  | inr (inr (inl e)) ↦ form_of_word _ _ forms.Choice e form_of_KwCasez
  | inr (inr (inr (inl e))) ↦ form_of_word _ _ forms.Choice e form_of_KwCasex
  | inr (inr (inr (inr (inl e)))) ↦ form_of_word _ _ forms.Choice e form_of_KwUnique
  | inr (inr (inr (inr (inr (inl e))))) ↦ form_of_word _ _ forms.Choice e form_of_KwUnique0
  | inr (inr (inr (inr (inr (inr e))))) ↦ form_of_word _ _ forms.Choice e form_of_KwPriority
]

pub returns-in-KwFor : goal.returns-in-KwFor
returns-in-KwFor c = form_of_word _ _ forms.For c.in-KwFor.is form_of_KwFor

pub returns-in-KwForeach : goal.returns-in-KwForeach
returns-in-KwForeach c = form_of_word _ _ forms.Foreach c.in-KwForeach.is form_of_KwForeach

pub returns-in-KwWhile : goal.returns-in-KwWhile
returns-in-KwWhile c = elim c.in-KwWhile.is [
  | inl e ↦ form_of_word _ _ forms.Loop e form_of_KwWhile
  | inr e ↦ form_of_word _ _ forms.Loop e form_of_KwRepeat
]

pub returns-in-KwDo : goal.returns-in-KwDo
returns-in-KwDo c = form_of_word _ _ forms.Do c.in-KwDo.is form_of_KwDo

pub returns-in-KwReturn : goal.returns-in-KwReturn
returns-in-KwReturn c = form_of_word _ _ (forms.Plain plain.Return) c.in-KwReturn.is form_of_KwReturn

pub returns-in-KwBreak : goal.returns-in-KwBreak
returns-in-KwBreak c = form_of_word _ _ (forms.Plain plain.Break) c.in-KwBreak.is form_of_KwBreak

pub returns-in-KwContinue : goal.returns-in-KwContinue
returns-in-KwContinue c = form_of_word _ _ (forms.Plain plain.Continue) c.in-KwContinue.is form_of_KwContinue

pub returns-in-KwVoid : goal.returns-in-KwVoid
returns-in-KwVoid c = form_of_word _ _ (forms.Plain plain.VoidCall) c.in-KwVoid.is form_of_KwVoid

pub returns-in_default : goal.returns-in_default
returns-in_default c = form_of_other_word c.args.word c.in_default.not-KwBegin c.in_default.not-KwIf c.in_default.not-KwCase c.in_default.not-KwCasez c.in_default.not-KwCasex c.in_default.not-KwUnique c.in_default.not-KwUnique0 c.in_default.not-KwPriority c.in_default.not-KwFor c.in_default.not-KwForeach c.in_default.not-KwWhile c.in_default.not-KwRepeat c.in_default.not-KwDo c.in_default.not-KwReturn c.in_default.not-KwBreak c.in_default.not-KwContinue c.in_default.not-KwVoid
