use Rattle.std.proofs.Common.{Some, inl, inr}
use Rattle.sve_parse_form.specs.declared.forms.Declared.TheVariants as declared
use Rattle.sve_parse_form.specs.declared.forms.ItemForm.TheVariants as items
use Rattle.sve_parse_form.proofs.FirstTokens.{item_of_word, item_of_other_word, item_of_KwAutomatic, item_of_KwStatic, item_of_KwVar, item_of_KwByte, item_of_KwShortint, item_of_KwInt, item_of_KwLongint, item_of_KwInteger, item_of_KwTime, item_of_KwBit, item_of_KwLogic, item_of_KwReg, item_of_KwString, item_of_KwEnum, item_of_KwStruct, item_of_KwParameter, item_of_KwLocalparam, item_of_KwTypedef, item_of_KwBegin, item_of_KwIf, item_of_KwCase, item_of_KwCasez, item_of_KwCasex, item_of_KwUnique, item_of_KwUnique0, item_of_KwPriority, item_of_KwFor, item_of_KwForeach, item_of_KwWhile, item_of_KwRepeat, item_of_KwDo, item_of_KwReturn, item_of_KwBreak, item_of_KwContinue, item_of_KwVoid}
use Rattle.sve_parse_form.proofs.forms.item_of_keyword.Goals as goal

pub returns-in-KwAutomatic : goal.returns-in-KwAutomatic
returns-in-KwAutomatic c = elim c.in-KwAutomatic.is [
  | inl e ↦ item_of_word _ _ (Some (items.Declared declared.Local)) e item_of_KwAutomatic
  | inr e ↦ item_of_word _ _ (Some (items.Declared declared.Local)) e item_of_KwStatic
]

pub returns-in-KwVar : goal.returns-in-KwVar
returns-in-KwVar c = item_of_word _ _ (Some (items.Declared declared.Variable)) c.in-KwVar.is item_of_KwVar

pub returns-in-KwByte : goal.returns-in-KwByte
returns-in-KwByte c = elim c.in-KwByte.is [
  | inl e ↦ item_of_word _ _ (Some (items.Declared declared.Data)) e item_of_KwByte
  | inr (inl e) ↦ item_of_word _ _ (Some (items.Declared declared.Data)) e item_of_KwShortint
  | inr (inr (inl e)) ↦ item_of_word _ _ (Some (items.Declared declared.Data)) e item_of_KwInt
  | inr (inr (inr (inl e))) ↦ item_of_word _ _ (Some (items.Declared declared.Data)) e item_of_KwLongint
  | inr (inr (inr (inr (inl e)))) ↦ item_of_word _ _ (Some (items.Declared declared.Data)) e item_of_KwInteger
  | inr (inr (inr (inr (inr (inl e))))) ↦ item_of_word _ _ (Some (items.Declared declared.Data)) e item_of_KwTime
  | inr (inr (inr (inr (inr (inr (inl e)))))) ↦ item_of_word _ _ (Some (items.Declared declared.Data)) e item_of_KwBit
  | inr (inr (inr (inr (inr (inr (inr (inl e))))))) ↦ item_of_word _ _ (Some (items.Declared declared.Data)) e item_of_KwLogic
  | inr (inr (inr (inr (inr (inr (inr (inr (inl e)))))))) ↦ item_of_word _ _ (Some (items.Declared declared.Data)) e item_of_KwReg
  | inr (inr (inr (inr (inr (inr (inr (inr (inr (inl e))))))))) ↦ item_of_word _ _ (Some (items.Declared declared.Data)) e item_of_KwString
  | inr (inr (inr (inr (inr (inr (inr (inr (inr (inr (inl e)))))))))) ↦ item_of_word _ _ (Some (items.Declared declared.Data)) e item_of_KwEnum
  | inr (inr (inr (inr (inr (inr (inr (inr (inr (inr (inr e)))))))))) ↦ item_of_word _ _ (Some (items.Declared declared.Data)) e item_of_KwStruct
]

pub returns-in-KwParameter : goal.returns-in-KwParameter
returns-in-KwParameter c = elim c.in-KwParameter.is [
  | inl e ↦ item_of_word _ _ (Some (items.Declared declared.Parameters)) e item_of_KwParameter
  | inr e ↦ item_of_word _ _ (Some (items.Declared declared.Parameters)) e item_of_KwLocalparam
]

pub returns-in-KwTypedef : goal.returns-in-KwTypedef
returns-in-KwTypedef c = item_of_word _ _ (Some (items.Declared declared.Typedef)) c.in-KwTypedef.is item_of_KwTypedef

pub returns-in-KwBegin : goal.returns-in-KwBegin
returns-in-KwBegin c = elim c.in-KwBegin.is [
  | inl e ↦ item_of_word _ _ (Some items.Statement) e item_of_KwBegin
  | inr (inl e) ↦ item_of_word _ _ (Some items.Statement) e item_of_KwIf
  | inr (inr (inl e)) ↦ item_of_word _ _ (Some items.Statement) e item_of_KwCase
  | inr (inr (inr (inl e))) ↦ item_of_word _ _ (Some items.Statement) e item_of_KwCasez
  | inr (inr (inr (inr (inl e)))) ↦ item_of_word _ _ (Some items.Statement) e item_of_KwCasex
  | inr (inr (inr (inr (inr (inl e))))) ↦ item_of_word _ _ (Some items.Statement) e item_of_KwUnique
  | inr (inr (inr (inr (inr (inr (inl e)))))) ↦ item_of_word _ _ (Some items.Statement) e item_of_KwUnique0
  | inr (inr (inr (inr (inr (inr (inr (inl e))))))) ↦ item_of_word _ _ (Some items.Statement) e item_of_KwPriority
  | inr (inr (inr (inr (inr (inr (inr (inr (inl e)))))))) ↦ item_of_word _ _ (Some items.Statement) e item_of_KwFor
  | inr (inr (inr (inr (inr (inr (inr (inr (inr (inl e))))))))) ↦ item_of_word _ _ (Some items.Statement) e item_of_KwForeach
  | inr (inr (inr (inr (inr (inr (inr (inr (inr (inr (inl e)))))))))) ↦ item_of_word _ _ (Some items.Statement) e item_of_KwWhile
  | inr (inr (inr (inr (inr (inr (inr (inr (inr (inr (inr (inl e))))))))))) ↦ item_of_word _ _ (Some items.Statement) e item_of_KwRepeat
  | inr (inr (inr (inr (inr (inr (inr (inr (inr (inr (inr (inr (inl e)))))))))))) ↦ item_of_word _ _ (Some items.Statement) e item_of_KwDo
  | inr (inr (inr (inr (inr (inr (inr (inr (inr (inr (inr (inr (inr (inl e))))))))))))) ↦ item_of_word _ _ (Some items.Statement) e item_of_KwReturn
  | inr (inr (inr (inr (inr (inr (inr (inr (inr (inr (inr (inr (inr (inr (inl e)))))))))))))) ↦ item_of_word _ _ (Some items.Statement) e item_of_KwBreak
  | inr (inr (inr (inr (inr (inr (inr (inr (inr (inr (inr (inr (inr (inr (inr (inl e))))))))))))))) ↦ item_of_word _ _ (Some items.Statement) e item_of_KwContinue
  | inr (inr (inr (inr (inr (inr (inr (inr (inr (inr (inr (inr (inr (inr (inr (inr e))))))))))))))) ↦ item_of_word _ _ (Some items.Statement) e item_of_KwVoid
]

pub returns-in_default : goal.returns-in_default
returns-in_default c = item_of_other_word c.args.word c.in_default.not-KwAutomatic c.in_default.not-KwStatic c.in_default.not-KwVar c.in_default.not-KwByte c.in_default.not-KwShortint c.in_default.not-KwInt c.in_default.not-KwLongint c.in_default.not-KwInteger c.in_default.not-KwTime c.in_default.not-KwBit c.in_default.not-KwLogic c.in_default.not-KwReg c.in_default.not-KwString c.in_default.not-KwEnum c.in_default.not-KwStruct c.in_default.not-KwParameter c.in_default.not-KwLocalparam c.in_default.not-KwTypedef c.in_default.not-KwBegin c.in_default.not-KwIf c.in_default.not-KwCase c.in_default.not-KwCasez c.in_default.not-KwCasex c.in_default.not-KwUnique c.in_default.not-KwUnique0 c.in_default.not-KwPriority c.in_default.not-KwFor c.in_default.not-KwForeach c.in_default.not-KwWhile c.in_default.not-KwRepeat c.in_default.not-KwDo c.in_default.not-KwReturn c.in_default.not-KwBreak c.in_default.not-KwContinue c.in_default.not-KwVoid
