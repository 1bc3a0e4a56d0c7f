use Rattle.std.proofs.Common.{inl, inr}
use Rattle.sve_grammar.proofs.Unlike.{unlike_word}
use Rattle.sve_parse_flat_item.proofs.FirstTokens.{word_same, no_item_word, of_KwImport, of_KwParameter, of_KwLocalparam, of_KwTypedef, of_KwFunction, of_KwGenvar, of_KwWire, of_KwTri, of_KwUwire, of_KwWand, of_KwWor, of_KwTriand, of_KwTrior, of_KwTri0, of_KwTri1, of_KwSupply0, of_KwSupply1, of_KwVar, of_KwByte, of_KwShortint, of_KwInt, of_KwLongint, of_KwInteger, of_KwTime, of_KwBit, of_KwLogic, of_KwReg, of_KwString, of_KwEnum, of_KwStruct, of_KwAssign, of_KwAlways, of_KwAlwaysFf, of_KwAlwaysComb, of_KwAlwaysLatch, of_KwInitial, of_KwGenerate, of_KwFor, of_KwIf, of_KwCase, of_KwModport}
use Rattle.sve_parse_flat_item.proofs.begins.form_of_keyword.Goals as goal

pub returns-in-KwImport : goal.returns-in-KwImport
returns-in-KwImport c = word_same _ _ 1 c.in-KwImport.is of_KwImport

pub returns-in-KwParameter : goal.returns-in-KwParameter
returns-in-KwParameter c = elim c.in-KwParameter.is [
  | inl e ↦ word_same _ _ 2 e of_KwParameter
  | inr e ↦ word_same _ _ 2 e of_KwLocalparam
]

pub returns-in-KwTypedef : goal.returns-in-KwTypedef
returns-in-KwTypedef c = word_same _ _ 3 c.in-KwTypedef.is of_KwTypedef

pub returns-in-KwFunction : goal.returns-in-KwFunction
returns-in-KwFunction c = word_same _ _ 4 c.in-KwFunction.is of_KwFunction

pub returns-in-KwGenvar : goal.returns-in-KwGenvar
returns-in-KwGenvar c = word_same _ _ 5 c.in-KwGenvar.is of_KwGenvar

pub returns-in-KwWire : goal.returns-in-KwWire
returns-in-KwWire c = elim c.in-KwWire.is [
  | inl e ↦ word_same _ _ 6 e of_KwWire
  | inr (inl e) ↦ word_same _ _ 6 e of_KwTri
  | inr (inr (inl e)) ↦ word_same _ _ 6 e of_KwUwire
  | inr (inr (inr (inl e))) ↦ word_same _ _ 6 e of_KwWand
  | inr (inr (inr (inr (inl e)))) ↦ word_same _ _ 6 e of_KwWor
  | inr (inr (inr (inr (inr (inl e))))) ↦ word_same _ _ 6 e of_KwTriand
  | inr (inr (inr (inr (inr (inr (inl e)))))) ↦ word_same _ _ 6 e of_KwTrior
  | inr (inr (inr (inr (inr (inr (inr (inl e))))))) ↦ word_same _ _ 6 e of_KwTri0
  | inr (inr (inr (inr (inr (inr (inr (inr (inl e)))))))) ↦ word_same _ _ 6 e of_KwTri1
  | inr (inr (inr (inr (inr (inr (inr (inr (inr (inl e))))))))) ↦ word_same _ _ 6 e of_KwSupply0
  | inr (inr (inr (inr (inr (inr (inr (inr (inr (inr e))))))))) ↦ word_same _ _ 6 e of_KwSupply1
]

pub returns-in-KwVar : goal.returns-in-KwVar
returns-in-KwVar c = word_same _ _ 7 c.in-KwVar.is of_KwVar

pub returns-in-KwByte : goal.returns-in-KwByte
returns-in-KwByte c = elim c.in-KwByte.is [
  | inl e ↦ word_same _ _ 8 e of_KwByte
  | inr (inl e) ↦ word_same _ _ 8 e of_KwShortint
  | inr (inr (inl e)) ↦ word_same _ _ 8 e of_KwInt
  | inr (inr (inr (inl e))) ↦ word_same _ _ 8 e of_KwLongint
  | inr (inr (inr (inr (inl e)))) ↦ word_same _ _ 8 e of_KwInteger
  | inr (inr (inr (inr (inr (inl e))))) ↦ word_same _ _ 8 e of_KwTime
  | inr (inr (inr (inr (inr (inr (inl e)))))) ↦ word_same _ _ 8 e of_KwBit
  | inr (inr (inr (inr (inr (inr (inr (inl e))))))) ↦ word_same _ _ 8 e of_KwLogic
  | inr (inr (inr (inr (inr (inr (inr (inr (inl e)))))))) ↦ word_same _ _ 8 e of_KwReg
  | inr (inr (inr (inr (inr (inr (inr (inr (inr (inl e))))))))) ↦ word_same _ _ 8 e of_KwString
  | inr (inr (inr (inr (inr (inr (inr (inr (inr (inr (inl e)))))))))) ↦ word_same _ _ 8 e of_KwEnum
  | inr (inr (inr (inr (inr (inr (inr (inr (inr (inr (inr e)))))))))) ↦ word_same _ _ 8 e of_KwStruct
]

pub returns-in-KwAssign : goal.returns-in-KwAssign
returns-in-KwAssign c = word_same _ _ 9 c.in-KwAssign.is of_KwAssign

pub returns-in-KwAlways : goal.returns-in-KwAlways
returns-in-KwAlways c = elim c.in-KwAlways.is [
  | inl e ↦ word_same _ _ 10 e of_KwAlways
  | inr e ↦ word_same _ _ 10 e of_KwAlwaysFf
]

pub returns-in-KwAlwaysComb : goal.returns-in-KwAlwaysComb
returns-in-KwAlwaysComb c = elim c.in-KwAlwaysComb.is [
  | inl e ↦ word_same _ _ 11 e of_KwAlwaysComb
  | inr (inl e) ↦ word_same _ _ 11 e of_KwAlwaysLatch
  | inr (inr e) ↦ word_same _ _ 11 e of_KwInitial
]

pub returns-in-KwGenerate : goal.returns-in-KwGenerate
returns-in-KwGenerate c = word_same _ _ 12 c.in-KwGenerate.is of_KwGenerate

pub returns-in-KwFor : goal.returns-in-KwFor
returns-in-KwFor c = word_same _ _ 13 c.in-KwFor.is of_KwFor

pub returns-in-KwIf : goal.returns-in-KwIf
returns-in-KwIf c = word_same _ _ 14 c.in-KwIf.is of_KwIf

pub returns-in-KwCase : goal.returns-in-KwCase
returns-in-KwCase c = word_same _ _ 15 c.in-KwCase.is of_KwCase

pub returns-in-KwModport : goal.returns-in-KwModport
returns-in-KwModport c = word_same _ _ 16 c.in-KwModport.is of_KwModport

pub returns-in_default : goal.returns-in_default
returns-in_default c = no_item_word c.args.word (unlike_word _ _ c.in_default.not-KwImport) (unlike_word _ _ c.in_default.not-KwParameter) (unlike_word _ _ c.in_default.not-KwLocalparam) (unlike_word _ _ c.in_default.not-KwTypedef) (unlike_word _ _ c.in_default.not-KwFunction) (unlike_word _ _ c.in_default.not-KwGenvar) (unlike_word _ _ c.in_default.not-KwWire) (unlike_word _ _ c.in_default.not-KwTri) (unlike_word _ _ c.in_default.not-KwUwire) (unlike_word _ _ c.in_default.not-KwWand) (unlike_word _ _ c.in_default.not-KwWor) (unlike_word _ _ c.in_default.not-KwTriand) (unlike_word _ _ c.in_default.not-KwTrior) (unlike_word _ _ c.in_default.not-KwTri0) (unlike_word _ _ c.in_default.not-KwTri1) (unlike_word _ _ c.in_default.not-KwSupply0) (unlike_word _ _ c.in_default.not-KwSupply1) (unlike_word _ _ c.in_default.not-KwVar) (unlike_word _ _ c.in_default.not-KwByte) (unlike_word _ _ c.in_default.not-KwShortint) (unlike_word _ _ c.in_default.not-KwInt) (unlike_word _ _ c.in_default.not-KwLongint) (unlike_word _ _ c.in_default.not-KwInteger) (unlike_word _ _ c.in_default.not-KwTime) (unlike_word _ _ c.in_default.not-KwBit) (unlike_word _ _ c.in_default.not-KwLogic) (unlike_word _ _ c.in_default.not-KwReg) (unlike_word _ _ c.in_default.not-KwString) (unlike_word _ _ c.in_default.not-KwEnum) (unlike_word _ _ c.in_default.not-KwStruct) (unlike_word _ _ c.in_default.not-KwAssign) (unlike_word _ _ c.in_default.not-KwAlways) (unlike_word _ _ c.in_default.not-KwAlwaysFf) (unlike_word _ _ c.in_default.not-KwAlwaysComb) (unlike_word _ _ c.in_default.not-KwAlwaysLatch) (unlike_word _ _ c.in_default.not-KwInitial) (unlike_word _ _ c.in_default.not-KwGenerate) (unlike_word _ _ c.in_default.not-KwFor) (unlike_word _ _ c.in_default.not-KwIf) (unlike_word _ _ c.in_default.not-KwCase) (unlike_word _ _ c.in_default.not-KwModport)
