-- The kinds of the keywords by their first letter, and the one that a text is (IEEE 1800-2017, Annex B).
use Rattle.std.specs.Prelude.{ℕ, ◌==◌, List, [], ◌∷◌, Option, Some, None, if◌then◌else◌}
use Rattle.std.specs.Str.{bytes_eq}
use Rattle.sve_token.specs.declared.keywords.Keyword.TheVariants.{KwAlways, KwAlwaysComb, KwAlwaysFf, KwAlwaysLatch, KwAssign, KwAutomatic, KwBegin, KwBit, KwBreak, KwByte, KwCase, KwCasex, KwCasez, KwContinue, KwDefault, KwDo, KwEdge, KwElse, KwEnd, KwEndcase, KwEndfunction, KwEndgenerate, KwEndinterface, KwEndmodule, KwEndpackage, KwEnum, KwFor, KwForeach, KwFunction, KwGenerate, KwGenvar, KwIf, KwImport, KwInitial, KwInout, KwInput, KwInside, KwInt, KwInteger, KwInterface, KwLocalparam, KwLogic, KwLongint, KwMacromodule, KwModport, KwModule, KwNegedge, KwOr, KwOutput, KwPackage, KwPacked, KwParameter, KwPosedge, KwPriority, KwRef, KwReg, KwRepeat, KwReturn, KwShortint, KwSigned, KwStatic, KwString, KwStruct, KwSupply0, KwSupply1, KwTime, KwTri, KwTri0, KwTri1, KwTriand, KwTrior, KwTypedef, KwUnique, KwUnique0, KwUnsigned, KwUwire, KwVar, KwVoid, KwWand, KwWhile, KwWire, KwWor}
use Rattle.sve_token.specs.declared.reserved.Reserved.TheVariants.{KwAcceptOn, KwAlias, KwAnd, KwAssert, KwAssume, KwBefore, KwBind, KwBins, KwBinsof, KwBuf, KwBufif0, KwBufif1, KwCell, KwChandle, KwChecker, KwClass, KwClocking, KwCmos, KwConfig, KwConst, KwConstraint, KwContext, KwCover, KwCovergroup, KwCoverpoint, KwCross, KwDeassign, KwDefparam, KwDesign, KwDisable, KwDist, KwEndchecker, KwEndclass, KwEndclocking, KwEndconfig, KwEndgroup, KwEndprimitive, KwEndprogram, KwEndproperty, KwEndsequence, KwEndspecify, KwEndtable, KwEndtask, KwEvent, KwEventually, KwExpect, KwExport, KwExtends, KwExtern, KwFinal, KwFirstMatch, KwForce, KwForever, KwFork, KwForkjoin, KwGlobal, KwHighz0, KwHighz1, KwIff, KwIfnone, KwIgnoreBins, KwIllegalBins, KwImplements, KwImplies, KwIncdir, KwInclude, KwInstance, KwInterconnect, KwIntersect, KwJoin, KwJoinAny, KwJoinNone, KwLarge, KwLet, KwLiblist, KwLibrary, KwLocal, KwMatches, KwMedium, KwNand, KwNettype, KwNew, KwNexttime, KwNmos, KwNor, KwNoshowcancelled, KwNot, KwNotif0, KwNotif1, KwNull, KwPmos, KwPrimitive, KwProgram, KwProperty, KwProtected, KwPull0, KwPull1, KwPulldown, KwPullup, KwPulsestyleOndetect, KwPulsestyleOnevent, KwPure, KwRand, KwRandc, KwRandcase, KwRandsequence, KwRcmos, KwReal, KwRealtime, KwRejectOn, KwRelease, KwRestrict, KwRnmos, KwRpmos, KwRtran, KwRtranif0, KwRtranif1, KwSAlways, KwSEventually, KwSNexttime, KwSUntil, KwSUntilWith, KwScalared, KwSequence, KwShortreal, KwShowcancelled, KwSmall, KwSoft, KwSolve, KwSpecify, KwSpecparam, KwStrong, KwStrong0, KwStrong1, KwSuper, KwSyncAcceptOn, KwSyncRejectOn, KwTable, KwTagged, KwTask, KwThis, KwThroughout, KwTimeprecision, KwTimeunit, KwTran, KwTranif0, KwTranif1, KwTrireg, KwType, KwUnion, KwUntil, KwUntilWith, KwUntyped, KwUse, KwVectored, KwVirtual, KwWait, KwWaitOrder, KwWeak, KwWeak0, KwWeak1, KwWildcard, KwWith, KwWithin, KwXnor, KwXor}
use Rattle.sve_token.specs.declared.kind.Kind.{Kind}
use Rattle.sve_token.specs.declared.kind.Kind.TheVariants.{Keyword, Reserved}
use Rattle.sve_token.specs.WordText.{word_text}

abbrev pub a_kinds : List Kind
a_kinds =
    Reserved KwAcceptOn ∷ Reserved KwAlias ∷ Keyword KwAlways ∷ Keyword KwAlwaysComb ∷ Keyword KwAlwaysFf ∷ Keyword KwAlwaysLatch ∷ Reserved KwAnd ∷ Reserved KwAssert ∷ Keyword KwAssign ∷
    Reserved KwAssume ∷ Keyword KwAutomatic ∷ []

abbrev pub b_kinds : List Kind
b_kinds =
    Reserved KwBefore ∷ Keyword KwBegin ∷ Reserved KwBind ∷ Reserved KwBins ∷ Reserved KwBinsof ∷ Keyword KwBit ∷ Keyword KwBreak ∷ Reserved KwBuf ∷ Reserved KwBufif0 ∷ Reserved KwBufif1 ∷ Keyword KwByte ∷ []

abbrev pub c_kinds : List Kind
c_kinds =
    Keyword KwCase ∷ Keyword KwCasex ∷ Keyword KwCasez ∷ Reserved KwCell ∷ Reserved KwChandle ∷ Reserved KwChecker ∷ Reserved KwClass ∷ Reserved KwClocking ∷ Reserved KwCmos ∷ Reserved KwConfig ∷
    Reserved KwConst ∷ Reserved KwConstraint ∷ Reserved KwContext ∷ Keyword KwContinue ∷ Reserved KwCover ∷ Reserved KwCovergroup ∷ Reserved KwCoverpoint ∷ Reserved KwCross ∷ []

abbrev pub d_kinds : List Kind
d_kinds =
    Reserved KwDeassign ∷ Keyword KwDefault ∷ Reserved KwDefparam ∷ Reserved KwDesign ∷ Reserved KwDisable ∷ Reserved KwDist ∷ Keyword KwDo ∷ []

abbrev pub e_kinds : List Kind
e_kinds =
    Keyword KwEdge ∷ Keyword KwElse ∷ Keyword KwEnd ∷ Keyword KwEndcase ∷ Reserved KwEndchecker ∷ Reserved KwEndclass ∷ Reserved KwEndclocking ∷ Reserved KwEndconfig ∷ Keyword KwEndfunction ∷
    Keyword KwEndgenerate ∷ Reserved KwEndgroup ∷ Keyword KwEndinterface ∷ Keyword KwEndmodule ∷ Keyword KwEndpackage ∷ Reserved KwEndprimitive ∷ Reserved KwEndprogram ∷
    Reserved KwEndproperty ∷ Reserved KwEndsequence ∷ Reserved KwEndspecify ∷ Reserved KwEndtable ∷ Reserved KwEndtask ∷ Keyword KwEnum ∷ Reserved KwEvent ∷ Reserved KwEventually ∷
    Reserved KwExpect ∷ Reserved KwExport ∷ Reserved KwExtends ∷ Reserved KwExtern ∷ []

abbrev pub f_kinds : List Kind
f_kinds =
    Reserved KwFinal ∷ Reserved KwFirstMatch ∷ Keyword KwFor ∷ Reserved KwForce ∷ Keyword KwForeach ∷ Reserved KwForever ∷ Reserved KwFork ∷ Reserved KwForkjoin ∷ Keyword KwFunction ∷ []

abbrev pub g_kinds : List Kind
g_kinds =
    Keyword KwGenerate ∷ Keyword KwGenvar ∷ Reserved KwGlobal ∷ []

abbrev pub h_kinds : List Kind
h_kinds =
    Reserved KwHighz0 ∷ Reserved KwHighz1 ∷ []

abbrev pub i_kinds : List Kind
i_kinds =
    Keyword KwIf ∷ Reserved KwIff ∷ Reserved KwIfnone ∷ Reserved KwIgnoreBins ∷ Reserved KwIllegalBins ∷ Reserved KwImplements ∷ Reserved KwImplies ∷ Keyword KwImport ∷ Reserved KwIncdir ∷
    Reserved KwInclude ∷ Keyword KwInitial ∷ Keyword KwInout ∷ Keyword KwInput ∷ Keyword KwInside ∷ Reserved KwInstance ∷ Keyword KwInt ∷ Keyword KwInteger ∷ Reserved KwInterconnect ∷
    Keyword KwInterface ∷ Reserved KwIntersect ∷ []

abbrev pub j_kinds : List Kind
j_kinds =
    Reserved KwJoin ∷ Reserved KwJoinAny ∷ Reserved KwJoinNone ∷ []

abbrev pub l_kinds : List Kind
l_kinds =
    Reserved KwLarge ∷ Reserved KwLet ∷ Reserved KwLiblist ∷ Reserved KwLibrary ∷ Reserved KwLocal ∷ Keyword KwLocalparam ∷ Keyword KwLogic ∷ Keyword KwLongint ∷ []

abbrev pub m_kinds : List Kind
m_kinds =
    Keyword KwMacromodule ∷ Reserved KwMatches ∷ Reserved KwMedium ∷ Keyword KwModport ∷ Keyword KwModule ∷ []

abbrev pub n_kinds : List Kind
n_kinds =
    Reserved KwNand ∷ Keyword KwNegedge ∷ Reserved KwNettype ∷ Reserved KwNew ∷ Reserved KwNexttime ∷ Reserved KwNmos ∷ Reserved KwNor ∷ Reserved KwNoshowcancelled ∷ Reserved KwNot ∷ Reserved KwNotif0 ∷
    Reserved KwNotif1 ∷ Reserved KwNull ∷ []

abbrev pub o_kinds : List Kind
o_kinds =
    Keyword KwOr ∷ Keyword KwOutput ∷ []

abbrev pub p_kinds : List Kind
p_kinds =
    Keyword KwPackage ∷ Keyword KwPacked ∷ Keyword KwParameter ∷ Reserved KwPmos ∷ Keyword KwPosedge ∷ Reserved KwPrimitive ∷ Keyword KwPriority ∷ Reserved KwProgram ∷ Reserved KwProperty ∷
    Reserved KwProtected ∷ Reserved KwPull0 ∷ Reserved KwPull1 ∷ Reserved KwPulldown ∷ Reserved KwPullup ∷ Reserved KwPulsestyleOndetect ∷ Reserved KwPulsestyleOnevent ∷ Reserved KwPure ∷
    []

abbrev pub r_kinds : List Kind
r_kinds =
    Reserved KwRand ∷ Reserved KwRandc ∷ Reserved KwRandcase ∷ Reserved KwRandsequence ∷ Reserved KwRcmos ∷ Reserved KwReal ∷ Reserved KwRealtime ∷ Keyword KwRef ∷ Keyword KwReg ∷ Reserved KwRejectOn ∷
    Reserved KwRelease ∷ Keyword KwRepeat ∷ Reserved KwRestrict ∷ Keyword KwReturn ∷ Reserved KwRnmos ∷ Reserved KwRpmos ∷ Reserved KwRtran ∷ Reserved KwRtranif0 ∷ Reserved KwRtranif1 ∷ []

abbrev pub s_kinds : List Kind
s_kinds =
    Reserved KwSAlways ∷ Reserved KwSEventually ∷ Reserved KwSNexttime ∷ Reserved KwSUntil ∷ Reserved KwSUntilWith ∷ Reserved KwScalared ∷ Reserved KwSequence ∷ Keyword KwShortint ∷
    Reserved KwShortreal ∷ Reserved KwShowcancelled ∷ Keyword KwSigned ∷ Reserved KwSmall ∷ Reserved KwSoft ∷ Reserved KwSolve ∷ Reserved KwSpecify ∷ Reserved KwSpecparam ∷ Keyword KwStatic ∷
    Keyword KwString ∷ Reserved KwStrong ∷ Reserved KwStrong0 ∷ Reserved KwStrong1 ∷ Keyword KwStruct ∷ Reserved KwSuper ∷ Keyword KwSupply0 ∷ Keyword KwSupply1 ∷ Reserved KwSyncAcceptOn ∷
    Reserved KwSyncRejectOn ∷ []

abbrev pub t_kinds : List Kind
t_kinds =
    Reserved KwTable ∷ Reserved KwTagged ∷ Reserved KwTask ∷ Reserved KwThis ∷ Reserved KwThroughout ∷ Keyword KwTime ∷ Reserved KwTimeprecision ∷ Reserved KwTimeunit ∷ Reserved KwTran ∷
    Reserved KwTranif0 ∷ Reserved KwTranif1 ∷ Keyword KwTri ∷ Keyword KwTri0 ∷ Keyword KwTri1 ∷ Keyword KwTriand ∷ Keyword KwTrior ∷ Reserved KwTrireg ∷ Reserved KwType ∷ Keyword KwTypedef ∷ []

abbrev pub u_kinds : List Kind
u_kinds =
    Reserved KwUnion ∷ Keyword KwUnique ∷ Keyword KwUnique0 ∷ Keyword KwUnsigned ∷ Reserved KwUntil ∷ Reserved KwUntilWith ∷ Reserved KwUntyped ∷ Reserved KwUse ∷ Keyword KwUwire ∷ []

abbrev pub v_kinds : List Kind
v_kinds =
    Keyword KwVar ∷ Reserved KwVectored ∷ Reserved KwVirtual ∷ Keyword KwVoid ∷ []

abbrev pub w_kinds : List Kind
w_kinds =
    Reserved KwWait ∷ Reserved KwWaitOrder ∷ Keyword KwWand ∷ Reserved KwWeak ∷ Reserved KwWeak0 ∷ Reserved KwWeak1 ∷ Keyword KwWhile ∷ Reserved KwWildcard ∷ Keyword KwWire ∷ Reserved KwWith ∷ Reserved KwWithin ∷
    Keyword KwWor ∷ []

abbrev pub x_kinds : List Kind
x_kinds =
    Reserved KwXnor ∷ Reserved KwXor ∷ []

-- the kinds of the keywords that begin with a letter, in byte order
unfoldable pub kinds_at : ℕ → List Kind
kinds_at letter =
    if letter == 97 then a_kinds
    else if letter == 98 then b_kinds
    else if letter == 99 then c_kinds
    else if letter == 100 then d_kinds
    else if letter == 101 then e_kinds
    else if letter == 102 then f_kinds
    else if letter == 103 then g_kinds
    else if letter == 104 then h_kinds
    else if letter == 105 then i_kinds
    else if letter == 106 then j_kinds
    else if letter == 108 then l_kinds
    else if letter == 109 then m_kinds
    else if letter == 110 then n_kinds
    else if letter == 111 then o_kinds
    else if letter == 112 then p_kinds
    else if letter == 114 then r_kinds
    else if letter == 115 then s_kinds
    else if letter == 116 then t_kinds
    else if letter == 117 then u_kinds
    else if letter == 118 then v_kinds
    else if letter == 119 then w_kinds
    else if letter == 120 then x_kinds
    else []

-- the first of some kinds that is spelled so
abbrev pub spelled_so : List Kind → List ℕ → Option Kind
spelled_so [] text = None
spelled_so (k ∷ ks) text = if bytes_eq (word_text k) text then Some k else spelled_so ks text

-- the kind of the keyword that a text is, if it is one
unfoldable pub keyword_of : List ℕ → Option Kind
keyword_of [] = None
keyword_of (b ∷ bs) = spelled_so (kinds_at b) (b ∷ bs)
