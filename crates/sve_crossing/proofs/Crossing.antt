-- Threads may share the values of keys, since they may share what trees are made of.
use denote.Param.Send.{IsSend, IsSync, sendable}
use Rattle.std.proofs.Crossing.{crosses}
use Rattle.sve_bytes.proofs.list.List.TheSendSync as list
use Rattle.sve_bytes.proofs.name.Name.TheSendSync as name
use Rattle.sve_tree.proofs.data_type.DataType.TheLaws.TheKnot as knot_datatype
use Rattle.sve_tree.proofs.expression.Arg.TheLaws.TheKnot as knot_arg
use Rattle.sve_tree.proofs.item.CaseGenerateItem.TheLaws.TheKnot as knot_casegenerateitem
use Rattle.sve_tree.proofs.statement.BlockItem.TheLaws.TheKnot as knot_blockitem
use Rattle.sve_tree.proofs.statement.LeftSide.TheLaws.TheKnot as knot_leftside
use Rattle.sve_tree.proofs.row.Row.TheSendSync as of_row
use Rattle.sve_tree.proofs.word.PackageScope.TheSendSync as of_packagescope
use Rattle.sve_tree.proofs.declaration.ImportItem.TheSendSync as of_importitem
use Rattle.sve_tree.proofs.declaration.Import.TheSendSync as of_import
use Rattle.sve_tree.proofs.word.Lifetime.TheSendSync as of_lifetime
use Rattle.sve_tree.proofs.word.Mark.TheSendSync as of_mark
use Rattle.sve_tree.proofs.word.BinaryOperator.TheSendSync as of_binaryoperator
use Rattle.sve_tree.proofs.word.ImplicationOperator.TheSendSync as of_implicationoperator
use Rattle.sve_tree.proofs.word.AtomKeyword.TheSendSync as of_atomkeyword
use Rattle.sve_tree.proofs.word.VectorKeyword.TheSendSync as of_vectorkeyword
use Rattle.sve_tree.proofs.word.IntegerKeyword.TheSendSync as of_integerkeyword
use Rattle.sve_tree.proofs.word.ScopedName.TheSendSync as of_scopedname
use Rattle.sve_tree.proofs.word.Sign.TheSendSync as of_sign
use Rattle.sve_tree.proofs.word.UnaryOperator.TheSendSync as of_unaryoperator
use Rattle.sve_tree.proofs.word.ParameterKeyword.TheSendSync as of_parameterkeyword
use Rattle.sve_tree.proofs.data_type.AtomType.TheSendSync as of_atomtype
use Rattle.sve_tree.proofs.word.Net.TheSendSync as of_net
use Rattle.sve_tree.proofs.header.PortKind.TheSendSync as of_portkind
use Rattle.sve_tree.proofs.word.ClockedKeyword.TheSendSync as of_clockedkeyword
use Rattle.sve_tree.proofs.word.Edge.TheSendSync as of_edge
use Rattle.sve_tree.proofs.word.EventSeparator.TheSendSync as of_eventseparator
use Rattle.sve_tree.proofs.word.CaseKeyword.TheSendSync as of_casekeyword
use Rattle.sve_tree.proofs.word.AssignmentOperator.TheSendSync as of_assignmentoperator
use Rattle.sve_tree.proofs.word.StepOperator.TheSendSync as of_stepoperator
use Rattle.sve_tree.proofs.word.Label.TheSendSync as of_label
use Rattle.sve_tree.proofs.word.LoopKeyword.TheSendSync as of_loopkeyword
use Rattle.sve_tree.proofs.word.Uniqueness.TheSendSync as of_uniqueness
use Rattle.sve_tree.proofs.statement.FormalDirection.TheSendSync as of_formaldirection
use Rattle.sve_tree.proofs.item.GenvarDeclaration.TheSendSync as of_genvardeclaration
use Rattle.sve_tree.proofs.declaration.ModportMember.TheSendSync as of_modportmember
use Rattle.sve_tree.proofs.declaration.Modport.TheSendSync as of_modport
use Rattle.sve_tree.proofs.item.ModportDeclaration.TheSendSync as of_modportdeclaration
use Rattle.sve_tree.proofs.word.PlainKeyword.TheSendSync as of_plainkeyword
use Rattle.sve_tree.proofs.word.ModuleKeyword.TheSendSync as of_modulekeyword
use Rattle.sve_tree.proofs.token_word.Word.TheSendSync as of_word
use Rattle.sve_tree.specs.contracts.expression.Arg as Arg
use Rattle.sve_tree.specs.contracts.expression.Dimension as Dimension
use Rattle.sve_tree.specs.contracts.expression.PatternItem as PatternItem
use Rattle.sve_tree.specs.contracts.expression.Range as Range
use Rattle.sve_tree.specs.contracts.expression.ValueRange as ValueRange
use Rattle.sve_tree.specs.contracts.expression.ArgumentList as ArgumentList
use Rattle.sve_tree.specs.contracts.expression.Parenthesized as Parenthesized
use Rattle.sve_tree.specs.contracts.expression.Cast as Cast
use Rattle.sve_tree.specs.contracts.expression.Pattern as Pattern
use Rattle.sve_tree.specs.contracts.expression.Expr as Expr
use Rattle.sve_tree.specs.contracts.expression.Operation as Operation
use Rattle.sve_tree.specs.contracts.expression.RangeSelect as RangeSelect
use Rattle.sve_tree.specs.contracts.expression.Select as Select
use Rattle.sve_tree.specs.contracts.expression.Postfix as Postfix
use Rattle.sve_tree.specs.contracts.data_type.Initializer as Initializer
use Rattle.sve_tree.specs.contracts.data_type.Declarator as Declarator
use Rattle.sve_tree.specs.contracts.data_type.NamedType as NamedType
use Rattle.sve_tree.specs.contracts.data_type.VectorType as VectorType
use Rattle.sve_tree.specs.contracts.data_type.EnumBase as EnumBase
use Rattle.sve_tree.specs.contracts.data_type.EnumName as EnumName
use Rattle.sve_tree.specs.contracts.data_type.Enumeration as Enumeration
use Rattle.sve_tree.specs.contracts.data_type.DataType as DataType
use Rattle.sve_tree.specs.contracts.data_type.TypeRef as TypeRef
use Rattle.sve_tree.specs.contracts.data_type.Members as Members
use Rattle.sve_tree.specs.contracts.data_type.Structure as Structure
use Rattle.sve_tree.specs.contracts.data_type.DeclaredType as DeclaredType
use Rattle.sve_tree.specs.contracts.data_type.TypedName as TypedName
use Rattle.sve_tree.specs.contracts.header.ParameterPort as ParameterPort
use Rattle.sve_tree.specs.contracts.header.ParameterPorts as ParameterPorts
use Rattle.sve_tree.specs.contracts.header.PortType as PortType
use Rattle.sve_tree.specs.contracts.header.Port as Port
use Rattle.sve_tree.specs.contracts.header.Ports as Ports
use Rattle.sve_tree.specs.contracts.header.Header as Header
use Rattle.sve_tree.specs.contracts.item.Event as Event
use Rattle.sve_tree.specs.contracts.item.EventControl as EventControl
use Rattle.sve_tree.specs.contracts.statement.LeftConcatenation as LeftConcatenation
use Rattle.sve_tree.specs.contracts.statement.LeftSide as LeftSide
use Rattle.sve_tree.specs.contracts.statement.ConcatenationAssignment as ConcatenationAssignment
use Rattle.sve_tree.specs.contracts.declaration.InitializedDeclarator as InitializedDeclarator
use Rattle.sve_tree.specs.contracts.declaration.DataDeclaration as DataDeclaration
use Rattle.sve_tree.specs.contracts.statement.ForVariable as ForVariable
use Rattle.sve_tree.specs.contracts.statement.ForInitialization as ForInitialization
use Rattle.sve_tree.specs.contracts.statement.Change as Change
use Rattle.sve_tree.specs.contracts.statement.ForStep as ForStep
use Rattle.sve_tree.specs.contracts.statement.StatementTail as StatementTail
use Rattle.sve_tree.specs.contracts.statement.NameStatement as NameStatement
use Rattle.sve_tree.specs.contracts.statement.NamedDeclaration as NamedDeclaration
use Rattle.sve_tree.specs.contracts.declaration.ParameterAssignment as ParameterAssignment
use Rattle.sve_tree.specs.contracts.declaration.Parameters as Parameters
use Rattle.sve_tree.specs.contracts.statement.ReturnStatement as ReturnStatement
use Rattle.sve_tree.specs.contracts.statement.StepStatement as StepStatement
use Rattle.sve_tree.specs.contracts.statement.SystemTask as SystemTask
use Rattle.sve_tree.specs.contracts.declaration.Typedef as Typedef
use Rattle.sve_tree.specs.contracts.declaration.VariableDeclaration as VariableDeclaration
use Rattle.sve_tree.specs.contracts.statement.VoidCall as VoidCall
use Rattle.sve_tree.specs.contracts.statement.CaseItem as CaseItem
use Rattle.sve_tree.specs.contracts.statement.Stmt as Stmt
use Rattle.sve_tree.specs.contracts.statement.BlockItem as BlockItem
use Rattle.sve_tree.specs.contracts.statement.Block as Block
use Rattle.sve_tree.specs.contracts.statement.CaseStatement as CaseStatement
use Rattle.sve_tree.specs.contracts.statement.DoStatement as DoStatement
use Rattle.sve_tree.specs.contracts.statement.ElseBranch as ElseBranch
use Rattle.sve_tree.specs.contracts.statement.ForStatement as ForStatement
use Rattle.sve_tree.specs.contracts.statement.ForeachStatement as ForeachStatement
use Rattle.sve_tree.specs.contracts.statement.IfStatement as IfStatement
use Rattle.sve_tree.specs.contracts.statement.LoopStatement as LoopStatement
use Rattle.sve_tree.specs.contracts.item.ClockedProcedure as ClockedProcedure
use Rattle.sve_tree.specs.contracts.item.NetAssignment as NetAssignment
use Rattle.sve_tree.specs.contracts.item.ContinuousAssign as ContinuousAssign
use Rattle.sve_tree.specs.contracts.statement.Formal as Formal
use Rattle.sve_tree.specs.contracts.statement.Formals as Formals
use Rattle.sve_tree.specs.contracts.statement.FunctionResult as FunctionResult
use Rattle.sve_tree.specs.contracts.statement.Func as Func
use Rattle.sve_tree.specs.contracts.item.GenvarStep as GenvarStep
use Rattle.sve_tree.specs.contracts.item.Instance as Instance
use Rattle.sve_tree.specs.contracts.item.Overrides as Overrides
use Rattle.sve_tree.specs.contracts.item.Instantiation as Instantiation
use Rattle.sve_tree.specs.contracts.declaration.NetDeclaration as NetDeclaration
use Rattle.sve_tree.specs.contracts.item.PlainProcedure as PlainProcedure
use Rattle.sve_tree.specs.contracts.item.GenerateBlock as GenerateBlock
use Rattle.sve_tree.specs.contracts.item.CaseGenerateItem as CaseGenerateItem
use Rattle.sve_tree.specs.contracts.item.Item as Item
use Rattle.sve_tree.specs.contracts.item.CaseGenerate as CaseGenerate
use Rattle.sve_tree.specs.contracts.item.ElseGenerate as ElseGenerate
use Rattle.sve_tree.specs.contracts.item.GenerateBody as GenerateBody
use Rattle.sve_tree.specs.contracts.item.GenerateRegion as GenerateRegion
use Rattle.sve_tree.specs.contracts.item.IfGenerate as IfGenerate
use Rattle.sve_tree.specs.contracts.item.LoopGenerate as LoopGenerate
use Rattle.sve_tree.specs.contracts.element.Definition as Definition
use Rattle.sve_tree.specs.contracts.element.UnitItem as UnitItem
use Rattle.sve_tree.specs.contracts.element.Package as Package
use Rattle.sve_tree.specs.contracts.element.Design as Design
use Rattle.sve_tree.specs.contracts.element.Element as Element
use Rattle.sve_key.proofs.file_text.FileText.TheSendSync as text
use Rattle.sve_key.proofs.file_tokens.FileTokens.TheSendSync as tokens
use Rattle.sve_key.proofs.file_chunks.FileChunks.TheSendSync as chunks
use Rattle.sve_index.proofs.whole.Index.TheSendSync as index
use Rattle.sve_key.specs.contracts.reading.Reading as Reading
use Rattle.sve_key.specs.contracts.value.Value as Value

arg_send : IsSend Arg.the_row
arg_send = search (sendable, crosses, of_row.the_send, of_row.the_field_send, of_binaryoperator.the_send, of_binaryoperator.the_field_send, of_implicationoperator.the_send, of_implicationoperator.the_field_send, of_integerkeyword.the_send, of_integerkeyword.the_field_send, of_mark.the_send, of_row.the_send, of_row.the_field_send, of_scopedname.the_send, of_scopedname.the_field_send, of_sign.the_send, of_sign.the_field_send, of_unaryoperator.the_send, of_unaryoperator.the_field_send, knot_arg.send-Arg) depth 60 fits 400000

arg_sync : IsSync Arg.the_row
arg_sync = search (sendable, crosses, of_row.the_sync, of_row.the_field_sync, of_binaryoperator.the_sync, of_binaryoperator.the_field_sync, of_implicationoperator.the_sync, of_implicationoperator.the_field_sync, of_integerkeyword.the_sync, of_integerkeyword.the_field_sync, of_mark.the_sync, of_row.the_sync, of_row.the_field_sync, of_scopedname.the_sync, of_scopedname.the_field_sync, of_sign.the_sync, of_sign.the_field_sync, of_unaryoperator.the_sync, of_unaryoperator.the_field_sync, knot_arg.sync-Arg) depth 60 fits 400000

dimension_send : IsSend Dimension.the_row
dimension_send = search (sendable, crosses, of_row.the_send, of_row.the_field_send, of_binaryoperator.the_send, of_binaryoperator.the_field_send, of_implicationoperator.the_send, of_implicationoperator.the_field_send, of_integerkeyword.the_send, of_integerkeyword.the_field_send, of_mark.the_send, of_row.the_send, of_row.the_field_send, of_scopedname.the_send, of_scopedname.the_field_send, of_sign.the_send, of_sign.the_field_send, of_unaryoperator.the_send, of_unaryoperator.the_field_send, knot_arg.send-Dimension) depth 60 fits 400000

dimension_sync : IsSync Dimension.the_row
dimension_sync = search (sendable, crosses, of_row.the_sync, of_row.the_field_sync, of_binaryoperator.the_sync, of_binaryoperator.the_field_sync, of_implicationoperator.the_sync, of_implicationoperator.the_field_sync, of_integerkeyword.the_sync, of_integerkeyword.the_field_sync, of_mark.the_sync, of_row.the_sync, of_row.the_field_sync, of_scopedname.the_sync, of_scopedname.the_field_sync, of_sign.the_sync, of_sign.the_field_sync, of_unaryoperator.the_sync, of_unaryoperator.the_field_sync, knot_arg.sync-Dimension) depth 60 fits 400000

patternitem_send : IsSend PatternItem.the_row
patternitem_send = search (sendable, crosses, of_row.the_send, of_row.the_field_send, of_binaryoperator.the_send, of_binaryoperator.the_field_send, of_implicationoperator.the_send, of_implicationoperator.the_field_send, of_integerkeyword.the_send, of_integerkeyword.the_field_send, of_mark.the_send, of_row.the_send, of_row.the_field_send, of_scopedname.the_send, of_scopedname.the_field_send, of_sign.the_send, of_sign.the_field_send, of_unaryoperator.the_send, of_unaryoperator.the_field_send, knot_arg.send-PatternItem) depth 60 fits 400000

patternitem_sync : IsSync PatternItem.the_row
patternitem_sync = search (sendable, crosses, of_row.the_sync, of_row.the_field_sync, of_binaryoperator.the_sync, of_binaryoperator.the_field_sync, of_implicationoperator.the_sync, of_implicationoperator.the_field_sync, of_integerkeyword.the_sync, of_integerkeyword.the_field_sync, of_mark.the_sync, of_row.the_sync, of_row.the_field_sync, of_scopedname.the_sync, of_scopedname.the_field_sync, of_sign.the_sync, of_sign.the_field_sync, of_unaryoperator.the_sync, of_unaryoperator.the_field_sync, knot_arg.sync-PatternItem) depth 60 fits 400000

range_send : IsSend Range.the_row
range_send = search (sendable, crosses, of_row.the_send, of_row.the_field_send, of_binaryoperator.the_send, of_binaryoperator.the_field_send, of_implicationoperator.the_send, of_implicationoperator.the_field_send, of_integerkeyword.the_send, of_integerkeyword.the_field_send, of_mark.the_send, of_row.the_send, of_row.the_field_send, of_scopedname.the_send, of_scopedname.the_field_send, of_sign.the_send, of_sign.the_field_send, of_unaryoperator.the_send, of_unaryoperator.the_field_send, knot_arg.send-Range) depth 60 fits 400000

range_sync : IsSync Range.the_row
range_sync = search (sendable, crosses, of_row.the_sync, of_row.the_field_sync, of_binaryoperator.the_sync, of_binaryoperator.the_field_sync, of_implicationoperator.the_sync, of_implicationoperator.the_field_sync, of_integerkeyword.the_sync, of_integerkeyword.the_field_sync, of_mark.the_sync, of_row.the_sync, of_row.the_field_sync, of_scopedname.the_sync, of_scopedname.the_field_sync, of_sign.the_sync, of_sign.the_field_sync, of_unaryoperator.the_sync, of_unaryoperator.the_field_sync, knot_arg.sync-Range) depth 60 fits 400000

valuerange_send : IsSend ValueRange.the_row
valuerange_send = search (sendable, crosses, of_row.the_send, of_row.the_field_send, of_binaryoperator.the_send, of_binaryoperator.the_field_send, of_implicationoperator.the_send, of_implicationoperator.the_field_send, of_integerkeyword.the_send, of_integerkeyword.the_field_send, of_mark.the_send, of_row.the_send, of_row.the_field_send, of_scopedname.the_send, of_scopedname.the_field_send, of_sign.the_send, of_sign.the_field_send, of_unaryoperator.the_send, of_unaryoperator.the_field_send, knot_arg.send-ValueRange) depth 60 fits 400000

valuerange_sync : IsSync ValueRange.the_row
valuerange_sync = search (sendable, crosses, of_row.the_sync, of_row.the_field_sync, of_binaryoperator.the_sync, of_binaryoperator.the_field_sync, of_implicationoperator.the_sync, of_implicationoperator.the_field_sync, of_integerkeyword.the_sync, of_integerkeyword.the_field_sync, of_mark.the_sync, of_row.the_sync, of_row.the_field_sync, of_scopedname.the_sync, of_scopedname.the_field_sync, of_sign.the_sync, of_sign.the_field_sync, of_unaryoperator.the_sync, of_unaryoperator.the_field_sync, knot_arg.sync-ValueRange) depth 60 fits 400000

argumentlist_send : IsSend ArgumentList.the_row
argumentlist_send = search (sendable, crosses, of_row.the_send, of_row.the_field_send, of_binaryoperator.the_send, of_binaryoperator.the_field_send, of_implicationoperator.the_send, of_implicationoperator.the_field_send, of_integerkeyword.the_send, of_integerkeyword.the_field_send, of_mark.the_send, of_row.the_send, of_row.the_field_send, of_scopedname.the_send, of_scopedname.the_field_send, of_sign.the_send, of_sign.the_field_send, of_unaryoperator.the_send, of_unaryoperator.the_field_send, knot_arg.send-ArgumentList) depth 60 fits 400000

argumentlist_sync : IsSync ArgumentList.the_row
argumentlist_sync = search (sendable, crosses, of_row.the_sync, of_row.the_field_sync, of_binaryoperator.the_sync, of_binaryoperator.the_field_sync, of_implicationoperator.the_sync, of_implicationoperator.the_field_sync, of_integerkeyword.the_sync, of_integerkeyword.the_field_sync, of_mark.the_sync, of_row.the_sync, of_row.the_field_sync, of_scopedname.the_sync, of_scopedname.the_field_sync, of_sign.the_sync, of_sign.the_field_sync, of_unaryoperator.the_sync, of_unaryoperator.the_field_sync, knot_arg.sync-ArgumentList) depth 60 fits 400000

parenthesized_send : IsSend Parenthesized.the_row
parenthesized_send = search (sendable, crosses, of_row.the_send, of_row.the_field_send, of_binaryoperator.the_send, of_binaryoperator.the_field_send, of_implicationoperator.the_send, of_implicationoperator.the_field_send, of_integerkeyword.the_send, of_integerkeyword.the_field_send, of_mark.the_send, of_row.the_send, of_row.the_field_send, of_scopedname.the_send, of_scopedname.the_field_send, of_sign.the_send, of_sign.the_field_send, of_unaryoperator.the_send, of_unaryoperator.the_field_send, knot_arg.send-Parenthesized) depth 60 fits 400000

parenthesized_sync : IsSync Parenthesized.the_row
parenthesized_sync = search (sendable, crosses, of_row.the_sync, of_row.the_field_sync, of_binaryoperator.the_sync, of_binaryoperator.the_field_sync, of_implicationoperator.the_sync, of_implicationoperator.the_field_sync, of_integerkeyword.the_sync, of_integerkeyword.the_field_sync, of_mark.the_sync, of_row.the_sync, of_row.the_field_sync, of_scopedname.the_sync, of_scopedname.the_field_sync, of_sign.the_sync, of_sign.the_field_sync, of_unaryoperator.the_sync, of_unaryoperator.the_field_sync, knot_arg.sync-Parenthesized) depth 60 fits 400000

cast_send : IsSend Cast.the_row
cast_send = search (sendable, crosses, of_row.the_send, of_row.the_field_send, of_binaryoperator.the_send, of_binaryoperator.the_field_send, of_implicationoperator.the_send, of_implicationoperator.the_field_send, of_integerkeyword.the_send, of_integerkeyword.the_field_send, of_mark.the_send, of_row.the_send, of_row.the_field_send, of_scopedname.the_send, of_scopedname.the_field_send, of_sign.the_send, of_sign.the_field_send, of_unaryoperator.the_send, of_unaryoperator.the_field_send, knot_arg.send-Cast) depth 60 fits 400000

cast_sync : IsSync Cast.the_row
cast_sync = search (sendable, crosses, of_row.the_sync, of_row.the_field_sync, of_binaryoperator.the_sync, of_binaryoperator.the_field_sync, of_implicationoperator.the_sync, of_implicationoperator.the_field_sync, of_integerkeyword.the_sync, of_integerkeyword.the_field_sync, of_mark.the_sync, of_row.the_sync, of_row.the_field_sync, of_scopedname.the_sync, of_scopedname.the_field_sync, of_sign.the_sync, of_sign.the_field_sync, of_unaryoperator.the_sync, of_unaryoperator.the_field_sync, knot_arg.sync-Cast) depth 60 fits 400000

pattern_send : IsSend Pattern.the_row
pattern_send = search (sendable, crosses, of_row.the_send, of_row.the_field_send, of_binaryoperator.the_send, of_binaryoperator.the_field_send, of_implicationoperator.the_send, of_implicationoperator.the_field_send, of_integerkeyword.the_send, of_integerkeyword.the_field_send, of_mark.the_send, of_row.the_send, of_row.the_field_send, of_scopedname.the_send, of_scopedname.the_field_send, of_sign.the_send, of_sign.the_field_send, of_unaryoperator.the_send, of_unaryoperator.the_field_send, knot_arg.send-Pattern) depth 60 fits 400000

pattern_sync : IsSync Pattern.the_row
pattern_sync = search (sendable, crosses, of_row.the_sync, of_row.the_field_sync, of_binaryoperator.the_sync, of_binaryoperator.the_field_sync, of_implicationoperator.the_sync, of_implicationoperator.the_field_sync, of_integerkeyword.the_sync, of_integerkeyword.the_field_sync, of_mark.the_sync, of_row.the_sync, of_row.the_field_sync, of_scopedname.the_sync, of_scopedname.the_field_sync, of_sign.the_sync, of_sign.the_field_sync, of_unaryoperator.the_sync, of_unaryoperator.the_field_sync, knot_arg.sync-Pattern) depth 60 fits 400000

expr_send : IsSend Expr.the_row
expr_send = search (sendable, crosses, of_row.the_send, of_row.the_field_send, of_binaryoperator.the_send, of_binaryoperator.the_field_send, of_implicationoperator.the_send, of_implicationoperator.the_field_send, of_integerkeyword.the_send, of_integerkeyword.the_field_send, of_mark.the_send, of_row.the_send, of_row.the_field_send, of_scopedname.the_send, of_scopedname.the_field_send, of_sign.the_send, of_sign.the_field_send, of_unaryoperator.the_send, of_unaryoperator.the_field_send, knot_arg.send-Expr) depth 60 fits 400000

expr_sync : IsSync Expr.the_row
expr_sync = search (sendable, crosses, of_row.the_sync, of_row.the_field_sync, of_binaryoperator.the_sync, of_binaryoperator.the_field_sync, of_implicationoperator.the_sync, of_implicationoperator.the_field_sync, of_integerkeyword.the_sync, of_integerkeyword.the_field_sync, of_mark.the_sync, of_row.the_sync, of_row.the_field_sync, of_scopedname.the_sync, of_scopedname.the_field_sync, of_sign.the_sync, of_sign.the_field_sync, of_unaryoperator.the_sync, of_unaryoperator.the_field_sync, knot_arg.sync-Expr) depth 60 fits 400000

operation_send : IsSend Operation.the_row
operation_send = search (sendable, crosses, of_row.the_send, of_row.the_field_send, of_binaryoperator.the_send, of_binaryoperator.the_field_send, of_implicationoperator.the_send, of_implicationoperator.the_field_send, of_integerkeyword.the_send, of_integerkeyword.the_field_send, of_mark.the_send, of_row.the_send, of_row.the_field_send, of_scopedname.the_send, of_scopedname.the_field_send, of_sign.the_send, of_sign.the_field_send, of_unaryoperator.the_send, of_unaryoperator.the_field_send, knot_arg.send-Operation) depth 60 fits 400000

operation_sync : IsSync Operation.the_row
operation_sync = search (sendable, crosses, of_row.the_sync, of_row.the_field_sync, of_binaryoperator.the_sync, of_binaryoperator.the_field_sync, of_implicationoperator.the_sync, of_implicationoperator.the_field_sync, of_integerkeyword.the_sync, of_integerkeyword.the_field_sync, of_mark.the_sync, of_row.the_sync, of_row.the_field_sync, of_scopedname.the_sync, of_scopedname.the_field_sync, of_sign.the_sync, of_sign.the_field_sync, of_unaryoperator.the_sync, of_unaryoperator.the_field_sync, knot_arg.sync-Operation) depth 60 fits 400000

rangeselect_send : IsSend RangeSelect.the_row
rangeselect_send = search (sendable, crosses, of_row.the_send, of_row.the_field_send, of_binaryoperator.the_send, of_binaryoperator.the_field_send, of_implicationoperator.the_send, of_implicationoperator.the_field_send, of_integerkeyword.the_send, of_integerkeyword.the_field_send, of_mark.the_send, of_row.the_send, of_row.the_field_send, of_scopedname.the_send, of_scopedname.the_field_send, of_sign.the_send, of_sign.the_field_send, of_unaryoperator.the_send, of_unaryoperator.the_field_send, knot_arg.send-RangeSelect) depth 60 fits 400000

rangeselect_sync : IsSync RangeSelect.the_row
rangeselect_sync = search (sendable, crosses, of_row.the_sync, of_row.the_field_sync, of_binaryoperator.the_sync, of_binaryoperator.the_field_sync, of_implicationoperator.the_sync, of_implicationoperator.the_field_sync, of_integerkeyword.the_sync, of_integerkeyword.the_field_sync, of_mark.the_sync, of_row.the_sync, of_row.the_field_sync, of_scopedname.the_sync, of_scopedname.the_field_sync, of_sign.the_sync, of_sign.the_field_sync, of_unaryoperator.the_sync, of_unaryoperator.the_field_sync, knot_arg.sync-RangeSelect) depth 60 fits 400000

select_send : IsSend Select.the_row
select_send = search (sendable, crosses, of_row.the_send, of_row.the_field_send, of_binaryoperator.the_send, of_binaryoperator.the_field_send, of_implicationoperator.the_send, of_implicationoperator.the_field_send, of_integerkeyword.the_send, of_integerkeyword.the_field_send, of_mark.the_send, of_row.the_send, of_row.the_field_send, of_scopedname.the_send, of_scopedname.the_field_send, of_sign.the_send, of_sign.the_field_send, of_unaryoperator.the_send, of_unaryoperator.the_field_send, knot_arg.send-Select) depth 60 fits 400000

select_sync : IsSync Select.the_row
select_sync = search (sendable, crosses, of_row.the_sync, of_row.the_field_sync, of_binaryoperator.the_sync, of_binaryoperator.the_field_sync, of_implicationoperator.the_sync, of_implicationoperator.the_field_sync, of_integerkeyword.the_sync, of_integerkeyword.the_field_sync, of_mark.the_sync, of_row.the_sync, of_row.the_field_sync, of_scopedname.the_sync, of_scopedname.the_field_sync, of_sign.the_sync, of_sign.the_field_sync, of_unaryoperator.the_sync, of_unaryoperator.the_field_sync, knot_arg.sync-Select) depth 60 fits 400000

postfix_send : IsSend Postfix.the_row
postfix_send = search (sendable, crosses, of_row.the_send, of_row.the_field_send, of_binaryoperator.the_send, of_binaryoperator.the_field_send, of_implicationoperator.the_send, of_implicationoperator.the_field_send, of_integerkeyword.the_send, of_integerkeyword.the_field_send, of_mark.the_send, of_row.the_send, of_row.the_field_send, of_scopedname.the_send, of_scopedname.the_field_send, of_sign.the_send, of_sign.the_field_send, of_unaryoperator.the_send, of_unaryoperator.the_field_send, knot_arg.send-Postfix) depth 60 fits 400000

postfix_sync : IsSync Postfix.the_row
postfix_sync = search (sendable, crosses, of_row.the_sync, of_row.the_field_sync, of_binaryoperator.the_sync, of_binaryoperator.the_field_sync, of_implicationoperator.the_sync, of_implicationoperator.the_field_sync, of_integerkeyword.the_sync, of_integerkeyword.the_field_sync, of_mark.the_sync, of_row.the_sync, of_row.the_field_sync, of_scopedname.the_sync, of_scopedname.the_field_sync, of_sign.the_sync, of_sign.the_field_sync, of_unaryoperator.the_sync, of_unaryoperator.the_field_sync, knot_arg.sync-Postfix) depth 60 fits 400000

argumentlist_field_send : IsSend (ArgumentList.the_field).row
argumentlist_field_send = search (sendable, crosses, of_row.the_send, of_row.the_field_send, of_binaryoperator.the_send, of_binaryoperator.the_field_send, of_implicationoperator.the_send, of_implicationoperator.the_field_send, of_integerkeyword.the_send, of_integerkeyword.the_field_send, of_mark.the_send, of_row.the_send, of_row.the_field_send, of_scopedname.the_send, of_scopedname.the_field_send, of_sign.the_send, of_sign.the_field_send, of_unaryoperator.the_send, of_unaryoperator.the_field_send, knot_arg.hole_send-Arg) depth 60 fits 400000

argumentlist_field_sync : IsSync (ArgumentList.the_field).row
argumentlist_field_sync = search (sendable, crosses, of_row.the_sync, of_row.the_field_sync, of_binaryoperator.the_sync, of_binaryoperator.the_field_sync, of_implicationoperator.the_sync, of_implicationoperator.the_field_sync, of_integerkeyword.the_sync, of_integerkeyword.the_field_sync, of_mark.the_sync, of_row.the_sync, of_row.the_field_sync, of_scopedname.the_sync, of_scopedname.the_field_sync, of_sign.the_sync, of_sign.the_field_sync, of_unaryoperator.the_sync, of_unaryoperator.the_field_sync, knot_arg.hole_sync-Arg) depth 60 fits 400000

parenthesized_field_send : IsSend (Parenthesized.the_field).row
parenthesized_field_send = search (sendable, crosses, of_row.the_send, of_row.the_field_send, of_binaryoperator.the_send, of_binaryoperator.the_field_send, of_implicationoperator.the_send, of_implicationoperator.the_field_send, of_integerkeyword.the_send, of_integerkeyword.the_field_send, of_mark.the_send, of_row.the_send, of_row.the_field_send, of_scopedname.the_send, of_scopedname.the_field_send, of_sign.the_send, of_sign.the_field_send, of_unaryoperator.the_send, of_unaryoperator.the_field_send, knot_arg.hole_send-Expr) depth 60 fits 400000

parenthesized_field_sync : IsSync (Parenthesized.the_field).row
parenthesized_field_sync = search (sendable, crosses, of_row.the_sync, of_row.the_field_sync, of_binaryoperator.the_sync, of_binaryoperator.the_field_sync, of_implicationoperator.the_sync, of_implicationoperator.the_field_sync, of_integerkeyword.the_sync, of_integerkeyword.the_field_sync, of_mark.the_sync, of_row.the_sync, of_row.the_field_sync, of_scopedname.the_sync, of_scopedname.the_field_sync, of_sign.the_sync, of_sign.the_field_sync, of_unaryoperator.the_sync, of_unaryoperator.the_field_sync, knot_arg.hole_sync-Expr) depth 60 fits 400000

cast_field_send : IsSend (Cast.the_field).row
cast_field_send = search (sendable, crosses, of_row.the_send, of_row.the_field_send, of_binaryoperator.the_send, of_binaryoperator.the_field_send, of_implicationoperator.the_send, of_implicationoperator.the_field_send, of_integerkeyword.the_send, of_integerkeyword.the_field_send, of_mark.the_send, of_row.the_send, of_row.the_field_send, of_scopedname.the_send, of_scopedname.the_field_send, of_sign.the_send, of_sign.the_field_send, of_unaryoperator.the_send, of_unaryoperator.the_field_send, knot_arg.hole_send-Parenthesized, parenthesized_field_send) depth 60 fits 400000

cast_field_sync : IsSync (Cast.the_field).row
cast_field_sync = search (sendable, crosses, of_row.the_sync, of_row.the_field_sync, of_binaryoperator.the_sync, of_binaryoperator.the_field_sync, of_implicationoperator.the_sync, of_implicationoperator.the_field_sync, of_integerkeyword.the_sync, of_integerkeyword.the_field_sync, of_mark.the_sync, of_row.the_sync, of_row.the_field_sync, of_scopedname.the_sync, of_scopedname.the_field_sync, of_sign.the_sync, of_sign.the_field_sync, of_unaryoperator.the_sync, of_unaryoperator.the_field_sync, knot_arg.hole_sync-Parenthesized, parenthesized_field_sync) depth 60 fits 400000

initializer_send : IsSend Initializer.the_row
initializer_send = search (sendable, crosses, of_row.the_send, of_row.the_field_send, expr_send) depth 60 fits 400000

initializer_field_send : IsSend (Initializer.the_field).row
initializer_field_send = search (sendable, crosses, of_row.the_send, of_row.the_field_send, expr_send) depth 60 fits 400000

initializer_sync : IsSync Initializer.the_row
initializer_sync = search (sendable, crosses, of_row.the_sync, of_row.the_field_sync, expr_sync) depth 60 fits 400000

initializer_field_sync : IsSync (Initializer.the_field).row
initializer_field_sync = search (sendable, crosses, of_row.the_sync, of_row.the_field_sync, expr_sync) depth 60 fits 400000

declarator_send : IsSend Declarator.the_row
declarator_send = search (sendable, crosses, of_row.the_send, of_row.the_field_send, dimension_send) depth 60 fits 400000

declarator_field_send : IsSend (Declarator.the_field).row
declarator_field_send = search (sendable, crosses, of_row.the_send, of_row.the_field_send, dimension_send) depth 60 fits 400000

declarator_sync : IsSync Declarator.the_row
declarator_sync = search (sendable, crosses, of_row.the_sync, of_row.the_field_sync, dimension_sync) depth 60 fits 400000

declarator_field_sync : IsSync (Declarator.the_field).row
declarator_field_sync = search (sendable, crosses, of_row.the_sync, of_row.the_field_sync, dimension_sync) depth 60 fits 400000

namedtype_send : IsSend NamedType.the_row
namedtype_send = search (sendable, crosses, of_row.the_send, of_row.the_field_send, dimension_send, of_scopedname.the_send, of_scopedname.the_field_send) depth 60 fits 400000

namedtype_field_send : IsSend (NamedType.the_field).row
namedtype_field_send = search (sendable, crosses, of_row.the_send, of_row.the_field_send, dimension_send, of_scopedname.the_send, of_scopedname.the_field_send) depth 60 fits 400000

namedtype_sync : IsSync NamedType.the_row
namedtype_sync = search (sendable, crosses, of_row.the_sync, of_row.the_field_sync, dimension_sync, of_scopedname.the_sync, of_scopedname.the_field_sync) depth 60 fits 400000

namedtype_field_sync : IsSync (NamedType.the_field).row
namedtype_field_sync = search (sendable, crosses, of_row.the_sync, of_row.the_field_sync, dimension_sync, of_scopedname.the_sync, of_scopedname.the_field_sync) depth 60 fits 400000

vectortype_send : IsSend VectorType.the_row
vectortype_send = search (sendable, crosses, of_row.the_send, of_row.the_field_send, dimension_send, of_mark.the_send, of_sign.the_send, of_sign.the_field_send, of_vectorkeyword.the_send, of_vectorkeyword.the_field_send) depth 60 fits 400000

vectortype_field_send : IsSend (VectorType.the_field).row
vectortype_field_send = search (sendable, crosses, of_row.the_send, of_row.the_field_send, dimension_send, of_mark.the_send, of_sign.the_send, of_sign.the_field_send, of_vectorkeyword.the_send, of_vectorkeyword.the_field_send) depth 60 fits 400000

vectortype_sync : IsSync VectorType.the_row
vectortype_sync = search (sendable, crosses, of_row.the_sync, of_row.the_field_sync, dimension_sync, of_mark.the_sync, of_sign.the_sync, of_sign.the_field_sync, of_vectorkeyword.the_sync, of_vectorkeyword.the_field_sync) depth 60 fits 400000

vectortype_field_sync : IsSync (VectorType.the_field).row
vectortype_field_sync = search (sendable, crosses, of_row.the_sync, of_row.the_field_sync, dimension_sync, of_mark.the_sync, of_sign.the_sync, of_sign.the_field_sync, of_vectorkeyword.the_sync, of_vectorkeyword.the_field_sync) depth 60 fits 400000

enumbase_send : IsSend EnumBase.the_row
enumbase_send = search (sendable, crosses, of_row.the_send, of_row.the_field_send, of_atomtype.the_send, of_atomtype.the_field_send, namedtype_send, namedtype_field_send, vectortype_send, vectortype_field_send) depth 60 fits 400000

enumbase_field_send : IsSend (EnumBase.the_field).row
enumbase_field_send = search (sendable, crosses, of_row.the_send, of_row.the_field_send, of_atomtype.the_send, of_atomtype.the_field_send, namedtype_send, namedtype_field_send, vectortype_send, vectortype_field_send) depth 60 fits 400000

enumbase_sync : IsSync EnumBase.the_row
enumbase_sync = search (sendable, crosses, of_row.the_sync, of_row.the_field_sync, of_atomtype.the_sync, of_atomtype.the_field_sync, namedtype_sync, namedtype_field_sync, vectortype_sync, vectortype_field_sync) depth 60 fits 400000

enumbase_field_sync : IsSync (EnumBase.the_field).row
enumbase_field_sync = search (sendable, crosses, of_row.the_sync, of_row.the_field_sync, of_atomtype.the_sync, of_atomtype.the_field_sync, namedtype_sync, namedtype_field_sync, vectortype_sync, vectortype_field_sync) depth 60 fits 400000

enumname_send : IsSend EnumName.the_row
enumname_send = search (sendable, crosses, of_row.the_send, of_row.the_field_send, initializer_send, initializer_field_send) depth 60 fits 400000

enumname_field_send : IsSend (EnumName.the_field).row
enumname_field_send = search (sendable, crosses, of_row.the_send, of_row.the_field_send, initializer_send, initializer_field_send) depth 60 fits 400000

enumname_sync : IsSync EnumName.the_row
enumname_sync = search (sendable, crosses, of_row.the_sync, of_row.the_field_sync, initializer_sync, initializer_field_sync) depth 60 fits 400000

enumname_field_sync : IsSync (EnumName.the_field).row
enumname_field_sync = search (sendable, crosses, of_row.the_sync, of_row.the_field_sync, initializer_sync, initializer_field_sync) depth 60 fits 400000

enumeration_send : IsSend Enumeration.the_row
enumeration_send = search (sendable, crosses, of_row.the_send, of_row.the_field_send, dimension_send, enumbase_send, enumbase_field_send, enumname_send, enumname_field_send, of_row.the_send, of_row.the_field_send) depth 60 fits 400000

enumeration_field_send : IsSend (Enumeration.the_field).row
enumeration_field_send = search (sendable, crosses, of_row.the_send, of_row.the_field_send, dimension_send, enumbase_send, enumbase_field_send, enumname_send, enumname_field_send, of_row.the_send, of_row.the_field_send) depth 60 fits 400000

enumeration_sync : IsSync Enumeration.the_row
enumeration_sync = search (sendable, crosses, of_row.the_sync, of_row.the_field_sync, dimension_sync, enumbase_sync, enumbase_field_sync, enumname_sync, enumname_field_sync, of_row.the_sync, of_row.the_field_sync) depth 60 fits 400000

enumeration_field_sync : IsSync (Enumeration.the_field).row
enumeration_field_sync = search (sendable, crosses, of_row.the_sync, of_row.the_field_sync, dimension_sync, enumbase_sync, enumbase_field_sync, enumname_sync, enumname_field_sync, of_row.the_sync, of_row.the_field_sync) depth 60 fits 400000

datatype_send : IsSend DataType.the_row
datatype_send = search (sendable, crosses, of_row.the_send, of_row.the_field_send, of_atomtype.the_send, of_atomtype.the_field_send, dimension_send, enumeration_send, enumeration_field_send, of_mark.the_send, namedtype_send, namedtype_field_send, of_row.the_send, of_row.the_field_send, of_sign.the_send, of_sign.the_field_send, vectortype_send, vectortype_field_send, knot_datatype.send-DataType) depth 60 fits 400000

datatype_sync : IsSync DataType.the_row
datatype_sync = search (sendable, crosses, of_row.the_sync, of_row.the_field_sync, of_atomtype.the_sync, of_atomtype.the_field_sync, dimension_sync, enumeration_sync, enumeration_field_sync, of_mark.the_sync, namedtype_sync, namedtype_field_sync, of_row.the_sync, of_row.the_field_sync, of_sign.the_sync, of_sign.the_field_sync, vectortype_sync, vectortype_field_sync, knot_datatype.sync-DataType) depth 60 fits 400000

typeref_send : IsSend TypeRef.the_row
typeref_send = search (sendable, crosses, of_row.the_send, of_row.the_field_send, of_atomtype.the_send, of_atomtype.the_field_send, dimension_send, enumeration_send, enumeration_field_send, of_mark.the_send, namedtype_send, namedtype_field_send, of_row.the_send, of_row.the_field_send, of_sign.the_send, of_sign.the_field_send, vectortype_send, vectortype_field_send, knot_datatype.send-TypeRef) depth 60 fits 400000

typeref_sync : IsSync TypeRef.the_row
typeref_sync = search (sendable, crosses, of_row.the_sync, of_row.the_field_sync, of_atomtype.the_sync, of_atomtype.the_field_sync, dimension_sync, enumeration_sync, enumeration_field_sync, of_mark.the_sync, namedtype_sync, namedtype_field_sync, of_row.the_sync, of_row.the_field_sync, of_sign.the_sync, of_sign.the_field_sync, vectortype_sync, vectortype_field_sync, knot_datatype.sync-TypeRef) depth 60 fits 400000

members_send : IsSend Members.the_row
members_send = search (sendable, crosses, of_row.the_send, of_row.the_field_send, of_atomtype.the_send, of_atomtype.the_field_send, dimension_send, enumeration_send, enumeration_field_send, of_mark.the_send, namedtype_send, namedtype_field_send, of_row.the_send, of_row.the_field_send, of_sign.the_send, of_sign.the_field_send, vectortype_send, vectortype_field_send, knot_datatype.send-Members) depth 60 fits 400000

members_sync : IsSync Members.the_row
members_sync = search (sendable, crosses, of_row.the_sync, of_row.the_field_sync, of_atomtype.the_sync, of_atomtype.the_field_sync, dimension_sync, enumeration_sync, enumeration_field_sync, of_mark.the_sync, namedtype_sync, namedtype_field_sync, of_row.the_sync, of_row.the_field_sync, of_sign.the_sync, of_sign.the_field_sync, vectortype_sync, vectortype_field_sync, knot_datatype.sync-Members) depth 60 fits 400000

structure_send : IsSend Structure.the_row
structure_send = search (sendable, crosses, of_row.the_send, of_row.the_field_send, of_atomtype.the_send, of_atomtype.the_field_send, dimension_send, enumeration_send, enumeration_field_send, of_mark.the_send, namedtype_send, namedtype_field_send, of_row.the_send, of_row.the_field_send, of_sign.the_send, of_sign.the_field_send, vectortype_send, vectortype_field_send, knot_datatype.send-Structure) depth 60 fits 400000

structure_sync : IsSync Structure.the_row
structure_sync = search (sendable, crosses, of_row.the_sync, of_row.the_field_sync, of_atomtype.the_sync, of_atomtype.the_field_sync, dimension_sync, enumeration_sync, enumeration_field_sync, of_mark.the_sync, namedtype_sync, namedtype_field_sync, of_row.the_sync, of_row.the_field_sync, of_sign.the_sync, of_sign.the_field_sync, vectortype_sync, vectortype_field_sync, knot_datatype.sync-Structure) depth 60 fits 400000

datatype_field_send : IsSend (DataType.the_field).row
datatype_field_send = search (sendable, crosses, of_row.the_send, of_row.the_field_send, of_atomtype.the_send, of_atomtype.the_field_send, dimension_send, enumeration_send, enumeration_field_send, of_mark.the_send, namedtype_send, namedtype_field_send, of_row.the_send, of_row.the_field_send, of_sign.the_send, of_sign.the_field_send, vectortype_send, vectortype_field_send, knot_datatype.hole_send-Structure) depth 60 fits 400000

datatype_field_sync : IsSync (DataType.the_field).row
datatype_field_sync = search (sendable, crosses, of_row.the_sync, of_row.the_field_sync, of_atomtype.the_sync, of_atomtype.the_field_sync, dimension_sync, enumeration_sync, enumeration_field_sync, of_mark.the_sync, namedtype_sync, namedtype_field_sync, of_row.the_sync, of_row.the_field_sync, of_sign.the_sync, of_sign.the_field_sync, vectortype_sync, vectortype_field_sync, knot_datatype.hole_sync-Structure) depth 60 fits 400000

typeref_field_send : IsSend (TypeRef.the_field).row
typeref_field_send = search (sendable, crosses, of_row.the_send, of_row.the_field_send, of_atomtype.the_send, of_atomtype.the_field_send, dimension_send, enumeration_send, enumeration_field_send, of_mark.the_send, namedtype_send, namedtype_field_send, of_row.the_send, of_row.the_field_send, of_sign.the_send, of_sign.the_field_send, vectortype_send, vectortype_field_send, knot_datatype.hole_send-DataType, datatype_field_send) depth 60 fits 400000

typeref_field_sync : IsSync (TypeRef.the_field).row
typeref_field_sync = search (sendable, crosses, of_row.the_sync, of_row.the_field_sync, of_atomtype.the_sync, of_atomtype.the_field_sync, dimension_sync, enumeration_sync, enumeration_field_sync, of_mark.the_sync, namedtype_sync, namedtype_field_sync, of_row.the_sync, of_row.the_field_sync, of_sign.the_sync, of_sign.the_field_sync, vectortype_sync, vectortype_field_sync, knot_datatype.hole_sync-DataType, datatype_field_sync) depth 60 fits 400000

declaredtype_send : IsSend DeclaredType.the_row
declaredtype_send = search (sendable, crosses, of_row.the_send, of_row.the_field_send, dimension_send, of_mark.the_send, of_sign.the_send, of_sign.the_field_send, typeref_send, typeref_field_send) depth 60 fits 400000

declaredtype_field_send : IsSend (DeclaredType.the_field).row
declaredtype_field_send = search (sendable, crosses, of_row.the_send, of_row.the_field_send, dimension_send, of_mark.the_send, of_sign.the_send, of_sign.the_field_send, typeref_send, typeref_field_send) depth 60 fits 400000

declaredtype_sync : IsSync DeclaredType.the_row
declaredtype_sync = search (sendable, crosses, of_row.the_sync, of_row.the_field_sync, dimension_sync, of_mark.the_sync, of_sign.the_sync, of_sign.the_field_sync, typeref_sync, typeref_field_sync) depth 60 fits 400000

declaredtype_field_sync : IsSync (DeclaredType.the_field).row
declaredtype_field_sync = search (sendable, crosses, of_row.the_sync, of_row.the_field_sync, dimension_sync, of_mark.the_sync, of_sign.the_sync, of_sign.the_field_sync, typeref_sync, typeref_field_sync) depth 60 fits 400000

typedname_send : IsSend TypedName.the_row
typedname_send = search (sendable, crosses, of_row.the_send, of_row.the_field_send, declarator_send, declarator_field_send, declaredtype_send, declaredtype_field_send) depth 60 fits 400000

typedname_field_send : IsSend (TypedName.the_field).row
typedname_field_send = search (sendable, crosses, of_row.the_send, of_row.the_field_send, declarator_send, declarator_field_send, declaredtype_send, declaredtype_field_send) depth 60 fits 400000

typedname_sync : IsSync TypedName.the_row
typedname_sync = search (sendable, crosses, of_row.the_sync, of_row.the_field_sync, declarator_sync, declarator_field_sync, declaredtype_sync, declaredtype_field_sync) depth 60 fits 400000

typedname_field_sync : IsSync (TypedName.the_field).row
typedname_field_sync = search (sendable, crosses, of_row.the_sync, of_row.the_field_sync, declarator_sync, declarator_field_sync, declaredtype_sync, declaredtype_field_sync) depth 60 fits 400000

parameterport_send : IsSend ParameterPort.the_row
parameterport_send = search (sendable, crosses, of_row.the_send, of_row.the_field_send, initializer_send, initializer_field_send, of_mark.the_send, of_parameterkeyword.the_send, of_parameterkeyword.the_field_send, typedname_send, typedname_field_send) depth 60 fits 400000

parameterport_field_send : IsSend (ParameterPort.the_field).row
parameterport_field_send = search (sendable, crosses, of_row.the_send, of_row.the_field_send, initializer_send, initializer_field_send, of_mark.the_send, of_parameterkeyword.the_send, of_parameterkeyword.the_field_send, typedname_send, typedname_field_send) depth 60 fits 400000

parameterport_sync : IsSync ParameterPort.the_row
parameterport_sync = search (sendable, crosses, of_row.the_sync, of_row.the_field_sync, initializer_sync, initializer_field_sync, of_mark.the_sync, of_parameterkeyword.the_sync, of_parameterkeyword.the_field_sync, typedname_sync, typedname_field_sync) depth 60 fits 400000

parameterport_field_sync : IsSync (ParameterPort.the_field).row
parameterport_field_sync = search (sendable, crosses, of_row.the_sync, of_row.the_field_sync, initializer_sync, initializer_field_sync, of_mark.the_sync, of_parameterkeyword.the_sync, of_parameterkeyword.the_field_sync, typedname_sync, typedname_field_sync) depth 60 fits 400000

parameterports_send : IsSend ParameterPorts.the_row
parameterports_send = search (sendable, crosses, of_row.the_send, of_row.the_field_send, parameterport_send, parameterport_field_send, of_row.the_send, of_row.the_field_send) depth 60 fits 400000

parameterports_field_send : IsSend (ParameterPorts.the_field).row
parameterports_field_send = search (sendable, crosses, of_row.the_send, of_row.the_field_send, parameterport_send, parameterport_field_send, of_row.the_send, of_row.the_field_send) depth 60 fits 400000

parameterports_sync : IsSync ParameterPorts.the_row
parameterports_sync = search (sendable, crosses, of_row.the_sync, of_row.the_field_sync, parameterport_sync, parameterport_field_sync, of_row.the_sync, of_row.the_field_sync) depth 60 fits 400000

parameterports_field_sync : IsSync (ParameterPorts.the_field).row
parameterports_field_sync = search (sendable, crosses, of_row.the_sync, of_row.the_field_sync, parameterport_sync, parameterport_field_sync, of_row.the_sync, of_row.the_field_sync) depth 60 fits 400000

porttype_send : IsSend PortType.the_row
porttype_send = search (sendable, crosses, of_row.the_send, of_row.the_field_send, declaredtype_send, declaredtype_field_send) depth 60 fits 400000

porttype_field_send : IsSend (PortType.the_field).row
porttype_field_send = search (sendable, crosses, of_row.the_send, of_row.the_field_send, declaredtype_send, declaredtype_field_send) depth 60 fits 400000

porttype_sync : IsSync PortType.the_row
porttype_sync = search (sendable, crosses, of_row.the_sync, of_row.the_field_sync, declaredtype_sync, declaredtype_field_sync) depth 60 fits 400000

porttype_field_sync : IsSync (PortType.the_field).row
porttype_field_sync = search (sendable, crosses, of_row.the_sync, of_row.the_field_sync, declaredtype_sync, declaredtype_field_sync) depth 60 fits 400000

port_send : IsSend Port.the_row
port_send = search (sendable, crosses, of_row.the_send, of_row.the_field_send, declarator_send, declarator_field_send, of_mark.the_send, of_portkind.the_send, of_portkind.the_field_send, porttype_send, porttype_field_send) depth 60 fits 400000

port_field_send : IsSend (Port.the_field).row
port_field_send = search (sendable, crosses, of_row.the_send, of_row.the_field_send, declarator_send, declarator_field_send, of_mark.the_send, of_portkind.the_send, of_portkind.the_field_send, porttype_send, porttype_field_send) depth 60 fits 400000

port_sync : IsSync Port.the_row
port_sync = search (sendable, crosses, of_row.the_sync, of_row.the_field_sync, declarator_sync, declarator_field_sync, of_mark.the_sync, of_portkind.the_sync, of_portkind.the_field_sync, porttype_sync, porttype_field_sync) depth 60 fits 400000

port_field_sync : IsSync (Port.the_field).row
port_field_sync = search (sendable, crosses, of_row.the_sync, of_row.the_field_sync, declarator_sync, declarator_field_sync, of_mark.the_sync, of_portkind.the_sync, of_portkind.the_field_sync, porttype_sync, porttype_field_sync) depth 60 fits 400000

ports_send : IsSend Ports.the_row
ports_send = search (sendable, crosses, of_row.the_send, of_row.the_field_send, port_send, port_field_send, of_row.the_send, of_row.the_field_send) depth 60 fits 400000

ports_field_send : IsSend (Ports.the_field).row
ports_field_send = search (sendable, crosses, of_row.the_send, of_row.the_field_send, port_send, port_field_send, of_row.the_send, of_row.the_field_send) depth 60 fits 400000

ports_sync : IsSync Ports.the_row
ports_sync = search (sendable, crosses, of_row.the_sync, of_row.the_field_sync, port_sync, port_field_sync, of_row.the_sync, of_row.the_field_sync) depth 60 fits 400000

ports_field_sync : IsSync (Ports.the_field).row
ports_field_sync = search (sendable, crosses, of_row.the_sync, of_row.the_field_sync, port_sync, port_field_sync, of_row.the_sync, of_row.the_field_sync) depth 60 fits 400000

header_send : IsSend Header.the_row
header_send = search (sendable, crosses, of_row.the_send, of_row.the_field_send, of_import.the_send, of_import.the_field_send, of_lifetime.the_send, of_lifetime.the_field_send, of_mark.the_send, parameterports_send, parameterports_field_send, ports_send, ports_field_send) depth 60 fits 400000

header_field_send : IsSend (Header.the_field).row
header_field_send = search (sendable, crosses, of_row.the_send, of_row.the_field_send, of_import.the_send, of_import.the_field_send, of_lifetime.the_send, of_lifetime.the_field_send, of_mark.the_send, parameterports_send, parameterports_field_send, ports_send, ports_field_send) depth 60 fits 400000

header_sync : IsSync Header.the_row
header_sync = search (sendable, crosses, of_row.the_sync, of_row.the_field_sync, of_import.the_sync, of_import.the_field_sync, of_lifetime.the_sync, of_lifetime.the_field_sync, of_mark.the_sync, parameterports_sync, parameterports_field_sync, ports_sync, ports_field_sync) depth 60 fits 400000

header_field_sync : IsSync (Header.the_field).row
header_field_sync = search (sendable, crosses, of_row.the_sync, of_row.the_field_sync, of_import.the_sync, of_import.the_field_sync, of_lifetime.the_sync, of_lifetime.the_field_sync, of_mark.the_sync, parameterports_sync, parameterports_field_sync, ports_sync, ports_field_sync) depth 60 fits 400000

event_send : IsSend Event.the_row
event_send = search (sendable, crosses, of_row.the_send, of_row.the_field_send, of_edge.the_send, of_edge.the_field_send, expr_send, of_mark.the_send) depth 60 fits 400000

event_field_send : IsSend (Event.the_field).row
event_field_send = search (sendable, crosses, of_row.the_send, of_row.the_field_send, of_edge.the_send, of_edge.the_field_send, expr_send, of_mark.the_send) depth 60 fits 400000

event_sync : IsSync Event.the_row
event_sync = search (sendable, crosses, of_row.the_sync, of_row.the_field_sync, of_edge.the_sync, of_edge.the_field_sync, expr_sync, of_mark.the_sync) depth 60 fits 400000

event_field_sync : IsSync (Event.the_field).row
event_field_sync = search (sendable, crosses, of_row.the_sync, of_row.the_field_sync, of_edge.the_sync, of_edge.the_field_sync, expr_sync, of_mark.the_sync) depth 60 fits 400000

eventcontrol_send : IsSend EventControl.the_row
eventcontrol_send = search (sendable, crosses, of_row.the_send, of_row.the_field_send, event_send, event_field_send, of_eventseparator.the_send, of_eventseparator.the_field_send, of_mark.the_send, of_row.the_send, of_row.the_field_send, select_send) depth 60 fits 400000

eventcontrol_field_send : IsSend (EventControl.the_field).row
eventcontrol_field_send = search (sendable, crosses, of_row.the_send, of_row.the_field_send, event_send, event_field_send, of_eventseparator.the_send, of_eventseparator.the_field_send, of_mark.the_send, of_row.the_send, of_row.the_field_send, select_send) depth 60 fits 400000

eventcontrol_sync : IsSync EventControl.the_row
eventcontrol_sync = search (sendable, crosses, of_row.the_sync, of_row.the_field_sync, event_sync, event_field_sync, of_eventseparator.the_sync, of_eventseparator.the_field_sync, of_mark.the_sync, of_row.the_sync, of_row.the_field_sync, select_sync) depth 60 fits 400000

eventcontrol_field_sync : IsSync (EventControl.the_field).row
eventcontrol_field_sync = search (sendable, crosses, of_row.the_sync, of_row.the_field_sync, event_sync, event_field_sync, of_eventseparator.the_sync, of_eventseparator.the_field_sync, of_mark.the_sync, of_row.the_sync, of_row.the_field_sync, select_sync) depth 60 fits 400000

leftconcatenation_send : IsSend LeftConcatenation.the_row
leftconcatenation_send = search (sendable, crosses, of_row.the_send, of_row.the_field_send, of_row.the_send, of_row.the_field_send, select_send, knot_leftside.send-LeftConcatenation) depth 60 fits 400000

leftconcatenation_sync : IsSync LeftConcatenation.the_row
leftconcatenation_sync = search (sendable, crosses, of_row.the_sync, of_row.the_field_sync, of_row.the_sync, of_row.the_field_sync, select_sync, knot_leftside.sync-LeftConcatenation) depth 60 fits 400000

leftside_send : IsSend LeftSide.the_row
leftside_send = search (sendable, crosses, of_row.the_send, of_row.the_field_send, of_row.the_send, of_row.the_field_send, select_send, knot_leftside.send-LeftSide) depth 60 fits 400000

leftside_sync : IsSync LeftSide.the_row
leftside_sync = search (sendable, crosses, of_row.the_sync, of_row.the_field_sync, of_row.the_sync, of_row.the_field_sync, select_sync, knot_leftside.sync-LeftSide) depth 60 fits 400000

leftconcatenation_field_send : IsSend (LeftConcatenation.the_field).row
leftconcatenation_field_send = search (sendable, crosses, of_row.the_send, of_row.the_field_send, of_row.the_send, of_row.the_field_send, select_send, knot_leftside.hole_send-LeftSide) depth 60 fits 400000

leftconcatenation_field_sync : IsSync (LeftConcatenation.the_field).row
leftconcatenation_field_sync = search (sendable, crosses, of_row.the_sync, of_row.the_field_sync, of_row.the_sync, of_row.the_field_sync, select_sync, knot_leftside.hole_sync-LeftSide) depth 60 fits 400000

leftside_field_send : IsSend (LeftSide.the_field).row
leftside_field_send = search (sendable, crosses, of_row.the_send, of_row.the_field_send, of_row.the_send, of_row.the_field_send, select_send, knot_leftside.hole_send-LeftConcatenation, leftconcatenation_field_send) depth 60 fits 400000

leftside_field_sync : IsSync (LeftSide.the_field).row
leftside_field_sync = search (sendable, crosses, of_row.the_sync, of_row.the_field_sync, of_row.the_sync, of_row.the_field_sync, select_sync, knot_leftside.hole_sync-LeftConcatenation, leftconcatenation_field_sync) depth 60 fits 400000

concatenationassignment_send : IsSend ConcatenationAssignment.the_row
concatenationassignment_send = search (sendable, crosses, of_row.the_send, of_row.the_field_send, of_assignmentoperator.the_send, of_assignmentoperator.the_field_send, expr_send, leftconcatenation_send, leftconcatenation_field_send, of_mark.the_send) depth 60 fits 400000

concatenationassignment_field_send : IsSend (ConcatenationAssignment.the_field).row
concatenationassignment_field_send = search (sendable, crosses, of_row.the_send, of_row.the_field_send, of_assignmentoperator.the_send, of_assignmentoperator.the_field_send, expr_send, leftconcatenation_send, leftconcatenation_field_send, of_mark.the_send) depth 60 fits 400000

concatenationassignment_sync : IsSync ConcatenationAssignment.the_row
concatenationassignment_sync = search (sendable, crosses, of_row.the_sync, of_row.the_field_sync, of_assignmentoperator.the_sync, of_assignmentoperator.the_field_sync, expr_sync, leftconcatenation_sync, leftconcatenation_field_sync, of_mark.the_sync) depth 60 fits 400000

concatenationassignment_field_sync : IsSync (ConcatenationAssignment.the_field).row
concatenationassignment_field_sync = search (sendable, crosses, of_row.the_sync, of_row.the_field_sync, of_assignmentoperator.the_sync, of_assignmentoperator.the_field_sync, expr_sync, leftconcatenation_sync, leftconcatenation_field_sync, of_mark.the_sync) depth 60 fits 400000

initializeddeclarator_send : IsSend InitializedDeclarator.the_row
initializeddeclarator_send = search (sendable, crosses, of_row.the_send, of_row.the_field_send, declarator_send, declarator_field_send, initializer_send, initializer_field_send) depth 60 fits 400000

initializeddeclarator_field_send : IsSend (InitializedDeclarator.the_field).row
initializeddeclarator_field_send = search (sendable, crosses, of_row.the_send, of_row.the_field_send, declarator_send, declarator_field_send, initializer_send, initializer_field_send) depth 60 fits 400000

initializeddeclarator_sync : IsSync InitializedDeclarator.the_row
initializeddeclarator_sync = search (sendable, crosses, of_row.the_sync, of_row.the_field_sync, declarator_sync, declarator_field_sync, initializer_sync, initializer_field_sync) depth 60 fits 400000

initializeddeclarator_field_sync : IsSync (InitializedDeclarator.the_field).row
initializeddeclarator_field_sync = search (sendable, crosses, of_row.the_sync, of_row.the_field_sync, declarator_sync, declarator_field_sync, initializer_sync, initializer_field_sync) depth 60 fits 400000

datadeclaration_send : IsSend DataDeclaration.the_row
datadeclaration_send = search (sendable, crosses, of_row.the_send, of_row.the_field_send, initializeddeclarator_send, initializeddeclarator_field_send, of_row.the_send, of_row.the_field_send, typeref_send, typeref_field_send) depth 60 fits 400000

datadeclaration_field_send : IsSend (DataDeclaration.the_field).row
datadeclaration_field_send = search (sendable, crosses, of_row.the_send, of_row.the_field_send, initializeddeclarator_send, initializeddeclarator_field_send, of_row.the_send, of_row.the_field_send, typeref_send, typeref_field_send) depth 60 fits 400000

datadeclaration_sync : IsSync DataDeclaration.the_row
datadeclaration_sync = search (sendable, crosses, of_row.the_sync, of_row.the_field_sync, initializeddeclarator_sync, initializeddeclarator_field_sync, of_row.the_sync, of_row.the_field_sync, typeref_sync, typeref_field_sync) depth 60 fits 400000

datadeclaration_field_sync : IsSync (DataDeclaration.the_field).row
datadeclaration_field_sync = search (sendable, crosses, of_row.the_sync, of_row.the_field_sync, initializeddeclarator_sync, initializeddeclarator_field_sync, of_row.the_sync, of_row.the_field_sync, typeref_sync, typeref_field_sync) depth 60 fits 400000

forvariable_send : IsSend ForVariable.the_row
forvariable_send = search (sendable, crosses, of_row.the_send, of_row.the_field_send, datatype_send, datatype_field_send, declarator_send, declarator_field_send, initializer_send, initializer_field_send) depth 60 fits 400000

forvariable_field_send : IsSend (ForVariable.the_field).row
forvariable_field_send = search (sendable, crosses, of_row.the_send, of_row.the_field_send, datatype_send, datatype_field_send, declarator_send, declarator_field_send, initializer_send, initializer_field_send) depth 60 fits 400000

forvariable_sync : IsSync ForVariable.the_row
forvariable_sync = search (sendable, crosses, of_row.the_sync, of_row.the_field_sync, datatype_sync, datatype_field_sync, declarator_sync, declarator_field_sync, initializer_sync, initializer_field_sync) depth 60 fits 400000

forvariable_field_sync : IsSync (ForVariable.the_field).row
forvariable_field_sync = search (sendable, crosses, of_row.the_sync, of_row.the_field_sync, datatype_sync, datatype_field_sync, declarator_sync, declarator_field_sync, initializer_sync, initializer_field_sync) depth 60 fits 400000

forinitialization_send : IsSend ForInitialization.the_row
forinitialization_send = search (sendable, crosses, of_row.the_send, of_row.the_field_send, of_assignmentoperator.the_send, of_assignmentoperator.the_field_send, declarator_send, declarator_field_send, expr_send, forvariable_send, forvariable_field_send, initializer_send, initializer_field_send, of_mark.the_send, of_row.the_send, of_row.the_field_send, of_scopedname.the_send, of_scopedname.the_field_send, select_send) depth 60 fits 400000

forinitialization_field_send : IsSend (ForInitialization.the_field).row
forinitialization_field_send = search (sendable, crosses, of_row.the_send, of_row.the_field_send, of_assignmentoperator.the_send, of_assignmentoperator.the_field_send, declarator_send, declarator_field_send, expr_send, forvariable_send, forvariable_field_send, initializer_send, initializer_field_send, of_mark.the_send, of_row.the_send, of_row.the_field_send, of_scopedname.the_send, of_scopedname.the_field_send, select_send) depth 60 fits 400000

forinitialization_sync : IsSync ForInitialization.the_row
forinitialization_sync = search (sendable, crosses, of_row.the_sync, of_row.the_field_sync, of_assignmentoperator.the_sync, of_assignmentoperator.the_field_sync, declarator_sync, declarator_field_sync, expr_sync, forvariable_sync, forvariable_field_sync, initializer_sync, initializer_field_sync, of_mark.the_sync, of_row.the_sync, of_row.the_field_sync, of_scopedname.the_sync, of_scopedname.the_field_sync, select_sync) depth 60 fits 400000

forinitialization_field_sync : IsSync (ForInitialization.the_field).row
forinitialization_field_sync = search (sendable, crosses, of_row.the_sync, of_row.the_field_sync, of_assignmentoperator.the_sync, of_assignmentoperator.the_field_sync, declarator_sync, declarator_field_sync, expr_sync, forvariable_sync, forvariable_field_sync, initializer_sync, initializer_field_sync, of_mark.the_sync, of_row.the_sync, of_row.the_field_sync, of_scopedname.the_sync, of_scopedname.the_field_sync, select_sync) depth 60 fits 400000

change_send : IsSend Change.the_row
change_send = search (sendable, crosses, of_row.the_send, of_row.the_field_send, of_assignmentoperator.the_send, of_assignmentoperator.the_field_send, expr_send, of_mark.the_send, of_stepoperator.the_send, of_stepoperator.the_field_send) depth 60 fits 400000

change_field_send : IsSend (Change.the_field).row
change_field_send = search (sendable, crosses, of_row.the_send, of_row.the_field_send, of_assignmentoperator.the_send, of_assignmentoperator.the_field_send, expr_send, of_mark.the_send, of_stepoperator.the_send, of_stepoperator.the_field_send) depth 60 fits 400000

change_sync : IsSync Change.the_row
change_sync = search (sendable, crosses, of_row.the_sync, of_row.the_field_sync, of_assignmentoperator.the_sync, of_assignmentoperator.the_field_sync, expr_sync, of_mark.the_sync, of_stepoperator.the_sync, of_stepoperator.the_field_sync) depth 60 fits 400000

change_field_sync : IsSync (Change.the_field).row
change_field_sync = search (sendable, crosses, of_row.the_sync, of_row.the_field_sync, of_assignmentoperator.the_sync, of_assignmentoperator.the_field_sync, expr_sync, of_mark.the_sync, of_stepoperator.the_sync, of_stepoperator.the_field_sync) depth 60 fits 400000

forstep_send : IsSend ForStep.the_row
forstep_send = search (sendable, crosses, of_row.the_send, of_row.the_field_send, change_send, change_field_send, of_mark.the_send, select_send, of_stepoperator.the_send, of_stepoperator.the_field_send) depth 60 fits 400000

forstep_field_send : IsSend (ForStep.the_field).row
forstep_field_send = search (sendable, crosses, of_row.the_send, of_row.the_field_send, change_send, change_field_send, of_mark.the_send, select_send, of_stepoperator.the_send, of_stepoperator.the_field_send) depth 60 fits 400000

forstep_sync : IsSync ForStep.the_row
forstep_sync = search (sendable, crosses, of_row.the_sync, of_row.the_field_sync, change_sync, change_field_sync, of_mark.the_sync, select_sync, of_stepoperator.the_sync, of_stepoperator.the_field_sync) depth 60 fits 400000

forstep_field_sync : IsSync (ForStep.the_field).row
forstep_field_sync = search (sendable, crosses, of_row.the_sync, of_row.the_field_sync, change_sync, change_field_sync, of_mark.the_sync, select_sync, of_stepoperator.the_sync, of_stepoperator.the_field_sync) depth 60 fits 400000

statementtail_send : IsSend StatementTail.the_row
statementtail_send = search (sendable, crosses, of_row.the_send, of_row.the_field_send, argumentlist_send, argumentlist_field_send, of_assignmentoperator.the_send, of_assignmentoperator.the_field_send, expr_send, of_mark.the_send, of_stepoperator.the_send, of_stepoperator.the_field_send) depth 60 fits 400000

statementtail_field_send : IsSend (StatementTail.the_field).row
statementtail_field_send = search (sendable, crosses, of_row.the_send, of_row.the_field_send, argumentlist_send, argumentlist_field_send, of_assignmentoperator.the_send, of_assignmentoperator.the_field_send, expr_send, of_mark.the_send, of_stepoperator.the_send, of_stepoperator.the_field_send) depth 60 fits 400000

statementtail_sync : IsSync StatementTail.the_row
statementtail_sync = search (sendable, crosses, of_row.the_sync, of_row.the_field_sync, argumentlist_sync, argumentlist_field_sync, of_assignmentoperator.the_sync, of_assignmentoperator.the_field_sync, expr_sync, of_mark.the_sync, of_stepoperator.the_sync, of_stepoperator.the_field_sync) depth 60 fits 400000

statementtail_field_sync : IsSync (StatementTail.the_field).row
statementtail_field_sync = search (sendable, crosses, of_row.the_sync, of_row.the_field_sync, argumentlist_sync, argumentlist_field_sync, of_assignmentoperator.the_sync, of_assignmentoperator.the_field_sync, expr_sync, of_mark.the_sync, of_stepoperator.the_sync, of_stepoperator.the_field_sync) depth 60 fits 400000

namestatement_send : IsSend NameStatement.the_row
namestatement_send = search (sendable, crosses, of_row.the_send, of_row.the_field_send, of_scopedname.the_send, of_scopedname.the_field_send, select_send, statementtail_send, statementtail_field_send) depth 60 fits 400000

namestatement_field_send : IsSend (NameStatement.the_field).row
namestatement_field_send = search (sendable, crosses, of_row.the_send, of_row.the_field_send, of_scopedname.the_send, of_scopedname.the_field_send, select_send, statementtail_send, statementtail_field_send) depth 60 fits 400000

namestatement_sync : IsSync NameStatement.the_row
namestatement_sync = search (sendable, crosses, of_row.the_sync, of_row.the_field_sync, of_scopedname.the_sync, of_scopedname.the_field_sync, select_sync, statementtail_sync, statementtail_field_sync) depth 60 fits 400000

namestatement_field_sync : IsSync (NameStatement.the_field).row
namestatement_field_sync = search (sendable, crosses, of_row.the_sync, of_row.the_field_sync, of_scopedname.the_sync, of_scopedname.the_field_sync, select_sync, statementtail_sync, statementtail_field_sync) depth 60 fits 400000

nameddeclaration_send : IsSend NamedDeclaration.the_row
nameddeclaration_send = search (sendable, crosses, of_row.the_send, of_row.the_field_send, initializeddeclarator_send, initializeddeclarator_field_send, of_row.the_send, of_row.the_field_send, of_scopedname.the_send, of_scopedname.the_field_send, select_send) depth 60 fits 400000

nameddeclaration_field_send : IsSend (NamedDeclaration.the_field).row
nameddeclaration_field_send = search (sendable, crosses, of_row.the_send, of_row.the_field_send, initializeddeclarator_send, initializeddeclarator_field_send, of_row.the_send, of_row.the_field_send, of_scopedname.the_send, of_scopedname.the_field_send, select_send) depth 60 fits 400000

nameddeclaration_sync : IsSync NamedDeclaration.the_row
nameddeclaration_sync = search (sendable, crosses, of_row.the_sync, of_row.the_field_sync, initializeddeclarator_sync, initializeddeclarator_field_sync, of_row.the_sync, of_row.the_field_sync, of_scopedname.the_sync, of_scopedname.the_field_sync, select_sync) depth 60 fits 400000

nameddeclaration_field_sync : IsSync (NamedDeclaration.the_field).row
nameddeclaration_field_sync = search (sendable, crosses, of_row.the_sync, of_row.the_field_sync, initializeddeclarator_sync, initializeddeclarator_field_sync, of_row.the_sync, of_row.the_field_sync, of_scopedname.the_sync, of_scopedname.the_field_sync, select_sync) depth 60 fits 400000

parameterassignment_send : IsSend ParameterAssignment.the_row
parameterassignment_send = search (sendable, crosses, of_row.the_send, of_row.the_field_send, declarator_send, declarator_field_send, initializer_send, initializer_field_send) depth 60 fits 400000

parameterassignment_field_send : IsSend (ParameterAssignment.the_field).row
parameterassignment_field_send = search (sendable, crosses, of_row.the_send, of_row.the_field_send, declarator_send, declarator_field_send, initializer_send, initializer_field_send) depth 60 fits 400000

parameterassignment_sync : IsSync ParameterAssignment.the_row
parameterassignment_sync = search (sendable, crosses, of_row.the_sync, of_row.the_field_sync, declarator_sync, declarator_field_sync, initializer_sync, initializer_field_sync) depth 60 fits 400000

parameterassignment_field_sync : IsSync (ParameterAssignment.the_field).row
parameterassignment_field_sync = search (sendable, crosses, of_row.the_sync, of_row.the_field_sync, declarator_sync, declarator_field_sync, initializer_sync, initializer_field_sync) depth 60 fits 400000

parameters_send : IsSend Parameters.the_row
parameters_send = search (sendable, crosses, of_row.the_send, of_row.the_field_send, declaredtype_send, declaredtype_field_send, of_mark.the_send, parameterassignment_send, parameterassignment_field_send, of_parameterkeyword.the_send, of_parameterkeyword.the_field_send, of_row.the_send, of_row.the_field_send) depth 60 fits 400000

parameters_field_send : IsSend (Parameters.the_field).row
parameters_field_send = search (sendable, crosses, of_row.the_send, of_row.the_field_send, declaredtype_send, declaredtype_field_send, of_mark.the_send, parameterassignment_send, parameterassignment_field_send, of_parameterkeyword.the_send, of_parameterkeyword.the_field_send, of_row.the_send, of_row.the_field_send) depth 60 fits 400000

parameters_sync : IsSync Parameters.the_row
parameters_sync = search (sendable, crosses, of_row.the_sync, of_row.the_field_sync, declaredtype_sync, declaredtype_field_sync, of_mark.the_sync, parameterassignment_sync, parameterassignment_field_sync, of_parameterkeyword.the_sync, of_parameterkeyword.the_field_sync, of_row.the_sync, of_row.the_field_sync) depth 60 fits 400000

parameters_field_sync : IsSync (Parameters.the_field).row
parameters_field_sync = search (sendable, crosses, of_row.the_sync, of_row.the_field_sync, declaredtype_sync, declaredtype_field_sync, of_mark.the_sync, parameterassignment_sync, parameterassignment_field_sync, of_parameterkeyword.the_sync, of_parameterkeyword.the_field_sync, of_row.the_sync, of_row.the_field_sync) depth 60 fits 400000

returnstatement_send : IsSend ReturnStatement.the_row
returnstatement_send = search (sendable, crosses, of_row.the_send, of_row.the_field_send, expr_send) depth 60 fits 400000

returnstatement_field_send : IsSend (ReturnStatement.the_field).row
returnstatement_field_send = search (sendable, crosses, of_row.the_send, of_row.the_field_send, expr_send) depth 60 fits 400000

returnstatement_sync : IsSync ReturnStatement.the_row
returnstatement_sync = search (sendable, crosses, of_row.the_sync, of_row.the_field_sync, expr_sync) depth 60 fits 400000

returnstatement_field_sync : IsSync (ReturnStatement.the_field).row
returnstatement_field_sync = search (sendable, crosses, of_row.the_sync, of_row.the_field_sync, expr_sync) depth 60 fits 400000

stepstatement_send : IsSend StepStatement.the_row
stepstatement_send = search (sendable, crosses, of_row.the_send, of_row.the_field_send, of_mark.the_send, select_send, of_stepoperator.the_send, of_stepoperator.the_field_send) depth 60 fits 400000

stepstatement_field_send : IsSend (StepStatement.the_field).row
stepstatement_field_send = search (sendable, crosses, of_row.the_send, of_row.the_field_send, of_mark.the_send, select_send, of_stepoperator.the_send, of_stepoperator.the_field_send) depth 60 fits 400000

stepstatement_sync : IsSync StepStatement.the_row
stepstatement_sync = search (sendable, crosses, of_row.the_sync, of_row.the_field_sync, of_mark.the_sync, select_sync, of_stepoperator.the_sync, of_stepoperator.the_field_sync) depth 60 fits 400000

stepstatement_field_sync : IsSync (StepStatement.the_field).row
stepstatement_field_sync = search (sendable, crosses, of_row.the_sync, of_row.the_field_sync, of_mark.the_sync, select_sync, of_stepoperator.the_sync, of_stepoperator.the_field_sync) depth 60 fits 400000

systemtask_send : IsSend SystemTask.the_row
systemtask_send = search (sendable, crosses, of_row.the_send, of_row.the_field_send, argumentlist_send, argumentlist_field_send) depth 60 fits 400000

systemtask_field_send : IsSend (SystemTask.the_field).row
systemtask_field_send = search (sendable, crosses, of_row.the_send, of_row.the_field_send, argumentlist_send, argumentlist_field_send) depth 60 fits 400000

systemtask_sync : IsSync SystemTask.the_row
systemtask_sync = search (sendable, crosses, of_row.the_sync, of_row.the_field_sync, argumentlist_sync, argumentlist_field_sync) depth 60 fits 400000

systemtask_field_sync : IsSync (SystemTask.the_field).row
systemtask_field_sync = search (sendable, crosses, of_row.the_sync, of_row.the_field_sync, argumentlist_sync, argumentlist_field_sync) depth 60 fits 400000

typedef_send : IsSend Typedef.the_row
typedef_send = search (sendable, crosses, of_row.the_send, of_row.the_field_send, declarator_send, declarator_field_send, typeref_send, typeref_field_send) depth 60 fits 400000

typedef_field_send : IsSend (Typedef.the_field).row
typedef_field_send = search (sendable, crosses, of_row.the_send, of_row.the_field_send, declarator_send, declarator_field_send, typeref_send, typeref_field_send) depth 60 fits 400000

typedef_sync : IsSync Typedef.the_row
typedef_sync = search (sendable, crosses, of_row.the_sync, of_row.the_field_sync, declarator_sync, declarator_field_sync, typeref_sync, typeref_field_sync) depth 60 fits 400000

typedef_field_sync : IsSync (Typedef.the_field).row
typedef_field_sync = search (sendable, crosses, of_row.the_sync, of_row.the_field_sync, declarator_sync, declarator_field_sync, typeref_sync, typeref_field_sync) depth 60 fits 400000

variabledeclaration_send : IsSend VariableDeclaration.the_row
variabledeclaration_send = search (sendable, crosses, of_row.the_send, of_row.the_field_send, declaredtype_send, declaredtype_field_send, initializeddeclarator_send, initializeddeclarator_field_send, of_row.the_send, of_row.the_field_send) depth 60 fits 400000

variabledeclaration_field_send : IsSend (VariableDeclaration.the_field).row
variabledeclaration_field_send = search (sendable, crosses, of_row.the_send, of_row.the_field_send, declaredtype_send, declaredtype_field_send, initializeddeclarator_send, initializeddeclarator_field_send, of_row.the_send, of_row.the_field_send) depth 60 fits 400000

variabledeclaration_sync : IsSync VariableDeclaration.the_row
variabledeclaration_sync = search (sendable, crosses, of_row.the_sync, of_row.the_field_sync, declaredtype_sync, declaredtype_field_sync, initializeddeclarator_sync, initializeddeclarator_field_sync, of_row.the_sync, of_row.the_field_sync) depth 60 fits 400000

variabledeclaration_field_sync : IsSync (VariableDeclaration.the_field).row
variabledeclaration_field_sync = search (sendable, crosses, of_row.the_sync, of_row.the_field_sync, declaredtype_sync, declaredtype_field_sync, initializeddeclarator_sync, initializeddeclarator_field_sync, of_row.the_sync, of_row.the_field_sync) depth 60 fits 400000

voidcall_send : IsSend VoidCall.the_row
voidcall_send = search (sendable, crosses, of_row.the_send, of_row.the_field_send, cast_send, cast_field_send) depth 60 fits 400000

voidcall_field_send : IsSend (VoidCall.the_field).row
voidcall_field_send = search (sendable, crosses, of_row.the_send, of_row.the_field_send, cast_send, cast_field_send) depth 60 fits 400000

voidcall_sync : IsSync VoidCall.the_row
voidcall_sync = search (sendable, crosses, of_row.the_sync, of_row.the_field_sync, cast_sync, cast_field_sync) depth 60 fits 400000

voidcall_field_sync : IsSync (VoidCall.the_field).row
voidcall_field_sync = search (sendable, crosses, of_row.the_sync, of_row.the_field_sync, cast_sync, cast_field_sync) depth 60 fits 400000

caseitem_send : IsSend CaseItem.the_row
caseitem_send = search (sendable, crosses, of_row.the_send, of_row.the_field_send, of_casekeyword.the_send, of_casekeyword.the_field_send, concatenationassignment_send, concatenationassignment_field_send, datadeclaration_send, datadeclaration_field_send, expr_send, forinitialization_send, forinitialization_field_send, forstep_send, forstep_field_send, of_label.the_send, of_label.the_field_send, of_lifetime.the_send, of_lifetime.the_field_send, of_loopkeyword.the_send, of_loopkeyword.the_field_send, of_mark.the_send, namestatement_send, namestatement_field_send, nameddeclaration_send, nameddeclaration_field_send, parameters_send, parameters_field_send, parenthesized_send, parenthesized_field_send, returnstatement_send, returnstatement_field_send, of_row.the_send, of_row.the_field_send, stepstatement_send, stepstatement_field_send, systemtask_send, systemtask_field_send, typedef_send, typedef_field_send, of_uniqueness.the_send, of_uniqueness.the_field_send, variabledeclaration_send, variabledeclaration_field_send, voidcall_send, voidcall_field_send, knot_blockitem.send-CaseItem) depth 60 fits 400000

caseitem_sync : IsSync CaseItem.the_row
caseitem_sync = search (sendable, crosses, of_row.the_sync, of_row.the_field_sync, of_casekeyword.the_sync, of_casekeyword.the_field_sync, concatenationassignment_sync, concatenationassignment_field_sync, datadeclaration_sync, datadeclaration_field_sync, expr_sync, forinitialization_sync, forinitialization_field_sync, forstep_sync, forstep_field_sync, of_label.the_sync, of_label.the_field_sync, of_lifetime.the_sync, of_lifetime.the_field_sync, of_loopkeyword.the_sync, of_loopkeyword.the_field_sync, of_mark.the_sync, namestatement_sync, namestatement_field_sync, nameddeclaration_sync, nameddeclaration_field_sync, parameters_sync, parameters_field_sync, parenthesized_sync, parenthesized_field_sync, returnstatement_sync, returnstatement_field_sync, of_row.the_sync, of_row.the_field_sync, stepstatement_sync, stepstatement_field_sync, systemtask_sync, systemtask_field_sync, typedef_sync, typedef_field_sync, of_uniqueness.the_sync, of_uniqueness.the_field_sync, variabledeclaration_sync, variabledeclaration_field_sync, voidcall_sync, voidcall_field_sync, knot_blockitem.sync-CaseItem) depth 60 fits 400000

stmt_send : IsSend Stmt.the_row
stmt_send = search (sendable, crosses, of_row.the_send, of_row.the_field_send, of_casekeyword.the_send, of_casekeyword.the_field_send, concatenationassignment_send, concatenationassignment_field_send, datadeclaration_send, datadeclaration_field_send, expr_send, forinitialization_send, forinitialization_field_send, forstep_send, forstep_field_send, of_label.the_send, of_label.the_field_send, of_lifetime.the_send, of_lifetime.the_field_send, of_loopkeyword.the_send, of_loopkeyword.the_field_send, of_mark.the_send, namestatement_send, namestatement_field_send, nameddeclaration_send, nameddeclaration_field_send, parameters_send, parameters_field_send, parenthesized_send, parenthesized_field_send, returnstatement_send, returnstatement_field_send, of_row.the_send, of_row.the_field_send, stepstatement_send, stepstatement_field_send, systemtask_send, systemtask_field_send, typedef_send, typedef_field_send, of_uniqueness.the_send, of_uniqueness.the_field_send, variabledeclaration_send, variabledeclaration_field_send, voidcall_send, voidcall_field_send, knot_blockitem.send-Stmt) depth 60 fits 400000

stmt_sync : IsSync Stmt.the_row
stmt_sync = search (sendable, crosses, of_row.the_sync, of_row.the_field_sync, of_casekeyword.the_sync, of_casekeyword.the_field_sync, concatenationassignment_sync, concatenationassignment_field_sync, datadeclaration_sync, datadeclaration_field_sync, expr_sync, forinitialization_sync, forinitialization_field_sync, forstep_sync, forstep_field_sync, of_label.the_sync, of_label.the_field_sync, of_lifetime.the_sync, of_lifetime.the_field_sync, of_loopkeyword.the_sync, of_loopkeyword.the_field_sync, of_mark.the_sync, namestatement_sync, namestatement_field_sync, nameddeclaration_sync, nameddeclaration_field_sync, parameters_sync, parameters_field_sync, parenthesized_sync, parenthesized_field_sync, returnstatement_sync, returnstatement_field_sync, of_row.the_sync, of_row.the_field_sync, stepstatement_sync, stepstatement_field_sync, systemtask_sync, systemtask_field_sync, typedef_sync, typedef_field_sync, of_uniqueness.the_sync, of_uniqueness.the_field_sync, variabledeclaration_sync, variabledeclaration_field_sync, voidcall_sync, voidcall_field_sync, knot_blockitem.sync-Stmt) depth 60 fits 400000

blockitem_send : IsSend BlockItem.the_row
blockitem_send = search (sendable, crosses, of_row.the_send, of_row.the_field_send, of_casekeyword.the_send, of_casekeyword.the_field_send, concatenationassignment_send, concatenationassignment_field_send, datadeclaration_send, datadeclaration_field_send, expr_send, forinitialization_send, forinitialization_field_send, forstep_send, forstep_field_send, of_label.the_send, of_label.the_field_send, of_lifetime.the_send, of_lifetime.the_field_send, of_loopkeyword.the_send, of_loopkeyword.the_field_send, of_mark.the_send, namestatement_send, namestatement_field_send, nameddeclaration_send, nameddeclaration_field_send, parameters_send, parameters_field_send, parenthesized_send, parenthesized_field_send, returnstatement_send, returnstatement_field_send, of_row.the_send, of_row.the_field_send, stepstatement_send, stepstatement_field_send, systemtask_send, systemtask_field_send, typedef_send, typedef_field_send, of_uniqueness.the_send, of_uniqueness.the_field_send, variabledeclaration_send, variabledeclaration_field_send, voidcall_send, voidcall_field_send, knot_blockitem.send-BlockItem) depth 60 fits 400000

blockitem_sync : IsSync BlockItem.the_row
blockitem_sync = search (sendable, crosses, of_row.the_sync, of_row.the_field_sync, of_casekeyword.the_sync, of_casekeyword.the_field_sync, concatenationassignment_sync, concatenationassignment_field_sync, datadeclaration_sync, datadeclaration_field_sync, expr_sync, forinitialization_sync, forinitialization_field_sync, forstep_sync, forstep_field_sync, of_label.the_sync, of_label.the_field_sync, of_lifetime.the_sync, of_lifetime.the_field_sync, of_loopkeyword.the_sync, of_loopkeyword.the_field_sync, of_mark.the_sync, namestatement_sync, namestatement_field_sync, nameddeclaration_sync, nameddeclaration_field_sync, parameters_sync, parameters_field_sync, parenthesized_sync, parenthesized_field_sync, returnstatement_sync, returnstatement_field_sync, of_row.the_sync, of_row.the_field_sync, stepstatement_sync, stepstatement_field_sync, systemtask_sync, systemtask_field_sync, typedef_sync, typedef_field_sync, of_uniqueness.the_sync, of_uniqueness.the_field_sync, variabledeclaration_sync, variabledeclaration_field_sync, voidcall_sync, voidcall_field_sync, knot_blockitem.sync-BlockItem) depth 60 fits 400000

block_send : IsSend Block.the_row
block_send = search (sendable, crosses, of_row.the_send, of_row.the_field_send, of_casekeyword.the_send, of_casekeyword.the_field_send, concatenationassignment_send, concatenationassignment_field_send, datadeclaration_send, datadeclaration_field_send, expr_send, forinitialization_send, forinitialization_field_send, forstep_send, forstep_field_send, of_label.the_send, of_label.the_field_send, of_lifetime.the_send, of_lifetime.the_field_send, of_loopkeyword.the_send, of_loopkeyword.the_field_send, of_mark.the_send, namestatement_send, namestatement_field_send, nameddeclaration_send, nameddeclaration_field_send, parameters_send, parameters_field_send, parenthesized_send, parenthesized_field_send, returnstatement_send, returnstatement_field_send, of_row.the_send, of_row.the_field_send, stepstatement_send, stepstatement_field_send, systemtask_send, systemtask_field_send, typedef_send, typedef_field_send, of_uniqueness.the_send, of_uniqueness.the_field_send, variabledeclaration_send, variabledeclaration_field_send, voidcall_send, voidcall_field_send, knot_blockitem.send-Block) depth 60 fits 400000

block_sync : IsSync Block.the_row
block_sync = search (sendable, crosses, of_row.the_sync, of_row.the_field_sync, of_casekeyword.the_sync, of_casekeyword.the_field_sync, concatenationassignment_sync, concatenationassignment_field_sync, datadeclaration_sync, datadeclaration_field_sync, expr_sync, forinitialization_sync, forinitialization_field_sync, forstep_sync, forstep_field_sync, of_label.the_sync, of_label.the_field_sync, of_lifetime.the_sync, of_lifetime.the_field_sync, of_loopkeyword.the_sync, of_loopkeyword.the_field_sync, of_mark.the_sync, namestatement_sync, namestatement_field_sync, nameddeclaration_sync, nameddeclaration_field_sync, parameters_sync, parameters_field_sync, parenthesized_sync, parenthesized_field_sync, returnstatement_sync, returnstatement_field_sync, of_row.the_sync, of_row.the_field_sync, stepstatement_sync, stepstatement_field_sync, systemtask_sync, systemtask_field_sync, typedef_sync, typedef_field_sync, of_uniqueness.the_sync, of_uniqueness.the_field_sync, variabledeclaration_sync, variabledeclaration_field_sync, voidcall_sync, voidcall_field_sync, knot_blockitem.sync-Block) depth 60 fits 400000

casestatement_send : IsSend CaseStatement.the_row
casestatement_send = search (sendable, crosses, of_row.the_send, of_row.the_field_send, of_casekeyword.the_send, of_casekeyword.the_field_send, concatenationassignment_send, concatenationassignment_field_send, datadeclaration_send, datadeclaration_field_send, expr_send, forinitialization_send, forinitialization_field_send, forstep_send, forstep_field_send, of_label.the_send, of_label.the_field_send, of_lifetime.the_send, of_lifetime.the_field_send, of_loopkeyword.the_send, of_loopkeyword.the_field_send, of_mark.the_send, namestatement_send, namestatement_field_send, nameddeclaration_send, nameddeclaration_field_send, parameters_send, parameters_field_send, parenthesized_send, parenthesized_field_send, returnstatement_send, returnstatement_field_send, of_row.the_send, of_row.the_field_send, stepstatement_send, stepstatement_field_send, systemtask_send, systemtask_field_send, typedef_send, typedef_field_send, of_uniqueness.the_send, of_uniqueness.the_field_send, variabledeclaration_send, variabledeclaration_field_send, voidcall_send, voidcall_field_send, knot_blockitem.send-CaseStatement) depth 60 fits 400000

casestatement_sync : IsSync CaseStatement.the_row
casestatement_sync = search (sendable, crosses, of_row.the_sync, of_row.the_field_sync, of_casekeyword.the_sync, of_casekeyword.the_field_sync, concatenationassignment_sync, concatenationassignment_field_sync, datadeclaration_sync, datadeclaration_field_sync, expr_sync, forinitialization_sync, forinitialization_field_sync, forstep_sync, forstep_field_sync, of_label.the_sync, of_label.the_field_sync, of_lifetime.the_sync, of_lifetime.the_field_sync, of_loopkeyword.the_sync, of_loopkeyword.the_field_sync, of_mark.the_sync, namestatement_sync, namestatement_field_sync, nameddeclaration_sync, nameddeclaration_field_sync, parameters_sync, parameters_field_sync, parenthesized_sync, parenthesized_field_sync, returnstatement_sync, returnstatement_field_sync, of_row.the_sync, of_row.the_field_sync, stepstatement_sync, stepstatement_field_sync, systemtask_sync, systemtask_field_sync, typedef_sync, typedef_field_sync, of_uniqueness.the_sync, of_uniqueness.the_field_sync, variabledeclaration_sync, variabledeclaration_field_sync, voidcall_sync, voidcall_field_sync, knot_blockitem.sync-CaseStatement) depth 60 fits 400000

dostatement_send : IsSend DoStatement.the_row
dostatement_send = search (sendable, crosses, of_row.the_send, of_row.the_field_send, of_casekeyword.the_send, of_casekeyword.the_field_send, concatenationassignment_send, concatenationassignment_field_send, datadeclaration_send, datadeclaration_field_send, expr_send, forinitialization_send, forinitialization_field_send, forstep_send, forstep_field_send, of_label.the_send, of_label.the_field_send, of_lifetime.the_send, of_lifetime.the_field_send, of_loopkeyword.the_send, of_loopkeyword.the_field_send, of_mark.the_send, namestatement_send, namestatement_field_send, nameddeclaration_send, nameddeclaration_field_send, parameters_send, parameters_field_send, parenthesized_send, parenthesized_field_send, returnstatement_send, returnstatement_field_send, of_row.the_send, of_row.the_field_send, stepstatement_send, stepstatement_field_send, systemtask_send, systemtask_field_send, typedef_send, typedef_field_send, of_uniqueness.the_send, of_uniqueness.the_field_send, variabledeclaration_send, variabledeclaration_field_send, voidcall_send, voidcall_field_send, knot_blockitem.send-DoStatement) depth 60 fits 400000

dostatement_sync : IsSync DoStatement.the_row
dostatement_sync = search (sendable, crosses, of_row.the_sync, of_row.the_field_sync, of_casekeyword.the_sync, of_casekeyword.the_field_sync, concatenationassignment_sync, concatenationassignment_field_sync, datadeclaration_sync, datadeclaration_field_sync, expr_sync, forinitialization_sync, forinitialization_field_sync, forstep_sync, forstep_field_sync, of_label.the_sync, of_label.the_field_sync, of_lifetime.the_sync, of_lifetime.the_field_sync, of_loopkeyword.the_sync, of_loopkeyword.the_field_sync, of_mark.the_sync, namestatement_sync, namestatement_field_sync, nameddeclaration_sync, nameddeclaration_field_sync, parameters_sync, parameters_field_sync, parenthesized_sync, parenthesized_field_sync, returnstatement_sync, returnstatement_field_sync, of_row.the_sync, of_row.the_field_sync, stepstatement_sync, stepstatement_field_sync, systemtask_sync, systemtask_field_sync, typedef_sync, typedef_field_sync, of_uniqueness.the_sync, of_uniqueness.the_field_sync, variabledeclaration_sync, variabledeclaration_field_sync, voidcall_sync, voidcall_field_sync, knot_blockitem.sync-DoStatement) depth 60 fits 400000

elsebranch_send : IsSend ElseBranch.the_row
elsebranch_send = search (sendable, crosses, of_row.the_send, of_row.the_field_send, of_casekeyword.the_send, of_casekeyword.the_field_send, concatenationassignment_send, concatenationassignment_field_send, datadeclaration_send, datadeclaration_field_send, expr_send, forinitialization_send, forinitialization_field_send, forstep_send, forstep_field_send, of_label.the_send, of_label.the_field_send, of_lifetime.the_send, of_lifetime.the_field_send, of_loopkeyword.the_send, of_loopkeyword.the_field_send, of_mark.the_send, namestatement_send, namestatement_field_send, nameddeclaration_send, nameddeclaration_field_send, parameters_send, parameters_field_send, parenthesized_send, parenthesized_field_send, returnstatement_send, returnstatement_field_send, of_row.the_send, of_row.the_field_send, stepstatement_send, stepstatement_field_send, systemtask_send, systemtask_field_send, typedef_send, typedef_field_send, of_uniqueness.the_send, of_uniqueness.the_field_send, variabledeclaration_send, variabledeclaration_field_send, voidcall_send, voidcall_field_send, knot_blockitem.send-ElseBranch) depth 60 fits 400000

elsebranch_sync : IsSync ElseBranch.the_row
elsebranch_sync = search (sendable, crosses, of_row.the_sync, of_row.the_field_sync, of_casekeyword.the_sync, of_casekeyword.the_field_sync, concatenationassignment_sync, concatenationassignment_field_sync, datadeclaration_sync, datadeclaration_field_sync, expr_sync, forinitialization_sync, forinitialization_field_sync, forstep_sync, forstep_field_sync, of_label.the_sync, of_label.the_field_sync, of_lifetime.the_sync, of_lifetime.the_field_sync, of_loopkeyword.the_sync, of_loopkeyword.the_field_sync, of_mark.the_sync, namestatement_sync, namestatement_field_sync, nameddeclaration_sync, nameddeclaration_field_sync, parameters_sync, parameters_field_sync, parenthesized_sync, parenthesized_field_sync, returnstatement_sync, returnstatement_field_sync, of_row.the_sync, of_row.the_field_sync, stepstatement_sync, stepstatement_field_sync, systemtask_sync, systemtask_field_sync, typedef_sync, typedef_field_sync, of_uniqueness.the_sync, of_uniqueness.the_field_sync, variabledeclaration_sync, variabledeclaration_field_sync, voidcall_sync, voidcall_field_sync, knot_blockitem.sync-ElseBranch) depth 60 fits 400000

forstatement_send : IsSend ForStatement.the_row
forstatement_send = search (sendable, crosses, of_row.the_send, of_row.the_field_send, of_casekeyword.the_send, of_casekeyword.the_field_send, concatenationassignment_send, concatenationassignment_field_send, datadeclaration_send, datadeclaration_field_send, expr_send, forinitialization_send, forinitialization_field_send, forstep_send, forstep_field_send, of_label.the_send, of_label.the_field_send, of_lifetime.the_send, of_lifetime.the_field_send, of_loopkeyword.the_send, of_loopkeyword.the_field_send, of_mark.the_send, namestatement_send, namestatement_field_send, nameddeclaration_send, nameddeclaration_field_send, parameters_send, parameters_field_send, parenthesized_send, parenthesized_field_send, returnstatement_send, returnstatement_field_send, of_row.the_send, of_row.the_field_send, stepstatement_send, stepstatement_field_send, systemtask_send, systemtask_field_send, typedef_send, typedef_field_send, of_uniqueness.the_send, of_uniqueness.the_field_send, variabledeclaration_send, variabledeclaration_field_send, voidcall_send, voidcall_field_send, knot_blockitem.send-ForStatement) depth 60 fits 400000

forstatement_sync : IsSync ForStatement.the_row
forstatement_sync = search (sendable, crosses, of_row.the_sync, of_row.the_field_sync, of_casekeyword.the_sync, of_casekeyword.the_field_sync, concatenationassignment_sync, concatenationassignment_field_sync, datadeclaration_sync, datadeclaration_field_sync, expr_sync, forinitialization_sync, forinitialization_field_sync, forstep_sync, forstep_field_sync, of_label.the_sync, of_label.the_field_sync, of_lifetime.the_sync, of_lifetime.the_field_sync, of_loopkeyword.the_sync, of_loopkeyword.the_field_sync, of_mark.the_sync, namestatement_sync, namestatement_field_sync, nameddeclaration_sync, nameddeclaration_field_sync, parameters_sync, parameters_field_sync, parenthesized_sync, parenthesized_field_sync, returnstatement_sync, returnstatement_field_sync, of_row.the_sync, of_row.the_field_sync, stepstatement_sync, stepstatement_field_sync, systemtask_sync, systemtask_field_sync, typedef_sync, typedef_field_sync, of_uniqueness.the_sync, of_uniqueness.the_field_sync, variabledeclaration_sync, variabledeclaration_field_sync, voidcall_sync, voidcall_field_sync, knot_blockitem.sync-ForStatement) depth 60 fits 400000

foreachstatement_send : IsSend ForeachStatement.the_row
foreachstatement_send = search (sendable, crosses, of_row.the_send, of_row.the_field_send, of_casekeyword.the_send, of_casekeyword.the_field_send, concatenationassignment_send, concatenationassignment_field_send, datadeclaration_send, datadeclaration_field_send, expr_send, forinitialization_send, forinitialization_field_send, forstep_send, forstep_field_send, of_label.the_send, of_label.the_field_send, of_lifetime.the_send, of_lifetime.the_field_send, of_loopkeyword.the_send, of_loopkeyword.the_field_send, of_mark.the_send, namestatement_send, namestatement_field_send, nameddeclaration_send, nameddeclaration_field_send, parameters_send, parameters_field_send, parenthesized_send, parenthesized_field_send, returnstatement_send, returnstatement_field_send, of_row.the_send, of_row.the_field_send, stepstatement_send, stepstatement_field_send, systemtask_send, systemtask_field_send, typedef_send, typedef_field_send, of_uniqueness.the_send, of_uniqueness.the_field_send, variabledeclaration_send, variabledeclaration_field_send, voidcall_send, voidcall_field_send, knot_blockitem.send-ForeachStatement) depth 60 fits 400000

foreachstatement_sync : IsSync ForeachStatement.the_row
foreachstatement_sync = search (sendable, crosses, of_row.the_sync, of_row.the_field_sync, of_casekeyword.the_sync, of_casekeyword.the_field_sync, concatenationassignment_sync, concatenationassignment_field_sync, datadeclaration_sync, datadeclaration_field_sync, expr_sync, forinitialization_sync, forinitialization_field_sync, forstep_sync, forstep_field_sync, of_label.the_sync, of_label.the_field_sync, of_lifetime.the_sync, of_lifetime.the_field_sync, of_loopkeyword.the_sync, of_loopkeyword.the_field_sync, of_mark.the_sync, namestatement_sync, namestatement_field_sync, nameddeclaration_sync, nameddeclaration_field_sync, parameters_sync, parameters_field_sync, parenthesized_sync, parenthesized_field_sync, returnstatement_sync, returnstatement_field_sync, of_row.the_sync, of_row.the_field_sync, stepstatement_sync, stepstatement_field_sync, systemtask_sync, systemtask_field_sync, typedef_sync, typedef_field_sync, of_uniqueness.the_sync, of_uniqueness.the_field_sync, variabledeclaration_sync, variabledeclaration_field_sync, voidcall_sync, voidcall_field_sync, knot_blockitem.sync-ForeachStatement) depth 60 fits 400000

ifstatement_send : IsSend IfStatement.the_row
ifstatement_send = search (sendable, crosses, of_row.the_send, of_row.the_field_send, of_casekeyword.the_send, of_casekeyword.the_field_send, concatenationassignment_send, concatenationassignment_field_send, datadeclaration_send, datadeclaration_field_send, expr_send, forinitialization_send, forinitialization_field_send, forstep_send, forstep_field_send, of_label.the_send, of_label.the_field_send, of_lifetime.the_send, of_lifetime.the_field_send, of_loopkeyword.the_send, of_loopkeyword.the_field_send, of_mark.the_send, namestatement_send, namestatement_field_send, nameddeclaration_send, nameddeclaration_field_send, parameters_send, parameters_field_send, parenthesized_send, parenthesized_field_send, returnstatement_send, returnstatement_field_send, of_row.the_send, of_row.the_field_send, stepstatement_send, stepstatement_field_send, systemtask_send, systemtask_field_send, typedef_send, typedef_field_send, of_uniqueness.the_send, of_uniqueness.the_field_send, variabledeclaration_send, variabledeclaration_field_send, voidcall_send, voidcall_field_send, knot_blockitem.send-IfStatement) depth 60 fits 400000

ifstatement_sync : IsSync IfStatement.the_row
ifstatement_sync = search (sendable, crosses, of_row.the_sync, of_row.the_field_sync, of_casekeyword.the_sync, of_casekeyword.the_field_sync, concatenationassignment_sync, concatenationassignment_field_sync, datadeclaration_sync, datadeclaration_field_sync, expr_sync, forinitialization_sync, forinitialization_field_sync, forstep_sync, forstep_field_sync, of_label.the_sync, of_label.the_field_sync, of_lifetime.the_sync, of_lifetime.the_field_sync, of_loopkeyword.the_sync, of_loopkeyword.the_field_sync, of_mark.the_sync, namestatement_sync, namestatement_field_sync, nameddeclaration_sync, nameddeclaration_field_sync, parameters_sync, parameters_field_sync, parenthesized_sync, parenthesized_field_sync, returnstatement_sync, returnstatement_field_sync, of_row.the_sync, of_row.the_field_sync, stepstatement_sync, stepstatement_field_sync, systemtask_sync, systemtask_field_sync, typedef_sync, typedef_field_sync, of_uniqueness.the_sync, of_uniqueness.the_field_sync, variabledeclaration_sync, variabledeclaration_field_sync, voidcall_sync, voidcall_field_sync, knot_blockitem.sync-IfStatement) depth 60 fits 400000

loopstatement_send : IsSend LoopStatement.the_row
loopstatement_send = search (sendable, crosses, of_row.the_send, of_row.the_field_send, of_casekeyword.the_send, of_casekeyword.the_field_send, concatenationassignment_send, concatenationassignment_field_send, datadeclaration_send, datadeclaration_field_send, expr_send, forinitialization_send, forinitialization_field_send, forstep_send, forstep_field_send, of_label.the_send, of_label.the_field_send, of_lifetime.the_send, of_lifetime.the_field_send, of_loopkeyword.the_send, of_loopkeyword.the_field_send, of_mark.the_send, namestatement_send, namestatement_field_send, nameddeclaration_send, nameddeclaration_field_send, parameters_send, parameters_field_send, parenthesized_send, parenthesized_field_send, returnstatement_send, returnstatement_field_send, of_row.the_send, of_row.the_field_send, stepstatement_send, stepstatement_field_send, systemtask_send, systemtask_field_send, typedef_send, typedef_field_send, of_uniqueness.the_send, of_uniqueness.the_field_send, variabledeclaration_send, variabledeclaration_field_send, voidcall_send, voidcall_field_send, knot_blockitem.send-LoopStatement) depth 60 fits 400000

loopstatement_sync : IsSync LoopStatement.the_row
loopstatement_sync = search (sendable, crosses, of_row.the_sync, of_row.the_field_sync, of_casekeyword.the_sync, of_casekeyword.the_field_sync, concatenationassignment_sync, concatenationassignment_field_sync, datadeclaration_sync, datadeclaration_field_sync, expr_sync, forinitialization_sync, forinitialization_field_sync, forstep_sync, forstep_field_sync, of_label.the_sync, of_label.the_field_sync, of_lifetime.the_sync, of_lifetime.the_field_sync, of_loopkeyword.the_sync, of_loopkeyword.the_field_sync, of_mark.the_sync, namestatement_sync, namestatement_field_sync, nameddeclaration_sync, nameddeclaration_field_sync, parameters_sync, parameters_field_sync, parenthesized_sync, parenthesized_field_sync, returnstatement_sync, returnstatement_field_sync, of_row.the_sync, of_row.the_field_sync, stepstatement_sync, stepstatement_field_sync, systemtask_sync, systemtask_field_sync, typedef_sync, typedef_field_sync, of_uniqueness.the_sync, of_uniqueness.the_field_sync, variabledeclaration_sync, variabledeclaration_field_sync, voidcall_sync, voidcall_field_sync, knot_blockitem.sync-LoopStatement) depth 60 fits 400000

clockedprocedure_send : IsSend ClockedProcedure.the_row
clockedprocedure_send = search (sendable, crosses, of_row.the_send, of_row.the_field_send, of_clockedkeyword.the_send, of_clockedkeyword.the_field_send, eventcontrol_send, eventcontrol_field_send, of_mark.the_send, stmt_send) depth 60 fits 400000

clockedprocedure_field_send : IsSend (ClockedProcedure.the_field).row
clockedprocedure_field_send = search (sendable, crosses, of_row.the_send, of_row.the_field_send, of_clockedkeyword.the_send, of_clockedkeyword.the_field_send, eventcontrol_send, eventcontrol_field_send, of_mark.the_send, stmt_send) depth 60 fits 400000

clockedprocedure_sync : IsSync ClockedProcedure.the_row
clockedprocedure_sync = search (sendable, crosses, of_row.the_sync, of_row.the_field_sync, of_clockedkeyword.the_sync, of_clockedkeyword.the_field_sync, eventcontrol_sync, eventcontrol_field_sync, of_mark.the_sync, stmt_sync) depth 60 fits 400000

clockedprocedure_field_sync : IsSync (ClockedProcedure.the_field).row
clockedprocedure_field_sync = search (sendable, crosses, of_row.the_sync, of_row.the_field_sync, of_clockedkeyword.the_sync, of_clockedkeyword.the_field_sync, eventcontrol_sync, eventcontrol_field_sync, of_mark.the_sync, stmt_sync) depth 60 fits 400000

netassignment_send : IsSend NetAssignment.the_row
netassignment_send = search (sendable, crosses, of_row.the_send, of_row.the_field_send, expr_send, leftside_send, leftside_field_send) depth 60 fits 400000

netassignment_field_send : IsSend (NetAssignment.the_field).row
netassignment_field_send = search (sendable, crosses, of_row.the_send, of_row.the_field_send, expr_send, leftside_send, leftside_field_send) depth 60 fits 400000

netassignment_sync : IsSync NetAssignment.the_row
netassignment_sync = search (sendable, crosses, of_row.the_sync, of_row.the_field_sync, expr_sync, leftside_sync, leftside_field_sync) depth 60 fits 400000

netassignment_field_sync : IsSync (NetAssignment.the_field).row
netassignment_field_sync = search (sendable, crosses, of_row.the_sync, of_row.the_field_sync, expr_sync, leftside_sync, leftside_field_sync) depth 60 fits 400000

continuousassign_send : IsSend ContinuousAssign.the_row
continuousassign_send = search (sendable, crosses, of_row.the_send, of_row.the_field_send, netassignment_send, netassignment_field_send, of_row.the_send, of_row.the_field_send) depth 60 fits 400000

continuousassign_field_send : IsSend (ContinuousAssign.the_field).row
continuousassign_field_send = search (sendable, crosses, of_row.the_send, of_row.the_field_send, netassignment_send, netassignment_field_send, of_row.the_send, of_row.the_field_send) depth 60 fits 400000

continuousassign_sync : IsSync ContinuousAssign.the_row
continuousassign_sync = search (sendable, crosses, of_row.the_sync, of_row.the_field_sync, netassignment_sync, netassignment_field_sync, of_row.the_sync, of_row.the_field_sync) depth 60 fits 400000

continuousassign_field_sync : IsSync (ContinuousAssign.the_field).row
continuousassign_field_sync = search (sendable, crosses, of_row.the_sync, of_row.the_field_sync, netassignment_sync, netassignment_field_sync, of_row.the_sync, of_row.the_field_sync) depth 60 fits 400000

formal_send : IsSend Formal.the_row
formal_send = search (sendable, crosses, of_row.the_send, of_row.the_field_send, of_formaldirection.the_send, of_formaldirection.the_field_send, typedname_send, typedname_field_send) depth 60 fits 400000

formal_field_send : IsSend (Formal.the_field).row
formal_field_send = search (sendable, crosses, of_row.the_send, of_row.the_field_send, of_formaldirection.the_send, of_formaldirection.the_field_send, typedname_send, typedname_field_send) depth 60 fits 400000

formal_sync : IsSync Formal.the_row
formal_sync = search (sendable, crosses, of_row.the_sync, of_row.the_field_sync, of_formaldirection.the_sync, of_formaldirection.the_field_sync, typedname_sync, typedname_field_sync) depth 60 fits 400000

formal_field_sync : IsSync (Formal.the_field).row
formal_field_sync = search (sendable, crosses, of_row.the_sync, of_row.the_field_sync, of_formaldirection.the_sync, of_formaldirection.the_field_sync, typedname_sync, typedname_field_sync) depth 60 fits 400000

formals_send : IsSend Formals.the_row
formals_send = search (sendable, crosses, of_row.the_send, of_row.the_field_send, formal_send, formal_field_send, of_row.the_send, of_row.the_field_send) depth 60 fits 400000

formals_field_send : IsSend (Formals.the_field).row
formals_field_send = search (sendable, crosses, of_row.the_send, of_row.the_field_send, formal_send, formal_field_send, of_row.the_send, of_row.the_field_send) depth 60 fits 400000

formals_sync : IsSync Formals.the_row
formals_sync = search (sendable, crosses, of_row.the_sync, of_row.the_field_sync, formal_sync, formal_field_sync, of_row.the_sync, of_row.the_field_sync) depth 60 fits 400000

formals_field_sync : IsSync (Formals.the_field).row
formals_field_sync = search (sendable, crosses, of_row.the_sync, of_row.the_field_sync, formal_sync, formal_field_sync, of_row.the_sync, of_row.the_field_sync) depth 60 fits 400000

functionresult_send : IsSend FunctionResult.the_row
functionresult_send = search (sendable, crosses, of_row.the_send, of_row.the_field_send, typedname_send, typedname_field_send) depth 60 fits 400000

functionresult_field_send : IsSend (FunctionResult.the_field).row
functionresult_field_send = search (sendable, crosses, of_row.the_send, of_row.the_field_send, typedname_send, typedname_field_send) depth 60 fits 400000

functionresult_sync : IsSync FunctionResult.the_row
functionresult_sync = search (sendable, crosses, of_row.the_sync, of_row.the_field_sync, typedname_sync, typedname_field_sync) depth 60 fits 400000

functionresult_field_sync : IsSync (FunctionResult.the_field).row
functionresult_field_sync = search (sendable, crosses, of_row.the_sync, of_row.the_field_sync, typedname_sync, typedname_field_sync) depth 60 fits 400000

func_send : IsSend Func.the_row
func_send = search (sendable, crosses, of_row.the_send, of_row.the_field_send, blockitem_send, formals_send, formals_field_send, functionresult_send, functionresult_field_send, of_label.the_send, of_label.the_field_send, of_lifetime.the_send, of_lifetime.the_field_send, of_mark.the_send) depth 60 fits 400000

func_field_send : IsSend (Func.the_field).row
func_field_send = search (sendable, crosses, of_row.the_send, of_row.the_field_send, blockitem_send, formals_send, formals_field_send, functionresult_send, functionresult_field_send, of_label.the_send, of_label.the_field_send, of_lifetime.the_send, of_lifetime.the_field_send, of_mark.the_send) depth 60 fits 400000

func_sync : IsSync Func.the_row
func_sync = search (sendable, crosses, of_row.the_sync, of_row.the_field_sync, blockitem_sync, formals_sync, formals_field_sync, functionresult_sync, functionresult_field_sync, of_label.the_sync, of_label.the_field_sync, of_lifetime.the_sync, of_lifetime.the_field_sync, of_mark.the_sync) depth 60 fits 400000

func_field_sync : IsSync (Func.the_field).row
func_field_sync = search (sendable, crosses, of_row.the_sync, of_row.the_field_sync, blockitem_sync, formals_sync, formals_field_sync, functionresult_sync, functionresult_field_sync, of_label.the_sync, of_label.the_field_sync, of_lifetime.the_sync, of_lifetime.the_field_sync, of_mark.the_sync) depth 60 fits 400000

genvarstep_send : IsSend GenvarStep.the_row
genvarstep_send = search (sendable, crosses, of_row.the_send, of_row.the_field_send, change_send, change_field_send, of_mark.the_send, of_stepoperator.the_send, of_stepoperator.the_field_send) depth 60 fits 400000

genvarstep_field_send : IsSend (GenvarStep.the_field).row
genvarstep_field_send = search (sendable, crosses, of_row.the_send, of_row.the_field_send, change_send, change_field_send, of_mark.the_send, of_stepoperator.the_send, of_stepoperator.the_field_send) depth 60 fits 400000

genvarstep_sync : IsSync GenvarStep.the_row
genvarstep_sync = search (sendable, crosses, of_row.the_sync, of_row.the_field_sync, change_sync, change_field_sync, of_mark.the_sync, of_stepoperator.the_sync, of_stepoperator.the_field_sync) depth 60 fits 400000

genvarstep_field_sync : IsSync (GenvarStep.the_field).row
genvarstep_field_sync = search (sendable, crosses, of_row.the_sync, of_row.the_field_sync, change_sync, change_field_sync, of_mark.the_sync, of_stepoperator.the_sync, of_stepoperator.the_field_sync) depth 60 fits 400000

instance_send : IsSend Instance.the_row
instance_send = search (sendable, crosses, of_row.the_send, of_row.the_field_send, argumentlist_send, argumentlist_field_send) depth 60 fits 400000

instance_field_send : IsSend (Instance.the_field).row
instance_field_send = search (sendable, crosses, of_row.the_send, of_row.the_field_send, argumentlist_send, argumentlist_field_send) depth 60 fits 400000

instance_sync : IsSync Instance.the_row
instance_sync = search (sendable, crosses, of_row.the_sync, of_row.the_field_sync, argumentlist_sync, argumentlist_field_sync) depth 60 fits 400000

instance_field_sync : IsSync (Instance.the_field).row
instance_field_sync = search (sendable, crosses, of_row.the_sync, of_row.the_field_sync, argumentlist_sync, argumentlist_field_sync) depth 60 fits 400000

overrides_send : IsSend Overrides.the_row
overrides_send = search (sendable, crosses, of_row.the_send, of_row.the_field_send, argumentlist_send, argumentlist_field_send) depth 60 fits 400000

overrides_field_send : IsSend (Overrides.the_field).row
overrides_field_send = search (sendable, crosses, of_row.the_send, of_row.the_field_send, argumentlist_send, argumentlist_field_send) depth 60 fits 400000

overrides_sync : IsSync Overrides.the_row
overrides_sync = search (sendable, crosses, of_row.the_sync, of_row.the_field_sync, argumentlist_sync, argumentlist_field_sync) depth 60 fits 400000

overrides_field_sync : IsSync (Overrides.the_field).row
overrides_field_sync = search (sendable, crosses, of_row.the_sync, of_row.the_field_sync, argumentlist_sync, argumentlist_field_sync) depth 60 fits 400000

instantiation_send : IsSend Instantiation.the_row
instantiation_send = search (sendable, crosses, of_row.the_send, of_row.the_field_send, instance_send, instance_field_send, overrides_send, overrides_field_send, of_row.the_send, of_row.the_field_send) depth 60 fits 400000

instantiation_field_send : IsSend (Instantiation.the_field).row
instantiation_field_send = search (sendable, crosses, of_row.the_send, of_row.the_field_send, instance_send, instance_field_send, overrides_send, overrides_field_send, of_row.the_send, of_row.the_field_send) depth 60 fits 400000

instantiation_sync : IsSync Instantiation.the_row
instantiation_sync = search (sendable, crosses, of_row.the_sync, of_row.the_field_sync, instance_sync, instance_field_sync, overrides_sync, overrides_field_sync, of_row.the_sync, of_row.the_field_sync) depth 60 fits 400000

instantiation_field_sync : IsSync (Instantiation.the_field).row
instantiation_field_sync = search (sendable, crosses, of_row.the_sync, of_row.the_field_sync, instance_sync, instance_field_sync, overrides_sync, overrides_field_sync, of_row.the_sync, of_row.the_field_sync) depth 60 fits 400000

netdeclaration_send : IsSend NetDeclaration.the_row
netdeclaration_send = search (sendable, crosses, of_row.the_send, of_row.the_field_send, declaredtype_send, declaredtype_field_send, initializeddeclarator_send, initializeddeclarator_field_send, of_mark.the_send, of_net.the_send, of_net.the_field_send, of_row.the_send, of_row.the_field_send) depth 60 fits 400000

netdeclaration_field_send : IsSend (NetDeclaration.the_field).row
netdeclaration_field_send = search (sendable, crosses, of_row.the_send, of_row.the_field_send, declaredtype_send, declaredtype_field_send, initializeddeclarator_send, initializeddeclarator_field_send, of_mark.the_send, of_net.the_send, of_net.the_field_send, of_row.the_send, of_row.the_field_send) depth 60 fits 400000

netdeclaration_sync : IsSync NetDeclaration.the_row
netdeclaration_sync = search (sendable, crosses, of_row.the_sync, of_row.the_field_sync, declaredtype_sync, declaredtype_field_sync, initializeddeclarator_sync, initializeddeclarator_field_sync, of_mark.the_sync, of_net.the_sync, of_net.the_field_sync, of_row.the_sync, of_row.the_field_sync) depth 60 fits 400000

netdeclaration_field_sync : IsSync (NetDeclaration.the_field).row
netdeclaration_field_sync = search (sendable, crosses, of_row.the_sync, of_row.the_field_sync, declaredtype_sync, declaredtype_field_sync, initializeddeclarator_sync, initializeddeclarator_field_sync, of_mark.the_sync, of_net.the_sync, of_net.the_field_sync, of_row.the_sync, of_row.the_field_sync) depth 60 fits 400000

plainprocedure_send : IsSend PlainProcedure.the_row
plainprocedure_send = search (sendable, crosses, of_row.the_send, of_row.the_field_send, of_mark.the_send, of_plainkeyword.the_send, of_plainkeyword.the_field_send, stmt_send) depth 60 fits 400000

plainprocedure_field_send : IsSend (PlainProcedure.the_field).row
plainprocedure_field_send = search (sendable, crosses, of_row.the_send, of_row.the_field_send, of_mark.the_send, of_plainkeyword.the_send, of_plainkeyword.the_field_send, stmt_send) depth 60 fits 400000

plainprocedure_sync : IsSync PlainProcedure.the_row
plainprocedure_sync = search (sendable, crosses, of_row.the_sync, of_row.the_field_sync, of_mark.the_sync, of_plainkeyword.the_sync, of_plainkeyword.the_field_sync, stmt_sync) depth 60 fits 400000

plainprocedure_field_sync : IsSync (PlainProcedure.the_field).row
plainprocedure_field_sync = search (sendable, crosses, of_row.the_sync, of_row.the_field_sync, of_mark.the_sync, of_plainkeyword.the_sync, of_plainkeyword.the_field_sync, stmt_sync) depth 60 fits 400000

generateblock_send : IsSend GenerateBlock.the_row
generateblock_send = search (sendable, crosses, of_row.the_send, of_row.the_field_send, clockedprocedure_send, clockedprocedure_field_send, continuousassign_send, continuousassign_field_send, datadeclaration_send, datadeclaration_field_send, expr_send, func_send, func_field_send, of_genvardeclaration.the_send, of_genvardeclaration.the_field_send, genvarstep_send, genvarstep_field_send, of_import.the_send, of_import.the_field_send, instantiation_send, instantiation_field_send, of_label.the_send, of_label.the_field_send, of_modportdeclaration.the_send, of_modportdeclaration.the_field_send, netdeclaration_send, netdeclaration_field_send, parameters_send, parameters_field_send, parenthesized_send, parenthesized_field_send, plainprocedure_send, plainprocedure_field_send, of_row.the_send, of_row.the_field_send, systemtask_send, systemtask_field_send, typedef_send, typedef_field_send, variabledeclaration_send, variabledeclaration_field_send, knot_casegenerateitem.send-GenerateBlock) depth 60 fits 400000

generateblock_sync : IsSync GenerateBlock.the_row
generateblock_sync = search (sendable, crosses, of_row.the_sync, of_row.the_field_sync, clockedprocedure_sync, clockedprocedure_field_sync, continuousassign_sync, continuousassign_field_sync, datadeclaration_sync, datadeclaration_field_sync, expr_sync, func_sync, func_field_sync, of_genvardeclaration.the_sync, of_genvardeclaration.the_field_sync, genvarstep_sync, genvarstep_field_sync, of_import.the_sync, of_import.the_field_sync, instantiation_sync, instantiation_field_sync, of_label.the_sync, of_label.the_field_sync, of_modportdeclaration.the_sync, of_modportdeclaration.the_field_sync, netdeclaration_sync, netdeclaration_field_sync, parameters_sync, parameters_field_sync, parenthesized_sync, parenthesized_field_sync, plainprocedure_sync, plainprocedure_field_sync, of_row.the_sync, of_row.the_field_sync, systemtask_sync, systemtask_field_sync, typedef_sync, typedef_field_sync, variabledeclaration_sync, variabledeclaration_field_sync, knot_casegenerateitem.sync-GenerateBlock) depth 60 fits 400000

casegenerateitem_send : IsSend CaseGenerateItem.the_row
casegenerateitem_send = search (sendable, crosses, of_row.the_send, of_row.the_field_send, clockedprocedure_send, clockedprocedure_field_send, continuousassign_send, continuousassign_field_send, datadeclaration_send, datadeclaration_field_send, expr_send, func_send, func_field_send, of_genvardeclaration.the_send, of_genvardeclaration.the_field_send, genvarstep_send, genvarstep_field_send, of_import.the_send, of_import.the_field_send, instantiation_send, instantiation_field_send, of_label.the_send, of_label.the_field_send, of_modportdeclaration.the_send, of_modportdeclaration.the_field_send, netdeclaration_send, netdeclaration_field_send, parameters_send, parameters_field_send, parenthesized_send, parenthesized_field_send, plainprocedure_send, plainprocedure_field_send, of_row.the_send, of_row.the_field_send, systemtask_send, systemtask_field_send, typedef_send, typedef_field_send, variabledeclaration_send, variabledeclaration_field_send, knot_casegenerateitem.send-CaseGenerateItem) depth 60 fits 400000

casegenerateitem_sync : IsSync CaseGenerateItem.the_row
casegenerateitem_sync = search (sendable, crosses, of_row.the_sync, of_row.the_field_sync, clockedprocedure_sync, clockedprocedure_field_sync, continuousassign_sync, continuousassign_field_sync, datadeclaration_sync, datadeclaration_field_sync, expr_sync, func_sync, func_field_sync, of_genvardeclaration.the_sync, of_genvardeclaration.the_field_sync, genvarstep_sync, genvarstep_field_sync, of_import.the_sync, of_import.the_field_sync, instantiation_sync, instantiation_field_sync, of_label.the_sync, of_label.the_field_sync, of_modportdeclaration.the_sync, of_modportdeclaration.the_field_sync, netdeclaration_sync, netdeclaration_field_sync, parameters_sync, parameters_field_sync, parenthesized_sync, parenthesized_field_sync, plainprocedure_sync, plainprocedure_field_sync, of_row.the_sync, of_row.the_field_sync, systemtask_sync, systemtask_field_sync, typedef_sync, typedef_field_sync, variabledeclaration_sync, variabledeclaration_field_sync, knot_casegenerateitem.sync-CaseGenerateItem) depth 60 fits 400000

item_send : IsSend Item.the_row
item_send = search (sendable, crosses, of_row.the_send, of_row.the_field_send, clockedprocedure_send, clockedprocedure_field_send, continuousassign_send, continuousassign_field_send, datadeclaration_send, datadeclaration_field_send, expr_send, func_send, func_field_send, of_genvardeclaration.the_send, of_genvardeclaration.the_field_send, genvarstep_send, genvarstep_field_send, of_import.the_send, of_import.the_field_send, instantiation_send, instantiation_field_send, of_label.the_send, of_label.the_field_send, of_modportdeclaration.the_send, of_modportdeclaration.the_field_send, netdeclaration_send, netdeclaration_field_send, parameters_send, parameters_field_send, parenthesized_send, parenthesized_field_send, plainprocedure_send, plainprocedure_field_send, of_row.the_send, of_row.the_field_send, systemtask_send, systemtask_field_send, typedef_send, typedef_field_send, variabledeclaration_send, variabledeclaration_field_send, knot_casegenerateitem.send-Item) depth 60 fits 400000

item_sync : IsSync Item.the_row
item_sync = search (sendable, crosses, of_row.the_sync, of_row.the_field_sync, clockedprocedure_sync, clockedprocedure_field_sync, continuousassign_sync, continuousassign_field_sync, datadeclaration_sync, datadeclaration_field_sync, expr_sync, func_sync, func_field_sync, of_genvardeclaration.the_sync, of_genvardeclaration.the_field_sync, genvarstep_sync, genvarstep_field_sync, of_import.the_sync, of_import.the_field_sync, instantiation_sync, instantiation_field_sync, of_label.the_sync, of_label.the_field_sync, of_modportdeclaration.the_sync, of_modportdeclaration.the_field_sync, netdeclaration_sync, netdeclaration_field_sync, parameters_sync, parameters_field_sync, parenthesized_sync, parenthesized_field_sync, plainprocedure_sync, plainprocedure_field_sync, of_row.the_sync, of_row.the_field_sync, systemtask_sync, systemtask_field_sync, typedef_sync, typedef_field_sync, variabledeclaration_sync, variabledeclaration_field_sync, knot_casegenerateitem.sync-Item) depth 60 fits 400000

casegenerate_send : IsSend CaseGenerate.the_row
casegenerate_send = search (sendable, crosses, of_row.the_send, of_row.the_field_send, clockedprocedure_send, clockedprocedure_field_send, continuousassign_send, continuousassign_field_send, datadeclaration_send, datadeclaration_field_send, expr_send, func_send, func_field_send, of_genvardeclaration.the_send, of_genvardeclaration.the_field_send, genvarstep_send, genvarstep_field_send, of_import.the_send, of_import.the_field_send, instantiation_send, instantiation_field_send, of_label.the_send, of_label.the_field_send, of_modportdeclaration.the_send, of_modportdeclaration.the_field_send, netdeclaration_send, netdeclaration_field_send, parameters_send, parameters_field_send, parenthesized_send, parenthesized_field_send, plainprocedure_send, plainprocedure_field_send, of_row.the_send, of_row.the_field_send, systemtask_send, systemtask_field_send, typedef_send, typedef_field_send, variabledeclaration_send, variabledeclaration_field_send, knot_casegenerateitem.send-CaseGenerate) depth 60 fits 400000

casegenerate_sync : IsSync CaseGenerate.the_row
casegenerate_sync = search (sendable, crosses, of_row.the_sync, of_row.the_field_sync, clockedprocedure_sync, clockedprocedure_field_sync, continuousassign_sync, continuousassign_field_sync, datadeclaration_sync, datadeclaration_field_sync, expr_sync, func_sync, func_field_sync, of_genvardeclaration.the_sync, of_genvardeclaration.the_field_sync, genvarstep_sync, genvarstep_field_sync, of_import.the_sync, of_import.the_field_sync, instantiation_sync, instantiation_field_sync, of_label.the_sync, of_label.the_field_sync, of_modportdeclaration.the_sync, of_modportdeclaration.the_field_sync, netdeclaration_sync, netdeclaration_field_sync, parameters_sync, parameters_field_sync, parenthesized_sync, parenthesized_field_sync, plainprocedure_sync, plainprocedure_field_sync, of_row.the_sync, of_row.the_field_sync, systemtask_sync, systemtask_field_sync, typedef_sync, typedef_field_sync, variabledeclaration_sync, variabledeclaration_field_sync, knot_casegenerateitem.sync-CaseGenerate) depth 60 fits 400000

elsegenerate_send : IsSend ElseGenerate.the_row
elsegenerate_send = search (sendable, crosses, of_row.the_send, of_row.the_field_send, clockedprocedure_send, clockedprocedure_field_send, continuousassign_send, continuousassign_field_send, datadeclaration_send, datadeclaration_field_send, expr_send, func_send, func_field_send, of_genvardeclaration.the_send, of_genvardeclaration.the_field_send, genvarstep_send, genvarstep_field_send, of_import.the_send, of_import.the_field_send, instantiation_send, instantiation_field_send, of_label.the_send, of_label.the_field_send, of_modportdeclaration.the_send, of_modportdeclaration.the_field_send, netdeclaration_send, netdeclaration_field_send, parameters_send, parameters_field_send, parenthesized_send, parenthesized_field_send, plainprocedure_send, plainprocedure_field_send, of_row.the_send, of_row.the_field_send, systemtask_send, systemtask_field_send, typedef_send, typedef_field_send, variabledeclaration_send, variabledeclaration_field_send, knot_casegenerateitem.send-ElseGenerate) depth 60 fits 400000

elsegenerate_sync : IsSync ElseGenerate.the_row
elsegenerate_sync = search (sendable, crosses, of_row.the_sync, of_row.the_field_sync, clockedprocedure_sync, clockedprocedure_field_sync, continuousassign_sync, continuousassign_field_sync, datadeclaration_sync, datadeclaration_field_sync, expr_sync, func_sync, func_field_sync, of_genvardeclaration.the_sync, of_genvardeclaration.the_field_sync, genvarstep_sync, genvarstep_field_sync, of_import.the_sync, of_import.the_field_sync, instantiation_sync, instantiation_field_sync, of_label.the_sync, of_label.the_field_sync, of_modportdeclaration.the_sync, of_modportdeclaration.the_field_sync, netdeclaration_sync, netdeclaration_field_sync, parameters_sync, parameters_field_sync, parenthesized_sync, parenthesized_field_sync, plainprocedure_sync, plainprocedure_field_sync, of_row.the_sync, of_row.the_field_sync, systemtask_sync, systemtask_field_sync, typedef_sync, typedef_field_sync, variabledeclaration_sync, variabledeclaration_field_sync, knot_casegenerateitem.sync-ElseGenerate) depth 60 fits 400000

generatebody_send : IsSend GenerateBody.the_row
generatebody_send = search (sendable, crosses, of_row.the_send, of_row.the_field_send, clockedprocedure_send, clockedprocedure_field_send, continuousassign_send, continuousassign_field_send, datadeclaration_send, datadeclaration_field_send, expr_send, func_send, func_field_send, of_genvardeclaration.the_send, of_genvardeclaration.the_field_send, genvarstep_send, genvarstep_field_send, of_import.the_send, of_import.the_field_send, instantiation_send, instantiation_field_send, of_label.the_send, of_label.the_field_send, of_modportdeclaration.the_send, of_modportdeclaration.the_field_send, netdeclaration_send, netdeclaration_field_send, parameters_send, parameters_field_send, parenthesized_send, parenthesized_field_send, plainprocedure_send, plainprocedure_field_send, of_row.the_send, of_row.the_field_send, systemtask_send, systemtask_field_send, typedef_send, typedef_field_send, variabledeclaration_send, variabledeclaration_field_send, knot_casegenerateitem.send-GenerateBody) depth 60 fits 400000

generatebody_sync : IsSync GenerateBody.the_row
generatebody_sync = search (sendable, crosses, of_row.the_sync, of_row.the_field_sync, clockedprocedure_sync, clockedprocedure_field_sync, continuousassign_sync, continuousassign_field_sync, datadeclaration_sync, datadeclaration_field_sync, expr_sync, func_sync, func_field_sync, of_genvardeclaration.the_sync, of_genvardeclaration.the_field_sync, genvarstep_sync, genvarstep_field_sync, of_import.the_sync, of_import.the_field_sync, instantiation_sync, instantiation_field_sync, of_label.the_sync, of_label.the_field_sync, of_modportdeclaration.the_sync, of_modportdeclaration.the_field_sync, netdeclaration_sync, netdeclaration_field_sync, parameters_sync, parameters_field_sync, parenthesized_sync, parenthesized_field_sync, plainprocedure_sync, plainprocedure_field_sync, of_row.the_sync, of_row.the_field_sync, systemtask_sync, systemtask_field_sync, typedef_sync, typedef_field_sync, variabledeclaration_sync, variabledeclaration_field_sync, knot_casegenerateitem.sync-GenerateBody) depth 60 fits 400000

generateregion_send : IsSend GenerateRegion.the_row
generateregion_send = search (sendable, crosses, of_row.the_send, of_row.the_field_send, clockedprocedure_send, clockedprocedure_field_send, continuousassign_send, continuousassign_field_send, datadeclaration_send, datadeclaration_field_send, expr_send, func_send, func_field_send, of_genvardeclaration.the_send, of_genvardeclaration.the_field_send, genvarstep_send, genvarstep_field_send, of_import.the_send, of_import.the_field_send, instantiation_send, instantiation_field_send, of_label.the_send, of_label.the_field_send, of_modportdeclaration.the_send, of_modportdeclaration.the_field_send, netdeclaration_send, netdeclaration_field_send, parameters_send, parameters_field_send, parenthesized_send, parenthesized_field_send, plainprocedure_send, plainprocedure_field_send, of_row.the_send, of_row.the_field_send, systemtask_send, systemtask_field_send, typedef_send, typedef_field_send, variabledeclaration_send, variabledeclaration_field_send, knot_casegenerateitem.send-GenerateRegion) depth 60 fits 400000

generateregion_sync : IsSync GenerateRegion.the_row
generateregion_sync = search (sendable, crosses, of_row.the_sync, of_row.the_field_sync, clockedprocedure_sync, clockedprocedure_field_sync, continuousassign_sync, continuousassign_field_sync, datadeclaration_sync, datadeclaration_field_sync, expr_sync, func_sync, func_field_sync, of_genvardeclaration.the_sync, of_genvardeclaration.the_field_sync, genvarstep_sync, genvarstep_field_sync, of_import.the_sync, of_import.the_field_sync, instantiation_sync, instantiation_field_sync, of_label.the_sync, of_label.the_field_sync, of_modportdeclaration.the_sync, of_modportdeclaration.the_field_sync, netdeclaration_sync, netdeclaration_field_sync, parameters_sync, parameters_field_sync, parenthesized_sync, parenthesized_field_sync, plainprocedure_sync, plainprocedure_field_sync, of_row.the_sync, of_row.the_field_sync, systemtask_sync, systemtask_field_sync, typedef_sync, typedef_field_sync, variabledeclaration_sync, variabledeclaration_field_sync, knot_casegenerateitem.sync-GenerateRegion) depth 60 fits 400000

ifgenerate_send : IsSend IfGenerate.the_row
ifgenerate_send = search (sendable, crosses, of_row.the_send, of_row.the_field_send, clockedprocedure_send, clockedprocedure_field_send, continuousassign_send, continuousassign_field_send, datadeclaration_send, datadeclaration_field_send, expr_send, func_send, func_field_send, of_genvardeclaration.the_send, of_genvardeclaration.the_field_send, genvarstep_send, genvarstep_field_send, of_import.the_send, of_import.the_field_send, instantiation_send, instantiation_field_send, of_label.the_send, of_label.the_field_send, of_modportdeclaration.the_send, of_modportdeclaration.the_field_send, netdeclaration_send, netdeclaration_field_send, parameters_send, parameters_field_send, parenthesized_send, parenthesized_field_send, plainprocedure_send, plainprocedure_field_send, of_row.the_send, of_row.the_field_send, systemtask_send, systemtask_field_send, typedef_send, typedef_field_send, variabledeclaration_send, variabledeclaration_field_send, knot_casegenerateitem.send-IfGenerate) depth 60 fits 400000

ifgenerate_sync : IsSync IfGenerate.the_row
ifgenerate_sync = search (sendable, crosses, of_row.the_sync, of_row.the_field_sync, clockedprocedure_sync, clockedprocedure_field_sync, continuousassign_sync, continuousassign_field_sync, datadeclaration_sync, datadeclaration_field_sync, expr_sync, func_sync, func_field_sync, of_genvardeclaration.the_sync, of_genvardeclaration.the_field_sync, genvarstep_sync, genvarstep_field_sync, of_import.the_sync, of_import.the_field_sync, instantiation_sync, instantiation_field_sync, of_label.the_sync, of_label.the_field_sync, of_modportdeclaration.the_sync, of_modportdeclaration.the_field_sync, netdeclaration_sync, netdeclaration_field_sync, parameters_sync, parameters_field_sync, parenthesized_sync, parenthesized_field_sync, plainprocedure_sync, plainprocedure_field_sync, of_row.the_sync, of_row.the_field_sync, systemtask_sync, systemtask_field_sync, typedef_sync, typedef_field_sync, variabledeclaration_sync, variabledeclaration_field_sync, knot_casegenerateitem.sync-IfGenerate) depth 60 fits 400000

loopgenerate_send : IsSend LoopGenerate.the_row
loopgenerate_send = search (sendable, crosses, of_row.the_send, of_row.the_field_send, clockedprocedure_send, clockedprocedure_field_send, continuousassign_send, continuousassign_field_send, datadeclaration_send, datadeclaration_field_send, expr_send, func_send, func_field_send, of_genvardeclaration.the_send, of_genvardeclaration.the_field_send, genvarstep_send, genvarstep_field_send, of_import.the_send, of_import.the_field_send, instantiation_send, instantiation_field_send, of_label.the_send, of_label.the_field_send, of_modportdeclaration.the_send, of_modportdeclaration.the_field_send, netdeclaration_send, netdeclaration_field_send, parameters_send, parameters_field_send, parenthesized_send, parenthesized_field_send, plainprocedure_send, plainprocedure_field_send, of_row.the_send, of_row.the_field_send, systemtask_send, systemtask_field_send, typedef_send, typedef_field_send, variabledeclaration_send, variabledeclaration_field_send, knot_casegenerateitem.send-LoopGenerate) depth 60 fits 400000

loopgenerate_sync : IsSync LoopGenerate.the_row
loopgenerate_sync = search (sendable, crosses, of_row.the_sync, of_row.the_field_sync, clockedprocedure_sync, clockedprocedure_field_sync, continuousassign_sync, continuousassign_field_sync, datadeclaration_sync, datadeclaration_field_sync, expr_sync, func_sync, func_field_sync, of_genvardeclaration.the_sync, of_genvardeclaration.the_field_sync, genvarstep_sync, genvarstep_field_sync, of_import.the_sync, of_import.the_field_sync, instantiation_sync, instantiation_field_sync, of_label.the_sync, of_label.the_field_sync, of_modportdeclaration.the_sync, of_modportdeclaration.the_field_sync, netdeclaration_sync, netdeclaration_field_sync, parameters_sync, parameters_field_sync, parenthesized_sync, parenthesized_field_sync, plainprocedure_sync, plainprocedure_field_sync, of_row.the_sync, of_row.the_field_sync, systemtask_sync, systemtask_field_sync, typedef_sync, typedef_field_sync, variabledeclaration_sync, variabledeclaration_field_sync, knot_casegenerateitem.sync-LoopGenerate) depth 60 fits 400000

definition_send : IsSend Definition.the_row
definition_send = search (sendable, crosses, of_row.the_send, of_row.the_field_send, header_send, header_field_send, item_send, of_label.the_send, of_label.the_field_send) depth 60 fits 400000

definition_field_send : IsSend (Definition.the_field).row
definition_field_send = search (sendable, crosses, of_row.the_send, of_row.the_field_send, header_send, header_field_send, item_send, of_label.the_send, of_label.the_field_send) depth 60 fits 400000

definition_sync : IsSync Definition.the_row
definition_sync = search (sendable, crosses, of_row.the_sync, of_row.the_field_sync, header_sync, header_field_sync, item_sync, of_label.the_sync, of_label.the_field_sync) depth 60 fits 400000

definition_field_sync : IsSync (Definition.the_field).row
definition_field_sync = search (sendable, crosses, of_row.the_sync, of_row.the_field_sync, header_sync, header_field_sync, item_sync, of_label.the_sync, of_label.the_field_sync) depth 60 fits 400000

unititem_send : IsSend UnitItem.the_row
unititem_send = search (sendable, crosses, of_row.the_send, of_row.the_field_send, func_send, func_field_send, of_import.the_send, of_import.the_field_send, parameters_send, parameters_field_send, typedef_send, typedef_field_send) depth 60 fits 400000

unititem_field_send : IsSend (UnitItem.the_field).row
unititem_field_send = search (sendable, crosses, of_row.the_send, of_row.the_field_send, func_send, func_field_send, of_import.the_send, of_import.the_field_send, parameters_send, parameters_field_send, typedef_send, typedef_field_send) depth 60 fits 400000

unititem_sync : IsSync UnitItem.the_row
unititem_sync = search (sendable, crosses, of_row.the_sync, of_row.the_field_sync, func_sync, func_field_sync, of_import.the_sync, of_import.the_field_sync, parameters_sync, parameters_field_sync, typedef_sync, typedef_field_sync) depth 60 fits 400000

unititem_field_sync : IsSync (UnitItem.the_field).row
unititem_field_sync = search (sendable, crosses, of_row.the_sync, of_row.the_field_sync, func_sync, func_field_sync, of_import.the_sync, of_import.the_field_sync, parameters_sync, parameters_field_sync, typedef_sync, typedef_field_sync) depth 60 fits 400000

package_send : IsSend Package.the_row
package_send = search (sendable, crosses, of_row.the_send, of_row.the_field_send, of_label.the_send, of_label.the_field_send, of_lifetime.the_send, of_lifetime.the_field_send, of_mark.the_send, unititem_send, unititem_field_send) depth 60 fits 400000

package_field_send : IsSend (Package.the_field).row
package_field_send = search (sendable, crosses, of_row.the_send, of_row.the_field_send, of_label.the_send, of_label.the_field_send, of_lifetime.the_send, of_lifetime.the_field_send, of_mark.the_send, unititem_send, unititem_field_send) depth 60 fits 400000

package_sync : IsSync Package.the_row
package_sync = search (sendable, crosses, of_row.the_sync, of_row.the_field_sync, of_label.the_sync, of_label.the_field_sync, of_lifetime.the_sync, of_lifetime.the_field_sync, of_mark.the_sync, unititem_sync, unititem_field_sync) depth 60 fits 400000

package_field_sync : IsSync (Package.the_field).row
package_field_sync = search (sendable, crosses, of_row.the_sync, of_row.the_field_sync, of_label.the_sync, of_label.the_field_sync, of_lifetime.the_sync, of_lifetime.the_field_sync, of_mark.the_sync, unititem_sync, unititem_field_sync) depth 60 fits 400000

design_send : IsSend Design.the_row
design_send = search (sendable, crosses, of_row.the_send, of_row.the_field_send, definition_send, definition_field_send, of_mark.the_send, of_modulekeyword.the_send, of_modulekeyword.the_field_send, package_send, package_field_send) depth 60 fits 400000

design_field_send : IsSend (Design.the_field).row
design_field_send = search (sendable, crosses, of_row.the_send, of_row.the_field_send, definition_send, definition_field_send, of_mark.the_send, of_modulekeyword.the_send, of_modulekeyword.the_field_send, package_send, package_field_send) depth 60 fits 400000

design_sync : IsSync Design.the_row
design_sync = search (sendable, crosses, of_row.the_sync, of_row.the_field_sync, definition_sync, definition_field_sync, of_mark.the_sync, of_modulekeyword.the_sync, of_modulekeyword.the_field_sync, package_sync, package_field_sync) depth 60 fits 400000

design_field_sync : IsSync (Design.the_field).row
design_field_sync = search (sendable, crosses, of_row.the_sync, of_row.the_field_sync, definition_sync, definition_field_sync, of_mark.the_sync, of_modulekeyword.the_sync, of_modulekeyword.the_field_sync, package_sync, package_field_sync) depth 60 fits 400000

element_send : IsSend Element.the_row
element_send = search (sendable, crosses, of_row.the_send, of_row.the_field_send, design_send, design_field_send, unititem_send, unititem_field_send, of_word.the_send, of_word.the_field_send) depth 60 fits 400000

element_field_send : IsSend (Element.the_field).row
element_field_send = search (sendable, crosses, of_row.the_send, of_row.the_field_send, design_send, design_field_send, unititem_send, unititem_field_send, of_word.the_send, of_word.the_field_send) depth 60 fits 400000

element_sync : IsSync Element.the_row
element_sync = search (sendable, crosses, of_row.the_sync, of_row.the_field_sync, design_sync, design_field_sync, unititem_sync, unititem_field_sync, of_word.the_sync, of_word.the_field_sync) depth 60 fits 400000

element_field_sync : IsSync (Element.the_field).row
element_field_sync = search (sendable, crosses, of_row.the_sync, of_row.the_field_sync, design_sync, design_field_sync, unititem_sync, unititem_field_sync, of_word.the_sync, of_word.the_field_sync) depth 60 fits 400000

reading_send : IsSend Reading.the_row
reading_send = search (sendable, crosses, element_send, element_sync) depth 60 fits 400000

reading_field_send : IsSend (Reading.the_field).row
reading_field_send = search (sendable, crosses, element_send, element_sync) depth 60 fits 400000

reading_sync : IsSync Reading.the_row
reading_sync = search (sendable, crosses, element_send, element_sync) depth 60 fits 400000

reading_field_sync : IsSync (Reading.the_field).row
reading_field_sync = search (sendable, crosses, element_send, element_sync) depth 60 fits 400000

pub value_send : IsSend Value.the_row
value_send = search (sendable, crosses, list.the_send, name.the_send, text.the_send, tokens.the_send, chunks.the_send, reading_send, reading_field_send, index.the_send, index.the_field_send) depth 60 fits 400000

pub value_sync : IsSync Value.the_row
value_sync = search (sendable, crosses, list.the_sync, name.the_sync, text.the_sync, tokens.the_sync, chunks.the_sync, reading_sync, reading_field_sync, index.the_sync, index.the_field_sync) depth 60 fits 400000
