-- The first token of a tree.
use Rattle.std.specs.Global.{Box, Vec}
use Rattle.std.proofs.Common.{ℕ, zero, suc, ◌-◌, Bool, true, false, cond, List, [], ◌∷◌, ◌++◌, Option, Some, None, ◌≡◌, refl, sym, ap, ◌∙◌, ltb, eqb}
use Rattle.std.proofs.lemmas.List.{append-nil}
use denote.Hole.Carrier.{out}
use Rattle.sve_grammar.specs.Reading.{Tree, leaf, none, pair, right, turn, ended, leaves}
use Rattle.sve_tree.specs.Shape.{◌▸◌, repeated_tree, front, first_token_of}
use Rattle.sve_tree.specs.declared.word.Mark.{Mark}
use Rattle.sve_tree.specs.declared.word.ScopedName.{ScopedName}
use Rattle.sve_tree.specs.declared.word.ImplicationOperator.{ImplicationOperator}
use Rattle.sve_tree.specs.declared.expression.Expr.{Expr}
use Rattle.sve_tree.specs.declared.expression.Operation.{Operation}
use Rattle.sve_tree.specs.declared.expression.Postfix.{Postfix}
use Rattle.sve_tree.specs.Words.{scoped_name_tree, scoped_tree}
use Rattle.sve_tree.specs.Expressions.{own, dimension_tree, raise, wrap, tree_at, height, in_place, is_chain_row, operation_row_level, operation_row, postfix_row}
use Rattle.sve_tree.specs.declared.expression.Arg.TheBlock.{hidden-the_row-Operation-7, hidden-the_row-Postfix-6}
use Rattle.sve_tree.specs.declared.row.Row.{Row}
use Rattle.sve_tree.specs.declared.word.PackageScope.{PackageScope}
use Rattle.sve_tree.specs.declared.data_type.Structure.{Structure, Structure', out-Structure}
use Rattle.sve_tree.specs.declared.data_type.NamedType.{NamedType}
use Rattle.sve_tree.specs.declared.data_type.TypeRef.{TypeRef}
use Rattle.sve_tree.specs.declared.declaration.InitializedDeclarator.{InitializedDeclarator}
use Rattle.sve_tree.specs.declared.item.IfGenerate.{IfGenerate, IfGenerate', out-IfGenerate}
use Rattle.sve_tree.specs.Types.{data_type_tree, structure_tree, type_ref_tree, declarator_tree}
use Rattle.sve_tree.specs.Declarations.{first_declarator, declaration_end_tree}
use Rattle.sve_tree.specs.Items.{item_tree, data_item_tree, scoped_data_tree, if_generate_tree}
use Rattle.sve_tree.specs.declared.data_type.DataType.TheVariants as is_data_type
use Rattle.sve_tree.specs.declared.data_type.TypeRef.TheVariants as is_type_ref
use Rattle.sve_tree.specs.declared.item.Item.TheVariants as is_item
use Rattle.sve_tree.specs.declared.expression.Expr.TheVariants as is_expr

-- what stands behind a list leaves its first item
front_append : (i : ℕ) (xs ys : List ℕ) → front xs ≡ Some i → front (xs ++ ys) ≡ Some i
front_append i [] ys h = absurd cc
front_append i (x ∷ xs) ys h = h

-- one tree behind another
pub first_of_pair : (i : ℕ) (t u : Tree) → first_token_of t ≡ Some i → first_token_of (pair t u) ≡ Some i
first_of_pair i t u h = front_append i (leaves t) (leaves u) h

leaves_wrap : (n : ℕ) (t : Tree) → leaves (wrap n t) ≡ leaves t
leaves_wrap n t = by_level (ltb n 11)
  where
    by_level : (b : Bool) → leaves (cond b (pair t ended) (pair t (right none))) ≡ leaves t
    by_level true = append-nil (leaves t)
    by_level false = append-nil (leaves t)

-- a tree has the same tokens at every level
leaves_raise : (n h : ℕ) (t : Tree) → leaves (raise n h t) ≡ leaves t
unfolding raise
leaves_raise zero h t = by_level (eqb h 0)
  where
    by_level : (b : Bool) → leaves (cond b t (turn t none)) ≡ leaves t
    by_level true = refl
    by_level false = append-nil (leaves t)
leaves_raise (suc n) h t = by_level (eqb h (suc n)) (leaves_raise n h t)
  where
    by_level : (b : Bool) → leaves (raise n h t) ≡ leaves t → leaves (cond b t (wrap n (raise n h t))) ≡ leaves t
    by_level true e = refl
    by_level false e = leaves_wrap n (raise n h t) ∙ e

-- an operand at a level, and something behind it, at a level
first_behind : (i n m k l : ℕ) (t u : Tree) → first_token_of (raise n k t) ≡ Some i → first_token_of (raise 13 l (pair (raise m k t) u)) ≡ Some i
first_behind i n m k l t u h = ap front (leaves_raise 13 l (pair (raise m k t) u)) ∙ first_of_pair i (raise m k t) u (ap front (leaves_raise m k t ∙ sym (leaves_raise n k t)) ∙ h)

pub first_of_conditional : (i : ℕ) (condition : Box Expr) (question : ℕ) (chosen : Box Expr) (colon : ℕ) (otherwise : Box Expr) → first_token_of (tree_at 13 condition.value) ≡ Some i → first_token_of (tree_at 13 (is_expr.Conditional condition question chosen colon otherwise)) ≡ Some i
unfolding own
first_of_conditional i condition question chosen colon otherwise h = first_behind i 13 11 (height condition.value) 12 (own condition.value) _ h

pub first_of_implication : (i : ℕ) (l : Box Expr) (operator : Mark ImplicationOperator) (r : Box Expr) → first_token_of (tree_at 13 l.value) ≡ Some i → first_token_of (tree_at 13 (is_expr.Implication l operator r)) ≡ Some i
unfolding own
first_of_implication i l operator r h = first_behind i 13 12 (height l.value) 13 (own l.value) _ h

first_of_chain : (i n l k m : ℕ) (t u : Tree) (fits : Bool) → first_token_of (raise n k t) ≡ Some i → first_token_of (raise 13 l (in_place fits (pair (raise m k t) u))) ≡ Some i
first_of_chain i n l k m t u true h = first_behind i n m k l t u h
first_of_chain i n l k m t u false h = ap front (leaves_raise 13 l (turn (pair (raise m k t) u) none)) ∙ front_append i (leaves (pair (raise m k t) u)) [] (first_of_pair i (raise m k t) u (ap front (leaves_raise m k t ∙ sym (leaves_raise n k t)) ∙ h))

pub first_of_operations : (i : ℕ) (first : Box Expr) (operations : Vec Operation) → first_token_of (tree_at 13 first.value) ≡ Some i → first_token_of (tree_at 13 (is_expr.Operations first operations)) ≡ Some i
unfolding own
first_of_operations i first operations h =
    let row = hidden-the_row-Operation-7 operations in
    first_of_chain i 13 (operation_row_level row) (height first.value) (operation_row_level row - 1) (own first.value) (operation_row row) (is_chain_row row) h

pub first_of_name : (i : ℕ) (name : ScopedName) (postfixes : Vec Postfix) → first_token_of (scoped_name_tree name) ≡ Some i → first_token_of (tree_at 13 (is_expr.Name name postfixes)) ≡ Some i
unfolding own
first_of_name i name postfixes h = ap front (leaves_raise 13 0 (own (is_expr.Name name postfixes))) ∙ first_of_pair i (scoped_name_tree name) (postfix_row (hidden-the_row-Postfix-6 postfixes)) h

-- ---- types and items

first_of_structure : (x : Structure) → first_token_of (structure_tree x) ≡ Some (out-Structure x).keyword
unfolding data_type_tree out-Structure out
first_of_structure (Structure' keyword packed sign opening shape members closing dimensions) = refl

pub first_of_struct : (structure : Box Structure) → first_token_of (data_type_tree (is_data_type.Struct structure)) ≡ Some (out-Structure structure.value).keyword
unfolding data_type_tree
first_of_struct structure = first_of_structure structure.value

pub first_of_named : (i : ℕ) (named : NamedType) → first_token_of (scoped_name_tree named.name) ≡ Some i → first_token_of (type_ref_tree (is_type_ref.Named named)) ≡ Some i
unfolding data_type_tree
first_of_named i named h = first_of_pair i (scoped_name_tree named.name) (repeated_tree dimension_tree named.dimensions.items) h

-- a declaration of variables begins as its type does
pub first_of_data : (i : ℕ) (data_type : TypeRef) (row : Row InitializedDeclarator ℕ) (semicolon : ℕ) → first_token_of (type_ref_tree data_type) ≡ Some i → first_token_of (data_item_tree data_type row semicolon) ≡ Some i
unfolding data_type_tree
first_of_data i (is_type_ref.Written data_type) row semicolon h = first_of_pair i (data_type_tree data_type) (first_declarator declarator_tree row ▸ declaration_end_tree row ▸ leaf semicolon) h
first_of_data i (is_type_ref.Named named) row semicolon h = by_scope named.name.scope h
  where
    by_scope : (scope : Option PackageScope) → first_token_of (pair (scoped_tree scope named.name.name) (repeated_tree dimension_tree named.dimensions.items)) ≡ Some i → first_token_of (scoped_data_tree scope named.name.name named.dimensions.items row semicolon) ≡ Some i
    by_scope None e = e
    by_scope (Some scope) e = e

first_of_construct : (x : IfGenerate) → first_token_of (if_generate_tree x) ≡ Some (out-IfGenerate x).keyword
unfolding item_tree out-IfGenerate out
first_of_construct (IfGenerate' keyword condition chosen otherwise) = refl

pub first_of_if : (construct : Box IfGenerate) → first_token_of (item_tree (is_item.IfGenerate construct)) ≡ Some (out-IfGenerate construct.value).keyword
unfolding item_tree
first_of_if construct = first_of_construct construct.value
