-- The tokens of trees.
use Rattle.std.proofs.Common.{ℕ, ◌+◌, ◌≤◌, ◌≡◌, List, [], ◌∷◌, Option, Some, None, refl, ap, sym, ◌∙◌, length-append, arith}
use Rattle.std.specs.Prelude.{sum_by}
use Rattle.std.proofs.lemmas.List.Sums.{sum_by-cons}
use Rattle.sve_grammar.specs.Reading.{Tree, pair, turn, leaves}
use Rattle.sve_tree.specs.Shape.{first_of, first_tree, others_of, others_tree, repeated_tree}
use Rattle.sve_tree.specs.Words.{plain_keyword_tree}
use Rattle.sve_tree.specs.Items.{data_item_tree, if_generate_tree, item_tree, scoped_data_tree}
use Rattle.sve_tree.specs.declared.item.IfGenerate.{IfGenerate, IfGenerate'}
use Rattle.sve_tree.specs.declared.data_type.TypeRef.{TypeRef}
use Rattle.sve_tree.specs.declared.data_type.TypeRef.TheVariants as is_type_ref
use Rattle.sve_tree.specs.declared.declaration.InitializedDeclarator.{InitializedDeclarator}
use Rattle.sve_tree.specs.declared.expression.Dimension.{Dimension}
use Rattle.sve_tree.specs.declared.row.Row.{Row}
use Rattle.sve_tree.specs.declared.word.PackageScope.{PackageScope}
use Rattle.sve_tree.specs.declared.word.PlainKeyword.{PlainKeyword}
use Rattle.sve_tree.specs.declared.word.PlainKeyword.TheVariants as is_plain_keyword
use Rattle.sve_tree.specs.declared.item.Item.{Item}
use Rattle.sve_tree.specs.declared.item.Item.TheVariants as is_item
use Rattle.sve_body.specs.Budget.{item_tokens, tokens}

pub tokens_of_pair : (t u : Tree) → tokens (pair t u) ≡ tokens t + tokens u
tokens_of_pair t u = length-append (leaves t) (leaves u)

pub tokens_of_turn : (t u : Tree) → tokens (turn t u) ≡ tokens t + tokens u
tokens_of_turn t u = length-append (leaves t) (leaves u)

-- ---- lists of trees

tokens_of_repeated : (ts : List Tree) → tokens (repeated_tree (λ (t : Tree). t) ts) ≡ sum_by tokens ts
unfolding repeated_tree
tokens_of_repeated [] = refl
tokens_of_repeated (t ∷ ts) = tokens_of_turn t (repeated_tree (λ (u : Tree). u) ts) ∙ ap (λ n. tokens t + n) (tokens_of_repeated ts) ∙ sym (sum_by-cons tokens t ts)

pub tokens_of_list : (ts : List Tree) → tokens (first_of ts) + tokens (others_of ts) ≡ sum_by tokens ts
unfolding first_tree others_tree
tokens_of_list [] = refl
tokens_of_list (t ∷ ts) = ap (λ n. tokens t + n) (tokens_of_repeated ts) ∙ sym (sum_by-cons tokens t ts)

-- ---- each item has a token

keyword_has : (keyword : PlainKeyword) (token : ℕ) → 1 ≤ tokens (plain_keyword_tree keyword token)
keyword_has is_plain_keyword.AlwaysComb token = omega arith
keyword_has is_plain_keyword.AlwaysLatch token = omega arith
keyword_has is_plain_keyword.Initial token = omega arith

scoped_has : (scope : Option PackageScope) (name : ℕ) (dimensions : List Dimension) (row : Row InitializedDeclarator ℕ) (semicolon : ℕ) → 1 ≤ tokens (scoped_data_tree scope name dimensions row semicolon)
scoped_has None name dimensions row semicolon = omega arith
scoped_has (Some scope) name dimensions row semicolon = omega arith

data_has : (written : TypeRef) (row : Row InitializedDeclarator ℕ) (semicolon : ℕ) → 1 ≤ tokens (data_item_tree written row semicolon)
data_has (is_type_ref.Written data_type) row semicolon =
    simp length-append (omega arith)
data_has (is_type_ref.Named named) row semicolon = scoped_has named.name.scope named.name.name named.dimensions.items row semicolon

if_has_token : (construct : IfGenerate) → 1 ≤ tokens (if_generate_tree construct)
unfolding item_tree
if_has_token (IfGenerate' keyword condition chosen otherwise) = omega arith

pub has_token : (i : Item) → 1 ≤ item_tokens i
unfolding item_tree
has_token (is_item.Empty semicolon) = omega arith
has_token (is_item.Import declaration) = omega arith
has_token (is_item.Parameters declaration) = simp length-append (omega arith)
has_token (is_item.Typedef declaration) = omega arith
has_token (is_item.Function function) = omega arith
has_token (is_item.Genvars declaration) = omega arith
has_token (is_item.Net declaration) = simp length-append (omega arith)
has_token (is_item.Variable declaration) = omega arith
has_token (is_item.Data declaration) = data_has declaration.value.data_type declaration.value.declarators declaration.value.semicolon
has_token (is_item.Assign assignments) = omega arith
has_token (is_item.Clocked procedure) = simp length-append (omega arith)
has_token (is_item.Plain procedure) = let one = keyword_has procedure.value.keyword.kind procedure.value.keyword.token in simp length-append (omega arith)
has_token (is_item.Region' _ keyword _ items end) = omega arith
has_token (is_item.LoopGenerate' _ keyword opening genvar name equals start first_semicolon condition second_semicolon step closing block) = omega arith
has_token (is_item.IfGenerate' _ construct) = if_has_token construct
has_token (is_item.CaseGenerate' _ keyword selector _ items end) = omega arith
has_token (is_item.Modports declaration) = omega arith
has_token (is_item.SystemTask task) = omega arith
has_token (is_item.Instances instantiation) = omega arith
