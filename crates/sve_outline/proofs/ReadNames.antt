-- Names, read back from their trees.
use Rattle.std.proofs.Common.{None, Option, Some, refl, ℕ, ◌≡◌}
use Rattle.sve_grammar.specs.Reading.{Tree, leaf, left, none, pair, right}
use Rattle.sve_outline.proofs.Readers.{IsRead}
use Rattle.sve_outline.specs.Outline.{Outline, no_more, option_outline, token_at, variant, ◌◂◌}
use Rattle.sve_outline.specs.Words.{label_outline, package_scope_outline, scoped_name_outline}
use Rattle.sve_tree.specs.Words.{label_tree, scoped_name_tree, scoped_tree}
use Rattle.sve_tree.specs.declared.word.PackageScope.{PackageScope}

pub read_scoped_name : Tree → Outline
read_scoped_name (pair (leaf name) (right none)) = variant 0 ◂ token_at name
read_scoped_name (pair (leaf scope) (left (pair (leaf colons) (leaf name)))) = (variant 1 ◂ token_at scope ◂ token_at colons) ◂ token_at name
read_scoped_name t = no_more

scoped_read : (scope : Option PackageScope) (name : ℕ) → read_scoped_name (scoped_tree scope name) ≡ (option_outline package_scope_outline scope ◂ token_at name)
unfolding read_scoped_name
scoped_read None name = refl
scoped_read (Some scope) name = refl

pub scoped_name_read : IsRead scoped_name_tree scoped_name_outline read_scoped_name
scoped_name_read x w = scoped_read x.scope x.name

pub read_label : Tree → Outline
read_label (pair (leaf colon) (leaf name)) = token_at colon ◂ token_at name
read_label t = no_more

pub label_read : IsRead label_tree label_outline read_label
unfolding read_label
label_read x w = refl
