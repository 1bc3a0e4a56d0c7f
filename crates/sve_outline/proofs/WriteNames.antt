-- Names, shown as trees from what they say.
use Rattle.std.proofs.Common.{None, Option, Some, refl, suc, zero, ℕ, ◌≡◌}
use Rattle.sve_grammar.specs.Reading.{Tree, leaf, left, none, right}
use Rattle.sve_outline.proofs.Writers.{IsWritten}
use Rattle.sve_outline.specs.Outline.{Outline, option_outline, token_at, variant, ◌◂◌}
use Rattle.sve_outline.specs.Words.{label_outline, package_scope_outline, scoped_name_outline}
use Rattle.sve_tree.specs.Shape.{◌▸◌}
use Rattle.sve_tree.specs.Words.{label_tree, scoped_name_tree, scoped_tree}
use Rattle.sve_tree.specs.declared.word.PackageScope.{PackageScope}

pub written_scoped_name : Outline → Tree
written_scoped_name (variant zero ◂ token_at name) = leaf name ▸ right none
written_scoped_name ((variant (suc zero) ◂ token_at scope ◂ token_at colons) ◂ token_at name) = leaf scope ▸ left (leaf colons ▸ leaf name)
written_scoped_name o = none

scoped_written : (scope : Option PackageScope) (name : ℕ) → written_scoped_name (option_outline package_scope_outline scope ◂ token_at name) ≡ scoped_tree scope name
unfolding written_scoped_name
scoped_written None name = refl
scoped_written (Some scope) name = refl

pub scoped_name_written : IsWritten scoped_name_tree scoped_name_outline written_scoped_name
scoped_name_written x = scoped_written x.scope x.name

pub written_label : Outline → Tree
written_label (token_at colon ◂ token_at name) = leaf colon ▸ leaf name
written_label o = none

pub label_written : IsWritten label_tree label_outline written_label
unfolding written_label
label_written x = refl
