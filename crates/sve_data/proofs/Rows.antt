-- Names of a declaration, one by one.
use Rattle.std.proofs.Common.{◌≡◌, ◌<◌, ◌≤◌, ℕ, ◌+◌, List, length, drop, get_or, refl}
use Rattle.std.proofs.lemmas.List.{drop_more}
use Rattle.std.proofs.Math.ListN.{drop_of_length-le}
use Rattle.sve_types.specs.DataType.{DataType}
use Rattle.sve_env.specs.Told.{Told}
use Rattle.sve_tree.specs.declared.token_word.Word.{Word}
use Rattle.sve_tree.specs.declared.declaration.InitializedDeclarator.{InitializedDeclarator}
use Rattle.sve_use.specs.Use.{Use}
use Rattle.sve_contents.specs.declared.contents.Contents.{Contents}
use Rattle.sve_enumerated.specs.declared.passed.Passed.{Passed}
use Rattle.sve_enumerated.specs.Names.{separator}
use Rattle.sve_data.specs.declared.kind.DataKind.{DataKind}
use Rattle.sve_data.specs.Declarators.{initialized_after, initialized_behind}

pub initialized_step : (known : Contents → Told) (used : Contents → Use → Contents) (ws : List Word) (kind : DataKind) (ty : DataType) (seps : List ℕ) (last : ℕ) (xs : List InitializedDeclarator) (i : ℕ) (x : InitializedDeclarator) (p : Passed) → i < length xs → x ≡ get_or xs i x →
    initialized_behind known used ws kind ty seps last (i + 1) (initialized_after known used ws kind ty p x (separator seps last i)) (drop (i + 1) xs) ≡ initialized_behind known used ws kind ty seps last i p (drop i xs)
unfolding initialized_behind
initialized_step known used ws kind ty seps last xs i x p h e = rw (drop_more xs i x h, ← e) refl

pub initialized_end : (known : Contents → Told) (used : Contents → Use → Contents) (ws : List Word) (kind : DataKind) (ty : DataType) (seps : List ℕ) (last : ℕ) (xs : List InitializedDeclarator) (i : ℕ) (p : Passed) → length xs ≤ i → initialized_behind known used ws kind ty seps last i p (drop i xs) ≡ p
unfolding initialized_behind
initialized_end known used ws kind ty seps last xs i p h = rw (drop_of_length-le xs h) refl
