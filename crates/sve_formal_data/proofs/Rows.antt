-- Formal arguments, one by one.
use Rattle.std.proofs.Common.{◌≡◌, ◌<◌, ◌≤◌, ℕ, ◌+◌, List, length, drop, get_or, refl}
use Rattle.std.proofs.lemmas.List.{drop_more}
use Rattle.std.proofs.Math.ListN.{drop_of_length-le}
use Rattle.sve_env.specs.Told.{Told}
use Rattle.sve_tree.specs.declared.token_word.Word.{Word}
use Rattle.sve_tree.specs.declared.statement.Formal.{Formal}
use Rattle.sve_contents.specs.declared.contents.Contents.{Contents}
use Rattle.sve_enumerated.specs.Names.{separator}
use Rattle.sve_formal_data.specs.declared.formals.Typing.{Typing}
use Rattle.sve_formal_data.specs.Formals.{formal_after, formals_behind}

pub formals_step : (known : Contents → Told) (ws : List Word) (seps : List ℕ) (last : ℕ) (xs : List Formal) (i : ℕ) (x : Formal) (s : Typing) → i < length xs → x ≡ get_or xs i x →
    formals_behind known ws seps last (i + 1) (formal_after known ws s x (separator seps last i)) (drop (i + 1) xs) ≡ formals_behind known ws seps last i s (drop i xs)
unfolding formals_behind
formals_step known ws seps last xs i x s h e = rw (drop_more xs i x h, ← e) refl

pub formals_end : (known : Contents → Told) (ws : List Word) (seps : List ℕ) (last : ℕ) (xs : List Formal) (i : ℕ) (s : Typing) → length xs ≤ i → formals_behind known ws seps last i s (drop i xs) ≡ s
unfolding formals_behind
formals_end known ws seps last xs i s h = rw (drop_of_length-le xs h) refl
