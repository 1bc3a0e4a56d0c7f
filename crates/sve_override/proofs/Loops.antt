-- Overrides from one on, and behind the last.
use Rattle.std.proofs.Common.{◌≡◌, ◌<◌, ◌≤◌, ℕ, ◌+◌, List, length, drop, get_or, refl}
use Rattle.std.proofs.lemmas.List.{drop_more}
use Rattle.std.proofs.Math.ListN.{drop_of_length-le}
use Rattle.sve_tree.specs.declared.token_word.Word.{Word}
use Rattle.sve_tree.specs.declared.expression.Arg.{Arg}
use Rattle.sve_env.specs.Told.{Told}
use Rattle.sve_override.specs.declared.argument.Overriding.{Overriding}
use Rattle.sve_override.specs.Arguments.{separator, with_argument, with_arguments}

pub argument_step : (m : Told) (ws : List Word) (commas : List ℕ) (closing : ℕ) (xs : List Arg) (i : ℕ) (x : Arg) (o : Overriding) → i < length xs → x ≡ get_or xs i x →
    with_arguments m ws commas closing (i + 1) (with_argument m ws o (separator commas closing i) x) (drop (i + 1) xs) ≡ with_arguments m ws commas closing i o (drop i xs)
unfolding with_arguments
argument_step m ws commas closing xs i x o h e = rw (drop_more xs i x h, ← e) refl

pub argument_end : (m : Told) (ws : List Word) (commas : List ℕ) (closing : ℕ) (xs : List Arg) (i : ℕ) (o : Overriding) → length xs ≤ i → with_arguments m ws commas closing i o (drop i xs) ≡ o
unfolding with_arguments
argument_end m ws commas closing xs i o h = rw (drop_of_length-le xs h) refl
