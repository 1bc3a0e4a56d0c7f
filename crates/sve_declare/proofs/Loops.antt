-- Parameters of a declaration, one by one.
use Rattle.std.proofs.Common.{◌≡◌, ◌<◌, ◌≤◌, ℕ, ◌+◌, Bool, List, length, drop, get_or, refl}
use Rattle.std.proofs.lemmas.List.{drop_more}
use Rattle.std.proofs.Math.ListN.{drop_of_length-le}
use Rattle.sve_tree.specs.declared.token_word.Word.{Word}
use Rattle.sve_tree.specs.declared.declaration.ParameterAssignment.{ParameterAssignment}
use Rattle.sve_tree.specs.declared.declaration.Parameters.{Parameters}
use Rattle.sve_env.specs.Told.{Told}
use Rattle.sve_contents.specs.declared.contents.Contents.{Contents}
use Rattle.sve_enumerated.specs.declared.passed.Passed.{Passed}
use Rattle.sve_assigned.specs.declared.form.Form.{Form}
use Rattle.sve_declare.specs.Parameters.{parameter_after, parameters_behind}

pub parameters_step : (known : Contents → Told) (ws : List Word) (f : Form) (is_array : Bool) (w : Parameters) (xs : List ParameterAssignment) (i : ℕ) (x : ParameterAssignment) (p : Passed) → i < length xs → x ≡ get_or xs i x →
    parameters_behind known ws f is_array w (i + 1) (parameter_after known ws f is_array w i p x) (drop (i + 1) xs) ≡ parameters_behind known ws f is_array w i p (drop i xs)
unfolding parameters_behind
parameters_step known ws f is_array w xs i x p h e = rw (drop_more xs i x h, ← e) refl

pub parameters_end : (known : Contents → Told) (ws : List Word) (f : Form) (is_array : Bool) (w : Parameters) (xs : List ParameterAssignment) (i : ℕ) (p : Passed) → length xs ≤ i → parameters_behind known ws f is_array w i p (drop i xs) ≡ p
unfolding parameters_behind
parameters_end known ws f is_array w xs i p h = rw (drop_of_length-le xs h) refl
