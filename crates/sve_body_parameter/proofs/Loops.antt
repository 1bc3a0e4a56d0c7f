-- Parameters of a declaration, one by one.
use Rattle.std.proofs.Common.{◌≡◌, ◌<◌, ◌≤◌, ℕ, ◌+◌, Bool, false, List, length, drop, get_or, refl}
use Rattle.std.proofs.lemmas.List.{drop_more}
use Rattle.std.proofs.Math.ListN.{drop_of_length-le}
use Rattle.sve_tree.specs.declared.token_word.Word.{Word}
use Rattle.sve_tree.specs.declared.declaration.ParameterAssignment.{ParameterAssignment}
use Rattle.sve_tree.specs.declared.declaration.Parameters.{Parameters}
use Rattle.sve_spec.specs.declared.given.Given.{Given}
use Rattle.sve_env.specs.Told.{Told}
use Rattle.sve_contents.specs.declared.contents.Contents.{Contents}
use Rattle.sve_assigned.specs.declared.form.Form.{Form}
use Rattle.sve_resolve.specs.Resolving.{next_place}
use Rattle.sve_body_parameter.specs.declared.overridable.SoFar.{SoFar}
use Rattle.sve_body_parameter.specs.Values.{given_at}
use Rattle.sve_body_parameter.specs.Overridable.{parameter_after, parameters_behind}
use Rattle.sve_body_parameter.specs.Nodes.{assignment_nodes, assignments_nodes}

pub parameters_step : (known : Contents → Told) (ws : List Word) (given : List Given) (f : Form) (is_array : Bool) (w : Parameters) (xs : List ParameterAssignment) (i : ℕ) (x : ParameterAssignment) (s : SoFar) → i < length xs → x ≡ get_or xs i x →
    parameters_behind known ws given f is_array w (i + 1) (parameter_after known ws given f is_array w i s x) (drop (i + 1) xs) ≡ parameters_behind known ws given f is_array w i s (drop i xs)
unfolding parameters_behind
parameters_step known ws given f is_array w xs i x s h e = rw (drop_more xs i x h, ← e) refl

pub parameters_end : (known : Contents → Told) (ws : List Word) (given : List Given) (f : Form) (is_array : Bool) (w : Parameters) (xs : List ParameterAssignment) (i : ℕ) (s : SoFar) → length xs ≤ i → parameters_behind known ws given f is_array w i s (drop i xs) ≡ s
unfolding parameters_behind
parameters_end known ws given f is_array w xs i s h = rw (drop_of_length-le xs h) refl

pub counts_step : (m : Told) (given : List Given) (xs : List ParameterAssignment) (i : ℕ) (x : ParameterAssignment) (place : ℕ) → i < length xs → x ≡ get_or xs i x →
    assignments_nodes m given place (drop i xs) ≡ assignment_nodes m (given_at given place) x + assignments_nodes m given (next_place false place) (drop (i + 1) xs)
unfolding assignments_nodes
counts_step m given xs i x place h e = rw (drop_more xs i x h, ← e) refl

pub counts_end : (m : Told) (given : List Given) (xs : List ParameterAssignment) (i : ℕ) (place : ℕ) → length xs ≤ i → assignments_nodes m given place (drop i xs) ≡ 0
unfolding assignments_nodes
counts_end m given xs i place h = rw (drop_of_length-le xs h) refl
