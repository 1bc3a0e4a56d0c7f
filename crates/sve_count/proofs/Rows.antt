-- The loops over declarators, parameters, variables and arguments.
use Rattle.std.proofs.Common.{◌≡◌, ◌<◌, ◌≤◌, ℕ, ◌+◌, List, length, drop, get_or, refl, subst, sym}
use Rattle.std.proofs.Math.ListN.{drop_of_length-le}
use Rattle.std.proofs.lemmas.List.Sums.{sum_by-drop_more}
use Rattle.std.specs.Prelude.{sum_by}
use Rattle.sve_tree.specs.declared.declaration.InitializedDeclarator.{InitializedDeclarator}
use Rattle.sve_tree.specs.declared.declaration.ParameterAssignment.{ParameterAssignment}
use Rattle.sve_tree.specs.declared.statement.ForVariable.{ForVariable}
use Rattle.sve_tree.specs.declared.statement.Formal.{Formal}
use Rattle.sve_env.specs.Told.{Told}
use Rattle.sve_count.specs.Declarations.{assignment_nodes, initialized_nodes, variable_nodes}
use Rattle.sve_count.specs.Functions.{formal_nodes}

pub initialized_step : (m : Told) (xs : List InitializedDeclarator) (i : ℕ) (x : InitializedDeclarator) → i < length xs → x ≡ get_or xs i x → sum_by (initialized_nodes m) (drop i xs) ≡ initialized_nodes m x + sum_by (initialized_nodes m) (drop (i + 1) xs)
initialized_step m xs i x h e = subst (λ (y : InitializedDeclarator). sum_by (initialized_nodes m) (drop i xs) ≡ initialized_nodes m y + sum_by (initialized_nodes m) (drop (i + 1) xs)) (sym e) (sum_by-drop_more (initialized_nodes m) xs i x h)

pub initialized_end : (m : Told) (xs : List InitializedDeclarator) (i : ℕ) → length xs ≤ i → sum_by (initialized_nodes m) (drop i xs) ≡ 0
initialized_end m xs i h = rw (drop_of_length-le xs h) refl

pub assignment_step : (m : Told) (xs : List ParameterAssignment) (i : ℕ) (x : ParameterAssignment) → i < length xs → x ≡ get_or xs i x → sum_by (assignment_nodes m) (drop i xs) ≡ assignment_nodes m x + sum_by (assignment_nodes m) (drop (i + 1) xs)
assignment_step m xs i x h e = subst (λ (y : ParameterAssignment). sum_by (assignment_nodes m) (drop i xs) ≡ assignment_nodes m y + sum_by (assignment_nodes m) (drop (i + 1) xs)) (sym e) (sum_by-drop_more (assignment_nodes m) xs i x h)

pub assignment_end : (m : Told) (xs : List ParameterAssignment) (i : ℕ) → length xs ≤ i → sum_by (assignment_nodes m) (drop i xs) ≡ 0
assignment_end m xs i h = rw (drop_of_length-le xs h) refl

pub variable_step : (m : Told) (xs : List ForVariable) (i : ℕ) (x : ForVariable) → i < length xs → x ≡ get_or xs i x → sum_by (variable_nodes m) (drop i xs) ≡ variable_nodes m x + sum_by (variable_nodes m) (drop (i + 1) xs)
variable_step m xs i x h e = subst (λ (y : ForVariable). sum_by (variable_nodes m) (drop i xs) ≡ variable_nodes m y + sum_by (variable_nodes m) (drop (i + 1) xs)) (sym e) (sum_by-drop_more (variable_nodes m) xs i x h)

pub variable_end : (m : Told) (xs : List ForVariable) (i : ℕ) → length xs ≤ i → sum_by (variable_nodes m) (drop i xs) ≡ 0
variable_end m xs i h = rw (drop_of_length-le xs h) refl

pub formal_step : (m : Told) (xs : List Formal) (i : ℕ) (x : Formal) → i < length xs → x ≡ get_or xs i x → sum_by (formal_nodes m) (drop i xs) ≡ formal_nodes m x + sum_by (formal_nodes m) (drop (i + 1) xs)
formal_step m xs i x h e = subst (λ (y : Formal). sum_by (formal_nodes m) (drop i xs) ≡ formal_nodes m y + sum_by (formal_nodes m) (drop (i + 1) xs)) (sym e) (sum_by-drop_more (formal_nodes m) xs i x h)

pub formal_end : (m : Told) (xs : List Formal) (i : ℕ) → length xs ≤ i → sum_by (formal_nodes m) (drop i xs) ≡ 0
formal_end m xs i h = rw (drop_of_length-le xs h) refl
