-- Rows of trees as lists, and the loops over them.
use Rattle.std.specs.Global.{Vec}
use Rattle.std.proofs.Common.{◌≡◌, ◌≢◌, ◌<◌, ◌≤◌, ℕ, ◌+◌, List, [], ◌∷◌, length, drop, get_or, vec_len, Result, refl, ap, sym, ◌∙◌, add-zero, arith}
use Rattle.std.proofs.lemmas.List.{drop_more}
use Rattle.std.proofs.Math.ListN.{drop_of_length-le}
use Rattle.sve_tree.specs.declared.word.ScopedName.{ScopedName}
use Rattle.sve_tree.specs.declared.expression.Expr.{Expr, Row_of-Arg, Row_of-Dimension, Row_of-Expr, Row_of-Operation, Row_of-Postfix, end_of-Arg, end_of-Dimension, end_of-Expr, end_of-Operation, end_of-Postfix, items-the_row-Arg, items-the_row-Dimension, items-the_row-Expr, items-the_row-Operation, items-the_row-Postfix, more_of-Arg, more_of-Dimension, more_of-Expr, more_of-Operation, more_of-Postfix}
use Rattle.sve_tree.specs.declared.expression.Operation.{Operation}
use Rattle.sve_tree.specs.declared.expression.Dimension.{Dimension}
use Rattle.sve_tree.specs.declared.expression.Postfix.{Postfix}
use Rattle.sve_tree.specs.declared.expression.ArgumentList.{ArgumentList}
use Rattle.sve_tree.specs.declared.expression.Arg.{Arg}
use Rattle.sve_tree.specs.declared.expression.Arg.TheBlock.{hidden-the_row-Arg-5, hidden-the_row-Dimension-3, hidden-the_row-Expr-1, hidden-the_row-Operation-7, hidden-the_row-Postfix-6, items_hidden-the_row-Arg-5, items_hidden-the_row-Dimension-3, items_hidden-the_row-Expr-1, items_hidden-the_row-Operation-7, items_hidden-the_row-Postfix-6}
use Rattle.sve_tree.specs.declared.expression.Postfix.TheVariants as is_postfix
use Rattle.sve_fault.specs.declared.fault.Fault.{Fault}
use Rattle.sve_rule.specs.Judged.{Judged}
use Rattle.sve_rule.specs.Rows.{Line}
use Rattle.sve_rule.specs.Rules.{appended_judged, outside_judged}
use Rattle.sve_rule.specs.Dimensions.{extended}
use Rattle.sve_env.specs.Told.{Told}
use Rattle.sve_env.specs.Nodes.{argument_row, argument_count, argument_nodes}
use Rattle.sve_env.proofs.Rows.{argument_row_of}
use Rattle.sve_form.specs.Tokens.{unsized_at, opening_of}
use Rattle.sve_path.specs.Named.{State}
use Rattle.sve_measure.specs.Constants.{measured, replicated_line, operand_line, line_from, line_behind, operations_from, operations_behind, operation_after, calling, act_of, state_from, state_behind, state_after, places_from, places_behind, range_of, system_of, system_list, system_argument, operand_of}

-- ---- rows and lists

line_is : {n : _} (m : Told) (before : Result Line Fault) (row : Row_of-Expr n) → line_from m before row ≡ line_behind m before (items-the_row-Expr n row)
unfolding measured operand_of line_behind
line_is m before end_of-Expr = refl
line_is m before (more_of-Expr e rest) = line_is m (appended_judged before (operand_line (replicated_line m e) (unsized_at e) (measured m e))) rest

pub line_of_vec : (m : Told) (before : Result Line Fault) (xs : Vec Expr) → line_from m before (hidden-the_row-Expr-1 xs) ≡ line_behind m before xs.items
line_of_vec m before xs = line_is m before (hidden-the_row-Expr-1 xs) ∙ ap (line_behind m before) (items_hidden-the_row-Expr-1 xs)

operations_are : {n : _} (m : Told) (token : ℕ) (before : Judged) (row : Row_of-Operation n) → operations_from m token before row ≡ operations_behind m token before (items-the_row-Operation n row)
unfolding measured operations_behind
operations_are m token before end_of-Operation = refl
operations_are m token before (more_of-Operation operation rest) = operations_are m token (operation_after m token before operation) rest

pub operations_of_vec : (m : Told) (token : ℕ) (before : Judged) (xs : Vec Operation) → operations_from m token before (hidden-the_row-Operation-7 xs) ≡ operations_behind m token before xs.items
operations_of_vec m token before xs = operations_are m token before (hidden-the_row-Operation-7 xs) ∙ ap (operations_behind m token before) (items_hidden-the_row-Operation-7 xs)

state_is : {n : _} (m : Told) (name : ScopedName) (before : State) (row : Row_of-Postfix n) → state_from m name before row ≡ state_behind m name before (items-the_row-Postfix n row)
unfolding measured state_behind
state_is m name before end_of-Postfix = refl
state_is m name before (more_of-Postfix postfix rest) = state_is m name (state_after m name before postfix) rest

pub postfixes_of_vec : (m : Told) (name : ScopedName) (before : State) (xs : Vec Postfix) → state_from m name before (hidden-the_row-Postfix-6 xs) ≡ state_behind m name before xs.items
postfixes_of_vec m name before xs = state_is m name before (hidden-the_row-Postfix-6 xs) ∙ ap (state_behind m name before) (items_hidden-the_row-Postfix-6 xs)

places_are : {n : _} (m : Told) (before : Result ℕ Fault) (row : Row_of-Dimension n) → places_from m before row ≡ places_behind m before (items-the_row-Dimension n row)
unfolding measured places_behind
places_are m before end_of-Dimension = refl
places_are m before (more_of-Dimension dimension rest) = places_are m (extended (opening_of dimension) before (range_of m dimension)) rest

pub places_of_vec : (m : Told) (before : Result ℕ Fault) (xs : Vec Dimension) → places_from m before (hidden-the_row-Dimension-3 xs) ≡ places_behind m before xs.items
places_of_vec m before xs = places_are m before (hidden-the_row-Dimension-3 xs) ∙ ap (places_behind m before) (items_hidden-the_row-Dimension-3 xs)

argument_by : (m : Told) (token : ℕ) (xs : List Arg) (n : ℕ) (x : Arg) → n ≡ length xs → n ≡ 1 → x ≡ get_or xs 0 x → system_list m token xs ≡ system_argument m token x
unfolding system_list
argument_by m token [] n x e o h = absurd (omega arith)
argument_by m token (y ∷ []) n x e o h = ap (system_argument m token) (sym h)
argument_by m token (y ∷ z ∷ zs) n x e o h = absurd (omega arith)

several_by : (m : Told) (token : ℕ) (xs : List Arg) (n : ℕ) → n ≡ length xs → n ≢ 1 → system_list m token xs ≡ outside_judged token
unfolding system_list
several_by m token [] n e o = refl
several_by m token (y ∷ []) n e o = absurd (o e)
several_by m token (y ∷ z ∷ zs) n e o = refl

counted_by : (m : Told) (xs : List Arg) (n : ℕ) (x : Arg) → n ≡ length xs → n ≡ 1 → x ≡ get_or xs 0 x → argument_count m xs ≡ argument_nodes m x
unfolding argument_count
counted_by m [] n x e o h = absurd (omega arith)
counted_by m (y ∷ []) n x e o h = add-zero (argument_nodes m y) ∙ ap (argument_nodes m) (sym h)
counted_by m (y ∷ z ∷ zs) n x e o h = absurd (omega arith)

system_is : {n : _} (m : Told) (token : ℕ) (row : Row_of-Arg n) → system_of m token row ≡ system_list m token (items-the_row-Arg n row)
unfolding measured system_list
system_is m token end_of-Arg = refl
system_is m token (more_of-Arg argument end_of-Arg) = refl
system_is m token (more_of-Arg argument (more_of-Arg other rest)) = refl

system_of_vec : (m : Told) (token : ℕ) (xs : Vec Arg) → system_of m token (hidden-the_row-Arg-5 xs) ≡ system_list m token xs.items
system_of_vec m token xs = system_is m token (hidden-the_row-Arg-5 xs) ∙ ap (system_list m token) (items_hidden-the_row-Arg-5 xs)

pub one_argument : (m : Told) (token : ℕ) (xs : Vec Arg) (x : Arg) → vec_len xs ≡ 1 → x ≡ get_or xs.items 0 x → system_of m token (hidden-the_row-Arg-5 xs) ≡ system_argument m token x
one_argument m token xs x o h = system_of_vec m token xs ∙ argument_by m token xs.items (vec_len xs) x xs.ok.0 o h

pub one_counted : (m : Told) (xs : Vec Arg) (x : Arg) → vec_len xs ≡ 1 → x ≡ get_or xs.items 0 x → argument_row m (hidden-the_row-Arg-5 xs) ≡ argument_nodes m x
one_counted m xs x o h = argument_row_of m xs ∙ counted_by m xs.items (vec_len xs) x xs.ok.0 o h

pub several_arguments : (m : Told) (token : ℕ) (xs : Vec Arg) → vec_len xs ≢ 1 → system_of m token (hidden-the_row-Arg-5 xs) ≡ outside_judged token
several_arguments m token xs o = system_of_vec m token xs ∙ several_by m token xs.items (vec_len xs) xs.ok.0 o

pub act_call : (m : Told) (name : ScopedName) (arguments : ArgumentList) → act_of m name (is_postfix.Call arguments) ≡ calling (m.call name arguments.arguments.items.items)
unfolding measured
act_call m name arguments = ap (λ (xs : List Arg). calling (m.call name xs)) (items_hidden-the_row-Arg-5 arguments.arguments.items)

-- ---- loops

pub operations_step : (m : Told) (token : ℕ) (xs : List Operation) (i : ℕ) (x : Operation) (before : Judged) → i < length xs → x ≡ get_or xs i x → operations_behind m token (operation_after m token before x) (drop (i + 1) xs) ≡ operations_behind m token before (drop i xs)
unfolding operations_behind
operations_step m token xs i x before h e = rw (drop_more xs i x h, ← e) refl

pub operations_end : (m : Told) (token : ℕ) (xs : List Operation) (i : ℕ) (before : Judged) → length xs ≤ i → operations_behind m token before (drop i xs) ≡ before
unfolding operations_behind
operations_end m token xs i before h = rw (drop_of_length-le xs h) refl

pub postfixes_step : (m : Told) (name : ScopedName) (xs : List Postfix) (i : ℕ) (x : Postfix) (before : State) → i < length xs → x ≡ get_or xs i x → state_behind m name (state_after m name before x) (drop (i + 1) xs) ≡ state_behind m name before (drop i xs)
unfolding state_behind
postfixes_step m name xs i x before h e = rw (drop_more xs i x h, ← e) refl

pub postfixes_end : (m : Told) (name : ScopedName) (xs : List Postfix) (i : ℕ) (before : State) → length xs ≤ i → state_behind m name before (drop i xs) ≡ before
unfolding state_behind
postfixes_end m name xs i before h = rw (drop_of_length-le xs h) refl

pub places_step : (m : Told) (xs : List Dimension) (i : ℕ) (x : Dimension) (before : Result ℕ Fault) → i < length xs → x ≡ get_or xs i x → places_behind m (extended (opening_of x) before (range_of m x)) (drop (i + 1) xs) ≡ places_behind m before (drop i xs)
unfolding places_behind
places_step m xs i x before h e = rw (drop_more xs i x h, ← e) refl

pub places_end : (m : Told) (xs : List Dimension) (i : ℕ) (before : Result ℕ Fault) → length xs ≤ i → places_behind m before (drop i xs) ≡ before
unfolding places_behind
places_end m xs i before h = rw (drop_of_length-le xs h) refl

pub line_step : (m : Told) (xs : List Expr) (i : ℕ) (x : Expr) (before : Result Line Fault) → i < length xs → x ≡ get_or xs i x → line_behind m (appended_judged before (operand_of m x)) (drop (i + 1) xs) ≡ line_behind m before (drop i xs)
unfolding line_behind
line_step m xs i x before h e = rw (drop_more xs i x h, ← e) refl

pub line_end : (m : Told) (xs : List Expr) (i : ℕ) (before : Result Line Fault) → length xs ≤ i → line_behind m before (drop i xs) ≡ before
unfolding line_behind
line_end m xs i before h = rw (drop_of_length-le xs h) refl
