-- Selects of concatenations as lists, and the loop over them.
use Rattle.std.specs.Global.{Box, Vec}
use Rattle.std.proofs.Common.{◌≡◌, ◌==◌, ◌<◌, ◌≤◌, ℕ, ◌+◌, true, false, List, [], ◌∷◌, length, drop, get_or, vec_len, Option, Some, None, Result, Ok, Err, refl, ap, sym, ◌∙◌, arith}
use Rattle.std.proofs.Math.Dec.{eqb-suc-zero}
use Rattle.std.proofs.lemmas.Bool.{true≢false}
use Rattle.std.proofs.lemmas.List.{drop_more}
use Rattle.std.proofs.Math.ListN.{drop_of_length-le}
use Rattle.sve_tree.specs.declared.row.Row.{Row}
use Rattle.sve_tree.specs.declared.expression.Expr.TheVariants as is_expr
use Rattle.sve_tree.specs.declared.expression.Expr.{Expr, Row_of-RangeSelect, end_of-RangeSelect, items-the_row-RangeSelect, more_of-RangeSelect}
use Rattle.sve_tree.specs.declared.expression.RangeSelect.{RangeSelect}
use Rattle.sve_tree.specs.declared.expression.Arg.TheBlock.{hidden-the_row-RangeSelect-2, items_hidden-the_row-RangeSelect-2}
use Rattle.sve_fault.specs.Counts.{Spends, Counts}
use Rattle.sve_fault.specs.declared.fault.Fault.{Fault}
use Rattle.sve_fault.specs.declared.fuel.Fuel.{Fuel}
use Rattle.sve_fault.specs.declared.fuel.Halted.{Halted}
use Rattle.sve_rule.specs.Rows.{Line}
use Rattle.sve_rule.specs.Rules.{part_judged, replication_judged}
use Rattle.sve_select.specs.Pieces.{Piece}
use Rattle.sve_env.specs.Told.{Told}
use Rattle.sve_env.specs.Nodes.{nodes, nodes_of_expressions, range_select_row}
use Rattle.sve_form.specs.Tokens.{token_of, unsized_at, row_empty_at}
use Rattle.sve_measure.specs.Constants.{measured, unless_selected, has_no_selects, is_bare, operand_line, operand_of, replicated_over, line_from, pieces_from, pieces_behind, piece_after}

pieces_are : {n : _} (m : Told) (opening : ℕ) (before : Result Piece Fault) (row : Row_of-RangeSelect n) → pieces_from m opening before row ≡ pieces_behind m opening before (items-the_row-RangeSelect n row)
unfolding measured pieces_behind
pieces_are m opening before end_of-RangeSelect = refl
pieces_are m opening before (more_of-RangeSelect bracket range closing rest) = pieces_are m opening (piece_after m opening before range) rest

pub pieces_of_vec : (m : Told) (opening : ℕ) (before : Result Piece Fault) (xs : Vec RangeSelect) → pieces_from m opening before (hidden-the_row-RangeSelect-2 xs) ≡ pieces_behind m opening before xs.items
pieces_of_vec m opening before xs = pieces_are m opening before (hidden-the_row-RangeSelect-2 xs) ∙ ap (pieces_behind m opening before) (items_hidden-the_row-RangeSelect-2 xs)

pub pieces_step : (m : Told) (opening : ℕ) (xs : List RangeSelect) (i : ℕ) (x : RangeSelect) (before : Result Piece Fault) → i < length xs → x ≡ get_or xs i x → pieces_behind m opening (piece_after m opening before x.range) (drop (i + 1) xs) ≡ pieces_behind m opening before (drop i xs)
unfolding pieces_behind
pieces_step m opening xs i x before h e = rw (drop_more xs i x h, ← e) refl

pub pieces_end : (m : Told) (opening : ℕ) (xs : List RangeSelect) (i : ℕ) (before : Result Piece Fault) → length xs ≤ i → pieces_behind m opening before (drop i xs) ≡ before
unfolding pieces_behind
pieces_end m opening xs i before h = rw (drop_of_length-le xs h) refl

-- ---- with and without selects

abbrev unless_some : {X Y : Type 0} → List X → Y → Y → Y
unless_some [] a b = a
unless_some (x ∷ xs) a b = b

row_is : {n : _} (row : Row_of-RangeSelect n) → has_no_selects row ≡ unless_some (items-the_row-RangeSelect n row) true false
row_is end_of-RangeSelect = refl
row_is (more_of-RangeSelect opening range closing rest) = refl

by_length : (n : ℕ) (xs : List RangeSelect) → n ≡ length xs → unless_some xs true false ≡ (n == 0)
by_length n [] e = rw e refl
by_length n (x ∷ xs) e = sym (rw e (eqb-suc-zero (length xs)))

pub no_selects_are : (xs : Vec RangeSelect) → has_no_selects (hidden-the_row-RangeSelect-2 xs) ≡ (vec_len xs == 0)
no_selects_are xs = row_is (hidden-the_row-RangeSelect-2 xs) ∙ (ap (λ (ys : List RangeSelect). unless_some ys true false) (items_hidden-the_row-RangeSelect-2 xs) ∙ by_length (vec_len xs) xs.items xs.ok.0)

-- ---- operands of a concatenation

bare_line : {n : _} (row : Row_of-RangeSelect n) (line : Result Line Fault) → has_no_selects row ≡ true → unless_selected row line ≡ Some line
bare_line end_of-RangeSelect line h = refl
bare_line (more_of-RangeSelect opening range closing rest) line h = absurd (true≢false (sym h))

selected_line : {n : _} (row : Row_of-RangeSelect n) (line : Result Line Fault) → has_no_selects row ≡ false → unless_selected row line ≡ None
selected_line end_of-RangeSelect line h = absurd (true≢false h)
selected_line (more_of-RangeSelect opening range closing rest) line h = refl

bare_row : {n : _} (m : Told) (row : Row_of-RangeSelect n) → has_no_selects row ≡ true → range_select_row m row ≡ 0
unfolding nodes
bare_row m end_of-RangeSelect h = refl
bare_row m (more_of-RangeSelect opening range closing rest) h = absurd (true≢false (sym h))

pub bare_operand : (m : Told) (opening : ℕ) (count : Box Expr) (inner_opening : ℕ) (operands : Row Expr ℕ) (inner_closing : ℕ) (closing : ℕ) (selects : Vec RangeSelect) → is_bare (is_expr.Replication opening count inner_opening operands inner_closing closing selects) ≡ true → operand_of m (is_expr.Replication opening count inner_opening operands inner_closing closing selects) ≡ replicated_over m opening (token_of count.value) (measured m count.value) operands
unfolding measured is_bare operand_of
bare_operand m opening count inner_opening operands inner_closing closing selects h =
    let e : Expr = is_expr.Replication opening count inner_opening operands inner_closing closing selects in
    ap (λ (t : Option (Result Line Fault)). operand_line t (unsized_at e) (measured m e)) (bare_line (hidden-the_row-RangeSelect-2 selects) (replicated_over m opening (token_of count.value) (measured m count.value) operands) h)

pub bare_nodes : (m : Told) (opening : ℕ) (count : Box Expr) (inner_opening : ℕ) (operands : Row Expr ℕ) (inner_closing : ℕ) (closing : ℕ) (selects : Vec RangeSelect) → is_bare (is_expr.Replication opening count inner_opening operands inner_closing closing selects) ≡ true → nodes m (is_expr.Replication opening count inner_opening operands inner_closing closing selects) ≡ 1 + nodes m count.value + nodes_of_expressions m operands
unfolding nodes is_bare
bare_nodes m opening count inner_opening operands inner_closing closing selects h = rw (bare_row m (hidden-the_row-RangeSelect-2 selects) h) (omega arith)

pub other_operand : (m : Told) (e : Expr) → is_bare e ≡ false → operand_of m e ≡ part_judged (unsized_at e) (measured m e)
unfolding measured is_bare operand_of
other_operand m (is_expr.Decimal token) h = refl
other_operand m (is_expr.Sized size based) h = refl
other_operand m (is_expr.SizeCast' size apostrophe opening _ value closing) h = refl
other_operand m (is_expr.Based token) h = refl
other_operand m (is_expr.Unbased token) h = refl
other_operand m (is_expr.Text token) h = refl
other_operand m (is_expr.Parenthesized' opening _ value closing) h = refl
other_operand m (is_expr.ParenthesizedCast' opening _ value closing apostrophe cast_opening _ cast_value cast_closing) h = refl
other_operand m (is_expr.Pattern' opening _ items commas closing) h = refl
other_operand m (is_expr.Replication' opening p count inner_opening q operands commas inner_closing closing r selects) h =
    let e : Expr = is_expr.Replication' opening p count inner_opening q operands commas inner_closing closing r selects in
    ap (λ (t : Option (Result Line Fault)). operand_line t (unsized_at e) (measured m e)) (selected_line selects (replication_judged opening (token_of count) (row_empty_at opening operands) (measured m count) (line_from m (Ok (Some [])) operands)) h)
other_operand m (is_expr.Concatenation' opening _ operands commas closing _ selects) h = refl
other_operand m (is_expr.SignCast' sign apostrophe opening _ value closing) h = refl
other_operand m (is_expr.Type' keyword sign _ dimensions) h = refl
other_operand m (is_expr.TypeCast' keyword sign _ dimensions apostrophe opening _ value closing) h = refl
other_operand m (is_expr.SystemName' name _ selects) h = refl
other_operand m (is_expr.SystemCall' name opening _ arguments commas closing _ selects) h = refl
other_operand m (is_expr.Name' name _ postfixes) h = refl
other_operand m (is_expr.Unary' operator _ operand) h = refl
other_operand m (is_expr.Operations' _ first _ operations) h = refl
other_operand m (is_expr.Conditional' _ condition question _ chosen colon _ otherwise) h = refl
other_operand m (is_expr.Implication' _ l operator _ r) h = refl

-- ---- counts

pub counts_then : {X : Type 0} (r : Result X Halted) (old first next new : Fuel) (j k l n : ℕ) → Spends old first j → Spends first next k → Counts r next new l → n ≡ j + k + l → Counts r old new n
counts_then (Ok x) old first next new j k l n s t c e = record { used = omega (arith, s.used, t.used, c.used, e); most = c.most ∙ (t.most ∙ s.most); within = c.within }
counts_then (Err h) old first next new j k l n s t c e = omega (arith, s.used, s.most, t.used, t.most, c, e)
