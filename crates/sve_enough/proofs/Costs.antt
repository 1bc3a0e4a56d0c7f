-- Steps of the elaboration of a body cost at most as much as the tokens of what they evaluate.
use Rattle.std.proofs.Common.{ℕ, ◌+◌, ◌≤◌, ◌≡◌, Bool, true, false, cond, List, [], ◌∷◌, length, Option, Some, None, refl, arith}
use Rattle.std.specs.Prelude.{sum_by}
use Rattle.std.proofs.lemmas.List.Sums.{sum_by-cons}
use Rattle.sve_tree.specs.Declarations.{header_tree}
use Rattle.sve_tree.specs.Statements.{func_tree, stmt_tree}
use Rattle.sve_tree.specs.Items.{clocked_procedure_tree, instances_tree, item_tree, plain_procedure_tree}
use Rattle.sve_tree.specs.declared.row.Row.{Row}
use Rattle.sve_tree.specs.declared.declaration.Parameters.{Parameters}
use Rattle.sve_tree.specs.declared.header.Header.{Header}
use Rattle.sve_tree.specs.declared.statement.Func.{Func}
use Rattle.sve_tree.specs.declared.statement.Stmt.{Stmt}
use Rattle.sve_tree.specs.declared.item.ClockedProcedure.{ClockedProcedure}
use Rattle.sve_tree.specs.declared.item.Instance.{Instance}
use Rattle.sve_tree.specs.declared.item.Item.{Item}
use Rattle.sve_tree.specs.declared.item.Item.TheVariants as is_item
use Rattle.sve_tree.specs.declared.item.Overrides.{Overrides}
use Rattle.sve_tree.specs.declared.item.PlainProcedure.{PlainProcedure}
use Rattle.sve_statement_use.specs.Steps.{Does, Step, Uses}
use Rattle.sve_statement_use.specs.Statements.{statement_steps}
use Rattle.sve_plan.specs.Plan.{Counted}
use Rattle.sve_item_names.specs.Declarations.{parameters_of, ports_of}
use Rattle.sve_count.specs.Declarations.{parameters_nodes}
use Rattle.sve_count.specs.Statements.{steps_nodes}
use Rattle.sve_count.specs.Statements as counting
use Rattle.sve_counted_item.specs.Counted.{counted_function}
use Rattle.sve_resolve.specs.Resolving.{no_parameters}
use Rattle.sve_body.specs.Items.{events, plain_item, step_nodes}
use Rattle.sve_elaboration.specs.State.{Found}
use Rattle.sve_design_kinds.specs.Designs.{kind_named}
use Rattle.sve_elaboration.specs.Scopes.{known_in}
use Rattle.sve_elaboration.specs.Declarations.{can_be_overridden, function_in, header_parameters_in, header_ports_in, local_parameters_in, overridable_in, parameters_in}
use Rattle.sve_elaboration.specs.Instances.{overrides_in}
use Rattle.sve_elaboration.specs.Elaborating.{elaborating}
use Rattle.sve_enough.proofs.Counts.{Reaches, count}
use Rattle.sve_enough.proofs.Expressions.{IsWithoutSteps}
use Rattle.sve_enough.proofs.Declarations.{data_item_reach, header_reach, nets_reach, overridable_less, overrides_reach, parameters_reach, typedef_reach, variables_reach}
use Rattle.sve_enough.proofs.Statements.{function_reach, statement_reach}
use Rattle.sve_enough.proofs.Items.{AreWithin}

below : (a b c : ℕ) → a ≤ b → b ≤ c → a ≤ c
below a b c first second = omega arith

same_below : (a b c : ℕ) → a ≡ b → b ≤ c → a ≤ c
same_below a b c same le = omega arith

none_below : (n : ℕ) → 0 ≤ n
none_below n = omega arith

alike : {X : Type 0} (f g : X → ℕ) → ((x : X) → f x ≡ g x) → (xs : List X) → sum_by f xs ≡ sum_by g xs
alike f g one [] = refl
alike f g one (x ∷ xs) = let a = sum_by-cons f x xs in let b = sum_by-cons g x xs in let c = one x in let d = alike f g one xs in omega arith

either_cost : {X : Type 0} (b : Bool) (x y : Counted X) (n : ℕ) → x.0 ≤ n → y.0 ≤ n → (cond b x y).0 ≤ n
either_cost true x y n first second = first
either_cost false x y n first second = second

itself : (n : ℕ) → n ≤ n
itself n = omega arith

-- ---- what is known in a body says of no call what it counts

calls_none : (s : Found) → IsWithoutSteps (known_in s)
calls_none s name arguments = refl

parameters_cost : (p : Parameters) (s : Found) → (parameters_in p s).0 ≤ parameters_nodes (known_in s) p
parameters_cost p s = either_cost (can_be_overridden s p) (overridable_in p s) (local_parameters_in p s) (parameters_nodes (known_in s) p) (overridable_less (known_in s) (calls_none s) s.given s.place p) (itself (parameters_nodes (known_in s) p))

function_cost : (f : Func) (s : Found) → Reaches (function_in f s).0 (func_tree f)
unfolding counted_function
function_cost f s w = function_reach (known_in s) (calls_none s) f w

-- a use costs nothing there as well
same_step : (s : Found) (step : Step) → step_nodes elaborating s step ≡ counting.step_nodes (known_in s) step
same_step s (Uses name) = refl
same_step s (Does local) = refl

statement_cost : (x : Stmt) (s : Found) → Reaches (sum_by (step_nodes elaborating s) (statement_steps x)) (stmt_tree x)
statement_cost x s w =
    same_below (sum_by (step_nodes elaborating s) (statement_steps x)) (steps_nodes (known_in s) (statement_steps x)) (count (stmt_tree x)) (alike (step_nodes elaborating s) (counting.step_nodes (known_in s)) (same_step s) (statement_steps x))
    (statement_reach (known_in s) (calls_none s) x w)

overrides_cost : (o : Option Overrides) (row : Row Instance ℕ) (semicolon : ℕ) (s : Found) → Reaches (overrides_in o s).0 (instances_tree o row semicolon)
overrides_cost None row semicolon s w = none_below (count (instances_tree None row semicolon))
overrides_cost (Some o) row semicolon s w = overrides_reach (known_in s) (calls_none s) o row semicolon w

header_cost : (h : Header) (s t : Found) → Reaches (length (parameters_of h.parameters) + (header_parameters_in h s).0 + length (ports_of h.ports) + (header_ports_in h t).0) (header_tree h)
header_cost h s t w = header_reach (known_in s) (known_in t) (calls_none s) (calls_none t) s.given no_parameters (kind_named t.designs) h w

-- a statement behind what begins its procedure
clocked_below : (n : ℕ) (p : ClockedProcedure) → n ≤ count (stmt_tree p.statement.value) → n ≤ count (clocked_procedure_tree p)
clocked_below n p le = omega arith

plain_below : (n : ℕ) (p : PlainProcedure) → n ≤ count (stmt_tree p.statement.value) → n ≤ count (plain_procedure_tree p)
plain_below n p le = omega arith

plain_cost : (i : Item) (s : Found) → Reaches (plain_item elaborating i s).0 (item_tree i)
unfolding item_tree
plain_cost (is_item.Parameters declaration) s w = below (parameters_in declaration.value s).0 (parameters_nodes (known_in s) declaration.value) (count (item_tree (is_item.Parameters declaration))) (parameters_cost declaration.value s) (parameters_reach (known_in s) (calls_none s) declaration.value w)
plain_cost (is_item.Typedef declaration) s w = typedef_reach (known_in s) (calls_none s) declaration.value w
plain_cost (is_item.Function function) s w = function_cost function.value s w
plain_cost (is_item.Net declaration) s w = nets_reach (known_in s) (calls_none s) declaration.value w
plain_cost (is_item.Variable declaration) s w = variables_reach (known_in s) (calls_none s) declaration.value w
plain_cost (is_item.Data declaration) s w = data_item_reach (known_in s) (calls_none s) declaration.value.data_type declaration.value.declarators declaration.value.semicolon w
plain_cost (is_item.Clocked procedure) s w =
    clocked_below (sum_by (step_nodes elaborating (events elaborating procedure.value.control s)) (statement_steps procedure.value.statement.value)) procedure.value (statement_cost procedure.value.statement.value (events elaborating procedure.value.control s) w.1.1.1)
plain_cost (is_item.Plain procedure) s w = plain_below (sum_by (step_nodes elaborating s) (statement_steps procedure.value.statement.value)) procedure.value (statement_cost procedure.value.statement.value s w.1)
plain_cost i s w = none_below (count (item_tree i))

pub steps_within : AreWithin elaborating
steps_within = record { calls = calls_none; header = header_cost; plain = plain_cost; overrides = overrides_cost }
