-- The values that a generate loop goes over (IEEE 1800-2017, 27.4).
use Rattle.std.specs.Prelude.{ℕ, ◌+◌, zero, suc, ℤ, Bool, if◌then◌else◌, Option, Some, None, Result, Ok, Err, List, [], ◌∷◌, ◌++◌, length}
use Rattle.std.specs.List.{list_any}
use Rattle.std.specs.Ordering.{int_eq}
use Rattle.sve_diag.specs.declared.code.Code.TheVariants.{E14}
use Rattle.sve_fault.specs.declared.fault.Fault.{Fault}
use Rattle.sve_fault.specs.Faults.{fault_about}
use Rattle.sve_plan.specs.Plan.{Counted}
use Rattle.sve_generate.specs.declared.unrolling.Turn.{Turn}
use Rattle.sve_generate.specs.declared.unrolling.Turn.TheVariants.{Ends, Goes}

-- what is said of a loop whose genvar has a value with x or z bits, or one that comes again
abbrev pub repeated : ℕ → List ℕ → Fault
repeated token genvar = fault_about token E14 genvar

-- so much more is spent
abbrev pub costs : {X : Type 0} → ℕ → Counted X → Counted X
costs n counted = (n + counted.0, counted.1)

-- with a value, or else its fault
abbrev pub given : {X Y : Type 0} → Result X Fault → (Fault → Counted Y) → (X → Counted Y) → Counted Y
given (Err fault) fails go = fails fault
given (Ok x) fails go = go x

-- the value, where it is known and has not been there
abbrev pub fresh : List ℤ → Option ℤ → Option ℤ
fresh seen None = None
fresh seen (Some value) = if list_any (int_eq value) seen then None else Some value

-- the values with one more behind them, where it has not been there
abbrev pub with_value : List ℤ → ℤ → List ℤ
with_value seen value = if list_any (int_eq value) seen then seen else seen ++ value ∷ []

abbrev pub fresh_or : {X : Type 0} → Option ℤ → X → (ℤ → X) → X
fresh_or None again go = again
fresh_or (Some value) again go = go value

-- how a turn ends
abbrev pub ends : Result (List ℤ) Fault → Counted Turn
ends end = (0, Ends end)

-- A turn of a loop: a value that has x or z bits or comes again is a fault. Where the condition holds, the next value follows; else those that were there
-- are all, and each counts one.
abbrev pub turn : (ℤ → Counted (Result Bool Fault)) → (ℤ → Counted (Result (Option ℤ) Fault)) → Fault → List ℤ → Option ℤ → Counted Turn
turn goes steps again seen value = fresh_or (fresh seen value) (ends (Err again)) (λ v.
    costs (goes v).0 (given (goes v).1 (λ fault. ends (Err fault)) (λ on.
    if on then costs (steps v).0 (given (steps v).1 (λ fault. ends (Err fault)) (λ next. (0, Goes v next))) else (length seen, Ends (Ok seen)))))

-- what follows a turn
abbrev pub go_on : Counted Turn → (ℤ → Option ℤ → Counted (Result (List ℤ) Fault)) → Counted (Result (List ℤ) Fault)
go_on (n, Ends end) rest = (n, end)
go_on (n, Goes value next) rest = costs n (rest value next)

-- the turns from a value on, of which there are at most so many as the number says
unfoldable pub turns : ℕ → (ℤ → Counted (Result Bool Fault)) → (ℤ → Counted (Result (Option ℤ) Fault)) → Fault → List ℤ → Option ℤ → Counted (Result (List ℤ) Fault)
turns zero goes steps again seen value = (0, Err again)
turns (suc more) goes steps again seen value = go_on (turn goes steps again seen value) (λ v next. turns more goes steps again (seen ++ v ∷ []) next)

-- the whole loop: there are no more values than 32 bits have
abbrev pub unrolled : Counted (Result (Option ℤ) Fault) → (ℤ → Counted (Result Bool Fault)) → (ℤ → Counted (Result (Option ℤ) Fault)) → Fault → Counted (Result (List ℤ) Fault)
unrolled starts goes steps again = costs starts.0 (given starts.1 (λ fault. (0, Err fault)) (turns 4294967296 goes steps again []))
