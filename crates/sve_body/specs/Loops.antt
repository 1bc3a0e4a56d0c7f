-- The values of a generate loop where it stands (IEEE 1800-2017, 27.4).
use Rattle.std.specs.Prelude.{ℕ, ℤ, List, Result}
use Rattle.sve_fault.specs.declared.fault.Fault.{Fault}
use Rattle.sve_tree.specs.declared.expression.Expr.{Expr}
use Rattle.sve_tree.specs.declared.item.GenvarStep.{GenvarStep}
use Rattle.sve_env.specs.Told.{Told}
use Rattle.sve_plan.specs.Plan.{Counted}
use Rattle.sve_generate.specs.Loops.{repeated, unrolled}
use Rattle.sve_genvar.specs.Genvar.{with_genvar}
use Rattle.sve_genvar.specs.Steps.{after_step, continued, started}

-- a value that has x or z bits or comes again is a fault at the `for` that names the genvar
abbrev pub loop_values : Told → ℕ → ℕ → Expr → Expr → GenvarStep → Counted (Result (List ℤ) Fault)
loop_values m keyword name start condition step =
    unrolled (started m start) (λ value. continued (with_genvar (m.text name) value m) condition) (λ value. after_step (with_genvar (m.text name) value m) (m.text name) value step) (repeated keyword (m.text name))
