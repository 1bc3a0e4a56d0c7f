-- What a construct comes to, by what was found on the way.
use Rattle.std.proofs.Common.{◌≡◌, ℕ, ℤ, List, Option, None, Result, Ok, Err, refl, ap, sym, ◌∙◌}
use Rattle.std.specs.List.{flat_map}
use Rattle.sve_fault.specs.declared.fault.Fault.{Fault}
use Rattle.sve_rule.specs.Judged.{Judged}
use Rattle.sve_tree.specs.declared.item.LoopGenerate.{LoopGenerate}
use Rattle.sve_tree.specs.declared.expression.Expr.{Expr}
use Rattle.sve_env.specs.Told.{Told}
use Rattle.sve_item_names.specs.declared.name.ItemName.{ItemName}
use Rattle.sve_generate.specs.Loops.{repeated, unrolled}
use Rattle.sve_genvar.specs.Genvar.{with_genvar}
use Rattle.sve_genvar.specs.Steps.{after_step, continued, started}
use Rattle.sve_choice.specs.Conditions.{fault_in, faults_in}
use Rattle.sve_plan.specs.Plan.{Counted}
use Rattle.sve_body.specs.Steps.{Steps}
use Rattle.sve_body.specs.Items.{say_all}
use Rattle.sve_body.specs.Body.{begun, fault_list, label_fault_of}
use Rattle.sve_body_construct.specs.Parts.{values_of}

-- the fault of a condition, where it has one
pub same_faults : (judged : Judged) → fault_list (fault_in judged) ≡ faults_in judged
same_faults (Ok a) = refl
same_faults (Err fault) = refl

module _ {S : Type 0} (steps : Steps S) where
  -- ---- a construct that begins

  pub begun_is : (outer : Option ℕ) (names : List ItemName) (s t : S) (number : ℕ) (faults : List Fault) → outer ≡ None → number ≡ steps.next_number s → faults ≡ flat_map (label_fault_of steps number s) names → t ≡ steps.count_construct names s → say_all steps faults t ≡ begun steps outer names s
  begun_is outer names s t number faults alone n f c =
      ap (λ (fs : List Fault). say_all steps fs t) (f ∙ ap (λ k. flat_map (label_fault_of steps k s) names) n) ∙ ap (λ (u : S). say_all steps (flat_map (label_fault_of steps (steps.next_number s) s) names) u) c
      ∙ ap (λ (o : Option ℕ). begun steps o names s) (sym alone)

  -- ---- the values of a loop, by what is known where it stands

  abbrev pub values_with : Told → List ℕ → Expr → Expr → LoopGenerate → Counted (Result (List ℤ) Fault)
  values_with m genvar start condition c =
      unrolled (started m start) (λ value. continued (with_genvar genvar value m) condition) (λ value. after_step (with_genvar genvar value m) genvar value c.step) (repeated c.keyword genvar)

  pub values_are : (c : LoopGenerate) (s : S) (m : Told) (genvar : List ℕ) (start condition : Expr) → m ≡ steps.told s → genvar ≡ m.text c.name → start ≡ c.start.value → condition ≡ c.condition.value → values_with m genvar start condition c ≡ values_of steps c s
  values_are c s m genvar start condition known named first test =
      ap (λ (x : List ℕ). values_with m x start condition c) named ∙ ap (λ (x : Expr). values_with m (m.text c.name) x condition c) first ∙ ap (λ (x : Expr). values_with m (m.text c.name) c.start.value x c) test
      ∙ ap (λ (k : Told). values_with k (k.text c.name) c.start.value c.condition.value c) known
