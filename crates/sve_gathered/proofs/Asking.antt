-- A call that asks for a text passes as one that asks for inputs, and so does one that asks for the names.
use Rattle.std.proofs.Common.{◌≡◌, ℕ, List, Option, ap}
use Rattle.sve_key.specs.declared.key.Key.{Key}
use Rattle.sve_key.specs.declared.key.Key.TheVariants.{Text, Names}
use Rattle.sve_key.specs.declared.value.Value.{Value}
use Rattle.sve_make.specs.Make.{input_of}
use Rattle.sve_kinds.specs.Passes.{Passes, passes_wider}
use Rattle.sve_gathered.specs.Gathered.{IsInput}

module _ {F : Type 0} {tells : F → Key → ℕ → Value → Type 0} {keeps : F → F → Type 0} {quiet : F → Key → ℕ → Type 0} {count : F → ℕ} {halted : F → Option Key} where
  pub as_input : {name : List ℕ} {old new : F} → Passes tells keeps quiet count halted (λ j. j ≡ Text name) old new → Passes tells keeps quiet count halted IsInput old new
  as_input p = passes_wider (λ j is. ap input_of is) p

  pub names_input : {old new : F} → Passes tells keeps quiet count halted (λ j. j ≡ Names) old new → Passes tells keeps quiet count halted IsInput old new
  names_input p = passes_wider (λ j is. ap input_of is) p
