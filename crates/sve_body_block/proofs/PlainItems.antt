-- Items that ask nothing and hold no others.
use Rattle.std.specs.Global.{Box}
use Rattle.std.proofs.Common.{ℕ, Option, ◌≡◌, ◌⊎◌, inl, inr, refl, sym, subst}
use Rattle.sve_tree.specs.declared.declaration.Import.{Import}
use Rattle.sve_tree.specs.declared.declaration.Parameters.{Parameters}
use Rattle.sve_tree.specs.declared.declaration.Typedef.{Typedef}
use Rattle.sve_tree.specs.declared.statement.Func.{Func}
use Rattle.sve_tree.specs.declared.item.GenvarDeclaration.{GenvarDeclaration}
use Rattle.sve_tree.specs.declared.declaration.NetDeclaration.{NetDeclaration}
use Rattle.sve_tree.specs.declared.declaration.VariableDeclaration.{VariableDeclaration}
use Rattle.sve_tree.specs.declared.declaration.DataDeclaration.{DataDeclaration}
use Rattle.sve_tree.specs.declared.item.ClockedProcedure.{ClockedProcedure}
use Rattle.sve_tree.specs.declared.item.PlainProcedure.{PlainProcedure}
use Rattle.sve_tree.specs.declared.item.ModportDeclaration.{ModportDeclaration}
use Rattle.sve_tree.specs.declared.statement.SystemTask.{SystemTask}
use Rattle.sve_tree.specs.declared.item.Item.{Item}
use Rattle.sve_tree.specs.declared.item.Item.TheVariants as is_item
use Rattle.sve_body.specs.Steps.{Steps}
use Rattle.sve_body.specs.Items.{done, plain_item}
use Rattle.sve_body.specs.Body.{item}

-- an item is one of these
abbrev pub IsPlain : Item → Type 0
IsPlain i = ((x : ℕ) × (i ≡ is_item.Empty x)) ⊎ (((x : Box Import) × (i ≡ is_item.Import x)) ⊎ (((x : Box Parameters) × (i ≡ is_item.Parameters x)) ⊎ (((x : Box Typedef) × (i ≡ is_item.Typedef x)) ⊎ (((x : Box Func) × (i ≡ is_item.Function x)) ⊎ (((x : Box GenvarDeclaration) × (i ≡ is_item.Genvars x)) ⊎ (((x : Box NetDeclaration) × (i ≡ is_item.Net x)) ⊎ (((x : Box VariableDeclaration) × (i ≡ is_item.Variable x)) ⊎ (((x : Box DataDeclaration) × (i ≡ is_item.Data x)) ⊎ (((x : Box ClockedProcedure) × (i ≡ is_item.Clocked x)) ⊎ (((x : Box PlainProcedure) × (i ≡ is_item.Plain x)) ⊎ (((x : Box ModportDeclaration) × (i ≡ is_item.Modports x)) ⊎ (((x : Box SystemTask) × (i ≡ is_item.SystemTask x))))))))))))))

module _ {S : Type 0} (steps : Steps S) (outer : Option ℕ) (s : S) where
  of_empty : (i : Item) (x : ℕ) → i ≡ is_item.Empty x → item steps outer i s ≡ done (plain_item steps i s)
  unfolding item
  of_empty i x is = subst (λ (v : Item). item steps outer v s ≡ done (plain_item steps v s)) (sym is) refl

  of_import : (i : Item) (x : Box Import) → i ≡ is_item.Import x → item steps outer i s ≡ done (plain_item steps i s)
  unfolding item
  of_import i x is = subst (λ (v : Item). item steps outer v s ≡ done (plain_item steps v s)) (sym is) refl

  of_parameters : (i : Item) (x : Box Parameters) → i ≡ is_item.Parameters x → item steps outer i s ≡ done (plain_item steps i s)
  unfolding item
  of_parameters i x is = subst (λ (v : Item). item steps outer v s ≡ done (plain_item steps v s)) (sym is) refl

  of_typedef : (i : Item) (x : Box Typedef) → i ≡ is_item.Typedef x → item steps outer i s ≡ done (plain_item steps i s)
  unfolding item
  of_typedef i x is = subst (λ (v : Item). item steps outer v s ≡ done (plain_item steps v s)) (sym is) refl

  of_function : (i : Item) (x : Box Func) → i ≡ is_item.Function x → item steps outer i s ≡ done (plain_item steps i s)
  unfolding item
  of_function i x is = subst (λ (v : Item). item steps outer v s ≡ done (plain_item steps v s)) (sym is) refl

  of_genvars : (i : Item) (x : Box GenvarDeclaration) → i ≡ is_item.Genvars x → item steps outer i s ≡ done (plain_item steps i s)
  unfolding item
  of_genvars i x is = subst (λ (v : Item). item steps outer v s ≡ done (plain_item steps v s)) (sym is) refl

  of_net : (i : Item) (x : Box NetDeclaration) → i ≡ is_item.Net x → item steps outer i s ≡ done (plain_item steps i s)
  unfolding item
  of_net i x is = subst (λ (v : Item). item steps outer v s ≡ done (plain_item steps v s)) (sym is) refl

  of_variable : (i : Item) (x : Box VariableDeclaration) → i ≡ is_item.Variable x → item steps outer i s ≡ done (plain_item steps i s)
  unfolding item
  of_variable i x is = subst (λ (v : Item). item steps outer v s ≡ done (plain_item steps v s)) (sym is) refl

  of_data : (i : Item) (x : Box DataDeclaration) → i ≡ is_item.Data x → item steps outer i s ≡ done (plain_item steps i s)
  unfolding item
  of_data i x is = subst (λ (v : Item). item steps outer v s ≡ done (plain_item steps v s)) (sym is) refl

  of_clocked : (i : Item) (x : Box ClockedProcedure) → i ≡ is_item.Clocked x → item steps outer i s ≡ done (plain_item steps i s)
  unfolding item
  of_clocked i x is = subst (λ (v : Item). item steps outer v s ≡ done (plain_item steps v s)) (sym is) refl

  of_plain : (i : Item) (x : Box PlainProcedure) → i ≡ is_item.Plain x → item steps outer i s ≡ done (plain_item steps i s)
  unfolding item
  of_plain i x is = subst (λ (v : Item). item steps outer v s ≡ done (plain_item steps v s)) (sym is) refl

  of_modports : (i : Item) (x : Box ModportDeclaration) → i ≡ is_item.Modports x → item steps outer i s ≡ done (plain_item steps i s)
  unfolding item
  of_modports i x is = subst (λ (v : Item). item steps outer v s ≡ done (plain_item steps v s)) (sym is) refl

  of_task : (i : Item) (x : Box SystemTask) → i ≡ is_item.SystemTask x → item steps outer i s ≡ done (plain_item steps i s)
  unfolding item
  of_task i x is = subst (λ (v : Item). item steps outer v s ≡ done (plain_item steps v s)) (sym is) refl

  pub plain_is : (i : Item) → IsPlain i → item steps outer i s ≡ done (plain_item steps i s)
  plain_is i (inl is) = of_empty i is.0 is.1
  plain_is i (inr (inl is)) = of_import i is.0 is.1
  plain_is i (inr (inr (inl is))) = of_parameters i is.0 is.1
  plain_is i (inr (inr (inr (inl is)))) = of_typedef i is.0 is.1
  plain_is i (inr (inr (inr (inr (inl is))))) = of_function i is.0 is.1
  plain_is i (inr (inr (inr (inr (inr (inl is)))))) = of_genvars i is.0 is.1
  plain_is i (inr (inr (inr (inr (inr (inr (inl is))))))) = of_net i is.0 is.1
  plain_is i (inr (inr (inr (inr (inr (inr (inr (inl is)))))))) = of_variable i is.0 is.1
  plain_is i (inr (inr (inr (inr (inr (inr (inr (inr (inl is))))))))) = of_data i is.0 is.1
  plain_is i (inr (inr (inr (inr (inr (inr (inr (inr (inr (inl is)))))))))) = of_clocked i is.0 is.1
  plain_is i (inr (inr (inr (inr (inr (inr (inr (inr (inr (inr (inl is))))))))))) = of_plain i is.0 is.1
  plain_is i (inr (inr (inr (inr (inr (inr (inr (inr (inr (inr (inr (inl is)))))))))))) = of_modports i is.0 is.1
  plain_is i (inr (inr (inr (inr (inr (inr (inr (inr (inr (inr (inr (inr is)))))))))))) = of_task i is.0 is.1
