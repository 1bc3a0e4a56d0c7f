-- What asking for a package comes to.
use Rattle.std.proofs.Common.{◌≡◌, ℕ, Bool, true, false, List, refl}
use Rattle.sve_index.specs.declared.whole.Index.{Index}
use Rattle.sve_known.specs.Packages.{Known}
use Rattle.sve_plan.specs.Plan.{Give, and_then, ask}
use Rattle.sve_look.specs.Questions.{PackageOf}
use Rattle.sve_unit_scope.specs.Packages.{is_sought, with_facts, with_package}

module _ (index : Index) (n : List ℕ) (known : List Known) (seek : Bool) where
  pub not_sought : seek ≡ is_sought index known n → seek ≡ false → with_package index n known ≡ Give known
  not_sought is so = rw (← is, so) refl

  pub sought : seek ≡ is_sought index known n → seek ≡ true → with_package index n known ≡ and_then (ask (PackageOf n)) (λ facts. Give (with_facts known n facts))
  sought is so = rw (← is, so) refl
