-- A first step is sought from one scope after the other.
use Rattle.std.proofs.Common.{◌≡◌, ℕ, suc, Bool, true, false, not, ◌||◌, cond, Option, Some, None, List, ◌∷◌, refl, ap, sym, ◌∙◌, ◌⊎◌, inl, inr}
use Rattle.std.specs.Prelude.{flat_map, find, is_some, option_and_then}
use Rattle.std.specs.Option.{option_or}
use Rattle.std.proofs.lemmas.List.Folds.{find-append}
use Rattle.sve_bytes.specs.declared.path.Path.{Path}
use Rattle.sve_bytes.specs.declared.path.Step.{Step}
use Rattle.sve_hier.specs.Places.{Places, is_place, is_instance, module_at}
use Rattle.sve_hier.specs.Names.{front, beginnings, searched, is_any, names, leads, found}

some_of : {A B : Type 0} (f : A → Option B) (o : Option A) → is_some (option_and_then f o) ≡ true → is_some o ≡ true
some_of f None e = e
some_of f (Some x) e = refl

any_of : {A : Type 0} (test : A → Bool) (o : Option A) → is_any test o ≡ true → is_some o ≡ true
any_of test None e = cc
any_of test (Some x) e = refl

-- what a step names stands there
pub named_stands : (at : Places) (s : Step) (p : Path) → names at s p ≡ true → is_place at p ≡ true
named_stands at s p e = some_of _ (at p) (any_of _ (module_at at p) e)

module _ (at : Places) (s : Step) where
  -- all to which the step may lead from some paths on
  abbrev from : Bool → List Path → Option Path
  from own ps = find (is_place at) (flat_map (leads at s) (searched at own ps))

  -- a scope that is searched, and the next ones
  opened : (own b : Bool) (p : Path) (ps : List Path) → is_instance at p ≡ b → (b || own) ≡ true → from own (p ∷ ps) ≡ option_or (find (is_place at) (leads at s p)) (from (not b) ps)
  opened own true p ps e w =
      ap (λ (c : Bool). find (is_place at) (flat_map (leads at s) (cond c (p ∷ searched at false ps) (cond own (p ∷ searched at true ps) (searched at false ps))))) e
      ∙ find-append (is_place at) (leads at s p) (flat_map (leads at s) (searched at false ps))
  opened true false p ps e w =
      ap (λ (c : Bool). find (is_place at) (flat_map (leads at s) (cond c (p ∷ searched at false ps) (p ∷ searched at true ps)))) e
      ∙ find-append (is_place at) (leads at s p) (flat_map (leads at s) (searched at true ps))
  opened false false p ps e w = cc

  next_scope : (path : Path) (n m : ℕ) (own : Bool) (p : Path) → n ≡ suc m → p ≡ front path n → (is_instance at p || own) ≡ true → found at path n own s ≡ option_or (find (is_place at) (leads at s p)) (found at path m (not (is_instance at p)) s)
  next_scope path n m own p e is w =
      ap (λ (k : ℕ). from own (beginnings path k)) e
      ∙ ap (λ (q : Path). from own (q ∷ beginnings path m)) (sym (is ∙ ap (front path) e))
      ∙ opened own (is_instance at p) p (beginnings path m) refl w

  -- it is found from this scope
  pub found_here : (path : Path) (n m : ℕ) (own : Bool) (p x : Path) → n ≡ suc m → p ≡ front path n → (is_instance at p || own) ≡ true → Some x ≡ find (is_place at) (leads at s p) → Some x ≡ found at path n own s
  found_here path n m own p x e is w f =
      sym (next_scope path n m own p e is w ∙ ap (λ (o : Option Path). option_or o (found at path m (not (is_instance at p)) s)) (sym f))

  -- it is not, and sought on
  pub found_further : (path : Path) (n m : ℕ) (own : Bool) (p : Path) → n ≡ suc m → p ≡ front path n → (is_instance at p || own) ≡ true → None ≡ find (is_place at) (leads at s p) → found at path m (not (is_instance at p)) s ≡ found at path n own s
  found_further path n m own p e is w f =
      sym (next_scope path n m own p e is w ∙ ap (λ (o : Option Path). option_or o (found at path m (not (is_instance at p)) s)) (sym f))

  -- a block of a parent is passed by
  pub passed_by : (path : Path) (n m : ℕ) (p : Path) → n ≡ suc m → p ≡ front path n → is_instance at p ≡ false → found at path m false s ≡ found at path n false s
  passed_by path n m p e is w =
      sym (ap (λ (k : ℕ). from false (beginnings path k)) e
      ∙ ap (λ (q : Path). from false (q ∷ beginnings path m)) (sym (is ∙ ap (front path) e))
      ∙ ap (λ (c : Bool). find (is_place at) (flat_map (leads at s) (cond c (p ∷ searched at false (beginnings path m)) (searched at false (beginnings path m))))) w)

-- a scope that is not passed by is searched
pub is_searched : (b own : Bool) → ((b ≡ false) × (own ≡ true)) ⊎ (b ≡ true) → (b || own) ≡ true
is_searched true own w = refl
is_searched false own (inl e) = e.1
is_searched false own (inr e) = cc
