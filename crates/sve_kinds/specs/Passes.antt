-- What a call that reads the values of keys leaves of the object that tells them (own).
use Rattle.std.specs.Prelude.{ℕ, ◌≡◌, ◌⊎◌, Option, Some, refl}
use Rattle.std.proofs.Common.{inl, inr, ◌∙◌}
use Rattle.sve_key.specs.declared.key.Key.{Key}
use Rattle.sve_key.specs.declared.value.Value.{Value}
use Rattle.sve_store.specs.Told.{TellSame}

-- It tells the same and is the same but for its notes; it computes nothing where all keys that are asked for are quiet; and where it halted, it did so
-- before, or at one of these keys.
pub record Passes {F : Type 0} (tells : F → Key → ℕ → Value → Type 0) (keeps : F → F → Type 0) (quiet : F → Key → ℕ → Type 0) (count : F → ℕ) (halted : F → Option Key) (asked : Key → Type 0) (old new : F) : Type 0 where
  pub same : TellSame (tells old) (tells new)
  pub kept : keeps old new
  pub stays : (j : Key) (fuel : ℕ) → quiet old j fuel → quiet new j fuel
  pub counted : ((j : Key) → asked j → quiet old j 0) → count new ≡ count old
  pub only : (j : Key) → halted new ≡ Some j → (halted old ≡ Some j) ⊎ asked j

only_on : {asked : Key → Type 0} {was is : Option Key} → ((j : Key) → is ≡ Some j → (was ≡ Some j) ⊎ asked j) → (j : Key) → (is ≡ Some j) ⊎ asked j → (was ≡ Some j) ⊎ asked j
only_on before j (inl is) = before j is
only_on before j (inr one) = inr one

wider_only : {asked more : Key → Type 0} {was : Option Key} → ((j : Key) → asked j → more j) → (j : Key) → (was ≡ Some j) ⊎ asked j → (was ≡ Some j) ⊎ more j
wider_only h j (inl is) = inl is
wider_only h j (inr one) = inr (h j one)

module _ {F : Type 0} {tells : F → Key → ℕ → Value → Type 0} {keeps : F → F → Type 0} {quiet : F → Key → ℕ → Type 0} {count : F → ℕ} {halted : F → Option Key} where
  -- an object passes as itself, and what passes on from what passes does so as well
  pub passes_itself : {asked : Key → Type 0} {from : F} → keeps from from → Passes tells keeps quiet count halted asked from from
  passes_itself kept = record {
    same = λ k fuel v. (λ told. told, λ told. told);
    kept = kept;
    stays = λ j fuel is. is;
    counted = λ all. refl;
    only = λ j is. inl is;
  }

  pub passes_on : {asked : Key → Type 0} {old now new : F} → (keeps old now → keeps now new → keeps old new) → Passes tells keeps quiet count halted asked old now → Passes tells keeps quiet count halted asked now new → Passes tells keeps quiet count halted asked old new
  passes_on keeps_on first second = record {
    same = λ k fuel v. (λ told. (second.same k fuel v).0 ((first.same k fuel v).0 told), λ told. (first.same k fuel v).1 ((second.same k fuel v).1 told));
    kept = keeps_on first.kept second.kept;
    stays = λ j fuel is. second.stays j fuel (first.stays j fuel is);
    counted = λ all. second.counted (λ j one. first.stays j 0 (all j one)) ∙ first.counted all;
    only = λ j is. only_on first.only j (second.only j is);
  }

  -- and so it does as one that asks for more keys
  pub passes_wider : {asked more : Key → Type 0} {old new : F} → ((j : Key) → asked j → more j) → Passes tells keeps quiet count halted asked old new → Passes tells keeps quiet count halted more old new
  passes_wider h p = record {
    same = p.same;
    kept = p.kept;
    stays = p.stays;
    counted = λ all. p.counted (λ j one. all j (h j one));
    only = λ j is. wider_only h j (p.only j is);
  }

  -- one call behind another, each for keys of its own
  pub passes_then : {asked more all : Key → Type 0} {old now new : F} → (keeps old now → keeps now new → keeps old new) → ((j : Key) → asked j → all j) → ((j : Key) → more j → all j) → Passes tells keeps quiet count halted asked old now → Passes tells keeps quiet count halted more now new → Passes tells keeps quiet count halted all old new
  passes_then keeps_on h g first second = passes_on keeps_on (passes_wider h first) (passes_wider g second)
