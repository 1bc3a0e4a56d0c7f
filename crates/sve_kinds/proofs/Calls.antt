-- What is told before a call is told behind it, and what a definition makes of it.
use Rattle.std.proofs.Common.{◌≡◌, ◌⊎◌, ℕ, List, Option, Some, None, Result, Ok, Err, IfOk, OnOk, refl, sym, ap, ◌∙◌, inl, inr}
use Rattle.sve_told.specs.Seen.{seen_halted}
use Rattle.sve_store.specs.Made.{Made, Needs}
use Rattle.sve_store.specs.Told.{Matches, TellSame}
use Rattle.sve_key.specs.declared.key.Key.{Key}
use Rattle.sve_key.specs.declared.value.Value.{Value}
use Rattle.sve_key.specs.declared.key.Key.TheVariants.{Text}
use Rattle.sve_kinds.specs.Passes.{Passes, passes_wider}
use Rattle.sve_kinds.specs.Asked.{HoldsFree, IsAny, IsText, IsUntold, name_of}
use Rattle.sve_make.specs.Make.{with_key}

module _ (told : Key → Option Value) (old new : Key → ℕ → Value → Type 0) (same : TellSame old new) where
  pub holds_on : HoldsFree told old → HoldsFree told new
  holds_on h k v is = h k v ((same k 0 v).1 is)

  pub matches_on : Matches told old → Matches told new
  matches_on m k fuel v = (λ is. (m k fuel v).0 ((same k fuel v).1 is), λ is. (same k fuel v).0 ((m k fuel v).1 is))

pub matches_free : (told : Key → Option Value) (tells : Key → ℕ → Value → Type 0) → Matches told tells → HoldsFree told tells
matches_free told tells m k v is = (m k 0 v).0 is

none_by : (o : Option Value) → ((v : Value) → o ≡ Some v → ⊥) → o ≡ None
none_by None h = refl
none_by (Some v) h = absurd (h v refl)

pub none_told : (told : Key → Option Value) (tells : Key → ℕ → Value → Type 0) (k : Key) → Matches told tells → ((fuel : ℕ) (v : Value) → tells k fuel v → ⊥) → told k ≡ None
none_told told tells k m never = none_by (told k) (λ v is. never 0 v ((m k 0 v).1 is))

-- where a call for a key halted, it failed, and it is that key, of which nothing is told
pub missing : {E : Type 0} (told : Key → Option Value) (tells : Key → ℕ → Value → Type 0) (before : Option Key) (k j : Key) → Matches told tells → before ≡ None → (before ≡ Some j) ⊎ (E × (j ≡ k) × ((fuel : ℕ) (v : Value) → tells k fuel v → ⊥)) → E × IsUntold told k j
missing told tells before k j m none (inl is) = absurd (let e : None ≡ Some j = sym none ∙ is in cc)
missing told tells before k j m none (inr at) = (at.0, (at.1, none_told told tells k m at.2))

module _ {W : Type 0} (told : Key → Option Value) (k : Key) (rest : Value → Made Key W) where
  pub goes_on : (v : Value) → told k ≡ Some v → with_key k (told k) rest ≡ rest v
  goes_on v is = ap (λ (o : Option Value). with_key k o rest) is

  pub needs_key : told k ≡ None → with_key k (told k) rest ≡ Needs k
  needs_key is = ap (λ (o : Option Value). with_key k o rest) is

  pub needs_this : (j : Key) → IsUntold told k j → with_key k (told k) rest ≡ Needs j
  needs_this j is = needs_key is.1 ∙ ap Needs (sym is.0)

-- a call that went well halted nowhere
pub never_halted : {A : Type 0} (before after : Option Key) (j : Key) → before ≡ None → after ≡ before → after ≡ Some j → A
never_halted before after j none calm is = let e : None ≡ Some j = sym none ∙ sym calm ∙ is in cc

-- a call that asks for one key passes as one that asks for any, and one that asks for the key of a text as one that asks for such keys
module _ {F : Type 0} {tells : F → Key → ℕ → Value → Type 0} {keeps : F → F → Type 0} {quiet : F → Key → ℕ → Type 0} {count : F → ℕ} {halted : F → Option Key} where
  pub as_any : {asked : Key → Type 0} {old new : F} → Passes tells keeps quiet count halted asked old new → Passes tells keeps quiet count halted IsAny old new
  as_any p = passes_wider (λ j is. tt) p

  pub as_text : {name : List ℕ} {old new : F} → Passes tells keeps quiet count halted (λ j. j ≡ Text name) old new → Passes tells keeps quiet count halted IsText old new
  as_text {name = name} p = passes_wider (λ j is. (name, is)) p

-- the second of two keys that are needed is not told
pub then_needs : {W : Type 0} (told : Key → Option Value) (k l : Key) (rest : Value → Value → Made Key W) (v : Value) (j : Key) → told k ≡ Some v → IsUntold told l j → with_key k (told k) (λ v. with_key l (told l) (rest v)) ≡ Needs j
then_needs told k l rest v j is un = goes_on told k (λ v. with_key l (told l) (rest v)) v is ∙ needs_this told l (rest v) j un

-- what holds where a call went well
pub if_ok : {R E : Type 0} {P Q : R → Type 0} (r : Result R E) → ((x : R) → P x → Q x) → IfOk r P → IfOk r Q
if_ok (Ok x) f p = f x p
if_ok (Err e) f p = tt

pub on_ok : {R E : Type 0} {P Q : Type 0} (r : Result R E) → (P → Q) → OnOk r P → OnOk r Q
on_ok (Ok x) f p = f p
on_ok (Err e) f p = tt

-- a call that asks for texts alone, and halted at none, halted nowhere
pub not_halted : (before after : Option Key) → ((j : Key) → after ≡ Some j → (before ≡ Some j) ⊎ IsText j) → before ≡ None → seen_halted name_of after ≡ seen_halted name_of before → after ≡ None
not_halted before None only none same = refl
not_halted before (Some j) only none same =
    elim (only j refl) [
      | inl is ↦ absurd (let e : None ≡ Some j = sym none ∙ is in cc)
      | inr text ↦ absurd (let e : Some text.0 ≡ None = sym (ap name_of text.1) ∙ same ∙ ap (seen_halted name_of) none in cc)
    ]
