-- A watch before a call and after it.
use Rattle.std.proofs.Common.{◌≡◌, ℕ, List, ◌∷◌, ◌++◌, length, drop, Option, None, sym, ap, ◌∙◌, subst}
use Rattle.std.proofs.lemmas.List.{append-nil}
use Rattle.std.proofs.lemmas.List.Elements.{filter-append}
use Rattle.std.proofs.Math.Seq.{drop-append_seam}
use Rattle.std.specs.Prelude.{nat_lt, IfOk, IfErr, OnOk, Result, Ok, Err}
use Rattle.sve_io.specs.declared.halt.Halt.{Halt}
use Rattle.sve_io.specs.declared.halt.Halt.TheVariants.{Stopped, NoMemory}
use Rattle.sve_store.specs.Told.{HasStopped}
use Rattle.sve_ask.specs.Watched.{look_gives, HasCause}
use Rattle.sve_reader.specs.Noted.{above, since, TellsSeen}

-- a guard that was handed to a call has its revision still, and the call was given these numbers more
pub record Handed (r : ℕ) (given : List ℕ) (r_now : ℕ) (begun now more : List ℕ) : Type 0 where
  pub revision : r_now ≡ r
  pub gave : now ≡ given ++ more
  pub told : since begun now ≡ more

fronts : (a b c d : ℕ) (xs ys : List ℕ) → a ∷ c ∷ xs ≡ b ∷ d ∷ ys → (a ≡ b) × (c ≡ d) × (xs ≡ ys)
fronts a b c d xs ys is = (cc, cc, cc)

-- what stands in front of its numbers tells so
pub handed : (r : ℕ) (begun given : List ℕ) (r_now : ℕ) (begun_now now more : List ℕ) → begun ≡ given → r_now ∷ length begun_now ∷ now ≡ (r ∷ length begun ∷ given) ++ more → Handed r given r_now begun_now now more
handed r begun given r_now begun_now now more start is =
    let parts = fronts r_now r (length begun_now) (length begun) now (given ++ more) is in
    let same : length begun_now ≡ length given = parts.1 ∙ ap length start in
    record {
      revision = parts.0;
      gave = parts.2;
      told = ap (λ (n : ℕ). drop n now) same ∙ ap (drop (length given)) parts.2 ∙ drop-append_seam given more;
    }

-- the cause of a call, over what was given in it
pub cause_since : {A : Type 0} (r : ℕ) (given : List ℕ) (r_now : ℕ) (begun now more : List ℕ) → Handed r given r_now begun now more → (came : Result A Halt) → HasCause came r more → HasCause came r_now (since begun now)
cause_since r given r_now begun now more handed came cause =
    subst (λ (n : ℕ). HasCause came n (since begun now)) (sym handed.revision) (subst (λ (l : List ℕ). HasCause came r l) (sym handed.told) cause)

-- what is above the revision grew by what was noted
pub grown : (r : ℕ) (old : List ℕ) (r_begun : ℕ) (given : List ℕ) (r_now : ℕ) (begun now more : List ℕ) → Handed r_begun given r_now begun now more → r_begun ≡ r → given ≡ old
    → (seen : Option ℕ) → above r_now (since begun now) ≡ look_gives seen → above r now ≡ above r old ++ look_gives seen
grown r old r_begun given r_now begun now more handed same start seen noted =
    let here : above r more ≡ look_gives seen = ap (above r) (sym handed.told) ∙ ap (λ (n : ℕ). above n (since begun now)) (sym (handed.revision ∙ same)) ∙ noted in
    ap (above r) handed.gave ∙ filter-append (nat_lt r) given more ∙ ap (λ (l : List ℕ). above r l ++ above r more) start ∙ ap (λ (l : List ℕ). above r old ++ l) here

stopped_by : (before now : List ℕ) (seen : Option ℕ) (halt : Halt) → now ≡ before ++ look_gives seen → TellsSeen seen halt → HasStopped before now halt
stopped_by before now seen (Stopped n) is tells = is ∙ ap (λ (o : Option ℕ). before ++ look_gives o) tells
stopped_by before now seen NoMemory is tells = tt

-- a call was stopped by what was noted
pub stopped_seen : {A : Type 0} (result : Result A Halt) (before now : List ℕ) (seen : Option ℕ) → now ≡ before ++ look_gives seen → IfErr result (TellsSeen seen) → IfErr result (HasStopped before now)
stopped_seen (Ok x) before now seen is tells = tt
stopped_seen (Err halt) before now seen is tells = stopped_by before now seen halt is tells

-- and went on where nothing was
pub went_on : {A : Type 0} (result : Result A Halt) (before now : List ℕ) (seen : Option ℕ) → now ≡ before ++ look_gives seen → OnOk result (seen ≡ None) → OnOk result (now ≡ before)
went_on (Ok x) before now seen is none = is ∙ ap (λ (o : Option ℕ). before ++ look_gives o) none ∙ append-nil before
went_on (Err halt) before now seen is none = tt

-- what is said of a value that is handed on
pub ok_same : {A : Type 0} (result came : Result A Halt) (P R : A → Type 0) → IfOk result (λ v. came ≡ Ok v) → IfOk came P → ((v : A) → P v → R v) → IfOk result R
ok_same (Ok v) came P R same is f = f v (subst (λ (o : Result _ Halt). IfOk o P) same is)
ok_same (Err halt) came P R same is f = tt
