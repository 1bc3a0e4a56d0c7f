-- What a watch gave since a call began, and what of it is above a revision.
use Rattle.std.proofs.Common.{◌≡◌, ℕ, ◌<◌, ◌≤◌, Bool, true, false, cond, ltb, ◌⊎◌, inl, inr, suc, List, [], ◌∷◌, ◌++◌, length, Option, Some, None, sym, ap, ◌∙◌, arith}
use Rattle.std.proofs.lemmas.List.{drop-append-le}
use Rattle.std.proofs.lemmas.List.Elements.{filter-append}
use Rattle.std.proofs.lemmas.Bool.Decides.{leb_tells}
use Rattle.std.proofs.Math.Seq.{drop-length}
use Rattle.std.specs.Prelude.{nat_lt}
use Rattle.sve_io.specs.declared.halt.Halt.TheVariants.{Stopped}
use Rattle.sve_store.specs.Made.{IsOneOf}
use Rattle.sve_ask.specs.Watched.{look_gives, IsCaused}
use Rattle.sve_reader.specs.Noted.{above, since}

above_or_not : (r n : ℕ) → ((ltb r n ≡ true) × (r < n)) ⊎ ((ltb r n ≡ false) × (n ≤ r))
above_or_not r n = elim (leb_tells (suc r) n) [ inl t ↦ inl (t.0, omega (arith, t.1)) | inr t ↦ inr (t.0, omega (arith, t.1)) ]

-- nothing was given since now
pub none_since : (r : ℕ) (numbers : List ℕ) → above r (since numbers numbers) ≡ look_gives None
none_since r numbers = ap (above r) (drop-length numbers)

-- with one look more
pub since_more : (r : ℕ) (begun before now : List ℕ) (number : Option ℕ) → length begun ≤ length before → now ≡ before ++ look_gives number → above r (since begun before) ≡ [] → above r (since begun now) ≡ above r (look_gives number)
since_more r begun before now number later is none =
    ap (λ (l : List ℕ). above r (since begun l)) is ∙ ap (above r) (drop-append-le (length begun) before (look_gives number) later) ∙ filter-append (nat_lt r) (since begun before) (look_gives number)
    ∙ ap (λ (l : List ℕ). l ++ above r (look_gives number)) none

pub above_is : (r n : ℕ) → r < n → above r (look_gives (Some n)) ≡ look_gives (Some n)
above_is r n lt = elim (above_or_not r n) [ inl t ↦ ap (λ (b : Bool). cond b (n ∷ []) []) t.0 | inr t ↦ absurd (omega (arith, lt, t.1)) ]

pub above_not : (r n : ℕ) → n ≤ r → above r (look_gives (Some n)) ≡ []
above_not r n le = elim (above_or_not r n) [ inl t ↦ absurd (omega (arith, le, t.1)) | inr t ↦ ap (λ (b : Bool). cond b (n ∷ []) []) t.0 ]

-- where nothing is above the revision, none of the numbers is
pub none_above : (r : ℕ) (numbers : List ℕ) (n : ℕ) → above r numbers ≡ [] → r < n → IsOneOf numbers n → ⊥
none_above r [] n is lt there = there
none_above r (x ∷ numbers) n is lt there = elim (above_or_not r x) [
  | inl t ↦ (let here : x ∷ above r numbers ≡ [] = ap (λ (b : Bool). cond b (x ∷ above r numbers) (above r numbers)) (sym t.0) ∙ is in cc)
  | inr t ↦ (let rest : above r numbers ≡ [] = ap (λ (b : Bool). cond b (x ∷ above r numbers) (above r numbers)) (sym t.0) ∙ is in
      elim there [ inl same ↦ omega (arith, lt, t.1, same) | inr later ↦ none_above r numbers n rest lt later ])
]

-- a call that nothing stopped, though it has a cause to be stopped
pub not_caused : (r : ℕ) (numbers : List ℕ) (n : ℕ) → above r numbers ≡ look_gives None → IsCaused (Stopped n) r numbers → ⊥
not_caused r numbers n none caused = none_above r numbers n none caused.0 caused.1
