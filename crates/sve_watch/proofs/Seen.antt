-- The looks of a call, and which of them are above a revision.
use Rattle.std.proofs.Common.{◌≡◌, ℕ, ◌+◌, ◌<◌, ◌≤◌, Bool, true, false, cond, ltb, ◌⊎◌, inl, inr, suc, List, [], ◌∷◌, ◌++◌, length, drop, ap, sym, ◌∙◌, subst, ⊎_elim, arith, append_assoc, length-append}
use Rattle.std.specs.Prelude.{All, Contains, nat_lt}
use Rattle.std.proofs.lemmas.List.{append-nil, append_cancel_left}
use Rattle.std.proofs.lemmas.List.Elements.{All-nil, All-cons, All-push, filter-append, Contains-append_right, Contains-push}
use Rattle.std.proofs.lemmas.Bool.Decides.{leb_tells}
use Rattle.std.proofs.Math.Seq.{drop-append_seam}
use Rattle.sve_io.specs.declared.halt.Halt.{Halt}
use Rattle.sve_io.specs.declared.halt.Halt.TheVariants.{Stopped, NoMemory}
use Rattle.sve_board.specs.Values.{PassValue}
use Rattle.sve_store.specs.Told.{HasStopped}
use Rattle.sve_watch.specs.Looks.{looks_of, HasLooked, newer_than, SawNothingNewer, SawNewer, IsStopped}

-- the looks of a call, where it is known by what the looks grew
pub looks_are : (before after : PassValue) (more : List ℕ) → after.looks ≡ before.looks ++ more → looks_of before after ≡ more
looks_are before after more is = ap (drop (length before.looks)) is ∙ drop-append_seam before.looks more

above_or_not : (r look : ℕ) → ((ltb r look ≡ true) × (r < look)) ⊎ ((ltb r look ≡ false) × (look ≤ r))
above_or_not r look = elim (leb_tells (suc r) look) [ inl t ↦ inl (t.0, omega (arith, t.1)) | inr t ↦ inr (t.0, omega (arith, t.1)) ]

abbrev if_newer : Bool → ℕ → List ℕ → List ℕ
if_newer newer look others = cond newer (look ∷ others) others

none_newer : (r : ℕ) (looks : List ℕ) → newer_than r looks ≡ [] → All (λ look. look ≤ r) looks
none_newer r [] is = All-nil (λ look. look ≤ r)
none_newer r (look ∷ looks) is = ⊎_elim above (within (none_newer r looks)) (above_or_not r look)
  where
    above : (ltb r look ≡ true) × (r < look) → All (λ l. l ≤ r) (look ∷ looks)
    above t = absurd (let here : look ∷ newer_than r looks ≡ [] = ap (λ (b : Bool). if_newer b look (newer_than r looks)) (sym t.0) ∙ is in cc)

    within : (newer_than r looks ≡ [] → All (λ l. l ≤ r) looks) → (ltb r look ≡ false) × (look ≤ r) → All (λ l. l ≤ r) (look ∷ looks)
    within others t = All-cons (λ l. l ≤ r) look looks t.1 (others (ap (λ (b : Bool). if_newer b look (newer_than r looks)) (sym t.0) ∙ is))

one_newer : (r : ℕ) (looks : List ℕ) (n : ℕ) → newer_than r looks ≡ n ∷ [] → (r < n) × Contains looks n
one_newer r [] n is = absurd (cc)
one_newer r (look ∷ looks) n is = ⊎_elim above (within (one_newer r looks n)) (above_or_not r look)
  where
    above : (ltb r look ≡ true) × (r < look) → (r < n) × Contains (look ∷ looks) n
    above t =
        let here : look ∷ newer_than r looks ≡ n ∷ [] = ap (λ (b : Bool). if_newer b look (newer_than r looks)) (sym t.0) ∙ is in
        let same : look ≡ n = cc in
        (omega (arith, t.1), (0, omega arith, same))

    within : (newer_than r looks ≡ n ∷ [] → (r < n) × Contains looks n) → (ltb r look ≡ false) × (look ≤ r) → (r < n) × Contains (look ∷ looks) n
    within others t =
        let there = others (ap (λ (b : Bool). if_newer b look (newer_than r looks)) (sym t.0) ∙ is) in
        (there.0, Contains-append_right (look ∷ []) looks n there.1)

is_above : (r n : ℕ) → r < n → newer_than r (n ∷ []) ≡ n ∷ []
is_above r n lt = elim (above_or_not r n) [ inl t ↦ ap (λ (b : Bool). if_newer b n []) t.0 | inr t ↦ absurd (omega (arith, lt, t.1)) ]

-- the pass after one look more
abbrev pub with_look : PassValue → ℕ → PassValue
with_look pass n = record pass { looks = pass.looks ++ n ∷ [] }

-- what the looks of a call are that leave these above the revision
newer_looks : (r : ℕ) (before now : PassValue) (looked : HasLooked before now) (newer : List ℕ) → newer_than r now.looks ≡ newer_than r before.looks ++ newer → newer_than r looked.looks.0 ≡ newer
newer_looks r before now looked newer is =
    let more = looked.looks.0 in
    append_cancel_left (newer_than r before.looks) (newer_than r more) newer (sym (filter-append (nat_lt r) before.looks more) ∙ ap (newer_than r) looked.looks.1 ∙ is)

stopped_before : (r : ℕ) (before now : PassValue) (n : ℕ) → HasLooked before now → newer_than r now.looks ≡ newer_than r before.looks ++ n ∷ [] → SawNewer r before now n
stopped_before r before now n looked is =
    let one = one_newer r looked.looks.0 n (newer_looks r before now looked (n ∷ []) is) in
    record { newer = one.0; looked = subst (λ (l : List ℕ). Contains l n) (sym (looks_are before now looked.looks.0 (sym looked.looks.1))) one.1 }

pub is_stopped : (r : ℕ) (before now : PassValue) (halt : Halt) → HasLooked before now → HasStopped (newer_than r before.looks) (newer_than r now.looks) halt → IsStopped r before now halt
is_stopped r before now (Stopped n) looked is = stopped_before r before now n looked is
is_stopped r before now NoMemory looked is = tt

module _ (before now after : PassValue) (n : ℕ) (looked : HasLooked before now) (is : after ≡ with_look now n) where
  last_look : looks_of before after ≡ looked.looks.0 ++ n ∷ []
  last_look =
      looks_are before after (looked.looks.0 ++ n ∷ [])
      (ap (λ (pass : PassValue). pass.looks) is ∙ ap (λ (l : List ℕ). l ++ n ∷ []) (sym looked.looks.1) ∙ append_assoc before.looks looked.looks.0 (n ∷ []))

  pub stopped_last : (r : ℕ) → r < n → SawNewer r before after n
  stopped_last r lt = record { newer = lt; looked = subst (λ (l : List ℕ). Contains l n) (sym last_look) (Contains-push looked.looks.0 n) }

  pub saw_nothing : (r : ℕ) → newer_than r now.looks ≡ newer_than r before.looks → n ≤ r → SawNothingNewer r before after
  saw_nothing r same le =
      let none = none_newer r looked.looks.0 (newer_looks r before now looked [] (same ∙ sym (append-nil (newer_than r before.looks)))) in
      record {
        looked = subst (λ (l : List ℕ). 0 < length l) (sym last_look) (omega (arith, length-append looked.looks.0 (n ∷ [])));
        none = subst (All (λ look. look ≤ r)) (sym last_look) (All-push (λ look. look ≤ r) looked.looks.0 n none le);
      }

  pub first_above : (r : ℕ) → newer_than r now.looks ≡ newer_than r before.looks → r < n → newer_than r after.looks ≡ newer_than r before.looks ++ n ∷ []
  first_above r same lt =
      ap (λ (pass : PassValue). newer_than r pass.looks) is ∙ filter-append (nat_lt r) now.looks (n ∷ [])
      ∙ ap (λ (l : List ℕ). l ++ newer_than r (n ∷ [])) same ∙ ap (λ (l : List ℕ). newer_than r before.looks ++ l) (is_above r n lt)
