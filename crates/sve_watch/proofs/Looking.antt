-- A pass of which the looks alone grew, as its watch tells.
use Rattle.std.proofs.Common.{◌≡◌, ℕ, Bool, true, false, cond, List, [], ◌∷◌, ◌++◌, ltb, ap, sym, ◌∙◌, subst}
use Rattle.std.specs.Prelude.{Result, Ok, Err, IfOk, IfErr, OnOk}
use Rattle.sve_io.specs.declared.halt.Halt.{Halt}
use Rattle.sve_io.specs.declared.halt.Halt.TheVariants.{Stopped, NoMemory}
use Rattle.sve_board.specs.Values.{PassValue}
use Rattle.sve_store.specs.Told.{HasStopped}
use Rattle.sve_ask.specs.Watched.{GaveMore}
use Rattle.sve_reader.specs.Noted.{above}
use Rattle.sve_watch.specs.Looks.{HasLooked, newer_than}

-- what the watch gave before is given still: it is of the same pass, whose looks grew
pub record HasGone (name : ℕ) (before : List ℕ) (name' : ℕ) (now : List ℕ) : Type 0 where
  pub same : name' ≡ name
  pub more : List ℕ
  pub grown : before ++ more ≡ now

pub gone : (name : ℕ) (before : List ℕ) (name' : ℕ) (now : List ℕ) → GaveMore (name ∷ before) (name' ∷ now) → HasGone name before name' now
gone name before name' now gave =
    let whole : name' ∷ now ≡ name ∷ (before ++ gave.0) = gave.1 in
    record { same = cc; more = gave.0; grown = cc }

pub has_looked : (begun before now : PassValue) (name name' : ℕ) → before ≡ begun → now ≡ record begun { looks = now.looks } → HasGone name before.looks name' now.looks → HasLooked before now
has_looked begun before now name name' same is went = record {
  table = ap (λ (p : PassValue). p.table) is ∙ ap (λ (p : PassValue). p.table) (sym same);
  number = ap (λ (p : PassValue). p.number) is ∙ ap (λ (p : PassValue). p.number) (sym same);
  seen = ap (λ (p : PassValue). p.seen) is ∙ ap (λ (p : PassValue). p.seen) (sym same);
  mine = ap (λ (p : PassValue). p.mine) is ∙ ap (λ (p : PassValue). p.mine) (sym same);
  raises = ap (λ (p : PassValue). p.raises) is ∙ ap (λ (p : PassValue). p.raises) (sym same);
  looks = (went.more, went.grown);
}

-- behind the same number in front
behind : (b : Bool) (name : ℕ) (xs ys more : List ℕ) → cond b (name ∷ ys) ys ≡ cond b (name ∷ xs) xs ++ more → ys ≡ xs ++ more
behind true name xs ys more e = let whole : name ∷ ys ≡ name ∷ (xs ++ more) = e in cc
behind false name xs ys more e = e

same_behind : (b : Bool) (name : ℕ) (xs ys : List ℕ) → cond b (name ∷ ys) ys ≡ cond b (name ∷ xs) xs → ys ≡ xs
same_behind true name xs ys e = let whole : name ∷ ys ≡ name ∷ xs = e in cc
same_behind false name xs ys e = e

module _ (r name : ℕ) (before now : List ℕ) where
  stopped_by : (halt : Halt) → HasStopped (above r (name ∷ before)) (above r (name ∷ now)) halt → HasStopped (newer_than r before) (newer_than r now) halt
  stopped_by (Stopped n) told = behind (ltb r name) name (newer_than r before) (newer_than r now) (n ∷ []) told
  stopped_by NoMemory told = tt

  -- what stopped the call is a look of it
  pub stopped_over : {A : Type 0} (result : Result A Halt) → IfErr result (HasStopped (above r (name ∷ before)) (above r (name ∷ now))) → IfErr result (HasStopped (newer_than r before) (newer_than r now))
  stopped_over (Ok x) told = tt
  stopped_over (Err halt) told = stopped_by halt told

  -- and where nothing stopped it, none is above the revision
  pub went_over : {A : Type 0} (result : Result A Halt) → OnOk result (above r (name ∷ now) ≡ above r (name ∷ before)) → OnOk result (newer_than r now ≡ newer_than r before)
  went_over (Ok x) told = same_behind (ltb r name) name (newer_than r before) (newer_than r now) told
  went_over (Err halt) told = tt

-- a call that was handed the pass before as the watch's first, and whose watch let it go as its second
module _ (begun before first second after : PassValue) (name name' : ℕ) (handed : first ≡ before) (begins : before ≡ begun) (kept : second ≡ record begun { looks = second.looks }) (went : HasGone name first.looks name' second.looks)
    (last : after ≡ second) where
  pub looked_through : HasLooked before after
  looked_through = subst (HasLooked before) (sym last) (subst (λ (p : PassValue). HasLooked p second) handed (has_looked begun first second name name' (handed ∙ begins) kept went))

  module _ (r : ℕ) {A : Type 0} (result : Result A Halt) where
    pub stopped_through : IfErr result (HasStopped (above r (name ∷ first.looks)) (above r (name' ∷ second.looks))) → IfErr result (HasStopped (newer_than r before.looks) (newer_than r after.looks))
    stopped_through told =
        let one = subst (λ (n : ℕ). IfErr result (HasStopped (above r (name ∷ first.looks)) (above r (n ∷ second.looks)))) went.same told in
        let two = stopped_over r name first.looks second.looks result one in
        subst (λ (p : PassValue). IfErr result (HasStopped (newer_than r before.looks) (newer_than r p.looks))) (sym last)
        (subst (λ (p : PassValue). IfErr result (HasStopped (newer_than r p.looks) (newer_than r second.looks))) handed two)

    pub went_through : OnOk result (above r (name' ∷ second.looks) ≡ above r (name ∷ first.looks)) → OnOk result (newer_than r after.looks ≡ newer_than r before.looks)
    went_through told =
        let one = subst (λ (n : ℕ). OnOk result (above r (n ∷ second.looks) ≡ above r (name ∷ first.looks))) went.same told in
        let two = went_over r name first.looks second.looks result one in
        subst (λ (p : PassValue). OnOk result (newer_than r p.looks ≡ newer_than r before.looks)) (sym last)
        (subst (λ (p : PassValue). OnOk result (newer_than r second.looks ≡ newer_than r p.looks)) handed two)

-- what holds of a result that is there
pub told_ok : {A E : Type 0} (result : Result A E) (x : A) (P : A → Type 0) → result ≡ Ok x → IfOk result P → P x
told_ok (Ok y) x P is holds = let same : y ≡ x = cc in subst P same holds
told_ok (Err e) x P is holds = absurd (cc)
