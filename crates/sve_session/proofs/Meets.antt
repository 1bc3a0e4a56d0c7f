-- A pass meets the whole log, and an entry of its own.
use Rattle.std.proofs.Common.{◌≡◌, ℕ, zero, suc, ◌+◌, ◌≤◌, ◌<◌, Bool, true, false, cond, leb, eqb, List, [], ◌∷◌, ◌++◌, length, drop, if◌then◌else◌, refl, ap, sym, ◌∙◌, subst, ⊎_elim, arith, append_assoc, length-append}
use Rattle.std.specs.Prelude.{Contains, nat_eq}
use Rattle.std.specs.List.{slice_index_or}
use Rattle.std.proofs.lemmas.List.{append-nil}
use Rattle.std.proofs.lemmas.List.Elements.{filter-append, Contains-push}
use Rattle.std.proofs.lemmas.Bool.Decides.{leb_tells, eqb_tells}
use mathlib.Core.List.{IsPrefix}
use Rattle.sve_board.specs.declared.knowledge.Entry.{Entry}
use Rattle.sve_board.specs.Log.{entries_of, longer, largest, with_length}
use Rattle.sve_board.specs.Values.{PassValue}
use Rattle.sve_board.proofs.Prefixes.{entries_of-prefix, largest-push}
use Rattle.sve_watch.specs.Looks.{looks_of, HasLooked}
use Rattle.sve_watch.proofs.Seen.{looks_are, with_look}
use Rattle.sve_session.specs.Commits.{entry}
use Rattle.sve_session.specs.Meeting.{HasMet}

nothing_more : {A : Type 0} (xs more ys : List A) → xs ++ more ≡ ys → length ys ≤ length xs → xs ≡ ys
nothing_more xs [] ys is le = sym (append-nil xs) ∙ is
nothing_more xs (x ∷ more) ys is le = absurd (omega (arith, length-append xs (x ∷ more), ap length is))

-- a prefix that is no shorter is the whole
pub prefix_whole : {A : Type 0} (xs ys : List A) → IsPrefix xs ys → length ys ≤ length xs → xs ≡ ys
prefix_whole xs ys p le = nothing_more xs p.0 ys p.1 le

-- where a longer log has no more entries of a client, it has the same
pub mine_stays : (i : ℕ) (xs ys : List Entry) → IsPrefix xs ys → length (entries_of i ys) ≤ length (entries_of i xs) → entries_of i xs ≡ entries_of i ys
mine_stays i xs ys p le = prefix_whole (entries_of i xs) (entries_of i ys) (entries_of-prefix i xs ys p) le

longer_is : (xs ys : List Entry) → IsPrefix ys (longer xs ys) → length xs ≤ length ys → longer xs ys ≡ ys
longer_is xs ys p le = ⊎_elim first second (leb_tells (length ys) (length xs))
  where
    first : (leb (length ys) (length xs) ≡ true) × (length ys ≤ length xs) → longer xs ys ≡ ys
    first t =
        let is : longer xs ys ≡ xs = ap (λ (b : Bool). if b then xs else ys) t.0 in
        is ∙ sym (prefix_whole ys xs (subst (IsPrefix ys) is p) le)

    second : (leb (length ys) (length xs) ≡ false) × (length xs < length ys) → longer xs ys ≡ ys
    second t = ap (λ (b : Bool). if b then xs else ys) t.0

with_length-adds : (looks : List ℕ) (n : ℕ) → largest looks ≤ n → with_length looks n ≡ looks ++ n ∷ []
with_length-adds looks n le = ⊎_elim within above (leb_tells (largest looks) n)
  where
    within : (leb (largest looks) n ≡ true) × (largest looks ≤ n) → with_length looks n ≡ looks ++ n ∷ []
    within t = ap (λ (b : Bool). if b then looks ++ n ∷ [] else looks) t.0

    above : (leb (largest looks) n ≡ false) × (n < largest looks) → with_length looks n ≡ looks ++ n ∷ []
    above t = absurd (omega (arith, t.1))

largest_more : (xs more : List ℕ) → largest xs ≤ largest (xs ++ more)
largest_more [] more = omega arith
largest_more (x ∷ xs) more = omega (arith, largest_more xs more)

pub largest_prefix : (xs ys : List ℕ) → IsPrefix xs ys → largest xs ≤ largest ys
largest_prefix xs ys p = subst (λ (l : List ℕ). largest xs ≤ largest l) p.1 (largest_more xs p.0)

largest_at : (looks : List ℕ) (k n : ℕ) → k < length looks → slice_index_or looks k n ≡ n → n ≤ largest looks
largest_at [] k n lt at = absurd (omega (arith, lt))
largest_at (x ∷ looks) zero n lt at = let same : x ≡ n = at in omega (arith, same)
largest_at (x ∷ looks) (suc k) n lt at = omega (arith, largest_at looks k n (omega (arith, lt)) at)

largest_left : (n : ℕ) (looks : List ℕ) → largest (drop n looks) ≤ largest looks
largest_left zero looks = omega arith
largest_left (suc n) [] = omega arith
largest_left (suc n) (x ∷ looks) = omega (arith, largest_left n looks)

-- a look of a call is not above the looks behind it
pub look_below : (before after : PassValue) (n : ℕ) → Contains (looks_of before after) n → n ≤ largest after.looks
look_below before after n (k, lt, at) = omega (arith, largest_at (looks_of before after) k n lt at, largest_left (length before.looks) after.looks)

-- what `meet` ensures, where the note is this log
pub record Meets (y : PassValue) (log : List Entry) (z : PassValue) : Type 0 where
  pub seen : z.seen ≡ longer y.seen log
  pub first : IsPrefix y.seen z.seen
  pub second : IsPrefix log z.seen
  pub before : y.mine ≡ entries_of y.number y.seen
  pub mine : z.mine ≡ entries_of y.number z.seen
  pub few : length z.mine ≤ y.raises
  pub looks : z.looks ≡ with_length y.looks (length log)
  pub table : z.table ≡ y.table
  pub number : z.number ≡ y.number
  pub raises : z.raises ≡ y.raises

module _ (y : PassValue) (log : List Entry) (z : PassValue) (m : Meets y log z) (no_longer : length y.seen ≤ length log) where
  meets_seen : z.seen ≡ log
  meets_seen = m.seen ∙ longer_is y.seen log (subst (IsPrefix log) m.seen m.second) no_longer

  meets_prefix : IsPrefix y.seen log
  meets_prefix = subst (IsPrefix y.seen) meets_seen m.first

  meets_mine : z.mine ≡ entries_of y.number log
  meets_mine = m.mine ∙ ap (entries_of y.number) meets_seen

module _ (x u y z : PassValue) (log : List Entry) (n : ℕ) (looked : HasLooked x u) (y_is : y ≡ with_look u n) (above : largest u.looks ≤ n) (longest : length u.seen ≤ n) (total : n ≡ length log)
    (even : x.raises ≡ length x.mine) (met : Meets y log z) where
  here : Meets (with_look u n) log z
  here = subst (λ (p : PassValue). Meets p log z) y_is met

  no_longer : length u.seen ≤ length log
  no_longer = omega (arith, longest, total)

  prefix : IsPrefix u.seen log
  prefix = meets_prefix (with_look u n) log z here no_longer

  seen : z.seen ≡ log
  seen = meets_seen (with_look u n) log z here no_longer

  mine : z.mine ≡ entries_of u.number log
  mine = meets_mine (with_look u n) log z here no_longer

  same : u.mine ≡ entries_of u.number log
  same = here.before ∙ mine_stays u.number u.seen log prefix (omega (arith, here.few, ap length mine, ap length here.before, ap length looked.mine, looked.raises, even))

  looks : z.looks ≡ (u.looks ++ n ∷ []) ++ length log ∷ []
  looks = here.looks ∙ with_length-adds (u.looks ++ n ∷ []) (length log) (largest-push u.looks n (length log) (omega (arith, above, total)) (omega (arith, total)))

  grown : z.looks ≡ x.looks ++ ((looked.looks.0 ++ n ∷ []) ++ length log ∷ [])
  grown =
      looks
      ∙ ap (λ (l : List ℕ). (l ++ n ∷ []) ++ length log ∷ []) (sym looked.looks.1)
      ∙ ap (λ (l : List ℕ). l ++ length log ∷ []) (append_assoc x.looks looked.looks.0 (n ∷ []))
      ∙ append_assoc x.looks (looked.looks.0 ++ n ∷ []) (length log ∷ [])

  -- all of the log is met after a look at its length
  pub meets_all : HasMet log x z
  meets_all = record {
    table = here.table ∙ looked.table;
    number = here.number ∙ looked.number;
    raises = here.raises ∙ looked.raises;
    mine = mine ∙ sym same ∙ looked.mine;
    own = mine ∙ ap (λ (i : ℕ). entries_of i log) (sym here.number);
    met = subst (λ (l : List Entry). IsPrefix l log) looked.seen prefix;
    seen = seen;
    grown = ((looked.looks.0 ++ n ∷ []) ++ length log ∷ [], sym grown);
    look = subst (λ (l : List ℕ). Contains l (length log)) (sym (looks_are x z ((looked.looks.0 ++ n ∷ []) ++ length log ∷ []) grown)) (Contains-push (looked.looks.0 ++ n ∷ []) (length log));
    not_below = omega (arith, largest_prefix x.looks u.looks looked.looks, above, total);
    not_above = subst (λ (l : List ℕ). largest l ≤ length log) (sym looks) (largest-push (u.looks ++ n ∷ []) (length log) (length log) (largest-push u.looks n (length log) (omega (arith, above, total)) (omega (arith, total))) (omega arith));
  }

one_more : (e : Entry) (xs : List Entry) (n : ℕ) (b : Bool) → length xs ≤ n → length (cond b (e ∷ xs) xs) ≤ suc n
one_more e xs n true le = omega arith
one_more e xs n false le = omega arith

-- a client has at most all entries
pub entries_of-few : (i : ℕ) (log : List Entry) → length (entries_of i log) ≤ length log
entries_of-few i [] = omega arith
entries_of-few i (e ∷ log) = one_more e (entries_of i log) (length log) (nat_eq e.client i) (entries_of-few i log)

own_one : (client command : ℕ) → entries_of client (entry client command ∷ []) ≡ entry client command ∷ []
own_one client command = ⊎_elim
    (λ (t : (eqb client client ≡ true) × (client ≡ client)). ap (λ (b : Bool). cond b (entry client command ∷ []) []) t.0)
    (λ (t : (eqb client client ≡ false) × (client ≡ client → ⊥)). absurd (t.1 refl))
    (eqb_tells client client)

-- the pass that has met the log with one more entry of its own
abbrev pub with_entry : PassValue → List Entry → ℕ → PassValue
with_entry x log command = record x {
  seen = log ++ entry x.number command ∷ [];
  mine = x.mine ++ entry x.number command ∷ [];
  looks = x.looks ++ (length log + 1) ∷ [];
  raises = x.raises + 1;
}

pub meets_entry : (x y z : PassValue) (log : List Entry) (command : ℕ) → y ≡ record x { raises = x.raises + 1 } → x.seen ≡ log → x.mine ≡ entries_of x.number log → largest x.looks ≤ length log
    → Meets y (log ++ entry x.number command ∷ []) z → z ≡ with_entry x log command
meets_entry x y z log command y_is seen own high met =
    let e : Entry = entry x.number command in
    let raised : PassValue = record x { raises = x.raises + 1 } in
    let here : Meets raised (log ++ e ∷ []) z = subst (λ (p : PassValue). Meets p (log ++ e ∷ []) z) y_is met in
    let long : length (log ++ e ∷ []) ≡ length log + 1 = length-append log (e ∷ []) in
    let no_longer : length x.seen ≤ length (log ++ e ∷ []) = omega (arith, long, ap length seen) in
    let seen_is : z.seen ≡ log ++ e ∷ [] = meets_seen raised (log ++ e ∷ []) z here no_longer in
    let mine_is : z.mine ≡ x.mine ++ e ∷ [] =
    meets_mine raised (log ++ e ∷ []) z here no_longer
    ∙ filter-append (λ (a : Entry). nat_eq a.client x.number) log (e ∷ []) ∙ (λ i. sym own i ++ own_one x.number command i) in
    let looks_is : z.looks ≡ x.looks ++ (length log + 1) ∷ [] = here.looks ∙ with_length-adds x.looks (length (log ++ e ∷ [])) (omega (arith, long, high)) ∙ ap (λ (n : ℕ). x.looks ++ n ∷ []) long in
    λ i. record { table = here.table i; number = here.number i; seen = seen_is i; mine = mine_is i; looks = looks_is i; raises = here.raises i }
