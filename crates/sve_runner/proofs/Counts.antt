-- A log has as many entries as its clients have together.
use Rattle.std.proofs.Common.{◌≡◌, ℕ, zero, suc, ◌+◌, ◌<◌, ◌≤◌, Bool, true, false, cond, List, [], ◌∷◌, length, sum_by, refl, sym, subst, arith}
use Rattle.std.specs.Prelude.{nat_eq}
use Rattle.std.specs.List.{slice_index_or}
use Rattle.std.proofs.lemmas.Bool.{eqb-true, eqb-false}
use Rattle.std.proofs.lemmas.List.Sums.{sum_by-cons}
use Rattle.sve_board.specs.declared.knowledge.Entry.{Entry as LogEntry}
use Rattle.sve_board.specs.Log.{AreOfClients, entries_of}
use Rattle.sve_command.specs.declared.commands.Command.{Command}

-- how many entries so many clients have together, from this one on
abbrev pub tally : ℕ → ℕ → List LogEntry → ℕ
tally from zero log = 0
tally from (suc count) log = length (entries_of from log) + tally (from + 1) count log

tally_none : (from count : ℕ) → tally from count [] ≡ 0
tally_none from zero = refl
tally_none from (suc count) = omega (arith, tally_none (from + 1) count)

chosen_size : (b : Bool) (e : LogEntry) (log : List LogEntry) → b ≡ true → length (cond b (e ∷ log) log) ≡ length log + 1
chosen_size true e log is = omega arith
chosen_size false e log is = absurd (cc)

other_size : (b : Bool) (e : LogEntry) (log : List LogEntry) → b ≡ false → length (cond b (e ∷ log) log) ≡ length log
other_size true e log is = absurd (cc)
other_size false e log is = refl

differs : (m n : ℕ) → (m ≡ n → ⊥) → nat_eq m n ≡ false
differs m n differ = by_test (nat_eq m n) refl
  where
    by_test : (t : Bool) → nat_eq m n ≡ t → nat_eq m n ≡ false
    by_test true is = absurd (differ (eqb-true m n is))
    by_test false is = is

tally_below : (from count : ℕ) (e : LogEntry) (log : List LogEntry) → e.client < from → tally from count (e ∷ log) ≡ tally from count log
tally_below from zero e log lt = refl
tally_below from (suc count) e log lt =
    let other = other_size (nat_eq e.client from) e (entries_of from log) (differs e.client from (λ same. absurd (omega (arith, lt, same)))) in
    omega (arith, other, tally_below (from + 1) count e log (omega (arith, lt)))

tally_of : (from count : ℕ) (e : LogEntry) (log : List LogEntry) → from ≤ e.client → e.client < from + count → tally from count (e ∷ log) ≡ tally from count log + 1
tally_of from zero e log le lt = absurd (omega (arith, le, lt))
tally_of from (suc count) e log le lt = by_test (nat_eq e.client from) refl (tally_of (from + 1) count e log)
  where
    by_test : (t : Bool) → nat_eq e.client from ≡ t → (from + 1 ≤ e.client → e.client < from + 1 + count → tally (from + 1) count (e ∷ log) ≡ tally (from + 1) count log + 1) → tally from (suc count) (e ∷ log) ≡ tally from (suc count) log + 1
    by_test true is next =
        let same : e.client ≡ from = eqb-true e.client from is in
        omega (arith, chosen_size (nat_eq e.client from) e (entries_of from log) is, tally_below (from + 1) count e log (omega (arith, same)))
    by_test false is next =
        let differ : e.client ≡ from → ⊥ = eqb-false e.client from is in
        let above : from + 1 ≤ e.client = omega (arith, le, differ) in
        omega (arith, other_size (nat_eq e.client from) e (entries_of from log) is, next above (omega (arith, lt)))

pub all_entries : (count : ℕ) (log : List LogEntry) → AreOfClients count log → length log ≡ tally 1 count log
all_entries count [] theirs = sym (tally_none 1 count)
all_entries count (e ∷ log) theirs =
    let (positive, within) = theirs 0 e (omega arith) in
    omega (arith, tally_of 1 count e log (omega (arith, positive)) (omega (arith, within)), all_entries count log (λ k d lt. theirs (suc k) d (omega (arith, lt))))

-- no client has more entries than commands
abbrev pub AreAtMost : ℕ → List (List Command) → List LogEntry → Type 0
AreAtMost from clients log = (m : ℕ) → m < length clients → length (entries_of (from + m) log) ≤ length (slice_index_or clients m [])

at_first : (from : ℕ) (commands : List Command) (clients : List (List Command)) (log : List LogEntry) → AreAtMost from (commands ∷ clients) log → length (entries_of from log) ≤ length commands
at_first from commands clients log few = let here : from + 0 ≡ from = omega arith in subst (λ (n : ℕ). length (entries_of n log) ≤ length commands) here (few 0 (omega arith))

next_number : (from m : ℕ) → from + suc m ≡ from + 1 + m
next_number from m = omega arith

at_rest : (from : ℕ) (commands : List Command) (clients : List (List Command)) (log : List LogEntry) → AreAtMost from (commands ∷ clients) log → AreAtMost (from + 1) clients log
at_rest from commands clients log few = λ m lt. subst (λ (n : ℕ). length (entries_of n log) ≤ length (slice_index_or clients m [])) (next_number from m) (few (suc m) (omega (arith, lt)))

pub tally_most : (from : ℕ) (clients : List (List Command)) (log : List LogEntry) → AreAtMost from clients log → tally from (length clients) log ≤ sum_by length clients
tally_most from [] log few = omega arith
tally_most from (commands ∷ clients) log few =
    omega (arith, at_first from commands clients log few, tally_most (from + 1) clients log (at_rest from commands clients log few), sum_by-cons length commands clients)

-- where one client has fewer, all have fewer together
pub tally_fewer : (from : ℕ) (clients : List (List Command)) (log : List LogEntry) (m : ℕ) → AreAtMost from clients log → m < length clients → length (entries_of (from + m) log) < length (slice_index_or clients m []) → tally from (length clients) log < sum_by length clients
tally_fewer from [] log m few lt fewer = absurd (omega (arith, lt))
tally_fewer from (commands ∷ clients) log zero few lt fewer =
    let here : from + 0 ≡ from = omega arith in
    let first = subst (λ (n : ℕ). length (entries_of n log) < length commands) here fewer in
    omega (arith, first, tally_most (from + 1) clients log (at_rest from commands clients log few), sum_by-cons length commands clients)
tally_fewer from (commands ∷ clients) log (suc m) few lt fewer =
    let later = subst (λ (n : ℕ). length (entries_of n log) < length (slice_index_or clients m [])) (next_number from m) fewer in
    omega (arith, at_first from commands clients log few, tally_fewer (from + 1) clients log m (at_rest from commands clients log few) (omega (arith, lt)) later, sum_by-cons length commands clients)
