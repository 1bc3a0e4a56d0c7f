-- What clients were told, beside the history at the end.
use Rattle.std.proofs.Common.{◌≡◌, ℕ, zero, suc, ◌+◌, ◌-◌, ◌<◌, ◌≤◌, Bool, true, false, cond, List, [], ◌∷◌, ◌++◌, Option, Some, length, take, map, slice_get, IsTrue, refl, ap, sym, ◌∙◌, subst, arith}
use Rattle.std.specs.Prelude.{Result, Ok, Err, nat_eq, sum_by}
use Rattle.std.specs.List.{AllByRecursion, slice_index_or}
use Rattle.std.proofs.Common.{eq-eqb}
use Rattle.std.proofs.lemmas.List.{map-append, length-map}
use Rattle.std.proofs.Math.Seq.{take-length}
use mathlib.Core.List.{IsPrefix}
use Rattle.sve_board.specs.declared.knowledge.Entry.{Entry as LogEntry}
use Rattle.sve_board.specs.Log.{IsClient, AreOfClients, entries_of, largest}
use Rattle.sve_board.specs.Values.{PassValue}
use Rattle.sve_board.proofs.Prefixes.{prefix_length}
use Rattle.sve_text.specs.Files.{FilesValue}
use Rattle.sve_text.specs.Refusals.{refusal_of}
use Rattle.sve_history.specs.declared.entry.Entry.{Entry as Made}
use Rattle.sve_history.specs.Histories.{HistoryValue, Table, entry_by, files_from, newest_files, commands_of, IsLegal}
use Rattle.sve_store.specs.declared.answer.Answer.{Answer}
use Rattle.sve_store.specs.declared.answer.Answer.TheVariants.{Done, Spent as Unanswered}
use Rattle.sve_session.specs.Shared.{with_edits, without_edits, history_of, log_of}
use Rattle.sve_session.specs.Commits.{entry}
use Rattle.sve_session.specs.Ends.{IsEnded, EndsPass}
use Rattle.sve_clients.specs.declared.runs.Order.{Order}
use Rattle.sve_clients.specs.declared.runs.Order.TheVariants.{AtOnce, InTurn}
use Rattle.sve_clients.specs.Runs.{next_front, HasLeft as HasLeftWith, HaveLeft as HaveLeftWith}
use Rattle.sve_clients.proofs.Places.{left_from}
use Rattle.sve_command.specs.declared.commands.Command.{Command}
use Rattle.sve_command.specs.declared.commands.Command.TheVariants.{Commit, Ask}
use Rattle.sve_command.specs.declared.commands.Query.{Query}
use Rattle.sve_report.specs.declared.entry.Entry.{Entry}
use Rattle.sve_report.specs.declared.record.Record.{Record}
use Rattle.sve_report.specs.declared.record.Record.TheVariants.{Accepted, Refused, Answered, Cancelled, Spent}
use Rattle.sve_runner.specs.declared.terms.Terms.{Terms}
use Rattle.sve_runner.specs.declared.told.Told.{Told}
use Rattle.sve_runner.specs.Honest.{budget_under, commands_at, command_in, edits_in, told_entry, told_entries, script_entries, history_by, front_after, front_at, accepted_from, is_commit, IsOfScript, files_of, IsHonest, Walks, AreHonestFrom, AreHonest}
use Rattle.sve_runner.specs.Told.{IsHonestIn, WalksIn, HasWalked, HasLeft, all_told, records_of, records_told}
use Rattle.sve_runner.specs.declared.stop.Stop.{Stop}
use Rattle.sve_runner.specs.declared.stop.Stop.TheVariants.{Full}
use Rattle.sve_runner.proofs.Counts.{AreAtMost, all_entries, tally_fewer}
use Rattle.sve_runner.proofs.Walking.{walks_later}

-- an entry of the log, as a report tells it
abbrev told_log : LogEntry → Entry
told_log e = record { client = e.client; command = e.command }

take_first : {A : Type 0} (xs ys : List A) (r : ℕ) → length xs ≡ r → take r (xs ++ ys) ≡ xs
take_first [] ys zero is = refl
take_first [] ys (suc r) is = absurd (omega (arith, is))
take_first (x ∷ xs) ys zero is = absurd (omega (arith, is))
take_first (x ∷ xs) ys (suc r) is = ap (λ (l : List _). x ∷ l) (take_first xs ys r (omega (arith, is)))

get_there : (before : List LogEntry) (e : LogEntry) (rest : List LogEntry) → slice_get (map told_log ((before ++ e ∷ []) ++ rest)) (length before) ≡ Some (told_log e)
get_there [] e rest = refl
get_there (x ∷ before) e rest = get_there before e rest

told_are : (made : List Made) → map told_entry made ≡ map told_log (log_of made)
told_are [] = refl
told_are (e ∷ made) = ap (λ (l : List Entry). told_entry e ∷ l) (told_are made)

-- the entries so far, and the next
pub told_next : (made : List Made) (r : ℕ) (e : Made) → slice_get made r ≡ Some e → map told_entry (take (r + 1) made) ≡ map told_entry (take r made) ++ told_entry e ∷ []
told_next [] r e at = absurd (cc)
told_next (m ∷ made) zero e at = let same : m ≡ e = cc in ap (λ (x : Made). told_entry x ∷ []) same
told_next (m ∷ made) (suc r) e at =
    let size : suc r + 1 ≡ suc (r + 1) = omega arith in
    ap (λ (n : ℕ). map told_entry (take n (m ∷ made))) size ∙ ap (λ (l : List Entry). told_entry m ∷ l) (told_next made r e at)

made_are : (clients : List (List Command)) (made : List Made) → script_entries clients (map told_entry made) ≡ map (with_edits (edits_in clients)) (log_of made)
made_are clients [] = refl
made_are clients (e ∷ made) = ap (λ (l : List Made). entry_by (edits_in clients) e.client e.command ∷ l) (made_are clients made)

module _ (table : Table) where
  chosen : (b : Bool) (e : LogEntry) (made : List Made) (log : List LogEntry) → map (λ (x : Made). x.command) made ≡ map (λ (x : LogEntry). x.command) log
      → map (λ (x : Made). x.command) (cond b (with_edits table e ∷ made) made) ≡ map (λ (x : LogEntry). x.command) (cond b (e ∷ log) log)
  chosen true e made log same = ap (λ (l : List ℕ). e.command ∷ l) same
  chosen false e made log same = same

  pub commands_are : (i : ℕ) (log : List LogEntry) → commands_of i (map (with_edits table) log) ≡ map (λ (x : LogEntry). x.command) (entries_of i log)
  commands_are i [] = refl
  commands_are i (e ∷ log) = chosen (nat_eq e.client i) e _ (entries_of i log) (commands_are i log)

-- ---- what clients left, by their places

left_at : (lefts : List (Result Told Stop)) (k : ℕ) → k < length lefts → (left : Result Told Stop) × (slice_get lefts k ≡ Some left)
left_at [] k lt = absurd (omega (arith, lt))
left_at (x ∷ lefts) zero lt = (x, refl)
left_at (x ∷ lefts) (suc k) lt = left_at lefts k (omega (arith, lt))

is_there : (lefts : List (Result Told Stop)) (k : ℕ) (left : Result Told Stop) → slice_get lefts k ≡ Some left → k < length lefts
is_there [] k left at = absurd (cc)
is_there (x ∷ lefts) zero left at = omega arith
is_there (x ∷ lefts) (suc k) left at = omega (arith, is_there lefts k left at)

all_told-length : (all : List Told) → length (all_told all) ≡ length all
all_told-length [] = refl
all_told-length (told ∷ all) = ap suc (all_told-length all)

-- whose records these are, and what it left
told_at : (all : List Told) (m : ℕ) (recs : List Record) → slice_get (records_told all) m ≡ Some recs → (told : Told) × (slice_get (all_told all) m ≡ Some (Ok told)) × (told.records ≡ recs)
told_at [] m recs at = absurd (cc)
told_at (told ∷ all) zero recs at = (told, refl, cc)
told_at (told ∷ all) (suc m) recs at = told_at all m recs at

-- ---- entries are of commits

-- a command of this number is a commit of the client
abbrev IsCommit : List (List Command) → ℕ → ℕ → Type 0
IsCommit clients i j = (1 ≤ j) × IsTrue (is_commit (command_in clients i j))

others_too : (P : ℕ → Type 0) (b : Bool) (e : LogEntry) (log : List LogEntry) → AllByRecursion P (map (λ (x : LogEntry). x.command) (cond b (e ∷ log) log)) → AllByRecursion P (map (λ (x : LogEntry). x.command) log)
others_too P true e log (here, rest) = rest
others_too P false e log h = h

its_own : (P : ℕ → Type 0) (b : Bool) (e : LogEntry) (log : List LogEntry) → b ≡ true → AllByRecursion P (map (λ (x : LogEntry). x.command) (cond b (e ∷ log) log)) → P e.command
its_own P true e log is (here, rest) = here
its_own P false e log is h = absurd (cc)

are_of_script : (clients : List (List Command)) (n : ℕ) (log : List LogEntry) → AreOfClients n log → ((i : ℕ) → IsClient n i → AllByRecursion (IsCommit clients i) (map (λ (x : LogEntry). x.command) (entries_of i log)))
    → AllByRecursion (IsOfScript clients) (map told_log log)
are_of_script clients n [] theirs each = tt
are_of_script clients n (e ∷ log) theirs each =
    let client : IsClient n e.client = theirs 0 e (omega arith) in
    let own = its_own (IsCommit clients e.client) (nat_eq e.client e.client) e (entries_of e.client log) (eq-eqb e.client e.client refl) (each e.client client) in
    let (positive, within) = client in
    let (counted, commit) = own in
    ((omega (arith, positive), counted, commit), are_of_script clients n log (λ k d lt. theirs (suc k) d (omega (arith, lt))) (λ i is. others_too (IsCommit clients i) (nat_eq e.client i) e (entries_of i log) (each i is)))

module _ (answers : FilesValue → Query → ℕ → Answer → Type 0) (terms : Terms) (opening : FilesValue) (clients : List (List Command)) (history : HistoryValue) (ended : IsEnded opening (edits_in clients) (length clients) history) where
  table : Table
  table = edits_in clients

  log : List LogEntry
  log = log_of history.entries

  entries : List Entry
  entries = told_entries history

  made : history.entries ≡ map (with_edits (edits_in clients)) (log_of history.entries)
  made = ap (λ (h : HistoryValue). h.entries) ended.plan

  script_made : script_entries clients (told_entries history) ≡ history.entries
  script_made = made_are clients history.entries ∙ sym made

  -- it is told by its entries
  pub by_script : history ≡ history_by opening clients (told_entries history)
  by_script =
      let by : List Made → HistoryValue = λ (l : List Made). record { opening = opening; entries = l } in
      ended.plan ∙ ap by (sym (made_are clients history.entries))

  size : length (told_entries history) ≡ length history.entries
  size = length-map history.entries told_entry

  log_size : length (log_of history.entries) ≡ length history.entries
  log_size = length-map history.entries without_edits

  files_here : (before : List LogEntry) (r : ℕ) → IsPrefix before (log_of history.entries) → length before ≡ r → newest_files (history_of opening (edits_in clients) before) ≡ files_of answers terms opening clients (told_entries history) r
  files_here before r (rest, whole) is =
      let mine : List Made = map (with_edits (edits_in clients)) before in
      let all : history.entries ≡ mine ++ map (with_edits (edits_in clients)) rest = made ∙ ap (map (with_edits (edits_in clients))) (sym whole) ∙ map-append (with_edits (edits_in clients)) before rest in
      let count : length mine ≡ r = length-map before (with_edits (edits_in clients)) ∙ is in
      let first : take r (script_entries clients (told_entries history)) ≡ mine = ap (take r) (script_made ∙ all) ∙ take_first mine (map (with_edits (edits_in clients)) rest) r count in
      ap (files_from 0 opening) (take-length mine ∙ sym first)

  entry_here : (before : List LogEntry) (i j r : ℕ) → IsPrefix (before ++ entry i j ∷ []) (log_of history.entries) → length before + 1 ≡ r → slice_get (told_entries history) (r - 1) ≡ Some (record { client = i; command = j })
  entry_here before i j r (rest, whole) is =
      let place : r - 1 ≡ length before = omega (arith, is) in
      ap (λ (l : List Entry). slice_get l (r - 1)) (told_are history.entries ∙ ap (map told_log) (sym whole))
      ∙ ap (λ (n : ℕ). slice_get (map told_log ((before ++ entry i j ∷ []) ++ rest)) n) place
      ∙ get_there before (entry i j) rest

  within : (before : List LogEntry) (r : ℕ) → IsPrefix before (log_of history.entries) → length before ≡ r → r ≤ length (told_entries history)
  within before r begins is = omega (arith, is, prefix_length before (log_of history.entries) begins, size, log_size)

  is_honest : (i j front : ℕ) (command : Command) (rec : Record) → IsHonestIn answers terms opening (edits_in clients) (log_of history.entries) (length history.entries) i j front command rec
      → IsHonest answers terms opening clients (told_entries history) i j front command rec
  is_honest i j front (Commit edits) (Accepted r) (above, (before, begins, count)) = (above, entry_here before i j r begins count)
  is_honest i j front (Commit edits) (Refused r edit why) (above, (before, begins, count, holds)) =
      (above, within before r begins count, ap (λ (files : FilesValue). refusal_of files edits) (sym (files_here before r begins count)) ∙ holds)
  is_honest i j front (Commit edits) (Answered r lines) h = h
  is_honest i j front (Commit edits) (Cancelled base newer) h = h
  is_honest i j front (Commit edits) (Spent r limit) h = h
  is_honest i j front (Ask query mode budget) (Accepted r) h = h
  is_honest i j front (Ask query mode budget) (Refused r edit why) h = h
  is_honest i j front (Ask query mode budget) (Answered r lines) (above, (before, begins, count, holds)) =
      (above, within before r begins count, subst (λ (files : FilesValue). answers files query (budget_under terms budget) (Done lines)) (files_here before r begins count) holds)
  is_honest i j front (Ask query mode budget) (Cancelled base newer) (latest, above, later, top) = (latest, above, later, omega (arith, top, size))
  is_honest i j front (Ask query mode budget) (Spent r limit) (above, same, (before, begins, count, holds)) =
      (above, within before r begins count, same, subst (λ (files : FilesValue). answers files query limit Unanswered) (files_here before r begins count) holds)

  walks : (i j front : ℕ) (commands : List Command) (recs : List Record) → WalksIn answers terms opening (edits_in clients) (log_of history.entries) (length history.entries) i j front commands recs
      → Walks answers terms opening clients (told_entries history) i j front commands recs
  walks i j front [] [] w = tt
  walks i j front [] (rec ∷ recs) w = absurd w
  walks i j front (command ∷ commands) [] w = absurd w
  walks i j front (command ∷ commands) (rec ∷ recs) (here, rest) = (is_honest i j front command rec here, walks i (j + 1) (front_after front rec) commands recs rest)

  -- the records of client i are honest
  pub record IsOne (i : ℕ) (recs : List Record) : Type 0 where
    pub walked : Walks answers terms opening clients (told_entries history) i 1 0 (commands_at clients i) recs
    pub own : commands_of i (script_entries clients (told_entries history)) ≡ accepted_from 1 recs

  its_own_entries : (i : ℕ) (pass : PassValue) (recs : List Record) → pass.number ≡ i → EndsPass history pass → map (λ (e : LogEntry). e.command) pass.mine ≡ accepted_from 1 recs → commands_of i (script_entries clients (told_entries history)) ≡ accepted_from 1 recs
  its_own_entries i pass recs who ends own =
      ap (commands_of i) (script_made ∙ made) ∙ commands_are (edits_in clients) i (log_of history.entries) ∙ ap (map (λ (e : LogEntry). e.command)) (ap (λ (n : ℕ). entries_of n (log_of history.entries)) (sym who) ∙ ends.mine) ∙ own

  is_one : (i : ℕ) (pass : PassValue) (recs : List Record) → pass.number ≡ i → EndsPass history pass → HasWalked answers terms opening (edits_in clients) i 0 (commands_at clients i) pass recs → IsOne i recs
  is_one i pass recs who ends told = record {
    walked = walks i 1 0 (commands_at clients i) recs (walks_later answers terms opening (edits_in clients) pass.seen (log_of history.entries) (largest pass.looks) (length history.entries) i 1 0 (commands_at clients i) recs ends.seen ends.looks told.walks);
    own = its_own_entries i pass recs who ends told.own;
  }

  -- the commands behind the first of those that are left
  next_at : (i j : ℕ) (command : Command) (commands : List Command) → 1 ≤ j → ((m : ℕ) → slice_get (command ∷ commands) m ≡ slice_get (commands_at clients i) (j - 1 + m)) → (m : ℕ) → slice_get commands m ≡ slice_get (commands_at clients i) (j + 1 - 1 + m)
  next_at i j command commands counted at m = at (suc m) ∙ ap (slice_get (commands_at clients i)) (let e : j - 1 + suc m ≡ j + 1 - 1 + m = omega (arith, counted) in e)

  accepted_commits : (i j front : ℕ) (commands : List Command) (recs : List Record) → 1 ≤ j → ((m : ℕ) → slice_get commands m ≡ slice_get (commands_at clients i) (j - 1 + m)) → Walks answers terms opening clients (told_entries history) i j front commands recs
      → AllByRecursion (IsCommit clients i) (accepted_from j recs)
  accepted_commits i j front [] [] counted at w = tt
  accepted_commits i j front [] (rec ∷ recs) counted at w = absurd w
  accepted_commits i j front (command ∷ commands) [] counted at w = tt
  accepted_commits i j front (Commit edits ∷ commands) (Accepted r ∷ recs) counted at (here, rest) =
      let there : Some (Commit edits) ≡ slice_get (commands_at clients i) (j - 1) = at 0 ∙ ap (slice_get (commands_at clients i)) (let e : j - 1 + 0 ≡ j - 1 = omega arith in e) in
      ((counted, subst (λ (c : Option Command). IsTrue (is_commit c)) there refl), accepted_commits i (j + 1) (front_after front (Accepted r)) commands recs (omega arith) (next_at i j (Commit edits) commands counted at) rest)
  accepted_commits i j front (Ask query mode budget ∷ commands) (Accepted r ∷ recs) counted at (here, rest) = absurd here
  accepted_commits i j front (command ∷ commands) (Refused r edit why ∷ recs) counted at (here, rest) = accepted_commits i (j + 1) (front_after front (Refused r edit why)) commands recs (omega arith) (next_at i j command commands counted at) rest
  accepted_commits i j front (command ∷ commands) (Answered r lines ∷ recs) counted at (here, rest) = accepted_commits i (j + 1) (front_after front (Answered r lines)) commands recs (omega arith) (next_at i j command commands counted at) rest
  accepted_commits i j front (command ∷ commands) (Cancelled base newer ∷ recs) counted at (here, rest) = accepted_commits i (j + 1) (front_after front (Cancelled base newer)) commands recs (omega arith) (next_at i j command commands counted at) rest
  accepted_commits i j front (command ∷ commands) (Spent r limit ∷ recs) counted at (here, rest) = accepted_commits i (j + 1) (front_after front (Spent r limit)) commands recs (omega arith) (next_at i j command commands counted at) rest

  some_at : (xs : List (List Record)) (k : ℕ) → k < length xs → (x : List Record) × (slice_get xs k ≡ Some x)
  some_at [] k lt = absurd (omega (arith, lt))
  some_at (x ∷ xs) zero lt = (x, refl)
  some_at (x ∷ xs) (suc k) lt = some_at xs k (omega (arith, lt))

  -- entries are of commits of the script, where each client's records are honest
  are_theirs : (records : List (List Record)) → length records ≡ length clients → ((m : ℕ) (recs : List Record) → slice_get records m ≡ Some recs → IsOne (1 + m) recs) → AllByRecursion (IsOfScript clients) (told_entries history)
  are_theirs records count each =
      subst (AllByRecursion (IsOfScript clients)) (sym (told_are history.entries))
      (are_of_script clients (length clients) (log_of history.entries) ended.theirs (λ i (positive, few).
      let found = some_at records (i - 1) (omega (arith, positive, few, count)) in
      let number : 1 + (i - 1) ≡ i = omega (arith, positive) in
      let one = subst (λ (n : ℕ). IsOne n found.0) number (each (i - 1) found.0 found.1) in
      let all = accepted_commits i 1 0 (commands_at clients i) found.0 (omega arith) (λ m. ap (slice_get (commands_at clients i)) (let e : m ≡ 1 - 1 + m = omega arith in e)) one.walked in
      subst (AllByRecursion (IsCommit clients i)) (sym one.own ∙ ap (commands_of i) (script_made ∙ made) ∙ commands_are (edits_in clients) i (log_of history.entries)) all))

  -- what a client may leave beside its pass
  abbrev pub Leaves : ℕ → ℕ → ℕ → PassValue → Result Told Stop → Type 0
  Leaves most number front pass left = HasLeft answers terms opening (edits_in clients) most number front (commands_at clients number) pass left

  -- the records of a client that left them, from any front that it reached
  left_one : (most i : ℕ) (told : Told) → HasLeftWith (Leaves most) history i 0 (Ok told) → IsOne i told.records
  left_one most i told left = is_one i left.pass told.records left.who left.ends (left.does 0 (omega arith)).does

  next_reached : (order : Order) (front top : ℕ) → front ≤ top → next_front order front ≤ next_front order top
  next_reached AtOnce front top le = omega arith
  next_reached InTurn front top le = le

  honest_from : (most i front top : ℕ) (rest : List (List Command)) (all : List Told) → front ≤ top → length all ≡ length rest → ((m : ℕ) → m < length rest → commands_at clients (i + m) ≡ slice_index_or rest m [])
      → HaveLeftWith (Leaves most) terms.order history i top (all_told all) → AreHonestFrom answers terms opening clients (told_entries history) i front rest (records_told all)
  honest_from most i front top [] [] le count are left = tt
  honest_from most i front top [] (told ∷ all) le count are left = absurd (omega (arith, count))
  honest_from most i front top (commands ∷ rest) [] le count are left = absurd (omega (arith, count))
  honest_from most i front top (commands ∷ rest) (told ∷ all) le count are (one, others) =
      let recs : List Record = told.records in
      let walked = (one.does front le).does in
      let here : i + 0 ≡ i = omega arith in
      let its : commands_at clients i ≡ commands = ap (commands_at clients) (sym here) ∙ are 0 (omega arith) in
      let next : (m : ℕ) → i + suc m ≡ i + 1 + m = λ m. omega arith in (
        subst (λ (cs : List Command). Walks answers terms opening clients (told_entries history) i 1 front cs recs) its
            (walks i 1 front (commands_at clients i) recs (walks_later answers terms opening (edits_in clients) one.pass.seen (log_of history.entries) (largest one.pass.looks) (length history.entries) i 1 front (commands_at clients i) recs one.ends.seen one.ends.looks walked.walks)),
        its_own_entries i one.pass recs one.who one.ends walked.own,
        honest_from most (i + 1) (next_front terms.order (front_at front recs)) (next_front terms.order (largest one.pass.looks)) rest all (next_reached terms.order (front_at front recs) (largest one.pass.looks) walked.reached) (omega (arith, count))
            (λ m lt. ap (commands_at clients) (sym (next m)) ∙ are (suc m) (omega (arith, lt))) others,
      )

  module _ (most : ℕ) (lefts : List (Result Told Stop)) (count : length lefts ≡ length clients) (all : HaveLeftWith (Leaves most) terms.order history 1 0 lefts) where
    each : (i : ℕ) (left : Result Told Stop) → slice_get lefts i ≡ Some left → HasLeftWith (Leaves most) history (1 + i) 0 left
    each i left at = left_from (Leaves most) terms.order history 1 0 lefts all i left at

    -- no client has more entries than commands
    few : AreAtMost 1 clients (log_of history.entries)
    few m lt =
        let found = left_at lefts m (omega (arith, lt, count)) in
        let left = each m found.0 found.1 in
        let number : left.pass.number ≡ 1 + m = left.who in
        let own : length (entries_of (1 + m) (log_of history.entries)) ≡ length left.pass.mine = ap (λ (n : ℕ). length (entries_of n (log_of history.entries))) (sym number) ∙ ap (λ (l : List LogEntry). length l) left.ends.mine in
        let place : 1 + m - 1 ≡ m = omega arith in
        let commands : length (commands_at clients (1 + m)) ≡ length (slice_index_or clients m []) = ap (λ (k : ℕ). length (slice_index_or clients k [])) place in
        omega (arith, own, (left.does 0 (omega arith)).few, commands)

    -- so none found the history full, where it may have an entry for each command
    pub never_full : most ≡ sum_by length clients → (i : ℕ) → slice_get lefts i ≡ Some (Err Full) → ⊥
    never_full enough i at =
        let left = each i (Err Full) at in
        let cause = (left.does 0 (omega arith)).does in
        let lt : i < length clients = omega (arith, count, is_there lefts i (Err Full) at) in
        let number : left.pass.number ≡ 1 + i = left.who in
        let own : length (entries_of (1 + i) (log_of history.entries)) ≡ length left.pass.mine = ap (λ (n : ℕ). length (entries_of n (log_of history.entries))) (sym number) ∙ ap (λ (l : List LogEntry). length l) left.ends.mine in
        let place : 1 + i - 1 ≡ i = omega arith in
        let commands : length (commands_at clients (1 + i)) ≡ length (slice_index_or clients i []) = ap (λ (k : ℕ). length (slice_index_or clients k [])) place in
        let fewer : length (entries_of (1 + i) (log_of history.entries)) < length (slice_index_or clients i []) = omega (arith, own, cause.0, commands) in
        absurd (omega (arith, cause.1, enough, prefix_length left.pass.seen (log_of history.entries) left.ends.seen, all_entries (length clients) (log_of history.entries) ended.theirs, tally_fewer 1 clients (log_of history.entries) i few lt fewer))

    -- where all clients left their records, these are honest
    pub all_honest : (told : List Told) → lefts ≡ all_told told → AreHonest answers terms opening clients (told_entries history) (records_told told)
    all_honest told are =
        let size : length told ≡ length clients = omega (arith, count, ap (λ (l : List (Result Told Stop)). length l) are, all_told-length told) in
        let records_size : length (records_told told) ≡ length clients = length-map told records_of ∙ size in
        record {
          legal = subst (λ (l : List Made). IsLegal (record { opening = opening; entries = l })) (sym (script_made ∙ made)) (subst IsLegal ended.plan ended.legal);
          theirs = are_theirs (records_told told) records_size (λ m recs at.
              let found = told_at told m recs at in
              subst (IsOne (1 + m)) found.2 (left_one most (1 + m) found.0 (each m (Ok found.0) (ap (λ (l : List (Result Told Stop)). slice_get l m) are ∙ found.1))));
          told = honest_from most 1 0 0 clients told (omega arith) size (λ m lt. ap (λ (k : ℕ). slice_index_or clients k []) (let e : 1 + m - 1 ≡ m = omega arith in e))
              (subst (HaveLeftWith (Leaves most) terms.order history 1 0) are all);
        }
