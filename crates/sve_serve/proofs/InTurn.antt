-- Honest records of clients that run one after another are those of clients in turn, and the history is theirs.
use Rattle.std.proofs.Common.{◌≡◌, ℕ, zero, suc, ◌+◌, ◌-◌, ◌<◌, ◌≤◌, ◌⊎◌, inl, inr, max, List, [], ◌∷◌, ◌++◌, length, take, map, Option, Some, None, slice_get, unwrap_or, refl, ap, sym, ◌∙◌, subst, arith, append_assoc, length-append}
use Rattle.std.proofs.lemmas.List.{append-nil}
use Rattle.std.specs.List.{slice_index_or}
use Rattle.sve_text.specs.declared.edit.Edit.{Edit}
use Rattle.sve_text.specs.declared.why.Refusal.{Refusal}
use Rattle.sve_text.specs.Files.{FilesValue, files_after}
use Rattle.sve_text.specs.Refusals.{refusal_of}
use Rattle.sve_history.specs.declared.entry.Entry.{Entry as Made}
use Rattle.sve_history.specs.Histories.{Table, entry_by, files_from, AreMet}
use Rattle.sve_clients.specs.declared.runs.Order.{Order}
use Rattle.sve_clients.specs.declared.runs.Order.TheVariants.{InTurn}
use Rattle.sve_clients.specs.Runs.{next_front}
use Rattle.sve_command.specs.declared.commands.Command.{Command}
use Rattle.sve_command.specs.declared.commands.Command.TheVariants.{Commit, Ask}
use Rattle.sve_store.specs.declared.answer.Answer.TheVariants.{Done, Spent as Unanswered}
use Rattle.sve_report.specs.declared.entry.Entry.{Entry}
use Rattle.sve_report.specs.declared.record.Record.{Record}
use Rattle.sve_report.specs.declared.record.Record.TheVariants.{Accepted, Refused, Answered, Cancelled, Spent}
use Rattle.sve_runner.specs.declared.terms.Terms.{Terms}
use Rattle.sve_runner.specs.Honest.{commands_at, command_in, edits_in, edits_in_command, script_entries, front_at, accepted_from, files_of, Walks, AreHonestFrom, AreHonest}
use Rattle.sve_runner.proofs.Totals.{total, all_accepted}
use Rattle.sve_serve.specs.Answers.{IsAnswerAt}
use Rattle.sve_serve.specs.Serial.{Revisions, entry_of, committed, commit_record, AreRecordsOf, revisions_after, revisions_in_turn, AreRecordsInTurn, opened}

-- ---- lists by their places

there : {A : Type 0} (xs : List A) (k : ℕ) (x : A) → slice_get xs k ≡ Some x → k < length xs
there [] k x at = absurd (cc)
there (y ∷ xs) zero x at = omega arith
there (y ∷ xs) (suc k) x at = let rest = there xs k x at in omega (arith, rest)

get_at : (done : List Command) (command : Command) (rest : List Command) → slice_get (done ++ command ∷ rest) (length done) ≡ Some command
get_at [] command rest = refl
get_at (d ∷ done) command rest = get_at done command rest

-- what stands behind a list begins there
first_left : (es left : List Entry) (e : Entry) → slice_get (es ++ left) (length es) ≡ Some e → (others : List Entry) × (left ≡ e ∷ others)
first_left [] [] e at = absurd (cc)
first_left [] (x ∷ left) e at = let same : x ≡ e = cc in (left, ap (λ (y : Entry). y ∷ left) same)
first_left (x ∷ es) left e at = first_left es left e at

none_left : (es left : List Entry) → length left ≡ 0 → es ++ left ≡ es
none_left es [] is = append-nil es
none_left es (x ∷ left) is = absurd (omega (arith, is))

-- ---- the commands of a client

-- the commands of client i before number j are these, and these are those from there on
record IsAt (clients : List (List Command)) (i : ℕ) (done rest : List Command) (j : ℕ) : Type 0 where
  whole : commands_at clients i ≡ done ++ rest
  number : j ≡ length done + 1

command_at : {clients : List (List Command)} {i : ℕ} {done rest : List Command} {j : ℕ} {command : Command} → IsAt clients i done (command ∷ rest) j → command_in clients i j ≡ Some command
command_at {clients} {i} {done} {rest} {j} {command} at =
    let before : j - 1 ≡ length done = omega (arith, at.number) in
    ap (λ (cs : List Command). slice_get cs (j - 1)) at.whole
    ∙ ap (λ (n : ℕ). slice_get (done ++ command ∷ rest) n) before
    ∙ get_at done command rest

next : {clients : List (List Command)} {i : ℕ} {done rest : List Command} {j : ℕ} {command : Command} → IsAt clients i done (command ∷ rest) j → IsAt clients i (done ++ command ∷ []) rest (j + 1)
next {clients} {i} {done} {rest} {j} {command} at = record {
  whole = at.whole ∙ sym (append_assoc done (command ∷ []) rest);
  number = omega (arith, at.number, length-append done (command ∷ []));
}

edits_at : {clients : List (List Command)} {i : ℕ} {done rest : List Command} {j : ℕ} {edits : List Edit} → IsAt clients i done (Commit edits ∷ rest) j → edits_in clients i j ≡ edits
edits_at at = ap edits_in_command (command_at at)

-- ---- entries and files

files_from-push : (table : Table) (r : ℕ) (files : FilesValue) (entries : List Entry) (e : Entry)
    → files_from r files (map (λ (x : Entry). entry_by table x.client x.command) (entries ++ e ∷ [])) ≡ files_after (r + length entries + 1) (files_from r files (map (λ (x : Entry). entry_by table x.client x.command) entries)) (table e.client e.command)
files_from-push table r files [] e = ap (λ (n : ℕ). files_after n files (table e.client e.command)) (omega arith)
files_from-push table r files (x ∷ xs) e =
    files_from-push table (r + 1) (files_after (r + 1) files (table x.client x.command)) xs e
    ∙ ap (λ (n : ℕ). files_after n (files_from (r + 1) (files_after (r + 1) files (table x.client x.command)) (map (λ (x : Entry). entry_by table x.client x.command) xs)) (table e.client e.command)) (omega arith)

taken_first : (clients : List (List Command)) (xs ys : List Entry) → take (length xs) (script_entries clients (xs ++ ys)) ≡ script_entries clients xs
taken_first clients [] ys = refl
taken_first clients (x ∷ xs) ys = ap (λ (es : List Made). entry_by (edits_in clients) x.client x.command ∷ es) (taken_first clients xs ys)

module _ (terms : Terms) (opening : FilesValue) (clients : List (List Command)) (entries : List Entry) where
  -- as many commits as are accepted fit between a front and the one behind the records, which is in the history
  bounds : (i j front : ℕ) (commands : List Command) (recs : List Record) → front ≤ length entries → Walks IsAnswerAt terms opening clients entries i j front commands recs
      → (front + length (accepted_from j recs) ≤ front_at front recs) × (front_at front recs ≤ length entries)
  bounds i j front [] [] le w = (omega arith, le)
  bounds i j front [] (rec ∷ recs) le w = absurd w
  bounds i j front (command ∷ commands) [] le w = absurd w
  bounds i j front (Commit edits ∷ commands) (Accepted r ∷ recs) le ((above, at), rest) =
      let lt = there entries (r - 1) _ at in
      let later = bounds i (j + 1) (max front r) commands recs (omega (arith, le, above, lt)) rest in
      (omega (arith, above, later.0), later.1)
  bounds i j front (Commit edits ∷ commands) (Refused r edit why ∷ recs) le ((above, within, is), rest) =
      let later = bounds i (j + 1) (max front r) commands recs (omega (arith, le, within)) rest in
      (omega (arith, later.0), later.1)
  bounds i j front (Commit edits ∷ commands) (Answered r lines ∷ recs) le (here, rest) = absurd here
  bounds i j front (Commit edits ∷ commands) (Cancelled base newer ∷ recs) le (here, rest) = absurd here
  bounds i j front (Commit edits ∷ commands) (Spent r limit ∷ recs) le (here, rest) = absurd here
  bounds i j front (Ask query mode budget ∷ commands) (Accepted r ∷ recs) le (here, rest) = absurd here
  bounds i j front (Ask query mode budget ∷ commands) (Refused r edit why ∷ recs) le (here, rest) = absurd here
  bounds i j front (Ask query mode budget ∷ commands) (Answered r lines ∷ recs) le ((above, within, is), rest) =
      let later = bounds i (j + 1) (max front r) commands recs (omega (arith, le, within)) rest in
      (omega (arith, later.0), later.1)
  bounds i j front (Ask query mode budget ∷ commands) (Cancelled base newer ∷ recs) le ((latest, above, more, within), rest) =
      let later = bounds i (j + 1) (max front newer) commands recs (omega (arith, le, within)) rest in
      (omega (arith, later.0), later.1)
  bounds i j front (Ask query mode budget ∷ commands) (Spent r limit ∷ recs) le ((above, within, same, is), rest) =
      let later = bounds i (j + 1) (max front r) commands recs (omega (arith, le, within)) rest in
      (omega (arith, later.0), later.1)

  -- these revisions are made, and these entries are left
  record IsBehind (h : Revisions) (left : List Entry) : Type 0 where
    whole : entries ≡ h.entries ++ left
    newest : h.newest ≡ files_from 0 opening (script_entries clients h.entries)
    met : AreMet (length h.entries) h.newest (script_entries clients left)

  sized : (h : Revisions) (left : List Entry) → IsBehind h left → length entries ≡ length h.entries + length left
  sized h left behind = ap length behind.whole ∙ length-append h.entries left

  -- the files of the newest revision, as the history tells them
  files_told : (h : Revisions) (left : List Entry) (r : ℕ) → IsBehind h left → r ≡ length h.entries → files_of IsAnswerAt terms opening clients entries r ≡ h.newest
  files_told h left r behind same =
      ap (files_of IsAnswerAt terms opening clients entries) same
      ∙ ap (λ (xs : List Entry). files_from 0 opening (take (length h.entries) (script_entries clients xs))) behind.whole
      ∙ ap (files_from 0 opening) (taken_first clients h.entries left)
      ∙ sym behind.newest

  accepted_behind : (h : Revisions) (i j : ℕ) (edits : List Edit) (left : List Entry) → edits_in clients i j ≡ edits → IsBehind h (entry_of i j ∷ left) → IsBehind (committed h (entry_of i j) edits None) left
  accepted_behind h i j edits left mine behind =
      let e = entry_of i j in
      let number : length h.entries + 1 ≡ 0 + length h.entries + 1 = omega arith in
      let here : length (h.entries ++ e ∷ []) ≡ length h.entries + 1 = length-append h.entries (e ∷ []) in
      record {
        whole = behind.whole ∙ sym (append_assoc h.entries (e ∷ []) left);
        newest = (λ k. files_after (number k) (behind.newest k) (sym mine k)) ∙ sym (files_from-push (edits_in clients) 0 opening h.entries e);
        met = subst (λ (n : ℕ). AreMet n (files_after (length h.entries + 1) h.newest edits) (script_entries clients left)) (sym here)
            (subst (λ (x : List Edit). AreMet (length h.entries + 1) (files_after (length h.entries + 1) h.newest x) (script_entries clients left)) mine behind.met.1);
      }

  -- the revisions are made, their number is the front, and so many entries are left
  record HasReached (n top : ℕ) (h : Revisions) : Type 0 where
    left : List Entry
    behind : IsBehind h left
    count : length left ≡ n
    reached : top ≡ length h.entries

  -- from these revisions on the commands were told these, and what they leave was reached
  abbrev HasTold : ℕ → ℕ → Revisions → ℕ → ℕ → List Command → List Record → Type 0
  HasTold n top h i j commands recs = AreRecordsOf terms.budget h i j commands recs × HasReached n top (revisions_after h i j commands)

  -- the same for a commit, of which this is what it is refused for
  abbrev HasBeenTold : ℕ → ℕ → Revisions → ℕ → ℕ → List Edit → List Command → Record → List Record → Option Refusal → Type 0
  HasBeenTold n top h i j edits rest rec recs refusal =
      ((rec ≡ commit_record h refusal) × AreRecordsOf terms.budget (committed h (entry_of i j) edits refusal) i (j + 1) rest recs) × HasReached n top (revisions_after (committed h (entry_of i j) edits refusal) i (j + 1) rest)

  along : (i j front n : ℕ) (h : Revisions) (left : List Entry) (done rest : List Command) (recs : List Record) → IsAt clients i done rest j → IsBehind h left → front ≡ length h.entries → length left ≡ length (accepted_from j recs) + n
      → front_at front recs + n ≤ length entries → Walks IsAnswerAt terms opening clients entries i j front rest recs → HasTold n (front_at front recs) h i j rest recs
  along i j front n h left done [] [] at behind is count room w = (tt, record { left = left; behind = behind; count = omega (arith, count); reached = is })
  along i j front n h left done [] (rec ∷ recs) at behind is count room w = absurd w
  along i j front n h left done (command ∷ rest) [] at behind is count room w = absurd w
  along i j front n h left done (Commit edits ∷ rest) (Accepted r ∷ recs) at behind is count room ((above, there_is), more) =
      let e = entry_of i j in
      let size = sized h left behind in
      let lt = there entries (r - 1) e there_is in
      let within_all : front_at (max front r) recs + n ≤ length entries = room in
      let later = (bounds i (j + 1) (max front r) rest recs (omega (arith, is, size, above, lt)) more).0 in
      let number : r ≡ length h.entries + 1 = omega (arith, is, size, count, above, later, within_all) in
      let place : r - 1 ≡ length h.entries = omega (arith, number) in
      let at_front : slice_get (h.entries ++ left) (length h.entries) ≡ Some e = ap (λ (xs : List Entry). slice_get xs (length h.entries)) (sym behind.whole) ∙ ap (slice_get entries) (sym place) ∙ there_is in
      let split = first_left h.entries left e at_front in
      let behind' : IsBehind h (e ∷ split.0) = subst (IsBehind h) split.1 behind in
      let none : refusal_of h.newest edits ≡ None = subst (λ (x : List Edit). refusal_of h.newest x ≡ None) (edits_at at) behind'.met.0 in
      let after = committed h e edits None in
      let front' : max front r ≡ length after.entries = omega (arith, is, number, length-append h.entries (e ∷ [])) in
      let s : HasTold n (front_at (max front r) recs) after i (j + 1) rest recs = along i (j + 1) (max front r) n after split.0 (done ++ Commit edits ∷ []) rest recs (next at) (accepted_behind h i j edits split.0 (edits_at at) behind') front' (omega (arith, count, ap length split.1)) room more in
      let told : HasBeenTold n (front_at (max front r) recs) h i j edits rest (Accepted r) recs None = ((ap Accepted number, s.0), s.1) in
      subst (HasBeenTold n (front_at (max front r) recs) h i j edits rest (Accepted r) recs) (sym none) told
  along i j front n h left done (Commit edits ∷ rest) (Refused r edit why ∷ recs) at behind is count room ((above, within, refused), more) =
      let e = entry_of i j in
      let size = sized h left behind in
      let within_all : front_at (max front r) recs + n ≤ length entries = room in
      let later = (bounds i (j + 1) (max front r) rest recs (omega (arith, is, size, within)) more).0 in
      let number : r ≡ length h.entries = omega (arith, is, size, count, above, later, within_all) in
      let some : refusal_of h.newest edits ≡ Some (record { edit = edit; why = why }) = ap (λ (f : FilesValue). refusal_of f edits) (sym (files_told h left r behind number)) ∙ refused in
      let front' : max front r ≡ length h.entries = omega (arith, is, number) in
      let s = along i (j + 1) (max front r) n h left (done ++ Commit edits ∷ []) rest recs (next at) behind front' count room more in
      let told : HasBeenTold n (front_at (max front r) recs) h i j edits rest (Refused r edit why) recs (Some (record { edit = edit; why = why })) = ((λ k. Refused (number k) edit why, s.0), s.1) in
      subst (HasBeenTold n (front_at (max front r) recs) h i j edits rest (Refused r edit why) recs) (sym some) told
  along i j front n h left done (Commit edits ∷ rest) (Answered r lines ∷ recs) at behind is count room (here, more) = absurd here
  along i j front n h left done (Commit edits ∷ rest) (Cancelled base newer ∷ recs) at behind is count room (here, more) = absurd here
  along i j front n h left done (Commit edits ∷ rest) (Spent r limit ∷ recs) at behind is count room (here, more) = absurd here
  along i j front n h left done (Ask query mode budget ∷ rest) (Accepted r ∷ recs) at behind is count room (here, more) = absurd here
  along i j front n h left done (Ask query mode budget ∷ rest) (Refused r edit why ∷ recs) at behind is count room (here, more) = absurd here
  along i j front n h left done (Ask query mode budget ∷ rest) (Answered r lines ∷ recs) at behind is count room ((above, within, answered), more) =
      let size = sized h left behind in
      let within_all : front_at (max front r) recs + n ≤ length entries = room in
      let later = (bounds i (j + 1) (max front r) rest recs (omega (arith, is, size, within)) more).0 in
      let number : r ≡ length h.entries = omega (arith, is, size, count, above, later, within_all) in
      let told = subst (λ (f : FilesValue). IsAnswerAt f query (unwrap_or budget terms.budget) (Done lines)) (files_told h left r behind number) answered in
      let front' : max front r ≡ length h.entries = omega (arith, is, number) in
      let s = along i (j + 1) (max front r) n h left (done ++ Ask query mode budget ∷ []) rest recs (next at) behind front' count room more in
      (((Done lines, told, λ k. Answered (number k) lines), s.0), s.1)
  along i j front n h left done (Ask query mode budget ∷ rest) (Cancelled base newer ∷ recs) at behind is count room ((latest, above, newest, within), more) =
      let size = sized h left behind in
      let within_all : front_at (max front newer) recs + n ≤ length entries = room in
      let later = (bounds i (j + 1) (max front newer) rest recs (omega (arith, is, size, within)) more).0 in
      absurd (omega (arith, is, size, count, above, newest, later, within_all))
  along i j front n h left done (Ask query mode budget ∷ rest) (Spent r limit ∷ recs) at behind is count room ((above, within, limited, spent), more) =
      let size = sized h left behind in
      let within_all : front_at (max front r) recs + n ≤ length entries = room in
      let later = (bounds i (j + 1) (max front r) rest recs (omega (arith, is, size, within)) more).0 in
      let number : r ≡ length h.entries = omega (arith, is, size, count, above, later, within_all) in
      let told = subst (λ (m : ℕ). IsAnswerAt h.newest query m Unanswered) limited (subst (λ (f : FilesValue). IsAnswerAt f query limit Unanswered) (files_told h left r behind number) spent) in
      let front' : max front r ≡ length h.entries = omega (arith, is, number) in
      let s = along i (j + 1) (max front r) n h left (done ++ Ask query mode budget ∷ []) rest recs (next at) behind front' count room more in
      (((Unanswered, told, λ k. Spent (number k) (limited k)), s.0), s.1)

  -- ---- one client after another

  -- the records of each client are honest at the front that the one before it leaves
  abbrev WalkInTurn : ℕ → ℕ → List (List Command) → List (List Record) → Type 0
  WalkInTurn i front [] [] = Unit {0}
  WalkInTurn i front [] (recs ∷ records) = ⊥
  WalkInTurn i front (commands ∷ others) [] = ⊥
  WalkInTurn i front (commands ∷ others) (recs ∷ records) = Walks IsAnswerAt terms opening clients entries i 1 front commands recs × WalkInTurn (i + 1) (front_at front recs) others records

  in_turn : terms.order ≡ InTurn → (i front : ℕ) (others : List (List Command)) (records : List (List Record)) → AreHonestFrom IsAnswerAt terms opening clients entries i front others records → WalkInTurn i front others records
  in_turn order i front [] [] told = tt
  in_turn order i front [] (recs ∷ records) told = absurd told
  in_turn order i front (commands ∷ others) [] told = absurd told
  in_turn order i front (commands ∷ others) (recs ∷ records) (walked, own, rest) =
      let goes_on : next_front terms.order (front_at front recs) ≡ front_at front recs = ap (λ (o : Order). next_front o (front_at front recs)) order in
      (walked, subst (λ (f : ℕ). WalkInTurn (i + 1) f others records) goes_on (in_turn order (i + 1) (next_front terms.order (front_at front recs)) others records rest))

  -- one client is in turn, whatever the order
  alone : (others : List (List Command)) (records : List (List Record)) → length others ≡ 1 → AreHonestFrom IsAnswerAt terms opening clients entries 1 0 others records → WalkInTurn 1 0 others records
  alone [] records one told = absurd (omega (arith, one))
  alone (commands ∷ other ∷ others) records one told = absurd (omega (arith, one))
  alone (commands ∷ []) [] one told = absurd told
  alone (commands ∷ []) (recs ∷ []) one (walked, own, rest) = (walked, tt)
  alone (commands ∷ []) (recs ∷ other ∷ records) one (walked, own, rest) = absurd rest

  all_bounds : (i front : ℕ) (others : List (List Command)) (records : List (List Record)) → front ≤ length entries → WalkInTurn i front others records → front + total records ≤ length entries
  all_bounds i front [] [] le w = omega (arith, le)
  all_bounds i front [] (recs ∷ records) le w = absurd w
  all_bounds i front (commands ∷ others) [] le w = absurd w
  all_bounds i front (commands ∷ others) (recs ∷ records) le (walked, rest) =
      let here = bounds i 1 front commands recs le walked in
      omega (arith, here.0, all_bounds (i + 1) (front_at front recs) others records here.1 rest)

  all_along : (i front : ℕ) (h : Revisions) (left : List Entry) (others : List (List Command)) (records : List (List Record)) → ((m : ℕ) → commands_at clients (i + m) ≡ slice_index_or others m []) → IsBehind h left → front ≡ length h.entries → length left ≡ total records
      → WalkInTurn i front others records → AreRecordsInTurn terms.budget h i others records × (entries ≡ (revisions_in_turn h i others).entries)
  all_along i front h left [] [] are behind is count w = (tt, behind.whole ∙ none_left h.entries left count)
  all_along i front h left [] (recs ∷ records) are behind is count w = absurd w
  all_along i front h left (commands ∷ others) [] are behind is count w = absurd w
  all_along i front h left (commands ∷ others) (recs ∷ records) are behind is count (walked, rest) =
      let here : i + 0 ≡ i = omega arith in
      let at : IsAt clients i [] commands 1 = record { whole = ap (commands_at clients) (sym here) ∙ are 0; number = refl } in
      let le : front ≤ length entries = omega (arith, is, sized h left behind) in
      let later = all_bounds (i + 1) (front_at front recs) others records (bounds i 1 front commands recs le walked).1 rest in
      let s = along i 1 front (total records) h left [] commands recs at behind is count later walked in
      let next_client : (m : ℕ) → i + 1 + m ≡ i + suc m = λ m. omega arith in
      let more = all_along (i + 1) (front_at front recs) (revisions_after h i 1 commands) s.1.left others records (λ m. ap (commands_at clients) (next_client m) ∙ are (suc m)) s.1.behind s.1.reached s.1.count rest in
      ((s.0, more.0), more.1)

  turns : (records : List (List Record)) → (terms.order ≡ InTurn) ⊎ (length clients ≡ 1) → AreHonest IsAnswerAt terms opening clients entries records → WalkInTurn 1 0 clients records
  turns records (inl order) honest = in_turn order 1 0 clients records honest.told
  turns records (inr one) honest = alone clients records one honest.told

  pub are_in_turn : (records : List (List Record)) → (terms.order ≡ InTurn) ⊎ (length clients ≡ 1) → AreHonest IsAnswerAt terms opening clients entries records
      → AreRecordsInTurn terms.budget (opened opening) 1 clients records × (entries ≡ (revisions_in_turn (opened opening) 1 clients).entries)
  are_in_turn records order honest =
      let first : (m : ℕ) → 1 + m - 1 ≡ m = λ m. omega arith in
      let start : IsBehind (opened opening) entries = record { whole = refl; newest = refl; met = honest.legal.met } in
      all_along 1 0 (opened opening) entries clients records (λ m. ap (λ (n : ℕ). slice_index_or clients n []) (first m)) start refl (all_accepted IsAnswerAt terms opening clients entries records honest) (turns records order honest)
