-- What one more entry leaves of a history: the files before it, its own files, and that it is legal.
use Rattle.std.proofs.Common.{◌≡◌, ℕ, ◌+◌, ◌<◌, Bool, true, false, cond, eqb, List, [], ◌∷◌, ◌++◌, length, take, map, filter, None, ap, sym, ◌∙◌, subst, ⊎_elim, arith, length-append}
use Rattle.std.specs.Prelude.{All, nat_eq}
use Rattle.std.proofs.lemmas.List.{append-nil, map-append, take_all, take-append-le}
use Rattle.std.proofs.lemmas.List.Elements.{All-head, All-tail, filter-append}
use Rattle.std.proofs.lemmas.Bool.Decides.{eqb_tells}
use Rattle.sve_text.specs.Files.{FilesValue, files_after}
use Rattle.sve_text.specs.Refusals.{refusal_of}
use Rattle.sve_history.specs.declared.entry.Entry.{Entry}
use Rattle.sve_history.specs.Histories.{HistoryValue, files_from, files_at, newest_files, AreMet, commands_of, RisesFrom, IsRising, IsLegal}
use Rattle.sve_history.specs.Laws.{EntryMakesTheNextRevision, EarlierRevisionsStay}

pub files_from-push : (r : ℕ) (files : FilesValue) (entries : List Entry) (e : Entry) → files_from r files (entries ++ e ∷ []) ≡ files_after (r + length entries + 1) (files_from r files entries) e.edits
files_from-push r files [] e = ap (λ (n : ℕ). files_after n files e.edits) (omega arith)
files_from-push r files (x ∷ xs) e =
    files_from-push (r + 1) (files_after (r + 1) files x.edits) xs e
    ∙ ap (λ (n : ℕ). files_after n (files_from (r + 1) (files_after (r + 1) files x.edits) xs) e.edits) (omega arith)

-- the newest files are what all entries leave
pub newest_are_all : (opening : FilesValue) (entries : List Entry) → files_at opening entries (length entries) ≡ files_from 0 opening entries
newest_are_all opening entries = ap (files_from 0 opening) (take_all (length entries) entries (omega arith))

pub met-push : (r : ℕ) (files : FilesValue) (entries : List Entry) (e : Entry) → AreMet r files entries → refusal_of (files_from r files entries) e.edits ≡ None → AreMet r files (entries ++ e ∷ [])
met-push r files [] e met none = (none, tt)
met-push r files (x ∷ xs) e met none = (met.0, met-push (r + 1) (files_after (r + 1) files x.edits) xs e met.1 none)

rises-push : (n m : ℕ) (ns : List ℕ) → RisesFrom n ns → n < m → All (λ k. k < m) ns → RisesFrom n (ns ++ m ∷ [])
rises-push n m [] rises lt below = (lt, tt)
rises-push n m (k ∷ ks) rises lt below = (rises.0, rises-push k m ks rises.1 (All-head (λ j. j < m) k ks below) (All-tail (λ j. j < m) k ks below))

pub rising-push : (m : ℕ) (ns : List ℕ) → IsRising ns → All (λ k. k < m) ns → IsRising (ns ++ m ∷ [])
rising-push m [] rising below = tt
rising-push m (n ∷ ns) rising below = rises-push n m ns rising (All-head (λ j. j < m) n ns below) (All-tail (λ j. j < m) n ns below)

pub commands_of-push : (client : ℕ) (entries : List Entry) (e : Entry) → commands_of client (entries ++ e ∷ []) ≡ commands_of client entries ++ commands_of client (e ∷ [])
commands_of-push client entries e =
    ap (map (λ (x : Entry). x.command)) (filter-append (λ (x : Entry). nat_eq x.client client) entries (e ∷ []))
    ∙ map-append (λ (x : Entry). x.command) (filter (λ (x : Entry). nat_eq x.client client) entries) (filter (λ (x : Entry). nat_eq x.client client) (e ∷ []))

rising_of : (client : ℕ) (entries : List Entry) (e : Entry) → IsRising (commands_of client entries) → All (λ k. k < e.command) (commands_of e.client entries) → IsRising (commands_of client (entries ++ e ∷ []))
rising_of client entries e rising below =
    subst IsRising (sym (commands_of-push client entries e)) (⊎_elim own other (eqb_tells e.client client))
  where
    own : (eqb e.client client ≡ true) × (e.client ≡ client) → IsRising (commands_of client entries ++ commands_of client (e ∷ []))
    own t =
        let one : commands_of client (e ∷ []) ≡ e.command ∷ [] = ap (λ (b : Bool). map (λ (x : Entry). x.command) (cond b (e ∷ []) [])) t.0 in
        subst (λ (l : List ℕ). IsRising (commands_of client entries ++ l)) (sym one)
        (rising-push e.command (commands_of client entries) rising (subst (λ (c : ℕ). All (λ k. k < e.command) (commands_of c entries)) t.1 below))

    other : (eqb e.client client ≡ false) × (e.client ≡ client → ⊥) → IsRising (commands_of client entries ++ commands_of client (e ∷ []))
    other t =
        let none : commands_of client (e ∷ []) ≡ [] = ap (λ (b : Bool). map (λ (x : Entry). x.command) (cond b (e ∷ []) [])) t.0 in
        subst (λ (l : List ℕ). IsRising (commands_of client entries ++ l)) (sym none) (subst IsRising (sym (append-nil (commands_of client entries))) rising)

pub legal-push : (opening : FilesValue) (entries : List Entry) (e : Entry) → let h : HistoryValue = record { opening = opening; entries = entries } in IsLegal h → refusal_of (newest_files h) e.edits ≡ None
    → All (λ k. k < e.command) (commands_of e.client entries) → IsLegal (record { opening = opening; entries = entries ++ e ∷ [] })
legal-push opening entries e legal none below = record {
  met = met-push 0 opening entries e legal.met (ap (λ (files : FilesValue). refusal_of files e.edits) (sym (newest_are_all opening entries)) ∙ none);
  rising = λ client. rising_of client entries e (legal.rising client) below;
}

-- a new entry leaves the files of the revisions before it as they are
pub earlier_revisions_stay : EarlierRevisionsStay
earlier_revisions_stay opening entries more r within = ap (files_from 0 opening) (take-append-le r entries more within)

-- the files that it makes
pub entry_makes_the_next_revision : EntryMakesTheNextRevision
entry_makes_the_next_revision opening entries e =
    let whole : take (length entries + 1) (entries ++ e ∷ []) ≡ entries ++ e ∷ [] = take_all (length entries + 1) (entries ++ e ∷ []) (omega (arith, length-append entries (e ∷ []))) in
    ap (files_from 0 opening) whole
    ∙ files_from-push 0 opening entries e
    ∙ (λ k. files_after (zero_and (length entries) k) (sym (newest_are_all opening entries) k) e.edits)
  where
    zero_and : (n : ℕ) → 0 + n + 1 ≡ n + 1
    zero_and n = omega arith
