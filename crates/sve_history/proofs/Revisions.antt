-- Revisions by their numbers, and one more of them.
use Rattle.std.proofs.Common.{◌≡◌, ℕ, zero, suc, ◌+◌, ◌<◌, List, [], ◌∷◌, ◌++◌, length, get_or, take, Some, slice_get, None, refl, ap, sym, ◌∙◌, subst, arith}
use Rattle.std.specs.Prelude.{All}
use Rattle.std.proofs.lemmas.List.{map-append}
use Rattle.sve_text.specs.Files.{FilesValue, files_after}
use Rattle.sve_text.specs.Refusals.{refusal_of}
use Rattle.sve_history.specs.declared.entry.Entry.{Entry}
use Rattle.sve_history.specs.declared.revision.Revision.{Revision}
use Rattle.sve_history.specs.Histories.{files_from, newest_files, commands_of, IsLegal}
use Rattle.sve_history.specs.Revisions.{entries_in, HaveTheirFiles, IsHistory}
use Rattle.sve_history.proofs.Pushes.{newest_are_all, legal-push}

pub length-entries_in : (revisions : List Revision) → length (entries_in revisions) ≡ length revisions
length-entries_in [] = refl
length-entries_in (x ∷ xs) = ap suc (length-entries_in xs)

pub entry_held : (revisions : List Revision) (k : ℕ) (d : Revision) → k < length revisions → slice_get (entries_in revisions) k ≡ Some (get_or revisions k d).entry
entry_held [] k d lt = absurd (omega arith)
entry_held (x ∷ xs) zero d lt = refl
entry_held (x ∷ xs) (suc k) d lt = entry_held xs k d (omega arith)

pub files_held : (r : ℕ) (files : FilesValue) (revisions : List Revision) (k : ℕ) (d : Revision) → HaveTheirFiles r files revisions → k < length revisions
    → (get_or revisions k d).files ≡ files_from r files (take (suc k) (entries_in revisions))
files_held r files [] k d have lt = absurd (omega arith)
files_held r files (x ∷ xs) zero d have lt = have.0
files_held r files (x ∷ xs) (suc k) d have lt =
    files_held (r + 1) x.files xs k d have.1 (omega arith)
    ∙ ap (λ (f : FilesValue). files_from (r + 1) f (take (suc k) (entries_in xs))) have.0

have-push : (r : ℕ) (files : FilesValue) (revisions : List Revision) (x : Revision) → HaveTheirFiles r files revisions
    → x.files ≡ files_after (r + length revisions + 1) (files_from r files (entries_in revisions)) x.entry.edits → HaveTheirFiles r files (revisions ++ x ∷ [])
have-push r files [] x have is = (is ∙ ap (λ (n : ℕ). files_after n files x.entry.edits) (omega arith), tt)
have-push r files (y ∷ ys) x have is =
    let number : r + suc (length ys) + 1 ≡ r + 1 + length ys + 1 = omega arith in
    (have.0, have-push (r + 1) y.files ys x have.1 (is ∙ (λ k. files_after (number k) (files_from (r + 1) (sym have.0 k) (entries_in ys)) x.entry.edits)))

pub entries_in-push : (revisions : List Revision) (x : Revision) → entries_in (revisions ++ x ∷ []) ≡ entries_in revisions ++ x.entry ∷ []
entries_in-push revisions x = map-append (λ (y : Revision). y.entry) revisions (x ∷ [])

-- one more revision, where the newest files did not refuse its commit, whose command is above its client's earlier ones
pub history-push : (opening : FilesValue) (revisions : List Revision) (x : Revision) → IsHistory opening revisions
    → x.files ≡ files_after (length (entries_in revisions) + 1) (newest_files (record { opening = opening; entries = entries_in revisions })) x.entry.edits
    → refusal_of (newest_files (record { opening = opening; entries = entries_in revisions })) x.entry.edits ≡ None
    → All (λ k. k < x.entry.command) (commands_of x.entry.client (entries_in revisions)) → IsHistory opening (revisions ++ x ∷ [])
history-push opening revisions x kept is none below =
    let entries = entries_in revisions in
    let number : length entries + 1 ≡ 0 + length revisions + 1 = omega (arith, length-entries_in revisions) in
    record {
      untouched = kept.untouched;
      files = have-push 0 opening revisions x kept.files (is ∙ (λ k. files_after (number k) (newest_are_all opening entries k) x.entry.edits));
      legal = subst (λ (es : List Entry). IsLegal (record { opening = opening; entries = es })) (sym (entries_in-push revisions x)) (legal-push opening entries x.entry kept.legal none below);
    }
