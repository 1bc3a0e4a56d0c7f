-- What stamps tell of the revisions of a history.
use Rattle.std.proofs.Common.{◌≡◌, ◌⊎◌, ℕ, zero, suc, ◌+◌, ◌<◌, ◌≤◌, Bool, true, false, List, [], ◌∷◌, length, get_or, take, refl, ap, sym, ◌∙◌, subst, inl, inr, arith}
use Rattle.std.specs.Prelude.{Option, Some, cond}
use Rattle.std.specs.Option.{option_map_or}
use Rattle.sve_text.specs.declared.edit.Edit.{Edit}
use Rattle.sve_text.specs.Rows.{Row, row_of, stamp_of, is_there, put_row}
use Rattle.sve_text.specs.Files.{FilesValue, name_of, keep_names, rows_after, files_after, opening_rows}
use Rattle.sve_text.specs.Laws.{Touches, HaveSameNames}
use Rattle.sve_text.proofs.Puts.{row_of-put_row, row_of-put_row_other}
use Rattle.sve_text.proofs.Commits.{same_or_other, row_of-untouched, stamp_of-touched, kept_names_are_all_names}
use Rattle.sve_history.specs.declared.entry.Entry.{Entry}
use Rattle.sve_history.specs.Histories.{IsOpening, files_from, files_at}
use Rattle.sve_history.specs.Laws.{StampsTellRevisions, NamesStampTellsARevision, OpeningFilesAreUntouched}

-- the edits touch the name, or they do not
touched_or_not : (edits : List Edit) (name : List ℕ) → Touches edits name ⊎ (¬ Touches edits name)
touched_or_not [] name = inr (λ t. t)
touched_or_not (e ∷ es) name =
    elim (same_or_other name (name_of e)) [
      | inl same ↦ inl (inl same)
      | inr other ↦ elim (touched_or_not es name) [
        | inl later ↦ inl (inr later)
        | inr never ↦ inr (λ t. elim t [ inl same ↦ other same | inr later ↦ never later ])
      ]
    ]

-- the files that an entry leaves of those before it
step_from : (n : ℕ) (files : FilesValue) (entries : List Entry) (r : ℕ) (d : Entry) → r < length entries → files_from n files (take (suc r) entries) ≡ files_after (n + r + 1) (files_from n files (take r entries)) (get_or entries r d).edits
step_from n files [] r d lt = absurd (omega arith)
step_from n files (x ∷ xs) zero d lt = ap (λ (m : ℕ). files_after m files x.edits) (omega arith)
step_from n files (x ∷ xs) (suc r) d lt =
    step_from (n + 1) (files_after (n + 1) files x.edits) xs r d (omega arith)
    ∙ ap (λ (m : ℕ). files_after m (files_from (n + 1) (files_after (n + 1) files x.edits) (take r xs)) (get_or xs r d).edits) (omega arith)

step_at : (opening : FilesValue) (entries : List Entry) (r : ℕ) (d : Entry) → r < length entries → files_at opening entries (suc r) ≡ files_after (suc r) (files_at opening entries r) (get_or entries r d).edits
step_at opening entries r d lt =
    step_from 0 opening entries r d lt
    ∙ ap (λ (m : ℕ). files_after m (files_at opening entries r) (get_or entries r d).edits) (omega arith)

-- ---- names

module _ (opening : FilesValue) (entries : List Entry) (name : List ℕ) where
  -- these files of revision r have at the name what its stamp tells
  abbrev Tells : ℕ → FilesValue → Type 0
  Tells r files = let stamp = stamp_of files.rows name in (stamp ≤ r) × (row_of (files_at opening entries stamp).rows name ≡ row_of files.rows name)

  told_later : (r : ℕ) (files : FilesValue) (edits : List Edit) → Tells r files → files_at opening entries (suc r) ≡ files_after (suc r) files edits → Touches edits name ⊎ (¬ Touches edits name) → Tells (suc r) (files_after (suc r) files edits)
  told_later r files edits told is (inl touched) =
      let stamp : stamp_of (rows_after (suc r) files.rows edits) name ≡ suc r = stamp_of-touched (suc r) files.rows edits name touched in
      (omega (arith, stamp), ap (λ (s : ℕ). row_of (files_at opening entries s).rows name) stamp ∙ ap (λ (f : FilesValue). row_of f.rows name) is)
  told_later r files edits told is (inr never) =
      let row : row_of (rows_after (suc r) files.rows edits) name ≡ row_of files.rows name = row_of-untouched (suc r) files.rows edits name never in
      let stamp : stamp_of (rows_after (suc r) files.rows edits) name ≡ stamp_of files.rows name = ap (λ (o : Option Row). option_map_or (λ (x : Row). x.stamp) o 0) row in
      (omega (arith, stamp, told.0), ap (λ (s : ℕ). row_of (files_at opening entries s).rows name) stamp ∙ told.1 ∙ sym row)

  told_at : (r : ℕ) → IsOpening opening → r ≤ length entries → Tells r (files_at opening entries r)
  told_at zero untouched within =
      let stamp = untouched.names name in
      (omega (arith, stamp), ap (λ (s : ℕ). row_of (files_at opening entries s).rows name) stamp)
  told_at (suc r) untouched within =
      let d : Entry = get_or entries r (record { client = 0; command = 0; edits = [] }) in
      let is = step_at opening entries r (record { client = 0; command = 0; edits = [] }) (omega arith) in
      subst (Tells (suc r)) (sym is) (told_later r (files_at opening entries r) d.edits (told_at r untouched (omega arith)) is (touched_or_not d.edits name))

pub stamps_tell_revisions : StampsTellRevisions
stamps_tell_revisions opening entries r name untouched within = told_at opening entries name r untouched within

-- ---- the set of names

module _ (opening : FilesValue) (entries : List Entry) where
  abbrev TellsNames : ℕ → FilesValue → Type 0
  TellsNames r files =
      let stamp = files.names_stamp in
      (stamp ≤ r) × ((files_at opening entries stamp).names_stamp ≡ stamp) × HaveSameNames (files_at opening entries stamp).rows files.rows

  names_told_by : (r : ℕ) (files after : FilesValue) (kept : Bool) → TellsNames r files → files_at opening entries (suc r) ≡ after
      → after.names_stamp ≡ cond kept files.names_stamp (suc r) → (kept ≡ true → HaveSameNames files.rows after.rows) → TellsNames (suc r) after
  names_told_by r files after true told is stamp same =
      let place = ap (files_at opening entries) stamp in (
        omega (arith, stamp, told.0),
        ap (λ (f : FilesValue). f.names_stamp) place ∙ told.1 ∙ sym stamp,
        λ name. ap (λ (f : FilesValue). is_there f.rows name) place ∙ told.2 name ∙ same refl name,
      )
  names_told_by r files after false told is stamp same =
      let place = ap (files_at opening entries) stamp ∙ is in (
        omega (arith, stamp),
        ap (λ (f : FilesValue). f.names_stamp) place,
        λ name. ap (λ (f : FilesValue). is_there f.rows name) place,
      )

  names_told_at : (r : ℕ) → IsOpening opening → r ≤ length entries → TellsNames r (files_at opening entries r)
  names_told_at zero untouched within =
      let place = ap (files_at opening entries) untouched.set in (
        omega (arith, untouched.set),
        ap (λ (f : FilesValue). f.names_stamp) place,
        λ name. ap (λ (f : FilesValue). is_there f.rows name) place,
      )
  names_told_at (suc r) untouched within =
      let d : Entry = get_or entries r (record { client = 0; command = 0; edits = [] }) in
      let is = step_at opening entries r (record { client = 0; command = 0; edits = [] }) (omega arith) in
      let files = files_at opening entries r in
      subst (TellsNames (suc r)) (sym is)
      (names_told_by r files (files_after (suc r) files d.edits) (keep_names files.rows (rows_after (suc r) files.rows d.edits) d.edits)
      (names_told_at r untouched (omega arith)) is refl (kept_names_are_all_names (suc r) files.rows d.edits).0)

pub names_stamp_tells_a_revision : NamesStampTellsARevision
names_stamp_tells_a_revision opening entries r untouched within = names_told_at opening entries r untouched within

-- ---- opening files

stamp_put : (row : Row) (rows : List Row) (name : List ℕ) → row.stamp ≡ 0 → stamp_of rows name ≡ 0 → stamp_of (put_row row rows) name ≡ 0
stamp_put row rows name zero_stamp before =
    elim (same_or_other name row.name) [
      | inl same ↦ ap (stamp_of (put_row row rows)) same ∙ ap (λ (o : Option Row). option_map_or (λ (x : Row). x.stamp) o 0) (row_of-put_row row rows) ∙ zero_stamp
      | inr other ↦ ap (λ (o : Option Row). option_map_or (λ (x : Row). x.stamp) o 0) (row_of-put_row_other row rows name other) ∙ before
    ]

stamps_opened : (rows : List Row) (files : List (List ℕ × List ℕ)) → ((name : List ℕ) → stamp_of rows name ≡ 0) → (name : List ℕ) → stamp_of (opening_rows rows files) name ≡ 0
stamps_opened rows [] before name = before name
stamps_opened rows (file ∷ files) before name =
    let row : Row = record { name = file.0; text = Some file.1; stamp = 0 } in
    stamps_opened (put_row row rows) files (λ other. stamp_put row rows other refl (before other)) name

pub opening_files_are_untouched : OpeningFilesAreUntouched
opening_files_are_untouched files = record { names = stamps_opened [] files (λ name. refl); set = refl }
