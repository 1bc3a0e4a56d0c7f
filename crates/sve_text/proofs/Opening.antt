-- What the opening files leave.
use Rattle.std.proofs.Common.{◌≡◌, ◌≢◌, ℕ, zero, suc, ◌<◌, length, get_or, List, [], ◌∷◌, Some, refl, sym, ◌∙◌, subst, arith}
use Rattle.std.specs.Prelude.{All}
use Rattle.std.proofs.lemmas.List.Elements.{All-head, All-tail}
use Rattle.sve_text.specs.Rows.{Row, row_of, put_row, IsInOrder}
use Rattle.sve_text.specs.Files.{opening_rows, HaveDistinctNames}
use Rattle.sve_text.specs.Laws.{OpeningFilesAreThere}
use Rattle.sve_text.proofs.Puts.{row_of-put_row, row_of-put_row_other, IsInOrder-put_row}

abbrev File : Type 0
File = List ℕ × List ℕ

abbrev row_at : File → Row
row_at file = record { name = file.0; text = Some file.1; stamp = 0 }

row_of-opened_other : (rows : List Row) (files : List File) (name : List ℕ) → All (λ file. file.0 ≢ name) files → row_of (opening_rows rows files) name ≡ row_of rows name
row_of-opened_other rows [] name others = refl
row_of-opened_other rows (file ∷ files) name others =
    row_of-opened_other (put_row (row_at file) rows) files name (All-tail (λ file. file.0 ≢ name) file files others)
    ∙ row_of-put_row_other (row_at file) rows name (λ same. All-head (λ file. file.0 ≢ name) file files others (sym same))

row_of-opened : (rows : List Row) (files : List File) → HaveDistinctNames files → (file : File) (k : ℕ) → k < length files → get_or files k file ≡ file → row_of (opening_rows rows files) file.0 ≡ Some (row_at file)
row_of-opened rows [] distinct file k below is = absurd (omega arith)
row_of-opened rows (first ∷ files) distinct file zero below is =
    let others : All (λ g. g.0 ≢ first.0) files = λ k d h. λ same. distinct zero (suc k) d (omega arith) (omega arith) (sym same) in
    subst (λ (f : File). row_of (opening_rows rows (first ∷ files)) f.0 ≡ Some (row_at f)) is
    (row_of-opened_other (put_row (row_at first) rows) files first.0 others ∙ row_of-put_row (row_at first) rows)
row_of-opened rows (first ∷ files) distinct file (suc k) below is =
    row_of-opened (put_row (row_at first) rows) files (λ i j d h l. distinct (suc i) (suc j) d (omega arith) (omega arith)) file k (omega arith) is

IsInOrder-opened : (rows : List Row) (files : List File) → IsInOrder rows → IsInOrder (opening_rows rows files)
IsInOrder-opened rows [] s = s
IsInOrder-opened rows (file ∷ files) s = IsInOrder-opened (put_row (row_at file) rows) files (IsInOrder-put_row (row_at file) rows s)

pub opening_files_are_there : OpeningFilesAreThere
opening_files_are_there files distinct = (
  λ file there. row_of-opened [] files distinct file there.0 there.1 there.2,
  λ name others. row_of-opened_other [] files name others,
  IsInOrder-opened [] files tt,
)
