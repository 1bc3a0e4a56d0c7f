-- The files that were gathered by now, and those that are left.
use Rattle.std.specs.Prelude.{ℕ, suc, ◌+◌, ◌≡◌, ◌<◌, ◌≤◌, List, [], ◌∷◌, ◌++◌, length, drop, get_or, Option, Some, None, IfSome, All, refl}
use Rattle.std.proofs.Common.{sym, ap, ◌∙◌, subst, append_assoc, add-one}
use Rattle.std.specs.List.{flat_map}
use Rattle.std.proofs.Math.Seq.{drop-cons}
use Rattle.std.proofs.lemmas.List.{append-nil}
use Rattle.std.proofs.lemmas.List.Elements.{All-nil, All-cons, All-append, All-same}
use Rattle.sve_text.specs.Rows.{IsInLimit}
use Rattle.sve_store.specs.Told.{Follows}
use Rattle.sve_key.specs.declared.key.Key.{Key}
use Rattle.sve_key.specs.declared.key.Key.TheVariants as keys
use Rattle.sve_key.specs.declared.value.Value.{Value}
use Rattle.sve_key.specs.Values.{text_in_value}
use Rattle.sve_gathered.specs.Gathered.{file_of, file_by}
use Rattle.sve_gathered.specs.Told.{AddsText, AddsFile, AreTold}
use Rattle.sve_gathered.proofs.Names.{File, AreFiles}

abbrev Fits : File → Type 0
Fits file = IsInLimit file.1

-- ---- one text

pub adds_some : (name text : List ℕ) (t : Option (List ℕ)) (old new : List File) → t ≡ Some text → length text ≤ 1048576 → new ≡ old ++ (name, text) ∷ [] → AddsText name t old new
adds_some name text t old new is short e = subst (λ (o : Option (List ℕ)). AddsText name o old new) (sym is) (short, e)

pub adds_none : (name : List ℕ) (t : Option (List ℕ)) (old new : List File) → t ≡ None → new ≡ old → AddsText name t old new
adds_none name t old new is e = subst (λ (o : Option (List ℕ)). AddsText name o old new) (sym is) (tt, e ∙ sym (append-nil old))

-- ---- one name after another

pub name_then : (names : List (List ℕ)) (i : ℕ) (name : List ℕ) → i < length names → name ≡ get_or names i name → drop i names ≡ name ∷ drop (i + 1) names
name_then names i name low is = drop-cons names i name low ∙ ap (λ (n : List ℕ). n ∷ drop (suc i) names) (sym is) ∙ ap (λ (k : ℕ). name ∷ drop k names) (sym (add-one i))

module _ (old now : Key → ℕ → Value → Type 0) (back : (k : Key) (f : ℕ) (v : Value) → now k f v → old k f v) where
  pub told_on : (all rest left : List (List ℕ)) (name : List ℕ) (files more : List File) → rest ≡ name ∷ left → ((others : List File) → AreTold old rest others → AreTold old all (files ++ others)) → AddsFile now name files more
      → (others : List File) → AreTold old left others → AreTold old all (more ++ others)
  told_on all rest left name files more is so_far (v, told, (fits, e)) others are =
      let file = file_of name (text_in_value v).text in
      let one : AreTold old (name ∷ left) (file ++ others) = (others, are, (v, back (keys.Text name) 0 v told, fits, refl)) in
      let joined : more ++ others ≡ files ++ (file ++ others) = ap (λ (fs : List File). fs ++ others) e ∙ append_assoc files file others in
      subst (AreTold old all) (sym joined) (so_far (file ++ others) (subst (λ (names : List (List ℕ)). AreTold old names (file ++ others)) (sym is) one))

  pub told_back : (names : List (List ℕ)) (files : List File) → AreTold now names files → AreTold old names files
  told_back [] files is = is
  told_back (name ∷ names) files (others, are, (v, told, fits, e)) = (others, told_back names others are, (v, back (keys.Text name) 0 v told, fits, e))

module _ (tells : Key → ℕ → Value → Type 0) where
  pub told_all : (all rest : List (List ℕ)) (files : List File) → rest ≡ [] → ((others : List File) → AreTold tells rest others → AreTold tells all (files ++ others)) → AreTold tells all files
  told_all all rest files is so_far = subst (AreTold tells all) (append-nil files) (so_far [] (subst (λ (names : List (List ℕ)). AreTold tells names []) (sym is) refl))

  -- ---- what is told is what a table has that it follows

  pub files_are : (table : Key → ℕ → Value) → Follows (λ v fuel. v) table tells → (names : List (List ℕ)) (files : List File) → AreTold tells names files → files ≡ flat_map (file_by table) names
  files_are table follows [] files is = is
  files_are table follows (name ∷ names) files (others, are, (v, told, fits, e)) =
      e ∙ (λ i. file_of name (text_in_value (follows (keys.Text name) 0 v told i)).text ++ files_are table follows names others are i)

  -- ---- no text is above the limit

  one_fits : (name : List ℕ) (t : Option (List ℕ)) → IfSome t IsInLimit → All Fits (file_of name t)
  one_fits name None fits = All-nil Fits
  one_fits name (Some text) fits = All-cons Fits (name, text) [] fits (All-nil Fits)

  pub texts_fit : (names : List (List ℕ)) (files : List File) → AreTold tells names files → All Fits files
  texts_fit [] files is = All-same Fits files [] is (All-nil Fits)
  texts_fit (name ∷ names) files (others, are, (v, told, fits, e)) =
      let t = (text_in_value v).text in
      All-same Fits files (file_of name t ++ others) e (All-append Fits (file_of name t) others (one_fits name t fits) (texts_fit names others are))

  pub some_files : (names : List (List ℕ)) (files : List File) → AreTold tells names files → AreFiles names files
  some_files [] files is = is
  some_files (name ∷ names) files (others, are, (v, told, fits, e)) = (others, some_files names others are, ((text_in_value v).text, e))
