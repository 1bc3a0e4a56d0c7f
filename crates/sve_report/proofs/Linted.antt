-- A report with what lint rules found is read back.
use Rattle.std.proofs.Common.{◌≡◌, ℕ, ◌<◌, List, [], ◌∷◌, ◌++◌, length, get_or, codes, decimal, refl, sym, ◌∙◌, ap, subst, arith, append_assoc}
use Rattle.std.proofs.lemmas.Fmt.{decimal_nonempty}
use Rattle.std.proofs.lemmas.List.{append-nil}
use Rattle.sve_report.specs.declared.entry.Entry.{Entry}
use Rattle.sve_report.specs.declared.section.LintSection.{LintSection}
use Rattle.sve_report.specs.declared.section.LintSection.TheVariants.{Found, Spent}
use Rattle.sve_report.specs.declared.record.Record.{Record}
use Rattle.sve_report.specs.Lines.{ended, text_of_lines, Lacks, AreLines}
use Rattle.sve_report.specs.Linted.{found_text, spent_text, section_lines, report_with_lint, SectionFits, IsLintedReadBack}
use Rattle.sve_report.specs.ReadBack.{Fits64, EntriesFit, AllRecordsFit}
use Rattle.sve_report.specs.Reports.{entry_lines, clients_lines, report}
use Rattle.sve_report.proofs.LineTexts.{digits-decimal, decimal-lacks, lacks-append, lacks_by, text-append, are_lines-append}
use Rattle.sve_report.proofs.ReadBack.{IsBehind, clients_are_lines, clients_read, digit_first, entries_read, front_gone, head_lacks, line_parted, lines_read, parted, report-parts, same_number}

-- ---- the section by itself

found-right : (r k : ℕ) → found_text r k ≡ codes "lint " ++ (decimal r ++ 32 ∷ decimal k)
found-right r k = simp append_assoc

spent-right : (r b : ℕ) → spent_text r b ≡ codes "lint " ++ (decimal r ++ 32 ∷ (codes "spent " ++ decimal b))
spent-right r b = simp append_assoc

space_differs : ◌≡◌ {A = ℕ} 32 10 → ⊥
space_differs same = absurd (omega (arith, same))

found_lacks : (r k : ℕ) → Fits64 r → Fits64 k → Lacks 10 (found_text r k)
found_lacks r k fr fk =
    subst (Lacks 10) (sym (found-right r k))
    (lacks-append 10 (codes "lint ") _ (lacks_by 10 (codes "lint ") refl) (lacks-append 10 (decimal r) _ (decimal-lacks 10 r (omega arith) fr) (space_differs, decimal-lacks 10 k (omega arith) fk)))

spent_lacks : (r b : ℕ) → Fits64 r → Fits64 b → Lacks 10 (spent_text r b)
spent_lacks r b fr fb =
    subst (Lacks 10) (sym (spent-right r b))
    (lacks-append 10 (codes "lint ") _ (lacks_by 10 (codes "lint ") refl)
    (lacks-append 10 (decimal r) _ (decimal-lacks 10 r (omega arith) fr) (space_differs, lacks-append 10 (codes "spent ") _ (lacks_by 10 (codes "spent ") refl) (decimal-lacks 10 b (omega arith) fb))))

section_are_lines : (s : LintSection) → SectionFits s → AreLines (section_lines s)
section_are_lines (Found r lines) fits = (found_lacks r (length lines) fits.0 fits.1, fits.2)
section_are_lines (Spent r b) fits = (spent_lacks r b fits.0 fits.1, tt)

section_behind : (s : LintSection) → IsBehind (section_lines s)
section_behind (Found r lines) = refl
section_behind (Spent r b) = refl

-- the number of what was found is none of the word `spent`
no_number : (k b : ℕ) → Fits64 k → decimal k ≡ codes "spent " ++ decimal b → ⊥
no_number k b fk e =
    let apart : 57 < 115 = omega arith in
    digit_first (decimal k) [] (codes "spent " ++ decimal b) (digits-decimal k fk) (decimal_nonempty k fk) apart (sym e ∙ sym (append-nil (decimal k)))

-- two first lines that are alike
heads_parted : (r q : ℕ) (xs ys : List ℕ) → Fits64 r → Fits64 q → codes "lint " ++ (decimal r ++ 32 ∷ xs) ≡ codes "lint " ++ (decimal q ++ 32 ∷ ys) → (r ≡ q) × (xs ≡ ys)
heads_parted r q xs ys fr fq e =
    let p = parted 32 (decimal r) (decimal q) xs ys (decimal-lacks 32 r (omega arith) fr) (decimal-lacks 32 q (omega arith) fq) (front_gone (codes "lint ") _ _ e) in
    (same_number r q fr fq p.0, p.1)

section_read : (s t : LintSection) → SectionFits s → SectionFits t → section_lines s ≡ section_lines t → s ≡ t
section_read (Found r lines) (Found q others) fs ft e =
    let heads : found_text r (length lines) ≡ found_text q (length others) = cc (e) in
    let rests : lines ≡ others = cc (e) in
    let p = heads_parted r q (decimal (length lines)) (decimal (length others)) fs.0 ft.0 (sym (found-right r (length lines)) ∙ heads ∙ found-right q (length others)) in
    (λ k. Found (p.0 k) (rests k))
section_read (Found r lines) (Spent q b) fs ft e =
    let heads : found_text r (length lines) ≡ spent_text q b = cc (e) in
    let p = heads_parted r q (decimal (length lines)) (codes "spent " ++ decimal b) fs.0 ft.0 (sym (found-right r (length lines)) ∙ heads ∙ spent-right q b) in
    absurd (no_number (length lines) b fs.1 p.1)
section_read (Spent r b) (Found q others) fs ft e =
    let heads : spent_text r b ≡ found_text q (length others) = cc (e) in
    let p = heads_parted r q (codes "spent " ++ decimal b) (decimal (length others)) fs.0 ft.0 (sym (spent-right r b) ∙ heads ∙ found-right q (length others)) in
    absurd (no_number (length others) b ft.1 (sym p.1))
section_read (Spent r b) (Spent q c) fs ft e =
    let heads : spent_text r b ≡ spent_text q c = cc (e) in
    let p = heads_parted r q (codes "spent " ++ decimal b) (codes "spent " ++ decimal c) fs.0 ft.0 (sym (spent-right r b) ∙ heads ∙ spent-right q c) in
    let same = same_number b c fs.1 ft.1 (front_gone (codes "spent ") _ _ p.1) in
    (λ k. Spent (p.0 k) (same k))

-- ---- the whole report

linted-parts : (es : List Entry) (rs : List (List Record)) (s : LintSection) → report_with_lint es rs s ≡ ended (codes "history " ++ decimal (length es)) ++ (text_of_lines (entry_lines 1 es) ++ text_of_lines (clients_lines 1 rs ++ section_lines s))
linted-parts es rs s =
    let head = ended (codes "history " ++ decimal (length es)) in
    let entries = text_of_lines (entry_lines 1 es) in
    let clients = text_of_lines (clients_lines 1 rs) in
    let section = text_of_lines (section_lines s) in
    ap (λ (t : List ℕ). t ++ section) (report-parts es rs)
    ∙ append_assoc head (entries ++ clients) section
    ∙ ap (λ (t : List ℕ). head ++ t) (append_assoc entries clients section)
    ∙ ap (λ (t : List ℕ). head ++ (entries ++ t)) (sym (text-append (clients_lines 1 rs) (section_lines s)))

history_read : (es fs : List Entry) (rs ss : List (List Record)) (s t : LintSection) → Fits64 (length es) → Fits64 (length fs) → EntriesFit es → EntriesFit fs
    → report_with_lint es rs s ≡ report_with_lint fs ss t → es ≡ fs
history_read es fs rs ss s t se sf he hf e =
    let p = line_parted (codes "history " ++ decimal (length es)) (codes "history " ++ decimal (length fs)) _ _ (head_lacks (length es) se) (head_lacks (length fs) sf) (sym (linted-parts es rs s) ∙ e ∙ linted-parts fs ss t) in
    let size = same_number (length es) (length fs) se sf (front_gone (codes "history ") _ _ p.0) in
    entries_read 1 es fs _ _ he hf size (omega (arith, se)) p.1

behind_are_lines : (rs : List (List Record)) (s : LintSection) → AllRecordsFit rs → Fits64 (length rs) → SectionFits s → AreLines (clients_lines 1 rs ++ section_lines s)
behind_are_lines rs s hr fr fits = are_lines-append (clients_lines 1 rs) (section_lines s) (clients_are_lines 1 rs hr (omega (arith, fr))) (section_are_lines s fits)

told_read : (es : List Entry) (rs ss : List (List Record)) (s t : LintSection) → AllRecordsFit rs → AllRecordsFit ss → Fits64 (length rs) → Fits64 (length ss) → SectionFits s → SectionFits t
    → report_with_lint es rs s ≡ report_with_lint es ss t → (rs ≡ ss) × (s ≡ t)
told_read es rs ss s t hr hs fr fs fits fits' e =
    let texts = front_gone (text_of_lines (entry_lines 1 es)) _ _ (front_gone (ended (codes "history " ++ decimal (length es))) _ _ (sym (linted-parts es rs s) ∙ e ∙ linted-parts es ss t)) in
    let lines = lines_read (clients_lines 1 rs ++ section_lines s) (clients_lines 1 ss ++ section_lines t) (behind_are_lines rs s hr fr fits) (behind_are_lines ss t hs fs fits') texts in
    let p = clients_read 1 rs ss (section_lines s) (section_lines t) (section_behind s) (section_behind t) hr hs lines in
    (p.0, section_read s t fits fits' p.1)

pub linted_reports_read_back : IsLintedReadBack
linted_reports_read_back = record { history = history_read; told = told_read }
