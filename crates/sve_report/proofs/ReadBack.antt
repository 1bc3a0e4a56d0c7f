-- A report is read back.
use Rattle.std.proofs.Common.{◌≡◌, ℕ, ◌+◌, ◌^◌, ◌<◌, ◌≤◌, List, [], ◌∷◌, ◌++◌, length, get_or, codes, decimal, refl, sym, ◌∙◌, ap, subst, arith, append_assoc, length-append}
use Rattle.std.specs.Str.Parse.{digits_value}
use Rattle.std.proofs.lemmas.Fmt.{decimal_is_IsNumeral, decimal_nonempty}
use Rattle.std.proofs.lemmas.List.{append-nil}
use Rattle.sve_report.specs.declared.entry.Entry.{Entry}
use Rattle.sve_report.specs.declared.record.Record.{Record}
use Rattle.sve_report.specs.declared.record.Record.TheVariants.{Accepted, Refused, Answered, Cancelled, Spent}
use Rattle.sve_text.specs.declared.why.Why.{Why}
use Rattle.sve_text.specs.declared.why.Why.TheVariants.{NoFile, Stale, Range, FileTooLarge, TooManyFiles}
use Rattle.sve_report.specs.Lines.{ended, text_of_lines, Lacks, AreLines}
use Rattle.sve_report.specs.Reports.{entry_line, entry_lines, why_text, refusal_text, pair_text, record_lines, client_lines, clients_lines, report}
use Rattle.sve_report.specs.ReadBack.{Fits64, EntriesFit, WhyFits, RecordFits, RecordsFit, AllRecordsFit, IsReadBack}
use Rattle.sve_report.proofs.LineTexts.{AreDigits, digits-decimal, decimal-lacks, lacks-append, lacks_by, text-append, are_lines-append}

-- the two parts of a text round the first byte that the first part lacks
pub parted : (b : ℕ) (xs ys ts us : List ℕ) → Lacks b xs → Lacks b ys → xs ++ b ∷ ts ≡ ys ++ b ∷ us → (xs ≡ ys) × (ts ≡ us)
parted b [] [] ts us lx ly e = (refl, cc)
parted b [] (y ∷ ys) ts us lx ly e = let same : y ≡ b = cc in absurd (ly.0 same)
parted b (x ∷ xs) [] ts us lx ly e = let same : x ≡ b = cc in absurd (lx.0 same)
parted b (x ∷ xs) (y ∷ ys) ts us lx ly e =
    let first : x ≡ y = cc in
    let rest : xs ++ b ∷ ts ≡ ys ++ b ∷ us = cc in
    let p = parted b xs ys ts us lx.1 ly.1 rest in
    ((λ k. first k ∷ p.0 k), p.1)

pub same_number : (m n : ℕ) → Fits64 m → Fits64 n → decimal m ≡ decimal n → m ≡ n
same_number m n fm fn e = sym (decimal_is_IsNumeral m fm).1 ∙ ap (digits_value 10) e ∙ (decimal_is_IsNumeral n fn).1

pub front_gone : {A : Type 0} (xs ts us : List A) → xs ++ ts ≡ xs ++ us → ts ≡ us
front_gone [] ts us e = e
front_gone (x ∷ xs) ts us e = front_gone xs ts us (let rest : xs ++ ts ≡ xs ++ us = cc in rest)

fronts_same : {A : Type 0} (xs ys ts us : List A) → length xs ≡ length ys → xs ++ ts ≡ ys ++ us → (xs ≡ ys) × (ts ≡ us)
fronts_same [] [] ts us size e = (refl, e)
fronts_same [] (y ∷ ys) ts us size e = absurd (omega (arith, size))
fronts_same (x ∷ xs) [] ts us size e = absurd (omega (arith, size))
fronts_same (x ∷ xs) (y ∷ ys) ts us size e =
    let first : x ≡ y = cc in
    let rest : xs ++ ts ≡ ys ++ us = cc in
    let p = fronts_same xs ys ts us (omega (arith, size)) rest in
    ((λ k. first k ∷ p.0 k), p.1)

-- one line, and the text after it
pub line_parted : (l m ts us : List ℕ) → Lacks 10 l → Lacks 10 m → ended l ++ ts ≡ ended m ++ us → (l ≡ m) × (ts ≡ us)
line_parted l m ts us ll lm e = parted 10 l m ts us ll lm (sym (append_assoc l (10 ∷ []) ts) ∙ e ∙ append_assoc m (10 ∷ []) us)

pub lines_read : (ls ms : List (List ℕ)) → AreLines ls → AreLines ms → text_of_lines ls ≡ text_of_lines ms → ls ≡ ms
lines_read [] [] hl hm e = refl
lines_read [] (m ∷ ms) hl hm e = absurd (omega (arith, ap length e, length-append (ended m) (text_of_lines ms), length-append m (10 ∷ [])))
lines_read (l ∷ ls) [] hl hm e = absurd (omega (arith, ap length e, length-append (ended l) (text_of_lines ls), length-append l (10 ∷ [])))
lines_read (l ∷ ls) (m ∷ ms) hl hm e =
    let p = line_parted l m (text_of_lines ls) (text_of_lines ms) hl.0 hm.0 e in
    (λ k. p.0 k ∷ lines_read ls ms hl.1 hm.1 p.1 k)

-- ---- entries

entry_line-right : (r : ℕ) (e : Entry) → entry_line r e ≡ decimal r ++ 32 ∷ (decimal e.client ++ 32 ∷ decimal e.command)
entry_line-right r e = simp append_assoc

entry_lacks : (r : ℕ) (e : Entry) → Fits64 r → Fits64 e.client → Fits64 e.command → Lacks 10 (entry_line r e)
entry_lacks r e fr fc fk =
    subst (Lacks 10) (sym (entry_line-right r e))
    (lacks-append 10 (decimal r) _ (decimal-lacks 10 r (omega arith) fr)
    ((λ same. absurd (omega (arith, same))), lacks-append 10 (decimal e.client) _ (decimal-lacks 10 e.client (omega arith) fc) ((λ same. absurd (omega (arith, same))), decimal-lacks 10 e.command (omega arith) fk)))

entry_read : (r : ℕ) (e f : Entry) → Fits64 e.client → Fits64 e.command → Fits64 f.client → Fits64 f.command → entry_line r e ≡ entry_line r f → e ≡ f
entry_read r e f ec ek fc fk same =
    let tails = front_gone (decimal r) _ _ (sym (entry_line-right r e) ∙ same ∙ entry_line-right r f) in
    let inner : decimal e.client ++ 32 ∷ decimal e.command ≡ decimal f.client ++ 32 ∷ decimal f.command = cc (tails) in
    let p = parted 32 (decimal e.client) (decimal f.client) (decimal e.command) (decimal f.command) (decimal-lacks 32 e.client (omega arith) ec) (decimal-lacks 32 f.client (omega arith) fc) inner in
    let client = same_number e.client f.client ec fc p.0 in
    let command = same_number e.command f.command ek fk p.1 in
    (λ k. record { client = client k; command = command k })

pub entries_read : (r : ℕ) (es fs : List Entry) (ts us : List ℕ) → EntriesFit es → EntriesFit fs → length es ≡ length fs → r + length es ≤ 2 ^ 64
    → text_of_lines (entry_lines r es) ++ ts ≡ text_of_lines (entry_lines r fs) ++ us → es ≡ fs
entries_read r [] [] ts us he hf size fits e = refl
entries_read r [] (f ∷ fs) ts us he hf size fits e = absurd (omega (arith, size))
entries_read r (x ∷ es) [] ts us he hf size fits e = absurd (omega (arith, size))
entries_read r (x ∷ es) (f ∷ fs) ts us he hf size fits e =
    let whole = sym (append_assoc (ended (entry_line r x)) (text_of_lines (entry_lines (r + 1) es)) ts) ∙ e ∙ append_assoc (ended (entry_line r f)) (text_of_lines (entry_lines (r + 1) fs)) us in
    let small : Fits64 r = omega (arith, fits) in
    let p = line_parted (entry_line r x) (entry_line r f) _ _ (entry_lacks r x small he.0 he.1) (entry_lacks r f small hf.0 hf.1) whole in
    let first = entry_read r x f he.0 he.1 hf.0 hf.1 p.0 in
    let rest = entries_read (r + 1) es fs ts us he.2 hf.2 (omega (arith, size)) (omega (arith, fits)) p.1 in
    (λ k. first k ∷ rest k)

pub head_lacks : (n : ℕ) → Fits64 n → Lacks 10 (codes "history " ++ decimal n)
head_lacks n fits = lacks-append 10 (codes "history ") (decimal n) (lacks_by 10 (codes "history ") refl) (decimal-lacks 10 n (omega arith) fits)

pub report-parts : (es : List Entry) (rs : List (List Record)) → report es rs ≡ ended (codes "history " ++ decimal (length es)) ++ (text_of_lines (entry_lines 1 es) ++ text_of_lines (clients_lines 1 rs))
report-parts es rs = ap (λ (t : List ℕ). ended (codes "history " ++ decimal (length es)) ++ t) (text-append (entry_lines 1 es) (clients_lines 1 rs))

history_read : (es fs : List Entry) (rs ss : List (List Record)) → Fits64 (length es) → Fits64 (length fs) → EntriesFit es → EntriesFit fs → report es rs ≡ report fs ss → es ≡ fs
history_read es fs rs ss se sf he hf e =
    let p = line_parted (codes "history " ++ decimal (length es)) (codes "history " ++ decimal (length fs)) _ _ (head_lacks (length es) se) (head_lacks (length fs) sf) (sym (report-parts es rs) ∙ e ∙ report-parts fs ss) in
    let size = same_number (length es) (length fs) se sf (front_gone (codes "history ") _ _ p.0) in
    entries_read 1 es fs _ _ he hf size (omega (arith, se)) p.1

-- ---- reasons

why_lacks : (w : Why) → WhyFits w → Lacks 10 (why_text w)
why_lacks NoFile fits = lacks_by 10 (codes "nofile") refl
why_lacks (Stale n) fits = lacks-append 10 (codes "stale ") (decimal n) (lacks_by 10 (codes "stale ") refl) (decimal-lacks 10 n (omega arith) fits)
why_lacks (Range n) fits = lacks-append 10 (codes "range ") (decimal n) (lacks_by 10 (codes "range ") refl) (decimal-lacks 10 n (omega arith) fits)
why_lacks (FileTooLarge n) fits = lacks-append 10 (codes "filetoolarge ") (decimal n) (lacks_by 10 (codes "filetoolarge ") refl) (decimal-lacks 10 n (omega arith) fits)
why_lacks TooManyFiles fits = lacks_by 10 (codes "toomanyfiles") refl

-- reasons differ in their first letter
why_read : (v w : Why) → WhyFits v → WhyFits w → why_text v ≡ why_text w → v ≡ w
why_read NoFile NoFile fv fw e = refl
why_read NoFile (Stale n) fv fw e = let first : 110 ≡ 115 = ap (λ (l : List ℕ). get_or l 0 0) e in absurd (omega (arith, first))
why_read NoFile (Range n) fv fw e = let first : 110 ≡ 114 = ap (λ (l : List ℕ). get_or l 0 0) e in absurd (omega (arith, first))
why_read NoFile (FileTooLarge n) fv fw e = let first : 110 ≡ 102 = ap (λ (l : List ℕ). get_or l 0 0) e in absurd (omega (arith, first))
why_read NoFile TooManyFiles fv fw e = let first : 110 ≡ 116 = ap (λ (l : List ℕ). get_or l 0 0) e in absurd (omega (arith, first))
why_read (Stale m) NoFile fv fw e = let first : 115 ≡ 110 = ap (λ (l : List ℕ). get_or l 0 0) e in absurd (omega (arith, first))
why_read (Stale m) (Stale n) fv fw e = let same = same_number m n fv fw (front_gone (codes "stale ") _ _ e) in (λ k. Stale (same k))
why_read (Stale m) (Range n) fv fw e = let first : 115 ≡ 114 = ap (λ (l : List ℕ). get_or l 0 0) e in absurd (omega (arith, first))
why_read (Stale m) (FileTooLarge n) fv fw e = let first : 115 ≡ 102 = ap (λ (l : List ℕ). get_or l 0 0) e in absurd (omega (arith, first))
why_read (Stale m) TooManyFiles fv fw e = let first : 115 ≡ 116 = ap (λ (l : List ℕ). get_or l 0 0) e in absurd (omega (arith, first))
why_read (Range m) NoFile fv fw e = let first : 114 ≡ 110 = ap (λ (l : List ℕ). get_or l 0 0) e in absurd (omega (arith, first))
why_read (Range m) (Stale n) fv fw e = let first : 114 ≡ 115 = ap (λ (l : List ℕ). get_or l 0 0) e in absurd (omega (arith, first))
why_read (Range m) (Range n) fv fw e = let same = same_number m n fv fw (front_gone (codes "range ") _ _ e) in (λ k. Range (same k))
why_read (Range m) (FileTooLarge n) fv fw e = let first : 114 ≡ 102 = ap (λ (l : List ℕ). get_or l 0 0) e in absurd (omega (arith, first))
why_read (Range m) TooManyFiles fv fw e = let first : 114 ≡ 116 = ap (λ (l : List ℕ). get_or l 0 0) e in absurd (omega (arith, first))
why_read (FileTooLarge m) NoFile fv fw e = let first : 102 ≡ 110 = ap (λ (l : List ℕ). get_or l 0 0) e in absurd (omega (arith, first))
why_read (FileTooLarge m) (Stale n) fv fw e = let first : 102 ≡ 115 = ap (λ (l : List ℕ). get_or l 0 0) e in absurd (omega (arith, first))
why_read (FileTooLarge m) (Range n) fv fw e = let first : 102 ≡ 114 = ap (λ (l : List ℕ). get_or l 0 0) e in absurd (omega (arith, first))
why_read (FileTooLarge m) (FileTooLarge n) fv fw e = let same = same_number m n fv fw (front_gone (codes "filetoolarge ") _ _ e) in (λ k. FileTooLarge (same k))
why_read (FileTooLarge m) TooManyFiles fv fw e = let first : 102 ≡ 116 = ap (λ (l : List ℕ). get_or l 0 0) e in absurd (omega (arith, first))
why_read TooManyFiles NoFile fv fw e = let first : 116 ≡ 110 = ap (λ (l : List ℕ). get_or l 0 0) e in absurd (omega (arith, first))
why_read TooManyFiles (Stale n) fv fw e = let first : 116 ≡ 115 = ap (λ (l : List ℕ). get_or l 0 0) e in absurd (omega (arith, first))
why_read TooManyFiles (Range n) fv fw e = let first : 116 ≡ 114 = ap (λ (l : List ℕ). get_or l 0 0) e in absurd (omega (arith, first))
why_read TooManyFiles (FileTooLarge n) fv fw e = let first : 116 ≡ 102 = ap (λ (l : List ℕ). get_or l 0 0) e in absurd (omega (arith, first))
why_read TooManyFiles TooManyFiles fv fw e = refl

-- ---- records

refused-right : (j r e : ℕ) (w : Why) → decimal j ++ refusal_text r e w ≡ decimal j ++ (codes " refused " ++ (decimal r ++ (codes " edit " ++ (decimal e ++ 32 ∷ why_text w))))
refused-right j r e w =
    let parts : refusal_text r e w ≡ codes " refused " ++ (decimal r ++ (codes " edit " ++ (decimal e ++ 32 ∷ why_text w))) = simp append_assoc in
    ap (λ (t : List ℕ). decimal j ++ t) parts

accepted_lacks : (j r : ℕ) → Fits64 j → Fits64 r → Lacks 10 (decimal j ++ codes " accepted " ++ decimal r)
accepted_lacks j r fj fr = lacks-append 10 _ (decimal r) (lacks-append 10 (decimal j) _ (decimal-lacks 10 j (omega arith) fj) (lacks_by 10 (codes " accepted ") refl)) (decimal-lacks 10 r (omega arith) fr)

refused_lacks : (j r e : ℕ) (w : Why) → Fits64 j → Fits64 r → Fits64 e → WhyFits w → Lacks 10 (decimal j ++ refusal_text r e w)
refused_lacks j r e w fj fr fe fw =
    subst (Lacks 10) (sym (refused-right j r e w))
    (lacks-append 10 (decimal j) _ (decimal-lacks 10 j (omega arith) fj)
    (lacks-append 10 (codes " refused ") _ (lacks_by 10 (codes " refused ") refl)
    (lacks-append 10 (decimal r) _ (decimal-lacks 10 r (omega arith) fr)
    (lacks-append 10 (codes " edit ") _ (lacks_by 10 (codes " edit ") refl)
    (lacks-append 10 (decimal e) _ (decimal-lacks 10 e (omega arith) fe) ((λ same. absurd (omega (arith, same))), why_lacks w fw))))))

pair-right : (j : ℕ) (word : List ℕ) (m n : ℕ) → decimal j ++ pair_text word m n ≡ decimal j ++ 32 ∷ (word ++ 32 ∷ (decimal m ++ 32 ∷ decimal n))
pair-right j word m n =
    let parts : pair_text word m n ≡ 32 ∷ (word ++ 32 ∷ (decimal m ++ 32 ∷ decimal n)) = simp append_assoc in
    ap (λ (t : List ℕ). decimal j ++ t) parts

space_differs : ◌≡◌ {A = ℕ} 32 10 → ⊥
space_differs same = absurd (omega (arith, same))

pair_lacks : (j : ℕ) (word : List ℕ) (m n : ℕ) → Fits64 j → Lacks 10 word → Fits64 m → Fits64 n → Lacks 10 (decimal j ++ pair_text word m n)
pair_lacks j word m n fj one fm fn =
    subst (Lacks 10) (sym (pair-right j word m n))
    (lacks-append 10 (decimal j) _ (decimal-lacks 10 j (omega arith) fj)
    (space_differs, lacks-append 10 word _ one (space_differs, lacks-append 10 (decimal m) _ (decimal-lacks 10 m (omega arith) fm) (space_differs, decimal-lacks 10 n (omega arith) fn))))

-- the two numbers of a line with this word
pair_read : (j : ℕ) (word : List ℕ) (m n p q : ℕ) → Fits64 m → Fits64 n → Fits64 p → Fits64 q → decimal j ++ pair_text word m n ≡ decimal j ++ pair_text word p q → (m ≡ p) × (n ≡ q)
pair_read j word m n p q fm fn fp fq e =
    let tails = front_gone (decimal j) _ _ (sym (pair-right j word m n) ∙ e ∙ pair-right j word p q) in
    let words : word ++ 32 ∷ (decimal m ++ 32 ∷ decimal n) ≡ word ++ 32 ∷ (decimal p ++ 32 ∷ decimal q) = cc (tails) in
    let after = front_gone word _ _ words in
    let numbers : decimal m ++ 32 ∷ decimal n ≡ decimal p ++ 32 ∷ decimal q = cc (after) in
    let both = parted 32 (decimal m) (decimal p) (decimal n) (decimal q) (decimal-lacks 32 m (omega arith) fm) (decimal-lacks 32 p (omega arith) fp) numbers in
    (same_number m p fm fp both.0, same_number n q fn fq both.1)

record_are_lines : (j : ℕ) (rec : Record) → Fits64 j → RecordFits rec → AreLines (record_lines j rec)
record_are_lines j (Accepted r) fj fits = (accepted_lacks j r fj fits, tt)
record_are_lines j (Refused r e w) fj fits = (refused_lacks j r e w fj fits.0 fits.1 fits.2, tt)
record_are_lines j (Answered r lines) fj fits = (pair_lacks j (codes "answer") r (length lines) fj (lacks_by 10 (codes "answer") refl) fits.0 fits.1, fits.2)
record_are_lines j (Cancelled base newer) fj fits = (pair_lacks j (codes "cancelled") base newer fj (lacks_by 10 (codes "cancelled") refl) fits.0 fits.1, tt)
record_are_lines j (Spent r budget) fj fits = (pair_lacks j (codes "spent") r budget fj (lacks_by 10 (codes "spent") refl) fits.0 fits.1, tt)

client_are_lines : (j : ℕ) (recs : List Record) → RecordsFit recs → j + length recs ≤ 2 ^ 64 → AreLines (client_lines j recs)
client_are_lines j [] fits small = tt
client_are_lines j (rec ∷ recs) fits small = are_lines-append (record_lines j rec) (client_lines (j + 1) recs) (record_are_lines j rec (omega (arith, small)) fits.0) (client_are_lines (j + 1) recs fits.1 (omega (arith, small)))

pub clients_are_lines : (i : ℕ) (rs : List (List Record)) → AllRecordsFit rs → i + length rs ≤ 2 ^ 64 → AreLines (clients_lines i rs)
clients_are_lines i [] fits small = tt
clients_are_lines i (recs ∷ rs) fits small =
    are_lines-append ((codes "client " ++ decimal i) ∷ client_lines 1 recs) (clients_lines (i + 1) rs)
    (lacks-append 10 (codes "client ") (decimal i) (lacks_by 10 (codes "client ") refl) (decimal-lacks 10 i (omega arith) (omega (arith, small))), client_are_lines 1 recs fits.0 (omega (arith, fits.1)))
    (clients_are_lines (i + 1) rs fits.2 (omega (arith, small)))

accepted-right : (j r : ℕ) → decimal j ++ codes " accepted " ++ decimal r ≡ decimal j ++ (codes " accepted " ++ decimal r)
accepted-right j r = append_assoc (decimal j) (codes " accepted ") (decimal r)

-- the kinds of record differ in the second letter of their word
abbrev second_letter : Record → ℕ
second_letter (Accepted r) = 99
second_letter (Refused r e w) = 101
second_letter (Answered r lines) = 110
second_letter (Cancelled base newer) = 97
second_letter (Spent r budget) = 112

-- a record's first line behind its number, and the lines below it
record Head (j : ℕ) (rec : Record) : Type 0 where
  rest : List ℕ
  below : List (List ℕ)
  are : record_lines j rec ≡ (decimal j ++ rest) ∷ below
  letter : get_or rest 2 0 ≡ second_letter rec

head_of : (j : ℕ) (rec : Record) → Head j rec
head_of j (Accepted r) = record { rest = codes " accepted " ++ decimal r; below = []; are = ap (λ (l : List ℕ). l ∷ []) (accepted-right j r); letter = refl }
head_of j (Refused r e w) = record { rest = codes " refused " ++ (decimal r ++ (codes " edit " ++ (decimal e ++ 32 ∷ why_text w))); below = []; are = ap (λ (l : List ℕ). l ∷ []) (refused-right j r e w); letter = refl }
head_of j (Answered r lines) = record { rest = pair_text (codes "answer") r (length lines); below = lines; are = refl; letter = refl }
head_of j (Cancelled base newer) = record { rest = pair_text (codes "cancelled") base newer; below = []; are = refl; letter = refl }
head_of j (Spent r budget) = record { rest = pair_text (codes "spent") r budget; below = []; are = refl; letter = refl }

kind_read : (j : ℕ) (x y : Record) (ls ms : List (List ℕ)) → record_lines j x ++ ls ≡ record_lines j y ++ ms → second_letter x ≡ second_letter y
kind_read j x y ls ms e =
    let h = head_of j x in
    let k = head_of j y in
    let both = sym (ap (λ (l : List (List ℕ)). l ++ ls) h.are) ∙ e ∙ ap (λ (l : List (List ℕ)). l ++ ms) k.are in
    let heads : decimal j ++ h.rest ≡ decimal j ++ k.rest = cc (both) in
    sym h.letter ∙ ap (λ (l : List ℕ). get_or l 2 0) (front_gone (decimal j) h.rest k.rest heads) ∙ k.letter

-- the lines of two records that go on alike
record_read : (j : ℕ) (x y : Record) (ls ms : List (List ℕ)) → RecordFits x → RecordFits y → record_lines j x ++ ls ≡ record_lines j y ++ ms → (x ≡ y) × (ls ≡ ms)
record_read j (Accepted r) (Accepted q) ls ms fx fy e =
    let heads : decimal j ++ codes " accepted " ++ decimal r ≡ decimal j ++ codes " accepted " ++ decimal q = cc (e) in
    let same = same_number r q fx fy (front_gone (decimal j ++ codes " accepted ") _ _ heads) in
    ((λ k. Accepted (same k)), cc (e))
record_read j (Refused r f v) (Refused q g w) ls ms fx fy e =
    let heads : decimal j ++ refusal_text r f v ≡ decimal j ++ refusal_text q g w = cc (e) in
    let tails = front_gone (codes " refused ") _ _ (front_gone (decimal j) _ _ (sym (refused-right j r f v) ∙ heads ∙ refused-right j q g w)) in
    let p = parted 32 (decimal r) (decimal q) _ _ (decimal-lacks 32 r (omega arith) fx.0) (decimal-lacks 32 q (omega arith) fy.0) tails in
    let q' = parted 32 (decimal f) (decimal g) (why_text v) (why_text w) (decimal-lacks 32 f (omega arith) fx.1) (decimal-lacks 32 g (omega arith) fy.1) (front_gone (codes "edit ") _ _ p.1) in
    let revision = same_number r q fx.0 fy.0 p.0 in
    let edit = same_number f g fx.1 fy.1 q'.0 in
    let why = why_read v w fx.2 fy.2 q'.1 in
    ((λ k. Refused (revision k) (edit k) (why k)), cc (e))
record_read j (Answered r lines) (Answered q others) ls ms fx fy e =
    let heads : decimal j ++ pair_text (codes "answer") r (length lines) ≡ decimal j ++ pair_text (codes "answer") q (length others) = cc (e) in
    let rests : lines ++ ls ≡ others ++ ms = cc (e) in
    let p = pair_read j (codes "answer") r (length lines) q (length others) fx.0 fx.1 fy.0 fy.1 heads in
    let both = fronts_same lines others ls ms p.1 rests in
    let revision = p.0 in
    ((λ k. Answered (revision k) (both.0 k)), both.1)
record_read j (Cancelled base newer) (Cancelled base' newer') ls ms fx fy e =
    let heads : decimal j ++ pair_text (codes "cancelled") base newer ≡ decimal j ++ pair_text (codes "cancelled") base' newer' = cc (e) in
    let p = pair_read j (codes "cancelled") base newer base' newer' fx.0 fx.1 fy.0 fy.1 heads in
    ((λ k. Cancelled (p.0 k) (p.1 k)), cc (e))
record_read j (Spent r budget) (Spent r' budget') ls ms fx fy e =
    let heads : decimal j ++ pair_text (codes "spent") r budget ≡ decimal j ++ pair_text (codes "spent") r' budget' = cc (e) in
    let p = pair_read j (codes "spent") r budget r' budget' fx.0 fx.1 fy.0 fy.1 heads in
    ((λ k. Spent (p.0 k) (p.1 k)), cc (e))
record_read j (Accepted r) (Refused q g w) ls ms fx fy e = absurd (omega (arith, kind_read j (Accepted r) (Refused q g w) ls ms e))
record_read j (Accepted r) (Answered q others) ls ms fx fy e = absurd (omega (arith, kind_read j (Accepted r) (Answered q others) ls ms e))
record_read j (Accepted r) (Cancelled base' newer') ls ms fx fy e = absurd (omega (arith, kind_read j (Accepted r) (Cancelled base' newer') ls ms e))
record_read j (Accepted r) (Spent q budget') ls ms fx fy e = absurd (omega (arith, kind_read j (Accepted r) (Spent q budget') ls ms e))
record_read j (Refused r f v) (Accepted q) ls ms fx fy e = absurd (omega (arith, kind_read j (Refused r f v) (Accepted q) ls ms e))
record_read j (Refused r f v) (Answered q others) ls ms fx fy e = absurd (omega (arith, kind_read j (Refused r f v) (Answered q others) ls ms e))
record_read j (Refused r f v) (Cancelled base' newer') ls ms fx fy e = absurd (omega (arith, kind_read j (Refused r f v) (Cancelled base' newer') ls ms e))
record_read j (Refused r f v) (Spent q budget') ls ms fx fy e = absurd (omega (arith, kind_read j (Refused r f v) (Spent q budget') ls ms e))
record_read j (Answered r lines) (Accepted q) ls ms fx fy e = absurd (omega (arith, kind_read j (Answered r lines) (Accepted q) ls ms e))
record_read j (Answered r lines) (Refused q g w) ls ms fx fy e = absurd (omega (arith, kind_read j (Answered r lines) (Refused q g w) ls ms e))
record_read j (Answered r lines) (Cancelled base' newer') ls ms fx fy e = absurd (omega (arith, kind_read j (Answered r lines) (Cancelled base' newer') ls ms e))
record_read j (Answered r lines) (Spent q budget') ls ms fx fy e = absurd (omega (arith, kind_read j (Answered r lines) (Spent q budget') ls ms e))
record_read j (Cancelled base newer) (Accepted q) ls ms fx fy e = absurd (omega (arith, kind_read j (Cancelled base newer) (Accepted q) ls ms e))
record_read j (Cancelled base newer) (Refused q g w) ls ms fx fy e = absurd (omega (arith, kind_read j (Cancelled base newer) (Refused q g w) ls ms e))
record_read j (Cancelled base newer) (Answered q others) ls ms fx fy e = absurd (omega (arith, kind_read j (Cancelled base newer) (Answered q others) ls ms e))
record_read j (Cancelled base newer) (Spent q budget') ls ms fx fy e = absurd (omega (arith, kind_read j (Cancelled base newer) (Spent q budget') ls ms e))
record_read j (Spent r budget) (Accepted q) ls ms fx fy e = absurd (omega (arith, kind_read j (Spent r budget) (Accepted q) ls ms e))
record_read j (Spent r budget) (Refused q g w) ls ms fx fy e = absurd (omega (arith, kind_read j (Spent r budget) (Refused q g w) ls ms e))
record_read j (Spent r budget) (Answered q others) ls ms fx fy e = absurd (omega (arith, kind_read j (Spent r budget) (Answered q others) ls ms e))
record_read j (Spent r budget) (Cancelled base' newer') ls ms fx fy e = absurd (omega (arith, kind_read j (Spent r budget) (Cancelled base' newer') ls ms e))

-- the first of these lines, where there is one, begins with a byte behind the digits
abbrev pub BeginsApart : List (List ℕ) → Type 0
BeginsApart [] = Unit {0}
BeginsApart (line ∷ lines) = 57 < get_or line 0 0

-- a line that begins with a digit, and one that does not
pub digit_first : (ds xs line : List ℕ) → AreDigits ds → 0 < length ds → 57 < get_or line 0 0 → line ≡ ds ++ xs → ⊥
digit_first [] xs line h some apart e = absurd (omega (arith, some))
digit_first (d ∷ ds) xs line h some apart e = let first : get_or line 0 0 ≡ d = ap (λ (l : List ℕ). get_or l 0 0) e in absurd (omega (arith, apart, first, h.1))

-- a record's line begins with a digit
no_record : (j : ℕ) (ts : List (List ℕ)) (rec : Record) (ls : List (List ℕ)) → Fits64 j → BeginsApart ts → ts ≡ record_lines j rec ++ ls → ⊥
no_record j [] rec ls fj apart e =
    let h = head_of j rec in
    let same : ◌≡◌ {A = List (List ℕ)} [] ((decimal j ++ h.rest) ∷ (h.below ++ ls)) = e ∙ ap (λ (l : List (List ℕ)). l ++ ls) h.are in
    absurd (omega (arith, ap length same))
no_record j (line ∷ ts) rec ls fj apart e =
    let h = head_of j rec in
    let same = e ∙ ap (λ (l : List (List ℕ)). l ++ ls) h.are in
    let first : line ≡ decimal j ++ h.rest = cc (same) in
    digit_first (decimal j) h.rest line (digits-decimal j fj) (decimal_nonempty j fj) apart first

records_read : (j : ℕ) (xs ys : List Record) (ts us : List (List ℕ)) → BeginsApart ts → BeginsApart us → RecordsFit xs → RecordsFit ys → j + length xs ≤ 2 ^ 64 → j + length ys ≤ 2 ^ 64
    → client_lines j xs ++ ts ≡ client_lines j ys ++ us → (xs ≡ ys) × (ts ≡ us)
records_read j [] [] ts us at au hx hy sx sy e = (refl, e)
records_read j [] (y ∷ ys) ts us at au hx hy sx sy e = absurd (no_record j ts y _ (omega (arith, sy)) at (e ∙ append_assoc (record_lines j y) (client_lines (j + 1) ys) us))
records_read j (x ∷ xs) [] ts us at au hx hy sx sy e = absurd (no_record j us x _ (omega (arith, sx)) au (sym e ∙ append_assoc (record_lines j x) (client_lines (j + 1) xs) ts))
records_read j (x ∷ xs) (y ∷ ys) ts us at au hx hy sx sy e =
    let whole = sym (append_assoc (record_lines j x) (client_lines (j + 1) xs) ts) ∙ e ∙ append_assoc (record_lines j y) (client_lines (j + 1) ys) us in
    let p = record_read j x y _ _ hx.0 hy.0 whole in
    let q = records_read (j + 1) xs ys ts us at au hx.1 hy.1 (omega (arith, sx)) (omega (arith, sy)) p.1 in
    ((λ k. p.0 k ∷ q.0 k), q.1)

-- what stands behind the clients: nothing, or lines of which the first begins with `l`
abbrev pub IsBehind : List (List ℕ) → Type 0
IsBehind [] = Unit {0}
IsBehind (line ∷ lines) = get_or line 0 0 ≡ 108

behind_apart : (ts : List (List ℕ)) → IsBehind ts → BeginsApart ts
behind_apart [] h = tt
behind_apart (line ∷ ts) h = omega (arith, h)

clients_apart : (i : ℕ) (rs : List (List Record)) (ts : List (List ℕ)) → IsBehind ts → BeginsApart (clients_lines i rs ++ ts)
clients_apart i [] ts h = behind_apart ts h
clients_apart i (r ∷ rs) ts h = let first : 57 < 99 = omega arith in first

-- a client's line begins with `c`
no_client : (i : ℕ) (s : List Record) (ss : List (List Record)) (ts us : List (List ℕ)) → IsBehind ts → ts ≡ clients_lines i (s ∷ ss) ++ us → ⊥
no_client i s ss [] us behind e = absurd (omega (arith, ap length e))
no_client i s ss (line ∷ ts) us behind e =
    let first : line ≡ codes "client " ++ decimal i = cc (e) in
    let letter : get_or line 0 0 ≡ 99 = ap (λ (l : List ℕ). get_or l 0 0) first in
    absurd (omega (arith, behind, letter))

pub clients_read : (i : ℕ) (rs ss : List (List Record)) (ts us : List (List ℕ)) → IsBehind ts → IsBehind us → AllRecordsFit rs → AllRecordsFit ss
    → clients_lines i rs ++ ts ≡ clients_lines i ss ++ us → (rs ≡ ss) × (ts ≡ us)
clients_read i [] [] ts us bt bu hr hs e = (refl, e)
clients_read i [] (s ∷ ss) ts us bt bu hr hs e = absurd (no_client i s ss ts us bt e)
clients_read i (r ∷ rs) [] ts us bt bu hr hs e = absurd (no_client i r rs us ts bu (sym e))
clients_read i (r ∷ rs) (s ∷ ss) ts us bt bu hr hs e =
    let rest : (client_lines 1 r ++ clients_lines (i + 1) rs) ++ ts ≡ (client_lines 1 s ++ clients_lines (i + 1) ss) ++ us = cc (e) in
    let parts = sym (append_assoc (client_lines 1 r) (clients_lines (i + 1) rs) ts) ∙ rest ∙ append_assoc (client_lines 1 s) (clients_lines (i + 1) ss) us in
    let p = records_read 1 r s _ _ (clients_apart (i + 1) rs ts bt) (clients_apart (i + 1) ss us bu) hr.0 hs.0 (omega (arith, hr.1)) (omega (arith, hs.1)) parts in
    let q = clients_read (i + 1) rs ss ts us bt bu hr.2 hs.2 p.1 in
    ((λ k. p.0 k ∷ q.0 k), q.1)

told_read : (es : List Entry) (rs ss : List (List Record)) → AllRecordsFit rs → AllRecordsFit ss → Fits64 (length rs) → Fits64 (length ss) → report es rs ≡ report es ss → rs ≡ ss
told_read es rs ss hr hs fr fs e =
    let texts = front_gone (text_of_lines (entry_lines 1 es)) _ _ (front_gone (ended (codes "history " ++ decimal (length es))) _ _ (sym (report-parts es rs) ∙ e ∙ report-parts es ss)) in
    let lines = lines_read (clients_lines 1 rs) (clients_lines 1 ss) (clients_are_lines 1 rs hr (omega (arith, fr))) (clients_are_lines 1 ss hs (omega (arith, fs))) texts in
    (clients_read 1 rs ss [] [] tt tt hr hs (append-nil (clients_lines 1 rs) ∙ lines ∙ sym (append-nil (clients_lines 1 ss)))).0

pub reports_read_back : IsReadBack
reports_read_back = record { history = λ es fs rs ss. history_read es fs rs ss; told = told_read }
