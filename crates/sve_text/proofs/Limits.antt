-- What a refusal tells, and what a commit that is not refused keeps.
use Rattle.std.proofs.Common.{◌≡◌, ℕ, ◌+◌, ◌≤◌, Bool, true, false, List, [], ◌∷◌, ◌++◌, length, Option, Some, None, refl, ap, sym, ◌∙◌, subst, arith, append_assoc}
use Rattle.std.specs.Prelude.{◌&&◌, not, nat_le, is_some}
use Rattle.std.proofs.lemmas.List.{append-nil}
use Rattle.std.proofs.lemmas.Bool.Decides.{nat_tests}
use Rattle.sve_text.specs.declared.edit.Edit.{Edit}
use Rattle.sve_text.specs.declared.edit.Edit.TheVariants.{Put, Drop, Splice}
use Rattle.sve_text.specs.declared.edit.TheConstants.{MAX_FILES}
use Rattle.sve_text.specs.declared.why.Refusal.{Refusal}
use Rattle.sve_text.specs.declared.why.Why.{Why}
use Rattle.sve_text.specs.declared.why.Why.TheVariants.{TooManyFiles}
use Rattle.sve_text.specs.Rows.{Row, is_there, count, IsInOrder}
use Rattle.sve_text.specs.Files.{name_of, edited, rows_after}
use Rattle.sve_text.specs.Laws.{RefusalIsTheFirst, NoneIsRefused, CommitKeepsLimits}
use Rattle.sve_text.specs.Refusals.{reason_if, reason, reason_behind, refused_behind}
use Rattle.sve_text.specs.Standing.{count_told}
use Rattle.sve_text.proofs.Commits.{IsInOrder-edited}
use Rattle.sve_text.proofs.Reasons.{none_of, no_reason_by, counted}
use Rattle.sve_text.proofs.Refused.{all_pass, first_passes, passes_on, stops_at, refused-append, edited_last, same_text, fit_after}

-- where the refused edit stands, behind these earlier ones
abbrev Found : List Row → List Edit → List Edit → Refusal → Type 0
Found rows before edits refusal =
    (e : Edit) × (later : List Edit) × (earlier : List Edit)
    × (before ++ edits ≡ earlier ++ e ∷ later)
    × (refusal.edit ≡ length earlier + 1)
    × (reason_behind rows earlier e ≡ Some refusal.why)
    × (refused_behind rows [] earlier ≡ None)

found_by : (rows : List Row) (before : List Edit) (e : Edit) (es : List Edit) (refusal : Refusal) (why : Option Why) → reason_behind rows before e ≡ why → refused_behind rows before (e ∷ es) ≡ Some refusal → refused_behind rows [] before ≡ None
    → (reason_behind rows before e ≡ None → refused_behind rows (before ++ e ∷ []) es ≡ Some refusal → refused_behind rows [] (before ++ e ∷ []) ≡ None → Found rows (before ++ e ∷ []) es refusal) → Found rows before (e ∷ es) refusal
found_by rows before e es refusal None none is passed go =
    let on = go none (sym (passes_on rows before e es none) ∙ is) (all_pass rows before e passed none) in
    (on.0, on.1, on.2, sym (append_assoc before (e ∷ []) es) ∙ on.3, on.4, on.5, on.6)
found_by rows before e es refusal (Some why) some is passed go =
    let told : Some refusal ≡ Some (record { edit = length before + 1; why = why }) = sym is ∙ stops_at rows before e es why some in
    let same : refusal ≡ record { edit = length before + 1; why = why } = cc in
    (e, es, before, refl, ap (λ (refusal : Refusal). refusal.edit) same, some ∙ ap (λ (refusal : Refusal). Some refusal.why) (sym same), passed)

found : (rows : List Row) (before edits : List Edit) (refusal : Refusal) → refused_behind rows before edits ≡ Some refusal → refused_behind rows [] before ≡ None → Found rows before edits refusal
found rows before [] refusal is passed = cc
found rows before (e ∷ es) refusal is passed =
    found_by rows before e es refusal (reason_behind rows before e) refl is passed (λ none rest more. found rows (before ++ e ∷ []) es refusal rest more)

pub refusal_is_the_first : RefusalIsTheFirst
refusal_is_the_first files edits refusal is = found files.rows [] edits refusal is refl

pub none_is_refused : NoneIsRefused
none_is_refused files edits passed e later earlier parted =
    let all : refused_behind files.rows [] (earlier ++ e ∷ later) ≡ None = ap (refused_behind files.rows []) (sym parted) ∙ passed in
    first_passes files.rows earlier e later (none_of (refused_behind files.rows [] earlier) (refused_behind files.rows earlier (e ∷ later)) (sym (refused-append files.rows [] earlier (e ∷ later)) ∙ all)).1

count_by : (is_there : Bool) (there : ℕ) → reason_if (not is_there && nat_le MAX_FILES there) TooManyFiles ≡ None → is_there ≡ false → there + 1 ≤ MAX_FILES
count_by true there h e = cc
count_by false there h e =
    let below : nat_le MAX_FILES there ≡ false = no_reason_by (nat_le MAX_FILES there) TooManyFiles h in
    grind (arith, nat_tests)

told_put : (is_there : Bool) (there : ℕ) (name text : List ℕ) → there ≤ MAX_FILES → (is_there ≡ false → there + 1 ≤ MAX_FILES) → count_told is_there there (Put name text) ≤ MAX_FILES
told_put true there name text within room = within
told_put false there name text within room = room refl

told_drop : (is_there : Bool) (there : ℕ) (name : List ℕ) → there ≤ MAX_FILES → count_told is_there there (Drop name) ≤ MAX_FILES
told_drop true there name within = omega arith
told_drop false there name within = within

count_within : (named : Bool) (rows : List Row) (e : Edit) → reason named rows e ≡ None → count rows ≤ MAX_FILES → count_told (is_there rows (name_of e)) (count rows) e ≤ MAX_FILES
count_within named rows (Put name text) h within = told_put (is_there rows name) (count rows) name text within (count_by (is_there rows name) (count rows) (none_of _ _ h).1)
count_within named rows (Drop name) h within = told_drop (is_there rows name) (count rows) name within
count_within named rows (Splice name base offset cut text) h within = within

-- The rows that two revisions leave have the same names; so what holds behind some edits at revision 0 is shown there.
within_behind : (rows : List Row) (before edits : List Edit) → IsInOrder (rows_after 0 rows before) → count (rows_after 0 rows before) ≤ MAX_FILES → refused_behind rows before edits ≡ None → count (rows_after 0 rows (before ++ edits)) ≤ MAX_FILES
within_behind rows before [] s within h = subst (λ edits. count (rows_after 0 rows edits) ≤ MAX_FILES) (sym (append-nil before)) within
within_behind rows before (e ∷ es) s within h =
    let left = rows_after 0 rows before in
    let none = first_passes rows before e es h in
    let now : count (edited 0 left e) ≤ MAX_FILES = subst (λ n. n ≤ MAX_FILES) (sym (counted 0 left e s)) (count_within _ left e none within) in
    let more = edited_last 0 rows before e in
    subst (λ edits. count (rows_after 0 rows edits) ≤ MAX_FILES) (append_assoc before (e ∷ []) es)
    (within_behind rows (before ++ e ∷ []) es (subst IsInOrder more (IsInOrder-edited 0 left e s)) (subst (λ rows. count rows ≤ MAX_FILES) more now) (sym (passes_on rows before e es none) ∙ h))

-- however the revision is numbered, as many files are there
same_count : (r s : ℕ) (rows others : List Row) (e : Edit) → IsInOrder rows → IsInOrder others → count rows ≡ count others → is_there rows (name_of e) ≡ is_there others (name_of e) → count (edited r rows e) ≡ count (edited s others e)
same_count r s rows others e in_order in_order_too counts there =
    counted r rows e in_order ∙ ap (λ there. count_told there (count rows) e) there ∙ ap (λ n. count_told (is_there others (name_of e)) n e) counts ∙ sym (counted s others e in_order_too)

same_count_behind : (r : ℕ) (rows : List Row) (before edits : List Edit) → IsInOrder (rows_after r rows before) → IsInOrder (rows_after 0 rows before) → count (rows_after r rows before) ≡ count (rows_after 0 rows before)
    → count (rows_after r rows (before ++ edits)) ≡ count (rows_after 0 rows (before ++ edits))
same_count_behind r rows before [] s z counts = subst (λ edits. count (rows_after r rows edits) ≡ count (rows_after 0 rows edits)) (sym (append-nil before)) counts
same_count_behind r rows before (e ∷ es) s z counts =
    let left = rows_after r rows before in
    let zero = rows_after 0 rows before in
    let there : is_there left (name_of e) ≡ is_there zero (name_of e) = ap is_some (same_text r 0 rows before (name_of e)) in
    let now : count (edited r left e) ≡ count (edited 0 zero e) = same_count r 0 left zero e s z counts there in
    let more = edited_last r rows before e in
    let more_zero = edited_last 0 rows before e in
    subst (λ edits. count (rows_after r rows edits) ≡ count (rows_after 0 rows edits)) (append_assoc before (e ∷ []) es)
    (same_count_behind r rows (before ++ e ∷ []) es (subst IsInOrder more (IsInOrder-edited r left e s)) (subst IsInOrder more_zero (IsInOrder-edited 0 zero e z)) (ap count (sym more) ∙ now ∙ ap count more_zero))

pub commit_keeps_limits : CommitKeepsLimits
commit_keeps_limits r files edits passed = (
  λ fit. fit_after r files.rows edits fit passed,
  λ s within. subst (λ n. n ≤ MAX_FILES) (sym (same_count_behind r files.rows [] edits s s refl)) (within_behind files.rows [] edits s within passed),
)
