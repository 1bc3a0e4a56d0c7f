-- The reason of an edit by what is told of its file, and what an edit without a reason leaves.
use Rattle.std.proofs.Common.{◌≡◌, ℕ, ◌+◌, ◌≤◌, Bool, true, false, List, [], ◌∷◌, length, Option, Some, None, refl, ap, sym, ◌∙◌, arith, length-append, length-drop, inl, inr}
use Rattle.std.specs.Prelude.{IfSome, ◌==◌, ◌&&◌, ◌||◌, not, nat_lt, is_some, option_map, bytes_eq}
use Rattle.std.specs.Option.{option_or, option_map_or}
use Rattle.std.proofs.lemmas.List.{length-take}
use Rattle.std.proofs.lemmas.Bool.Decides.{nat_tests}
use Rattle.std.proofs.lemmas.Slice.Eq.{bytes_eq-Decides}
use Rattle.sve_text.specs.declared.edit.Edit.{Edit}
use Rattle.sve_text.specs.declared.edit.Edit.TheVariants.{Put, Drop, Splice}
use Rattle.sve_text.specs.declared.edit.TheConstants.{MAX_FILE_LEN}
use Rattle.sve_text.specs.declared.why.Why.{Why}
use Rattle.sve_text.specs.declared.why.Why.TheVariants.{NoFile, Stale, Range, FileTooLarge}
use Rattle.sve_text.specs.Rows.{Row, text_of, stamp_of, is_there, count, IsInLimit, IsInOrder}
use Rattle.sve_rope.specs.Splice.{spliced}
use Rattle.sve_text.specs.Files.{name_of, text_after, edited, rows_after}
use Rattle.sve_text.specs.Laws.{Touches}
use Rattle.sve_text.specs.Refusals.{reason_if, too_large, splice_reason, reason, name_file, reason_behind}
use Rattle.sve_text.specs.Standing.{spliced_length, splice_reason_told, put_reason_told, reason_told, count_told}
use Rattle.sve_text.proofs.Commits.{row_of-untouched}
use Rattle.sve_text.proofs.Counts.{one_if, count-put_row}

pub length-spliced : (offset cut : ℕ) (new old : List ℕ) → length (spliced offset cut new old) ≡ spliced_length offset cut (length new) (length old)
length-spliced offset cut new old = simp (length-append, length-take, length-drop) refl

is_some-length : (text : Option (List ℕ)) → is_some (option_map length text) ≡ is_some text
is_some-length None = refl
is_some-length (Some text) = refl

splice_told : (named : Bool) (stamp base offset cut : ℕ) (new : List ℕ) (old : Option (List ℕ)) → splice_reason named stamp base offset cut new old ≡ splice_reason_told named stamp base offset cut (length new) (option_map length old)
splice_told named stamp base offset cut new None = refl
splice_told named stamp base offset cut new (Some old) =
    ap (λ bytes. option_or (reason_if (not named && not (base == stamp)) (Stale stamp)) (option_or (reason_if (nat_lt (length old) (offset + cut)) (Range (length old))) (too_large bytes))) (length-spliced offset cut new old)

told_now : (named : Bool) (rows : List Row) (e : Edit) → reason named rows e ≡ reason_told named (stamp_of rows (name_of e)) (option_map length (text_of rows (name_of e))) (count rows) e
told_now named rows (Put name text) = ap (λ is_there. put_reason_told is_there (count rows) (length text)) (sym (is_some-length (text_of rows name)))
told_now named rows (Drop name) = ap (λ is_there. reason_if (not is_there) NoFile) (sym (is_some-length (text_of rows name)))
told_now named rows (Splice name base offset cut text) = splice_told named (stamp_of rows name) base offset cut text (text_of rows name)

-- where an earlier edit names the file, its stamp is asked of nobody
named_stamp : (s t : ℕ) (old : Option ℕ) (there : ℕ) (e : Edit) → reason_told true s old there e ≡ reason_told true t old there e
named_stamp s t old there (Put name text) = refl
named_stamp s t old there (Drop name) = refl
named_stamp s t None there (Splice name base offset cut text) = refl
named_stamp s t (Some old) there (Splice name base offset cut text) = refl

neither : (a b : Bool) → a || b ≡ false → (a ≡ false) × (b ≡ false)
neither true b h = cc
neither false b h = (refl, h)

untouched : (edits : List Edit) (name : List ℕ) → name_file edits name ≡ false → ¬ Touches edits name
untouched [] name h t = t
untouched (e ∷ es) name h (inl same) =
    let here = (neither (bytes_eq name (name_of e)) (name_file es name) h).0 in
    let there : bytes_eq name (name_of e) ≡ true = (bytes_eq-Decides name (name_of e)).1 same in
    cc
untouched (e ∷ es) name h (inr later) = untouched es name (neither (bytes_eq name (name_of e)) (name_file es name) h).1 later

stamp_by : (named : Bool) (rows : List Row) (earlier : List Edit) (name : List ℕ) (old : Option ℕ) (there : ℕ) (e : Edit) → name_file earlier name ≡ named → reason_told named (stamp_of (rows_after 0 rows earlier) name) old there e ≡ reason_told named (stamp_of rows name) old there e
stamp_by true rows earlier name old there e is = named_stamp (stamp_of (rows_after 0 rows earlier) name) (stamp_of rows name) old there e
stamp_by false rows earlier name old there e is =
    ap (λ (row : Option Row). reason_told false (option_map_or (λ row. row.stamp) row 0) old there e) (row_of-untouched 0 rows earlier name (untouched earlier name is))

-- the reason of an edit behind others, by what is told of its file
pub told_behind : (rows : List Row) (earlier : List Edit) (e : Edit) → reason_behind rows earlier e ≡ reason_told (name_file earlier (name_of e)) (stamp_of rows (name_of e)) (option_map length (text_of (rows_after 0 rows earlier) (name_of e))) (count (rows_after 0 rows earlier)) e
told_behind rows earlier e =
    told_now (name_file earlier (name_of e)) (rows_after 0 rows earlier) e
    ∙ stamp_by (name_file earlier (name_of e)) rows earlier (name_of e) (option_map length (text_of (rows_after 0 rows earlier) (name_of e))) (count (rows_after 0 rows earlier)) e refl

pub none_of : {X : Type 0} (first second : Option X) → option_or first second ≡ None → (first ≡ None) × (second ≡ None)
none_of None second h = (refl, h)
none_of (Some x) second h = cc

pub no_reason_by : (test : Bool) (why : Why) → reason_if test why ≡ None → test ≡ false
no_reason_by true why h = cc
no_reason_by false why h = refl

in_limit : (bytes : ℕ) → too_large bytes ≡ None → bytes ≤ MAX_FILE_LEN
in_limit bytes h =
    let not_above : nat_lt MAX_FILE_LEN bytes ≡ false = no_reason_by (nat_lt MAX_FILE_LEN bytes) (FileTooLarge bytes) h in
    grind (arith, nat_tests)

splice_in_limit : (named : Bool) (stamp base offset cut : ℕ) (new : List ℕ) (old : Option (List ℕ)) → splice_reason named stamp base offset cut new old ≡ None → IfSome (option_map (spliced offset cut new) old) IsInLimit
splice_in_limit named stamp base offset cut new None h = tt
splice_in_limit named stamp base offset cut new (Some old) h = in_limit _ (none_of _ _ (none_of _ _ h).1).1

-- an edit without a reason leaves a text in the limit
pub left_in_limit : (named : Bool) (rows : List Row) (e : Edit) → reason named rows e ≡ None → IfSome (text_after (text_of rows (name_of e)) e) IsInLimit
left_in_limit named rows (Put name text) h = in_limit _ (none_of _ _ h).0
left_in_limit named rows (Drop name) h = tt
left_in_limit named rows (Splice name base offset cut text) h = splice_in_limit named (stamp_of rows name) base offset cut text (text_of rows name) h

counted_by : (there after : ℕ) (was : Option (List ℕ)) (e : Edit) → after + one_if (is_some was) ≡ there + one_if (is_some (text_after was e)) → after ≡ count_told (is_some was) there e
counted_by there after None (Put name new) h = omega (arith, h)
counted_by there after (Some was) (Put name new) h = omega (arith, h)
counted_by there after None (Drop name) h = omega (arith, h)
counted_by there after (Some was) (Drop name) h = omega (arith, h)
counted_by there after None (Splice name base offset cut new) h = omega (arith, h)
counted_by there after (Some was) (Splice name base offset cut new) h = omega (arith, h)

-- how many files are there after an edit
pub counted : (r : ℕ) (rows : List Row) (e : Edit) → IsInOrder rows → count (edited r rows e) ≡ count_told (is_there rows (name_of e)) (count rows) e
counted r rows e s = counted_by (count rows) (count (edited r rows e)) (text_of rows (name_of e)) e (count-put_row _ rows s)
