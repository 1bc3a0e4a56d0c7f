-- One turn of each loop over the edits of a commit.
use Rattle.std.proofs.Common.{◌≡◌, ◌≢◌, ℕ, ◌+◌, ◌<◌, ◌≤◌, Bool, true, false, List, [], ◌∷◌, ◌++◌, length, take, drop, get_or, Option, Some, None, refl, ap, sym, ◌∙◌, subst, arith}
use Rattle.std.specs.Prelude.{IfSome, ◌||◌, is_some, option_map, bytes_eq}
use Rattle.std.proofs.lemmas.List.{length-take-le}
use Rattle.std.proofs.lemmas.Slice.Eq.{bytes_eq-Decides}
use Rattle.sve_text.specs.declared.edit.Edit.{Edit}
use Rattle.sve_text.specs.declared.edit.TheConstants.{MAX_FILE_LEN}
use Rattle.sve_text.specs.declared.why.Why.{Why}
use Rattle.sve_text.specs.Rows.{Row, text_of, stamp_of, is_there, count, IsInLimit, IsInOrder}
use Rattle.sve_text.specs.Files.{name_of, text_after, edited, rows_after}
use Rattle.sve_text.specs.Refusals.{name_file, reason_behind, refused_behind}
use Rattle.sve_text.specs.Standing.{reason_told, count_told}
use Rattle.sve_text.proofs.Commits.{edit_changes_one_name, commit_keeps_order}
use Rattle.sve_text.proofs.Reasons.{told_behind, left_in_limit, counted}
use Rattle.sve_text.proofs.Refused.{each_passes, edited_last, one_more, rest_from, all_pass, passes_on, stops_at}

text_last : (rows : List Row) (first : List Edit) (e : Edit) (name : List ℕ) → name ≡ name_of e → text_of (rows_after 0 rows (first ++ e ∷ [])) name ≡ text_after (text_of (rows_after 0 rows first) name) e
text_last rows first e name same =
    ap (λ rows. text_of rows name) (sym (edited_last 0 rows first e))
    ∙ subst (λ name. text_of (edited 0 (rows_after 0 rows first) e) name ≡ text_after (text_of (rows_after 0 rows first) name) e) (sym same) (edit_changes_one_name 0 (rows_after 0 rows first) e).0

text_passed : (rows : List Row) (first : List Edit) (e : Edit) (name : List ℕ) → name ≢ name_of e → text_of (rows_after 0 rows (first ++ e ∷ [])) name ≡ text_of (rows_after 0 rows first) name
text_passed rows first e name other =
    ap (λ rows. text_of rows name) (sym (edited_last 0 rows first e)) ∙ (edit_changes_one_name 0 (rows_after 0 rows first) e).2 name other

or_either : (a b c : Bool) → a || (b || c) ≡ (a || b) || c
or_either true b c = refl
or_either false b c = refl

or_true : (a : Bool) → a || true ≡ true
or_true true = refl
or_true false = refl

or_false : (a : Bool) → a || false ≡ a
or_false true = refl
or_false false = refl

named_last : (first : List Edit) (e : Edit) (name : List ℕ) → name_file (first ++ e ∷ []) name ≡ name_file first name || bytes_eq name (name_of e)
named_last [] e name = or_false (bytes_eq name (name_of e))
named_last (x ∷ first) e name =
    ap (λ later. bytes_eq name (name_of x) || later) (named_last first e name)
    ∙ or_either (bytes_eq name (name_of x)) (name_file first name) (bytes_eq name (name_of e))

length_in_limit : (text : Option (List ℕ)) → IfSome text IsInLimit → IfSome (option_map length text) (λ bytes. bytes ≤ MAX_FILE_LEN)
length_in_limit None fit = tt
length_in_limit (Some text) fit = fit

-- what the loop over the earlier edits keeps of a file
pub record Stands (rows : List Row) (edits : List Edit) (name : List ℕ) (bytes : Option ℕ) (named : Bool) : Type 0 where
  pub length_is : bytes ≡ option_map length (text_of (rows_after 0 rows edits) name)
  pub in_limit : IfSome bytes (λ bytes. bytes ≤ MAX_FILE_LEN)
  pub named_is : named ≡ name_file edits name

-- an edit of the file
pub stands_edited : (rows : List Row) (edits : List Edit) (i : ℕ) (e : Edit) (name : List ℕ) (bytes : Option ℕ) → i < length edits → e ≡ get_or edits i e → refused_behind rows [] edits ≡ None
    → bytes_eq name (name_of e) ≡ true → bytes ≡ option_map length (text_after (text_of (rows_after 0 rows (take i edits)) name) e) → Stands rows (take (i + 1) edits) name bytes true
stands_edited rows edits i e name bytes below is passed eq now =
    let first = take i edits in
    let same : name ≡ name_of e = (bytes_eq-Decides name (name_of e)).0 eq in
    let more : take (i + 1) edits ≡ first ++ e ∷ [] = one_more edits i e below is in
    let length_now : bytes ≡ option_map length (text_of (rows_after 0 rows (first ++ e ∷ [])) name) = now ∙ ap (option_map length) (sym (text_last rows first e name same)) in
    let left = left_in_limit _ (rows_after 0 rows first) e (each_passes rows edits i e below is passed) in
    let fit : IfSome (text_after (text_of (rows_after 0 rows first) name) e) IsInLimit = subst (λ name. IfSome (text_after (text_of (rows_after 0 rows first) name) e) IsInLimit) (sym same) left in
    record {
      length_is = length_now ∙ ap (λ edits. option_map length (text_of (rows_after 0 rows edits) name)) (sym more);
      in_limit = subst (λ (bytes : Option ℕ). IfSome bytes (λ bytes. bytes ≤ MAX_FILE_LEN)) (sym now) (length_in_limit _ fit);
      named_is = sym (ap (λ edits. name_file edits name) more ∙ named_last first e name ∙ ap (λ b. name_file first name || b) eq ∙ or_true (name_file first name));
    }

-- an edit of another file
pub stands_passed : (rows : List Row) (edits : List Edit) (i : ℕ) (e : Edit) (name : List ℕ) (bytes : Option ℕ) (named : Bool) → i < length edits → e ≡ get_or edits i e
    → bytes_eq name (name_of e) ≡ false → Stands rows (take i edits) name bytes named → Stands rows (take (i + 1) edits) name bytes named
stands_passed rows edits i e name bytes named below is eq kept =
    let first = take i edits in
    let other : name ≢ name_of e = λ same. let two : bytes_eq name (name_of e) ≡ true = (bytes_eq-Decides name (name_of e)).1 same in cc in
    let more : take (i + 1) edits ≡ first ++ e ∷ [] = one_more edits i e below is in
    record {
      length_is = kept.length_is ∙ ap (option_map length) (sym (ap (λ edits. text_of (rows_after 0 rows edits) name) more ∙ text_passed rows first e name other));
      in_limit = kept.in_limit;
      named_is = kept.named_is ∙ sym (ap (λ edits. name_file edits name) more ∙ named_last first e name ∙ ap (λ b. name_file first name || b) eq ∙ or_false (name_file first name));
    }

-- the reason that is found is the edit's
pub judged : (rows : List Row) (earlier : List Edit) (e : Edit) (named : Bool) (stamp : ℕ) (bytes : Option ℕ) (there : ℕ) → named ≡ name_file earlier (name_of e) → stamp ≡ stamp_of rows (name_of e)
    → bytes ≡ option_map length (text_of (rows_after 0 rows earlier) (name_of e)) → there ≡ count (rows_after 0 rows earlier) → reason_told named stamp bytes there e ≡ reason_behind rows earlier e
judged rows earlier e named stamp bytes there n s b t = rw n (rw s (rw b (rw t (sym (told_behind rows earlier e)))))

-- what the loop over the edits keeps
pub record Passes (rows : List Row) (edits : List Edit) (i there : ℕ) : Type 0 where
  pub passed : refused_behind rows [] (take i edits) ≡ None
  pub there_is : there ≡ count (rows_after 0 rows (take i edits))
  pub rest : refused_behind rows (take i edits) (drop i edits) ≡ refused_behind rows [] edits

is_some_map : (text : Option (List ℕ)) → is_some (option_map length text) ≡ is_some text
is_some_map None = refl
is_some_map (Some text) = refl

-- an edit without a reason
pub passes_more : (rows : List Row) (edits : List Edit) (i there after : ℕ) (e : Edit) (bytes : Option ℕ) → IsInOrder rows → i < length edits → e ≡ get_or edits i e → Passes rows edits i there
    → reason_behind rows (take i edits) e ≡ None → bytes ≡ option_map length (text_of (rows_after 0 rows (take i edits)) (name_of e)) → after ≡ count_told (is_some bytes) there e → Passes rows edits (i + 1) after
passes_more rows edits i there after e bytes s below is kept none b a =
    let first = take i edits in
    let left = rows_after 0 rows first in
    let more : take (i + 1) edits ≡ first ++ e ∷ [] = one_more edits i e below is in
    let was : is_some bytes ≡ is_there left (name_of e) = ap is_some b ∙ is_some_map _ in
    record {
      passed = ap (refused_behind rows []) more ∙ all_pass rows first e kept.passed none;
      there_is =
          a ∙ ap (λ is_there. count_told is_there there e) was ∙ ap (λ there. count_told (is_there left (name_of e)) there e) kept.there_is
          ∙ sym (ap (λ edits. count (rows_after 0 rows edits)) more ∙ ap count (sym (edited_last 0 rows first e)) ∙ counted 0 left e (commit_keeps_order 0 rows first s));
      rest =
          ap (λ first. refused_behind rows first (drop (i + 1) edits)) more ∙ sym (passes_on rows first e (drop (i + 1) edits) none)
          ∙ ap (refused_behind rows first) (sym (rest_from edits i e below is)) ∙ kept.rest;
    }

-- an edit with a reason
pub refused_here : (rows : List Row) (edits : List Edit) (i there : ℕ) (e : Edit) (why : Why) → i < length edits → e ≡ get_or edits i e → Passes rows edits i there
    → reason_behind rows (take i edits) e ≡ Some why → refused_behind rows [] edits ≡ Some (record { edit = i + 1; why = why })
refused_here rows edits i there e why below is kept found =
    sym kept.rest ∙ ap (refused_behind rows (take i edits)) (rest_from edits i e below is) ∙ stops_at rows (take i edits) e (drop (i + 1) edits) why found
    ∙ ap (λ n. Some (record { edit = n + 1; why = why })) (length-take-le i edits (omega arith))
