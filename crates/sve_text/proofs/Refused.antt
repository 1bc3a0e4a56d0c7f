-- What a commit that is not refused leaves, edit by edit.
use Rattle.std.proofs.Common.{◌≡◌, ℕ, ◌+◌, ◌<◌, List, [], ◌∷◌, ◌++◌, length, take, drop, get_or, Option, Some, None, refl, ap, sym, ◌∙◌, subst, append_assoc}
use Rattle.std.specs.Prelude.{IfSome, option_map}
use Rattle.std.specs.Option.{option_or}
use Rattle.sve_text.specs.declared.edit.Edit.{Edit}
use Rattle.sve_text.specs.declared.why.Refusal.{Refusal}
use Rattle.sve_text.specs.declared.why.Why.{Why}
use Rattle.sve_text.specs.Rows.{Row, text_of, IsInLimit, RowsFit}
use Rattle.sve_text.specs.Files.{name_of, text_after, edited, rows_after}
use Rattle.sve_text.specs.Refusals.{reason_behind, refused_behind}
use Rattle.std.proofs.lemmas.List.{append-nil, take-append-drop, take_more, drop_more}
use Rattle.sve_text.proofs.Commits.{RowsFit-edited, each_file_is_its_edits}
use Rattle.sve_text.proofs.Reasons.{none_of, left_in_limit}

pub rows_after-append : (r : ℕ) (rows : List Row) (first second : List Edit) → rows_after r rows (first ++ second) ≡ rows_after r (rows_after r rows first) second
rows_after-append r rows [] second = refl
rows_after-append r rows (e ∷ first) second = rows_after-append r (edited r rows e) first second

or_assoc : {X : Type 0} (a b c : Option X) → option_or a (option_or b c) ≡ option_or (option_or a b) c
or_assoc None b c = refl
or_assoc (Some x) b c = refl

-- the first edits are judged as if no others came
pub refused-append : (rows : List Row) (earlier first second : List Edit) → refused_behind rows earlier (first ++ second) ≡ option_or (refused_behind rows earlier first) (refused_behind rows (earlier ++ first) second)
refused-append rows earlier [] second = ap (λ before. refused_behind rows before second) (sym (append-nil earlier))
refused-append rows earlier (e ∷ first) second =
    let here : Option Refusal = option_map (λ why. record { edit = length earlier + 1; why = why }) (reason_behind rows earlier e) in
    let next = earlier ++ e ∷ [] in
    let later : refused_behind rows next (first ++ second) ≡ option_or (refused_behind rows next first) (refused_behind rows (earlier ++ e ∷ first) second) =
    refused-append rows next first second
    ∙ ap (λ before. option_or (refused_behind rows next first) (refused_behind rows before second)) (append_assoc earlier (e ∷ []) first) in
    ap (λ later. option_or here later) later
    ∙ or_assoc here (refused_behind rows next first) (refused_behind rows (earlier ++ e ∷ first) second)

numbered_none : {X Y : Type 0} (f : X → Y) (o : Option X) → option_map f o ≡ None → o ≡ None
numbered_none f None h = refl
numbered_none f (Some x) h = cc

-- an edit before others that are judged has no reason
pub first_passes : (rows : List Row) (earlier : List Edit) (e : Edit) (es : List Edit) → refused_behind rows earlier (e ∷ es) ≡ None → reason_behind rows earlier e ≡ None
first_passes rows earlier e es h = numbered_none (λ why. record { edit = length earlier + 1; why = why }) _ (none_of _ _ h).0

-- behind an edit without a reason the others decide
pub passes_on : (rows : List Row) (earlier : List Edit) (e : Edit) (es : List Edit) → reason_behind rows earlier e ≡ None → refused_behind rows earlier (e ∷ es) ≡ refused_behind rows (earlier ++ e ∷ []) es
passes_on rows earlier e es h = ap (λ (why : Option Why). option_or (option_map (λ why. record { edit = length earlier + 1; why = why }) why) (refused_behind rows (earlier ++ e ∷ []) es)) h

-- an edit with a reason decides
pub stops_at : (rows : List Row) (earlier : List Edit) (e : Edit) (es : List Edit) (why : Why) → reason_behind rows earlier e ≡ Some why → refused_behind rows earlier (e ∷ es) ≡ Some (record { edit = length earlier + 1; why = why })
stops_at rows earlier e es why h = ap (λ (why : Option Why). option_or (option_map (λ why. record { edit = length earlier + 1; why = why }) why) (refused_behind rows (earlier ++ e ∷ []) es)) h

-- with one edit more that has no reason, all pass
pub all_pass : (rows : List Row) (first : List Edit) (e : Edit) → refused_behind rows [] first ≡ None → reason_behind rows first e ≡ None → refused_behind rows [] (first ++ e ∷ []) ≡ None
all_pass rows first e passed h =
    refused-append rows [] first (e ∷ [])
    ∙ ap (λ before. option_or before (refused_behind rows first (e ∷ []))) passed
    ∙ passes_on rows first e [] h

-- the front of edits that pass does
pub front_passes : (rows : List Row) (first second : List Edit) → refused_behind rows [] (first ++ second) ≡ None → refused_behind rows [] first ≡ None
front_passes rows first second h = (none_of _ _ (sym (refused-append rows [] first second) ∙ h)).0

-- each edit of a commit that passes has no reason behind the earlier ones
pub each_passes : (rows : List Row) (edits : List Edit) (i : ℕ) (e : Edit) → i < length edits → e ≡ get_or edits i e → refused_behind rows [] edits ≡ None → reason_behind rows (take i edits) e ≡ None
each_passes rows edits i e below is h =
    let parted : edits ≡ take i edits ++ e ∷ drop (i + 1) edits =
    sym (take-append-drop i edits) ∙ ap (λ rest. take i edits ++ rest) (drop_more edits i e below ∙ ap (λ e. e ∷ drop (i + 1) edits) (sym is)) in
    let passed : refused_behind rows [] (take i edits ++ e ∷ drop (i + 1) edits) ≡ None = ap (refused_behind rows []) (sym parted) ∙ h in
    first_passes rows (take i edits) e (drop (i + 1) edits) (none_of _ _ (sym (refused-append rows [] (take i edits) (e ∷ drop (i + 1) edits)) ∙ passed)).1

-- the text of a file behind some edits is the same whichever revision they make
pub same_text : (r s : ℕ) (rows : List Row) (edits : List Edit) (name : List ℕ) → text_of (rows_after r rows edits) name ≡ text_of (rows_after s rows edits) name
same_text r s rows edits name = each_file_is_its_edits r rows edits name ∙ sym (each_file_is_its_edits s rows edits name)

pub edited_last : (r : ℕ) (rows : List Row) (first : List Edit) (e : Edit) → edited r (rows_after r rows first) e ≡ rows_after r rows (first ++ e ∷ [])
edited_last r rows first e = sym (rows_after-append r rows first (e ∷ []))

fit_behind : (r : ℕ) (rows : List Row) (first edits : List Edit) → RowsFit (rows_after r rows first) → refused_behind rows first edits ≡ None → RowsFit (rows_after r rows (first ++ edits))
fit_behind r rows first [] fit h = subst (λ edits. RowsFit (rows_after r rows edits)) (sym (append-nil first)) fit
fit_behind r rows first (e ∷ es) fit h =
    let passes : reason_behind rows first e ≡ None = first_passes rows first e es h in
    let left = left_in_limit _ (rows_after 0 rows first) e passes in
    let here : IfSome (text_after (text_of (rows_after r rows first) (name_of e)) e) IsInLimit =
    subst (λ (text : Option (List ℕ)). IfSome (text_after text e) IsInLimit) (same_text 0 r rows first (name_of e)) left in
    let next : RowsFit (rows_after r rows (first ++ e ∷ [])) = subst RowsFit (edited_last r rows first e) (RowsFit-edited r (rows_after r rows first) e here fit) in
    subst (λ edits. RowsFit (rows_after r rows edits)) (append_assoc first (e ∷ []) es)
    (fit_behind r rows (first ++ e ∷ []) es next (sym (passes_on rows first e es passes) ∙ h))

-- a commit that is not refused leaves no text above the limit
pub fit_after : (r : ℕ) (rows : List Row) (edits : List Edit) → RowsFit rows → refused_behind rows [] edits ≡ None → RowsFit (rows_after r rows edits)
fit_after r rows edits fit h = fit_behind r rows [] edits fit h

-- one edit more, as the loops count
pub one_more : (edits : List Edit) (i : ℕ) (e : Edit) → i < length edits → e ≡ get_or edits i e → take (i + 1) edits ≡ take i edits ++ e ∷ []
one_more edits i e below is = take_more edits i e below ∙ ap (λ e. take i edits ++ e ∷ []) (sym is)

pub rest_from : (edits : List Edit) (i : ℕ) (e : Edit) → i < length edits → e ≡ get_or edits i e → drop i edits ≡ e ∷ drop (i + 1) edits
rest_from edits i e below is = drop_more edits i e below ∙ ap (λ e. e ∷ drop (i + 1) edits) (sym is)
