-- Each step takes from what is left, and all is paid for.
use Rattle.std.proofs.Common.{◌≡◌, ℕ, zero, suc, ◌+◌, ◌-◌, ◌*◌, ◌<◌, ◌≤◌, Bool, true, false, cond, ◌&&◌, ◌||◌, List, [], ◌∷◌, ◌++◌, length, take, drop, map, Option, Some, None, refl, ap, sym, ◌∙◌, subst, nat_le, nat_lt, nat_eq, arith, length-append, length-drop}
use Rattle.std.specs.List.{list_all}
use Rattle.std.proofs.lemmas.List.{length-map, length-take}
use Rattle.sve_bytes.specs.declared.span.Span.{Span}
use Rattle.sve_bytes.specs.FileName.{is_file_name_of, may_stand_in_file_name}
use Rattle.sve_diag.specs.declared.code.Code.{Code}
use Rattle.sve_origin.specs.Origins.{Origin, marked}
use Rattle.sve_origin.proofs.Marks.{length-marked}
use Rattle.sve_unread.specs.Bytes.{Byte, laid, cell, ahead}
use Rattle.sve_unread.specs.Head.{head_origin, head_line, head_macros, head_level}
use Rattle.sve_unread.proofs.Laid.{length-laid, length-ahead}
use Rattle.sve_macro.specs.declared.definition.Definition.{Definition}
use Rattle.sve_macro.specs.Macros.{macro_of}
use Rattle.sve_macro.specs.Parts.{actuals_of}
use Rattle.sve_macro.specs.Substitution.{accepts, substituted}
use Rattle.sve_directive.specs.Bytes.{begins_with}
use Rattle.sve_directive.specs.Pieces.{plain_length}
use Rattle.sve_directive.specs.Directives.{directive_at, is_conditional_at}
use Rattle.sve_directive.specs.declared.directive.Directive.{Directive}
use Rattle.sve_directive.specs.declared.directive.Directive.TheVariants.{Include, Local}
use Rattle.sve_directive.specs.declared.directive.LocalDirective.{LocalDirective}
use Rattle.sve_directive.specs.declared.directive.LocalDirective.TheVariants.{Conditional, Macros, NetType, Text, Ignored, Use, Refused}
use Rattle.sve_directive.specs.declared.directive.Conditional.{Conditional as Conditionals}
use Rattle.sve_directive.specs.declared.directive.Conditional.TheVariants.{Ifdef, Ifndef, Elsif, Else, Endif}
use Rattle.sve_directive.specs.declared.directive.MacroDirective.{MacroDirective}
use Rattle.sve_directive.specs.declared.directive.MacroDirective.TheVariants.{Define, Undef, UndefineAll}
use Rattle.sve_directive.specs.declared.directive.MacroName.TheVariants.{Name, TooLong}
use Rattle.sve_directive.specs.declared.directive.SourceText.{SourceText}
use Rattle.sve_directive.specs.declared.directive.SourceText.TheVariants.{File, Line}
use Rattle.sve_directive.specs.declared.directive.Refusal.{Refusal}
use Rattle.sve_directive.specs.declared.directive.Refusal.TheVariants.{Keywords, Malformed, LongUse}
use Rattle.sve_prep.specs.declared.condition.Condition.{Condition}
use Rattle.sve_prep.specs.Told.{Told}
use Rattle.sve_prep.specs.State.{State, limit, is_reading, forward, copy, written, stand_for, replace, refuse, use_origin, is_left, close_with}
use Rattle.sve_prep.specs.Conditionals.{is_own, may_have_group, next_group, end_conditional, follow_conditional}
use Rattle.sve_prep.specs.Uses.{Next, Goes, Ends, Needs, passes, is_inside, is_too_deep, read_result, use_text, part_in, use_with, use_listed, past_blanks, list_start, use_opened, use_found, file_text, line_text, source_text}
use Rattle.sve_prep.specs.Includes.{include_found, ask, is_too_far, include}
use Rattle.sve_prep.specs.Step.{change_macros, refuse_directive, follow, step_head, step_backtick, step_rest, step}
use Rattle.sve_prep.specs.Expansion.{Outcome, carry_on, run, left, go}
use Rattle.sve_prep.specs.View.{Fits, ArePlaced}
use Rattle.sve_prep.proofs.Placed.{placed-drop, placed-append, placed-laid, head_placed}
use Rattle.sve_prep.proofs.Taken.{Pays, pays_more, directive_takes, EndsBehind, list_ends, some_ahead}
use Rattle.std.proofs.lemmas.Fmt.{length-decimal-le}

pub record Follows (s t : State) : Type 0 where
  pub falls : left t < left s
  pub pays : Fits s → Fits t

-- where the step goes on, it follows
abbrev pub IsFollowed : State → Next → Type 0
IsFollowed s (Goes t) = Follows s t
IsFollowed s (Ends t) = Unit {0}
IsFollowed s (Needs name t) = Unit {0}

either : (P : Next → Type 0) (b : Bool) (x y : Next) → (b ≡ true → P x) → (b ≡ false → P y) → P (cond b x y)
either P true x y f g = f refl
either P false x y f g = g refl

both : (P : State → Type 0) (b : Bool) (x y : State) → P x → P y → P (cond b x y)
both P true x y f g = f
both P false x y f g = g

shorter : (n : ℕ) (bs : List Byte) → 0 < n → 0 < length bs → length (drop n bs) + 1 ≤ length bs
shorter n bs h k = omega (arith, length-drop n bs)

-- n bytes are done with, at most one condition is opened, and nothing is written
follows_taken : (n : ℕ) (s t : State) → 0 < n → 0 < length s.rest → t.rest ≡ drop n s.rest → t.work ≡ s.work → length t.conditions ≤ length s.conditions + 1 → t.out ≡ s.out → Follows s t
unfolding left
follows_taken n s t h k r w c o =
    let a : length t.rest + 1 ≤ length s.rest = omega (arith, shorter n s.rest h k, ap length r) in
    let b : length t.out ≡ length s.out = ap length o in
    record {
      falls = omega (arith, ap (λ m. limit - m) w);
      pays = λ f. let p = f.paid in let q = f.bounded in record { paid = omega arith; bounded = omega arith; placed = subst ArePlaced (sym r) (placed-drop n s.rest f.placed) };
    }

follows_refuse : (code : Code) (arg : Option (List ℕ)) (n : ℕ) (s : State) → 0 < n → 0 < length s.rest → Follows s (refuse code arg n s)
follows_refuse code arg n s h k = follows_taken n s (refuse code arg n s) h k refl refl (omega arith) refl

follows_forward : (n : ℕ) (s : State) → 0 < n → 0 < length s.rest → Follows s (forward n s)
follows_forward n s h k = follows_taken n s (forward n s) h k refl refl (omega arith) refl

written_length : (b : Bool) (n : ℕ) (bs : List Byte) → length (cond b (map cell (take n bs)) []) + length (drop n bs) ≤ length bs
written_length true n bs = omega (arith, length-map (take n bs) cell, length-take n bs, length-drop n bs)
written_length false n bs = omega (arith, length-drop n bs)

paid_for : (out more rest old work : ℕ) → out + 600 * old ≤ 600 * work → more + rest ≤ old → out + more + 600 * rest ≤ 600 * work
paid_for out more rest old work h k = omega arith

follows_copy : (n : ℕ) (s : State) → 0 < n → 0 < length s.rest → Follows s (copy n s)
unfolding left
follows_copy n s h k =
    let a = shorter n s.rest h k in
    let b = written_length (is_reading s.conditions) n s.rest in
    record {
      falls = omega arith;
      pays = λ f. record {
        paid = omega (arith, length-append s.out (written n s), paid_for (length s.out) (length (written n s)) (length (drop n s.rest)) (length s.rest) s.work f.paid b);
        bounded = f.bounded;
        placed = placed-drop n s.rest f.placed;
      };
    }

paid_text : (out more rest old work : ℕ) → out + 600 * old ≤ 600 * work → more ≤ 1026 → rest + 2 ≤ old → out + more + 600 * rest ≤ 600 * work
paid_text out more rest old work h k l = omega arith

shorter_by_two : (n : ℕ) (bs : List Byte) → 2 ≤ n → 2 ≤ length bs → length (drop n bs) + 2 ≤ length bs
shorter_by_two n bs h k = omega (arith, length-drop n bs)

follows_stand_for : (n : ℕ) (text : List ℕ) (s : State) → 2 ≤ n → 2 ≤ length s.rest → (Fits s → length text ≤ 1026) → Follows s (stand_for n text s)
unfolding left
follows_stand_for n text s h k l =
    let a = shorter_by_two n s.rest h k in
    let o = use_origin (head_origin s.rest) in
    record {
      falls = omega arith;
      pays = λ f. record {
        paid = omega (arith, length-append s.out (marked text o), paid_text (length s.out) (length (marked text o)) (length (drop n s.rest)) (length s.rest) s.work f.paid (omega (arith, l f, length-marked text o)) a);
        bounded = f.bounded;
        placed = placed-drop n s.rest f.placed;
      };
    }

not_over : (m n : ℕ) → nat_lt m n ≡ false → n ≤ m
not_over m n h = grind arith

paid_place : (out old rest work size : ℕ) → out + 600 * old ≤ 600 * work → rest ≤ old → out + 600 * (size + rest) ≤ 600 * (work + 1 + size)
paid_place out old rest work size h k = omega arith

follows_replace : (n : ℕ) (text : List ℕ) (o : Origin) (line : ℕ) (ms : List (List ℕ)) (l : ℕ) (s : State) → 0 < n → 0 < length s.rest → passes text s ≡ false → (Fits s → ArePlaced (laid text o line ms l)) → Follows s (replace n text o line ms l s)
unfolding left
follows_replace n text o line ms l s h k p q =
    let a = shorter n s.rest h k in
    let b : s.work + 1 + length text ≤ 4194304 = not_over _ _ p in
    let e : length (laid text o line ms l ++ drop n s.rest) ≡ length text + length (drop n s.rest) = length-append (laid text o line ms l) (drop n s.rest) ∙ ap (λ m. m + length (drop n s.rest)) (length-laid text o line ms l) in
    record {
      falls = omega arith;
      pays = λ f. record {
        paid = omega (arith, paid_place (length s.out) (length s.rest) (length (drop n s.rest)) s.work (length text) f.paid (omega arith));
        bounded = b;
        placed = placed-append (laid text o line ms l) (drop n s.rest) (q f) (placed-drop n s.rest f.placed);
      };
    }

follows_close : (c : Condition) (cs : List Condition) (s : State) → s.conditions ≡ c ∷ cs → Follows s (close_with (c ∷ cs) s)
unfolding left
follows_close c cs s e =
    let l = ap length e in
    record { falls = omega arith; pays = λ f. record { paid = f.paid; bounded = f.bounded; placed = f.placed } }

follows_next_group : (word : List ℕ) (holds last : Bool) (cs : List Condition) (n : ℕ) (s : State) → s.conditions ≡ cs → 0 < n → 0 < length s.rest → Follows s (next_group word holds last cs n s)
follows_next_group word holds last [] n s e h k = follows_refuse _ _ n s h k
follows_next_group word holds last (c ∷ cs) n s e h k =
    both (Follows s) (may_have_group c s) _ _ (follows_taken n s _ h k refl refl (omega (arith, ap length e)) refl) (follows_refuse _ _ n s h k)

follows_end_conditional : (cs : List Condition) (n : ℕ) (s : State) → s.conditions ≡ cs → 0 < n → 0 < length s.rest → Follows s (end_conditional cs n s)
follows_end_conditional [] n s e h k = follows_refuse _ _ n s h k
follows_end_conditional (c ∷ cs) n s e h k =
    both (Follows s) (is_own c s) _ _ (follows_taken n s _ h k refl refl (omega (arith, ap length e)) refl) (follows_refuse _ _ n s h k)

result_placed : (text : List ℕ) (name : List ℕ) (s : State) → Fits s → ArePlaced (laid text (use_origin (head_origin s.rest)) (head_line s.rest) (name ∷ head_macros s.rest) (head_level s.rest))
result_placed text name s f =
    let p = head_placed s.rest f.placed in
    let l = p.line in placed-laid text _ _ _ _ p.file (omega arith)

follows_result : (name : List ℕ) (n : ℕ) (text : List ℕ) (s : State) → 0 < n → 0 < length s.rest → IsFollowed s (read_result name n text s)
follows_result name n text s h k =
    either (IsFollowed s) (passes text s) _ _ (λ _. tt) (λ p. follows_replace n text _ _ _ _ s h k p (result_placed text name s))

follows_text : (name : List ℕ) (n : ℕ) (text : List ℕ) (s : State) → 0 < n → 0 < length s.rest → IsFollowed s (use_text name n text s)
follows_text name n text s h k =
    either (IsFollowed s) (is_inside name s) _ _ (λ _. follows_refuse _ _ n s h k) (λ _.
    either (IsFollowed s) (is_too_deep s) _ _ (λ _. follows_refuse _ _ n s h k) (λ _. follows_result name n text s h k))

follows_with : (name : List ℕ) (m : Definition) (actuals : List (List ℕ)) (n : ℕ) (s : State) → 0 < n → 0 < length s.rest → IsFollowed s (use_with name m actuals n s)
follows_with name m actuals n s h k =
    either (IsFollowed s) (accepts m actuals) _ _ (λ _. follows_text name n (substituted m actuals) s h k) (λ _. follows_refuse _ _ n s h k)

follows_listed : (name : List ℕ) (m : Definition) (list : Option (List Span × ℕ)) (from : ℕ) (s : State) → EndsBehind from list → 0 < from → 0 < length s.rest → IsFollowed s (use_listed name m list s)
follows_listed name m None from s p h k = follows_refuse _ _ (length (ahead s.rest)) s (some_ahead s.rest k) k
follows_listed name m (Some list) from s p h k = follows_with name m (map (part_in (ahead s.rest)) list.0) list.1 s (omega arith) k

-- a list begins behind its `(`
abbrev StartsBehind : Option ℕ → Type 0
StartsBehind None = Unit {0}
StartsBehind (Some from) = 0 < from

starts_if : (b : Bool) (n : ℕ) → StartsBehind (cond b (Some (n + 1)) None)
starts_if true n = omega arith
starts_if false n = tt

follows_opened : (name : List ℕ) (m : Definition) (n : ℕ) (from : Option ℕ) (s : State) → StartsBehind from → 0 < n → 0 < length s.rest → IsFollowed s (use_opened name m n from s)
follows_opened name m n None s p h k = follows_refuse _ _ n s h k
follows_opened name m n (Some from) s p h k = follows_listed name m (actuals_of (ahead s.rest) from) from s (list_ends (ahead s.rest) from) p k

follows_found : (name : List ℕ) (n : ℕ) (m : Option Definition) (s : State) → 0 < n → 0 < length s.rest → IsFollowed s (use_found name n m s)
follows_found name n None s h k = follows_refuse _ _ n s h k
follows_found name n (Some m) s h k =
    either (IsFollowed s) m.has_list _ _
    (λ _. follows_opened name m n (list_start (ahead s.rest) n) s (starts_if (begins_with 40 (drop (past_blanks (ahead s.rest) n) (ahead s.rest))) (past_blanks (ahead s.rest) n)) h k)
    (λ _. follows_with name m [] n s h k)

follows_asked : (name : List ℕ) (s t : State) → Follows (ask name s) t → Follows s t
unfolding left
follows_asked name s t p = record { falls = p.falls; pays = λ f. p.pays (record { paid = f.paid; bounded = f.bounded; placed = f.placed }) }

and_left : (a b : Bool) → (a && b) ≡ true → a ≡ true
and_left true b e = refl
and_left false b e = cc

and_right : (a b : Bool) → (a && b) ≡ true → b ≡ true
and_right true b e = e
and_right false b e = cc

at_most : (n m : ℕ) → nat_le n m ≡ true → n ≤ m
at_most n m h = grind arith

name_short : (name : List ℕ) → is_file_name_of name ≡ true → length name ≤ 1024
name_short name e =
    let a = nat_le 1 (length name) in let b = nat_le (length name) 255 in let c = list_all may_stand_in_file_name name in
    let h : length name ≤ 255 = at_most _ _ (and_right a b (and_left (a && b) c e)) in omega arith

follows_include_found : (name : List ℕ) (n : ℕ) (t : Option (Option (List ℕ))) (s : State) → is_file_name_of name ≡ true → 0 < n → 0 < length s.rest → IsFollowed s (include_found name n t (ask name s))
follows_include_found name n None s e h k = tt
follows_include_found name n (Some None) s e h k = follows_asked name s _ (follows_refuse _ _ n (ask name s) h k)
follows_include_found name n (Some (Some text)) s e h k =
    either (IsFollowed s) (passes text (ask name s)) _ _ (λ _. tt)
    (λ p. let b : s.work + 1 + length text ≤ 4194304 = not_over _ _ p in
    follows_asked name s _ (follows_replace n text _ _ _ _ (ask name s) h k p (λ f. placed-laid text _ 1 _ _ (name_short name e) (omega arith))))

follows_include : (told : Told) (name : List ℕ) (n : ℕ) (s : State) → 0 < n → 0 < length s.rest → IsFollowed s (include told name n s)
follows_include told name n s h k =
    either (IsFollowed s) (is_too_far s) _ _ (λ _. follows_refuse _ _ n s h k) (λ _.
    either (IsFollowed s) (is_file_name_of name) _ _ (λ e. follows_include_found name n (told name) s e h k) (λ _. follows_refuse _ _ n s h k))

quoted_length : (name : List ℕ) → length name ≤ 1024 → length (34 ∷ name ++ 34 ∷ []) ≤ 1026
quoted_length name h = omega (arith, length-append name (34 ∷ []))

file_short : (s : State) → Fits s → length (file_text s) ≤ 1026
file_short s f = quoted_length (head_origin s.rest).file (head_placed s.rest f.placed).file

line_short : (s : State) → Fits s → length (line_text s) ≤ 1026
line_short s f = let p = (head_placed s.rest f.placed).line in let h = length-decimal-le 10 (head_line s.rest) (omega arith) (omega arith) (omega arith) in omega arith

text_short : (text : SourceText) (s : State) → Fits s → length (source_text text s) ≤ 1026
text_short File s f = file_short s f
text_short Line s f = line_short s f

follows_conditional : (d : Conditionals) (n : ℕ) (s : State) → 0 < n → 0 < length s.rest → Follows s (follow_conditional d n s)
follows_conditional (Ifdef name) n s h k = follows_taken n s _ h k refl refl (omega arith) refl
follows_conditional (Ifndef name) n s h k = follows_taken n s _ h k refl refl (omega arith) refl
follows_conditional (Elsif name) n s h k = follows_next_group _ _ _ s.conditions n s refl h k
follows_conditional Else n s h k = follows_next_group _ _ _ s.conditions n s refl h k
follows_conditional Endif n s h k = follows_end_conditional s.conditions n s refl h k

follows_macros : (d : MacroDirective) (n : ℕ) (s : State) → 0 < n → 0 < length s.rest → Follows s (change_macros d n s)
follows_macros (Define name m) n s h k = follows_taken n s _ h k refl refl (omega arith) refl
follows_macros (Undef (Name name)) n s h k = follows_taken n s _ h k refl refl (omega arith) refl
follows_macros (Undef TooLong) n s h k = follows_forward n s h k
follows_macros UndefineAll n s h k = follows_taken n s _ h k refl refl (omega arith) refl

follows_refused : (refusal : Refusal) (n : ℕ) (s : State) → 0 < n → 0 < length s.rest → Follows s (refuse_directive refusal n s)
follows_refused (Keywords name) n s h k = follows_refuse _ _ n s h k
follows_refused (Malformed name) n s h k = follows_refuse _ _ n s h k
follows_refused (LongUse name) n s h k = follows_refuse _ _ n s h k

follows_follow : (d : LocalDirective) (n : ℕ) (s : State) → Pays (Local d) n (length s.rest) → 0 < n → 0 < length s.rest → IsFollowed s (follow d n s)
follows_follow (Conditional x) n s p h k = follows_conditional x n s h k
follows_follow (Macros x) n s p h k = follows_macros x n s h k
follows_follow (NetType t) n s p h k = follows_taken n s _ h k refl refl (omega arith) refl
follows_follow (Text text) n s p h k = follows_stand_for n (source_text text s) s p.0 p.1 (text_short text s)
follows_follow Ignored n s p h k = follows_forward n s h k
follows_follow (Use name) n s p h k = follows_found name n (macro_of s.table name) s h k
follows_follow (Refused x) n s p h k = follows_refused x n s h k

follows_head : (told : Told) (d : Directive) (n : ℕ) (s : State) → Pays d n (length s.rest) → 0 < n → 0 < length s.rest → IsFollowed s (step_head told d n s)
follows_head told (Include name) n s p h k = follows_include told name n s h k
follows_head told (Local d) n s p h k = follows_follow d n s p h k

follows_backtick : (told : Told) (s : State) → 0 < length s.rest → IsFollowed s (step_backtick told (ahead s.rest) s)
follows_backtick told s k =
    let t = directive_takes (ahead s.rest) in
    either (IsFollowed s) (is_reading s.conditions || is_conditional_at (ahead s.rest)) _ _
    (λ _. follows_head told (directive_at (ahead s.rest)).0 (directive_at (ahead s.rest)).1 s (pays_more (directive_at (ahead s.rest)).0 _ _ _ t.pays (length-ahead s.rest)) t.some k)
    (λ _. follows_forward 1 s (omega arith) k)

not_zero : (n : ℕ) → nat_eq n 0 ≡ false → 0 < n
not_zero n h = grind arith

follows_rest : (told : Told) (bs : List Byte) (s : State) → s.rest ≡ bs → IsFollowed s (step_rest told bs s)
follows_rest told [] s e = tt
follows_rest told (b ∷ bs) s e =
    let k : 0 < length s.rest = omega (arith, ap length e) in
    either (IsFollowed s) (nat_eq (plain_length (ahead s.rest)) 0) _ _ (λ _. follows_backtick told s k) (λ p. follows_copy (plain_length (ahead s.rest)) s (not_zero _ p) k)

follows_left : (cs : List Condition) (bs : List Byte) (s : State) → s.conditions ≡ cs → is_left cs bs ≡ true → Follows s (close_with cs s)
follows_left [] bs s e p = cc
follows_left (c ∷ cs) bs s e p = follows_close c cs s e

pub step_follows : (told : Told) (s : State) → IsFollowed s (step told s)
step_follows told s =
    either (IsFollowed s) (is_left s.conditions s.rest) _ _ (λ p. follows_left s.conditions s.rest s refl p) (λ _. follows_rest told s.rest s refl)

same_after : (s : State) (x : Next) (f g : State → Outcome) → IsFollowed s x → ((t : State) → Follows s t → f t ≡ g t) → carry_on x f ≡ carry_on x g
same_after s (Goes t) f g p h = h t p
same_after s (Ends t) f g p h = refl
same_after s (Needs name t) f g p h = refl

run-enough : (n m : ℕ) (told : Told) (s : State) → left s < n → left s < m → run n told s ≡ run m told s
unfolding run
run-enough zero m told s a b = absurd (omega arith)
run-enough (suc n) zero told s a b = absurd (omega arith)
run-enough (suc n) (suc m) told s a b =
    same_after s (step told s) (run n told) (run m told) (step_follows told s) (λ t p. let q = p.falls in run-enough n m told t (omega arith) (omega arith))

-- one step, and then the rest
pub go-step : (told : Told) (s : State) → go told s ≡ carry_on (step told s) (go told)
unfolding run go
go-step told s =
    same_after s (step told s) (run (left s) told) (go told) (step_follows told s) (λ t p. let q = p.falls in run-enough (left s) (suc (left t)) told t q (omega arith))
