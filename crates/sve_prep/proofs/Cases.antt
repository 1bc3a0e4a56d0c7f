-- What a step comes to, case by case.
use Rattle.std.proofs.Common.{◌≡◌, ℕ, ◌+◌, ◌<◌, ◌≤◌, Bool, true, false, List, [], ◌∷◌, length, map, Option, Some, None, refl, ap, sym, ◌∙◌, nat_le, nat_eq, arith, not, ◌||◌, reverse, codes, IsTrue}
use Rattle.sve_bytes.specs.FileName.{is_file_name_of}
use Rattle.sve_bytes.specs.declared.span.Span.{Span}
use Rattle.sve_diag.specs.declared.code.Code.TheVariants.{P04, P05, P06, P07, P08, P09, P10}
use Rattle.sve_unread.specs.Bytes.{Byte, ahead}
use Rattle.sve_unread.specs.Head.{head_origin, head_line, head_macros, head_level}
use Rattle.sve_macro.specs.declared.definition.Definition.{Definition}
use Rattle.sve_macro.specs.Parts.{actuals_of}
use Rattle.sve_macro.specs.Substitution.{accepts, substituted}
use Rattle.sve_directive.specs.declared.directive.Directive.{Directive}
use Rattle.sve_directive.specs.Pieces.{plain_length}
use Rattle.sve_directive.specs.Directives.{Head, directive_at, is_conditional_at, cut}
use Rattle.sve_prep.specs.Told.{Told}
use Rattle.sve_prep.specs.State.{State, refuse, replace, copy, forward, is_reading, use_origin, is_left, close}
use Rattle.sve_prep.specs.Uses.{Goes, Ends, passes, give_up, is_inside, is_too_deep, read_result, part_in, use_with, use_listed, list_start, use_opened, use_found}
use Rattle.sve_prep.specs.declared.condition.Condition.{Condition}
use Rattle.sve_prep.specs.Conditionals.{is_own, may_have_group, in_next_group, next_group, end_conditional}
use Rattle.sve_prep.specs.Includes.{include_text, include_found, ask, is_too_far, include}
use Rattle.sve_prep.specs.Step.{step_head, step_backtick, step_text, step_rest, step}
use Rattle.sve_prep.specs.View.{Fits}
use Rattle.sve_unread.proofs.Laid.{length-ahead}

-- the result of a use
pub reads : (name : List ℕ) (n : ℕ) (text : List ℕ) (s : State) {d : Bool} → d ≡ passes text s → d ≡ false → read_result name n text s ≡ Goes (replace n text (use_origin (head_origin s.rest)) (head_line s.rest) (name ∷ head_macros s.rest) (head_level s.rest) s)
reads name n text s p q = let e : passes text s ≡ false = sym p ∙ q in rw e

-- what is given may be read
pub may_read : (text : List ℕ) (s : State) → s.work + 1 + length text ≤ 4194304 → false ≡ passes text s
may_read text s h = grind arith

pub same_place : (n : ℕ) (t : List ℕ) (c : Bool) (s : State) {f f' : List ℕ} {k k' line line' : ℕ} {ms ms' : List (List ℕ)} {l l' : ℕ} → f ≡ f' → k ≡ k' → line ≡ line' → ms ≡ ms' → l ≡ l' → replace n t (record { file = f; offset = k; copied = c }) line ms l s ≡ replace n t (record { file = f'; offset = k'; copied = c }) line' ms' l' s
same_place n t c s {f = f} {f' = f'} {k = k} {k' = k'} {line = line} {line' = line'} {ms = ms} {ms' = ms'} {l = l} a b d e g =
    ap (λ (x : List ℕ). replace n t (record { file = x; offset = k; copied = c }) line ms l s) a
    ∙ ap (λ (x : ℕ). replace n t (record { file = f'; offset = x; copied = c }) line ms l s) b
    ∙ ap (λ (x : ℕ). replace n t (record { file = f'; offset = k'; copied = c }) x ms l s) d
    ∙ ap (λ (x : List (List ℕ)). replace n t (record { file = f'; offset = k'; copied = c }) line' x l s) e
    ∙ ap (λ (x : ℕ). replace n t (record { file = f'; offset = k'; copied = c }) line' ms' x s) g

-- a use with its actuals
pub with_count : (name : List ℕ) (m : Definition) (actuals : List (List ℕ)) (n : ℕ) (s : State) {b : Bool} → b ≡ accepts m actuals → b ≡ false → use_with name m actuals n s ≡ Goes (refuse P04 (Some name) n s)
with_count name m actuals n s p q = let e : accepts m actuals ≡ false = sym p ∙ q in rw e

pub with_itself : (name : List ℕ) (m : Definition) (actuals : List (List ℕ)) (n : ℕ) (s : State) {b d : Bool} → b ≡ accepts m actuals → b ≡ true → d ≡ is_inside name s → d ≡ true → use_with name m actuals n s ≡ Goes (refuse P06 (Some name) n s)
with_itself name m actuals n s p q p2 q2 =
    let e : accepts m actuals ≡ true = sym p ∙ q in
    let f : is_inside name s ≡ true = sym p2 ∙ q2 in rw (e, f)

pub with_depth : (name : List ℕ) (m : Definition) (actuals : List (List ℕ)) (n : ℕ) (s : State) {b d g : Bool} → b ≡ accepts m actuals → b ≡ true → d ≡ is_inside name s → d ≡ false → g ≡ is_too_deep s → g ≡ true → use_with name m actuals n s ≡ Goes (refuse P07 (Some name) n s)
with_depth name m actuals n s p q p2 q2 p3 q3 =
    let e : accepts m actuals ≡ true = sym p ∙ q in
    let f : is_inside name s ≡ false = sym p2 ∙ q2 in
    let h : is_too_deep s ≡ true = sym p3 ∙ q3 in rw (e, f, h)

pub with_text : (name : List ℕ) (m : Definition) (actuals : List (List ℕ)) (n : ℕ) (s : State) (text : List ℕ) {b d g : Bool} → b ≡ accepts m actuals → b ≡ true → d ≡ is_inside name s → d ≡ false → g ≡ is_too_deep s → g ≡ false → text ≡ substituted m actuals → use_with name m actuals n s ≡ read_result name n text s
with_text name m actuals n s text p q p2 q2 p3 q3 t =
    let e : accepts m actuals ≡ true = sym p ∙ q in
    let f : is_inside name s ≡ false = sym p2 ∙ q2 in
    let h : is_too_deep s ≡ false = sym p3 ∙ q3 in
    (rw (e, f, h) refl) ∙ ap (λ (x : List ℕ). read_result name n x s) (sym t)

pub not_too_deep : (s : State) {g : Bool} → g ≡ is_too_deep s → g ≡ false → length (head_macros s.rest) < 64
not_too_deep s p q = let e : nat_le 64 (length (head_macros s.rest)) ≡ false = sym p ∙ q in grind arith

-- a use with a list
pub opened_open : (name : List ℕ) (m : Definition) (n from : ℕ) (text : List ℕ) (s : State) → text ≡ ahead s.rest → actuals_of text from ≡ None → use_opened name m n (Some from) s ≡ Goes (refuse P05 (Some name) (length text) s)
opened_open name m n from text s h e =
    ap (λ (l : Option (List Span × ℕ)). use_listed name m l s) (ap (λ (t : List ℕ). actuals_of t from) (sym h) ∙ e)
    ∙ ap (λ (t : List ℕ). Goes (refuse P05 (Some name) (length t) s)) (sym h)

pub opened_list : (name : List ℕ) (m : Definition) (n from : ℕ) (text : List ℕ) (s : State) (list : List Span × ℕ) (given : List (List ℕ)) → text ≡ ahead s.rest → actuals_of text from ≡ Some list → given ≡ map (part_in text) list.0 → use_opened name m n (Some from) s ≡ use_with name m given list.1 s
opened_list name m n from text s list given h e g =
    ap (λ (l : Option (List Span × ℕ)). use_listed name m l s) (ap (λ (t : List ℕ). actuals_of t from) (sym h) ∙ e)
    ∙ ap (λ (t : List ℕ). use_with name m (map (part_in t) list.0) list.1 s) (sym h)
    ∙ ap (λ (x : List (List ℕ)). use_with name m x list.1 s) (sym g)

-- a use of a macro that is defined
pub found_plain : (name : List ℕ) (n : ℕ) (m : Definition) (s : State) → m.has_list ≡ false → use_found name n (Some m) s ≡ use_with name m [] n s
found_plain name n m s e = rw e

pub found_list : (name : List ℕ) (n : ℕ) (m : Definition) (text : List ℕ) (s : State) (from : Option ℕ) → m.has_list ≡ true → text ≡ ahead s.rest → from ≡ list_start text n → use_found name n (Some m) s ≡ use_opened name m n from s
found_list name n m text s from e h f =
    (rw e refl) ∙ ap (λ (o : Option ℕ). use_opened name m n o s) (ap (λ (t : List ℕ). list_start t n) (sym h) ∙ sym f)

-- an include
pub includes_too_much : (name : List ℕ) (n : ℕ) (text : List ℕ) (s : State) {d : Bool} → d ≡ passes text s → d ≡ true → include_text name n text s ≡ Ends (give_up s)
includes_too_much name n text s p q = let e : passes text s ≡ true = sym p ∙ q in rw e

pub includes : (name : List ℕ) (n : ℕ) (text : List ℕ) (s : State) {d : Bool} → d ≡ passes text s → d ≡ false → include_text name n text s ≡ Goes (replace n text (record { file = name; offset = 0; copied = true }) 1 (head_macros s.rest) (head_level s.rest + 1) s)
includes name n text s p q = let e : passes text s ≡ false = sym p ∙ q in rw e

pub include_far : (told : Told) (name : List ℕ) (n : ℕ) (s : State) {b : Bool} {arg : Option (List ℕ)} → b ≡ is_too_far s → b ≡ true → arg ≡ cut name → include told name n s ≡ Goes (refuse P09 arg n s)
include_far told name n s p q r = let e : is_too_far s ≡ true = sym p ∙ q in (rw e refl) ∙ ap (λ (a : Option (List ℕ)). Goes (refuse P09 a n s)) (sym r)

pub include_unnamed : (told : Told) (name : List ℕ) (n : ℕ) (s : State) {b d : Bool} {arg : Option (List ℕ)} → b ≡ is_too_far s → b ≡ false → d ≡ is_file_name_of name → d ≡ false → arg ≡ cut name → include told name n s ≡ Goes (refuse P08 arg n s)
include_unnamed told name n s p q p2 q2 r =
    let e : is_too_far s ≡ false = sym p ∙ q in
    let f : is_file_name_of name ≡ false = sym p2 ∙ q2 in
    (rw (e, f) refl) ∙ ap (λ (a : Option (List ℕ)). Goes (refuse P08 a n s)) (sym r)

pub include_asks : (told : Told) (name : List ℕ) (n : ℕ) (s : State) {b d : Bool} {t : Option (Option (List ℕ))} → b ≡ is_too_far s → b ≡ false → d ≡ is_file_name_of name → d ≡ true → told name ≡ t → include told name n s ≡ include_found name n t (ask name s)
include_asks told name n s p q p2 q2 h =
    let e : is_too_far s ≡ false = sym p ∙ q in
    let f : is_file_name_of name ≡ true = sym p2 ∙ q2 in
    (rw (e, f) refl) ∙ ap (λ (t : Option (Option (List ℕ))). include_found name n t (ask name s)) h

-- what begins with a backtick
not_false : (b x : Bool) → b ≡ not x → b ≡ true → x ≡ false
not_false b true e f = cc
not_false b false e f = refl

not_true : (b x : Bool) → b ≡ not x → b ≡ false → x ≡ true
not_true b true e f = refl
not_true b false e f = cc

abbrev pub followed : List ℕ → State → Bool
followed text s = is_reading s.conditions || is_conditional_at text

pub backtick_skips : (told : Told) (text : List ℕ) (s : State) {b : Bool} → b ≡ not (followed text s) → b ≡ true → step_backtick told text s ≡ Goes (forward 1 s)
backtick_skips told text s {b = b} p q = let e : followed text s ≡ false = not_false b (followed text s) p q in rw e

pub backtick_follows : (told : Told) (text : List ℕ) (s : State) (d : Directive) (n : ℕ) {b : Bool} → b ≡ not (followed text s) → b ≡ false → (d, n) ≡ directive_at text → step_backtick told text s ≡ step_head told d n s
backtick_follows told text s d n {b = b} p q h =
    let e : followed text s ≡ true = not_true b (followed text s) p q in
    (rw e refl) ∙ ap (λ (x : Head). step_head told x.0 x.1 s) (sym h)

not_none : (p : ℕ) → 0 < p → nat_eq p 0 ≡ false
not_none p h = grind arith

none : (p : ℕ) → p ≤ 0 → nat_eq p 0 ≡ true
none p h = grind arith

pub text_plain : (told : Told) (text text' : List ℕ) (s : State) (p : ℕ) → p ≡ plain_length text → text ≡ text' → 0 < p → step_text told text' s ≡ Goes (copy p s)
text_plain told text text' s p e f h =
    let q : p ≡ plain_length text' = e ∙ ap plain_length f in
    let z : nat_eq (plain_length text') 0 ≡ false = ap (λ k. nat_eq k 0) (sym q) ∙ not_none p h in
    (rw z refl) ∙ ap (λ k. Goes (copy k s)) (sym q)

pub text_backtick : (told : Told) (text text' : List ℕ) (s : State) (p : ℕ) → p ≡ plain_length text → text ≡ text' → p ≤ 0 → step_text told text' s ≡ step_backtick told text' s
text_backtick told text text' s p e f h =
    let q : p ≡ plain_length text' = e ∙ ap plain_length f in
    let z : nat_eq (plain_length text') 0 ≡ true = ap (λ k. nat_eq k 0) (sym q) ∙ none p h in rw z

-- conditionals
pub no_conditions : (cs : List Condition) (n : ℕ) → n ≡ length cs → n ≡ 0 → reverse cs ≡ []
no_conditions [] n e h = refl
no_conditions (c ∷ cs) n e h = absurd (omega arith)

pub next_group_taken : (word : List ℕ) (holds last : Bool) (c : Condition) (n : ℕ) (s : State) {b : Bool} → b ≡ may_have_group c s → b ≡ true → next_group word holds last (c ∷ s.conditions) n (record s { conditions = c ∷ s.conditions }) ≡ forward n (record s { conditions = in_next_group holds last c ∷ s.conditions })
next_group_taken word holds last c n s p q = let e : may_have_group c s ≡ true = sym p ∙ q in rw e

pub next_group_refused : (word : List ℕ) (holds last : Bool) (c : Condition) (n : ℕ) (s : State) {b : Bool} → b ≡ may_have_group c s → b ≡ false → next_group word holds last (c ∷ s.conditions) n (record s { conditions = c ∷ s.conditions }) ≡ refuse P10 (Some word) n (record s { conditions = c ∷ s.conditions })
next_group_refused word holds last c n s p q = let e : may_have_group c s ≡ false = sym p ∙ q in rw e

pub next_group_alone : (word : List ℕ) (holds last : Bool) (n : ℕ) (s : State) (old new : List Condition) → old ≡ [] → new ≡ [] → refuse P10 (Some word) n (record s { conditions = new }) ≡ next_group word holds last old n (record s { conditions = old })
next_group_alone word holds last n s old new e f =
    ap (λ (k : List Condition). refuse P10 (Some word) n (record s { conditions = k })) (f ∙ sym e)
    ∙ sym (ap (λ (k : List Condition). next_group word holds last k n (record s { conditions = old })) e)

pub ends_own : (c : Condition) (n : ℕ) (s : State) {b : Bool} → b ≡ is_own c s → b ≡ true → end_conditional (c ∷ s.conditions) n (record s { conditions = c ∷ s.conditions }) ≡ forward n s
ends_own c n s p q = let e : is_own c s ≡ true = sym p ∙ q in rw e

pub end_refused : (c : Condition) (n : ℕ) (s : State) {b : Bool} → b ≡ is_own c s → b ≡ false → end_conditional (c ∷ s.conditions) n (record s { conditions = c ∷ s.conditions }) ≡ refuse P10 (Some (codes "endif")) n (record s { conditions = c ∷ s.conditions })
end_refused c n s p q = let e : is_own c s ≡ false = sym p ∙ q in rw e

pub end_alone : (n : ℕ) (s : State) (old new : List Condition) → old ≡ [] → new ≡ [] → refuse P10 (Some (codes "endif")) n (record s { conditions = new }) ≡ end_conditional old n (record s { conditions = old })
end_alone n s old new e f =
    ap (λ (k : List Condition). refuse P10 (Some (codes "endif")) n (record s { conditions = k })) (f ∙ sym e)
    ∙ sym (ap (λ (k : List Condition). end_conditional k n (record s { conditions = old })) e)

-- the steps themselves
not_both : (r : Bool) → r ≡ true → r ≡ false → ⊥
not_both r t f = cc

pub step_left : (told : Told) (s : State) {b : Bool} → b ≡ is_left s.conditions s.rest → b ≡ true → step told s ≡ Goes (close s)
step_left told s p q = let e : is_left s.conditions s.rest ≡ true = sym p ∙ q in rw e

pub step_done : (told : Told) (s : State) {b : Bool} → b ≡ is_left s.conditions s.rest → b ≡ false → s.rest ≡ [] → step told s ≡ Ends s
step_done told s p q h =
    let e : is_left s.conditions s.rest ≡ false = sym p ∙ q in
    (rw e refl) ∙ ap (λ (bs : List Byte). step_rest told bs s) h

rest_some : (told : Told) (bs : List Byte) (s : State) → 0 < length bs → step_rest told bs s ≡ step_text told (ahead s.rest) s
rest_some told [] s h = absurd (omega arith)
rest_some told (b ∷ bs) s h = refl

pub step_more : (told : Told) (s : State) {b : Bool} → b ≡ is_left s.conditions s.rest → b ≡ false → 0 < length s.rest → step told s ≡ step_text told (ahead s.rest) s
step_more told s p q h =
    let e : is_left s.conditions s.rest ≡ false = sym p ∙ q in
    (rw e refl) ∙ rest_some told s.rest s h

pub some_rest : (bs : List Byte) (r : Bool) → (bs ≡ [] → IsTrue r) → r ≡ false → 0 < length bs
some_rest [] r f e = absurd (not_both r (f refl) e)
some_rest (b ∷ bs) r f e = omega arith

-- the piece that is copied has room
pub room : (s : State) (p : ℕ) (text : List ℕ) → Fits s → text ≡ ahead s.rest → p ≤ length text → length s.out + p < 4294967296
room s p text f e h = let a = f.paid in let b = f.bounded in omega (arith, length-ahead s.rest, ap length e)
