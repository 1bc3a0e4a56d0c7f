-- An expansion over some texts, beside one over more of them that notes the names it asks for.
use Rattle.std.proofs.Common.{◌≡◌, ◌≢◌, ℕ, zero, suc, Bool, true, false, cond, List, Option, Some, None, refl, ap, sym, ◌∙◌, subst, ◌⊎◌, inl, inr, nat_eq, ◌||◌, [], ◌∷◌, ◌++◌, Contains, codes, map}
use Rattle.std.proofs.lemmas.List.Elements.{Contains-append_left, Contains-push}
use Rattle.sve_bytes.specs.FileName.{is_file_name_of}
use Rattle.sve_bytes.specs.declared.span.Span.{Span}
use Rattle.sve_unread.specs.Bytes.{Byte, ahead}
use Rattle.sve_macro.specs.declared.definition.Definition.{Definition}
use Rattle.sve_macro.specs.Macros.{macro_of}
use Rattle.sve_macro.specs.Parts.{actuals_of}
use Rattle.sve_macro.specs.Substitution.{accepts, substituted}
use Rattle.sve_directive.specs.declared.directive.Conditional.{Conditional}
use Rattle.sve_directive.specs.declared.directive.Conditional.TheVariants.{Ifdef, Ifndef, Elsif, Else, Endif}
use Rattle.sve_directive.specs.declared.directive.LocalDirective.{LocalDirective}
use Rattle.sve_directive.specs.declared.directive.LocalDirective.TheVariants as is_local
use Rattle.sve_directive.specs.declared.directive.MacroDirective.{MacroDirective}
use Rattle.sve_directive.specs.declared.directive.MacroDirective.TheVariants.{Define, Undef, UndefineAll}
use Rattle.sve_directive.specs.declared.directive.MacroName.{MacroName}
use Rattle.sve_directive.specs.declared.directive.MacroName.TheVariants.{Name, TooLong}
use Rattle.sve_directive.specs.declared.directive.SourceText.{SourceText}
use Rattle.sve_directive.specs.declared.directive.SourceText.TheVariants.{File, Line}
use Rattle.sve_directive.specs.declared.directive.Refusal.{Refusal}
use Rattle.sve_directive.specs.declared.directive.Refusal.TheVariants.{Keywords, Malformed, LongUse}
use Rattle.sve_directive.specs.declared.directive.Directive.{Directive}
use Rattle.sve_directive.specs.declared.directive.Directive.TheVariants.{Include, Local}
use Rattle.sve_directive.specs.Pieces.{plain_length}
use Rattle.sve_directive.specs.Directives.{directive_at, is_conditional_at}
use Rattle.sve_prep.specs.Told.{Told}
use Rattle.sve_prep.specs.State.{State, stand_for, is_reading, is_left, close_with}
use Rattle.sve_prep.specs.declared.condition.Condition.{Condition}
use Rattle.sve_prep.specs.Conditionals.{is_defined, is_own, may_have_group, next_group, end_conditional, follow_conditional}
use Rattle.sve_prep.specs.Uses.{source_text, Next, Goes, Ends, Needs, passes, is_inside, is_too_deep, read_result, use_text, part_in, use_with, use_listed, list_start, use_opened, use_found}
use Rattle.sve_prep.specs.Includes.{include_found, ask, is_too_far, include}
use Rattle.sve_prep.specs.Step.{undefine, change_macros, refuse_directive, follow, step_head, step_rest, step}
use Rattle.sve_prep.specs.Expansion.{Outcome, Done, Wants, carry_on, run, left, go, Start, begin_with, expand_found, expand}
use Rattle.sve_prep.specs.Larger.{IsLarger}
use Rattle.sve_prep.specs.Asked.{IsAsked, NeedsAreAsked, NeedsAreUntold, DoneOverAll}

-- a state with these names noted
abbrev noting : List (List ℕ) → State → State
noting names s = record s { asked = Some names }

abbrev Keeps : List (List ℕ) → List (List ℕ) → Type 0
Keeps old new = (name : List ℕ) → Contains old name → Contains new name

-- a step that is taken has noted one name more
abbrev Notes : List (List ℕ) → List ℕ → Next → Type 0
Notes names name (Goes s) = (new : List (List ℕ)) × (s ≡ noting new s) × Keeps names new × Contains new name
Notes names name (Ends s) = (new : List (List ℕ)) × (s ≡ noting new s) × Keeps names new × Contains new name
Notes names name (Needs other s) = Unit {0}

-- a step beside the same step over more texts, which notes names: they part only where the first needs a name
abbrev IsBeside : Told → List (List ℕ) → Next → Next → Type 0
IsBeside told names (Goes s) y = (new : List (List ℕ)) × (y ≡ Goes (noting new s)) × Keeps names new
IsBeside told names (Ends s) y = (new : List (List ℕ)) × (y ≡ Ends (noting new s)) × Keeps names new
IsBeside told names (Needs name s) y = (told name ≡ None) × Notes names name y

beside_if : (told : Told) (names : List (List ℕ)) (b : Bool) (x y x' y' : Next) → IsBeside told names x x' → IsBeside told names y y' → IsBeside told names (cond b x y) (cond b x' y')
beside_if told names true x y x' y' p q = p
beside_if told names false x y x' y' p q = q

-- conditional directives
noting_if : (names : List (List ℕ)) (b : Bool) (s t s' t' : State) → s' ≡ noting names s → t' ≡ noting names t → cond b s' t' ≡ noting names (cond b s t)
noting_if names true s t s' t' p q = p
noting_if names false s t s' t' p q = q

group_noting : (names : List (List ℕ)) (word : List ℕ) (holds last : Bool) (cs : List Condition) (n : ℕ) (s : State) → next_group word holds last cs n (noting names s) ≡ noting names (next_group word holds last cs n s)
group_noting names word holds last [] n s = refl
group_noting names word holds last (c ∷ cs) n s = noting_if names (may_have_group c s) _ _ _ _ refl refl

end_noting : (names : List (List ℕ)) (cs : List Condition) (n : ℕ) (s : State) → end_conditional cs n (noting names s) ≡ noting names (end_conditional cs n s)
end_noting names [] n s = refl
end_noting names (c ∷ cs) n s = noting_if names (is_own c s) _ _ _ _ refl refl

conditional_noting : (names : List (List ℕ)) (d : Conditional) (n : ℕ) (s : State) → follow_conditional d n (noting names s) ≡ noting names (follow_conditional d n s)
conditional_noting names (Ifdef (Name name)) n s = refl
conditional_noting names (Ifdef TooLong) n s = refl
conditional_noting names (Ifndef (Name name)) n s = refl
conditional_noting names (Ifndef TooLong) n s = refl
conditional_noting names (Elsif (Name name)) n s = group_noting names (codes "elsif") (is_defined (Name name) s) false s.conditions n s
conditional_noting names (Elsif TooLong) n s = group_noting names (codes "elsif") false false s.conditions n s
conditional_noting names Else n s = group_noting names (codes "else") true true s.conditions n s
conditional_noting names Endif n s = end_noting names s.conditions n s

close_noting : (names : List (List ℕ)) (cs : List Condition) (s : State) → close_with cs (noting names s) ≡ noting names (close_with cs s)
close_noting names [] s = refl
close_noting names (c ∷ cs) s = refl

-- other directives that need no file
macros_noting : (names : List (List ℕ)) (d : MacroDirective) (n : ℕ) (s : State) → change_macros d n (noting names s) ≡ noting names (change_macros d n s)
macros_noting names (Define name m) n s = refl
macros_noting names (Undef (Name name)) n s = refl
macros_noting names (Undef TooLong) n s = refl
macros_noting names UndefineAll n s = refl

text_noting : (names : List (List ℕ)) (text : SourceText) (n : ℕ) (s : State) → stand_for n (source_text text (noting names s)) (noting names s) ≡ noting names (stand_for n (source_text text s) s)
text_noting names File n s = refl
text_noting names Line n s = refl

refusal_noting : (names : List (List ℕ)) (refusal : Refusal) (n : ℕ) (s : State) → refuse_directive refusal n (noting names s) ≡ noting names (refuse_directive refusal n s)
refusal_noting names (Keywords name) n s = refl
refusal_noting names (Malformed name) n s = refl
refusal_noting names (LongUse name) n s = refl

-- uses
result_beside : (told : Told) (names : List (List ℕ)) (name : List ℕ) (n : ℕ) (text : List ℕ) (s : State) → IsBeside told names (read_result name n text s) (read_result name n text (noting names s))
result_beside told names name n text s = beside_if told names (passes text s) _ _ _ _ (names, refl, λ other c. c) (names, refl, λ other c. c)

use_text_beside : (told : Told) (names : List (List ℕ)) (name : List ℕ) (n : ℕ) (text : List ℕ) (s : State) → IsBeside told names (use_text name n text s) (use_text name n text (noting names s))
use_text_beside told names name n text s =
    beside_if told names (is_inside name s) _ _ _ _ (names, refl, λ other c. c)
    (beside_if told names (is_too_deep s) _ _ _ _ (names, refl, λ other c. c) (result_beside told names name n text s))

use_with_beside : (told : Told) (names : List (List ℕ)) (name : List ℕ) (m : Definition) (actuals : List (List ℕ)) (n : ℕ) (s : State) → IsBeside told names (use_with name m actuals n s) (use_with name m actuals n (noting names s))
use_with_beside told names name m actuals n s =
    beside_if told names (accepts m actuals) _ _ _ _ (use_text_beside told names name n (substituted m actuals) s) (names, refl, λ other c. c)

listed_beside : (told : Told) (names : List (List ℕ)) (name : List ℕ) (m : Definition) (list : Option (List Span × ℕ)) (s : State) → IsBeside told names (use_listed name m list s) (use_listed name m list (noting names s))
listed_beside told names name m None s = (names, refl, λ other c. c)
listed_beside told names name m (Some list) s = use_with_beside told names name m (map (part_in (ahead s.rest)) list.0) list.1 s

opened_beside : (told : Told) (names : List (List ℕ)) (name : List ℕ) (m : Definition) (n : ℕ) (from : Option ℕ) (s : State) → IsBeside told names (use_opened name m n from s) (use_opened name m n from (noting names s))
opened_beside told names name m n None s = (names, refl, λ other c. c)
opened_beside told names name m n (Some from) s = listed_beside told names name m (actuals_of (ahead s.rest) from) s

use_beside : (told : Told) (names : List (List ℕ)) (name : List ℕ) (n : ℕ) (m : Option Definition) (s : State) → IsBeside told names (use_found name n m s) (use_found name n m (noting names s))
use_beside told names name n None s = (names, refl, λ other c. c)
use_beside told names name n (Some m) s =
    beside_if told names m.has_list _ _ _ _
    (opened_beside told names name m n (list_start (ahead s.rest) n) s) (use_with_beside told names name m [] n s)

local_beside : (told : Told) (names : List (List ℕ)) (d : LocalDirective) (n : ℕ) (s : State) → IsBeside told names (follow d n s) (follow d n (noting names s))
local_beside told names (is_local.Conditional d) n s = (names, ap Goes (conditional_noting names d n s), λ other c. c)
local_beside told names (is_local.Macros d) n s = (names, ap Goes (macros_noting names d n s), λ other c. c)
local_beside told names (is_local.NetType t) n s = (names, refl, λ other c. c)
local_beside told names (is_local.Text text) n s = (names, ap Goes (text_noting names text n s), λ other c. c)
local_beside told names is_local.Ignored n s = (names, refl, λ other c. c)
local_beside told names (is_local.Use name) n s = use_beside told names name n (macro_of s.table name) s
local_beside told names (is_local.Refused refusal) n s = (names, ap Goes (refusal_noting names refusal n s), λ other c. c)

-- includes
one_more : (names : List (List ℕ)) (name : List ℕ) → Keeps names (names ++ name ∷ [])
one_more names name other c = Contains-append_left names (name ∷ []) other c

notes_if : (names : List (List ℕ)) (name : List ℕ) (b : Bool) (x y : Next) → Notes names name x → Notes names name y → Notes names name (cond b x y)
notes_if names name true x y p q = p
notes_if names name false x y p q = q

include_notes : (names : List (List ℕ)) (name : List ℕ) (n : ℕ) (t : Option (Option (List ℕ))) (s : State) → Notes names name (include_found name n t (ask name (noting names s)))
include_notes names name n None s = tt
include_notes names name n (Some None) s = (names ++ name ∷ [], refl, one_more names name, Contains-push names name)
include_notes names name n (Some (Some text)) s =
    notes_if names name (passes text s) _ _
    (names ++ name ∷ [], refl, one_more names name, Contains-push names name) (names ++ name ∷ [], refl, one_more names name, Contains-push names name)

told_beside : (told : Told) (names : List (List ℕ)) (name : List ℕ) (n : ℕ) (text : Option (List ℕ)) (s : State) → IsBeside told names (include_found name n (Some text) (ask name s)) (include_found name n (Some text) (ask name (noting names s)))
told_beside told names name n None s = (names ++ name ∷ [], refl, one_more names name)
told_beside told names name n (Some text) s =
    beside_if told names (passes text s) _ _ _ _ (names ++ name ∷ [], refl, one_more names name) (names ++ name ∷ [], refl, one_more names name)

found_beside : (told : Told) (names : List (List ℕ)) (name : List ℕ) (n : ℕ) (t t' : Option (Option (List ℕ))) (s : State) → told name ≡ t → ((text : Option (List ℕ)) → t ≡ Some text → t' ≡ Some text) → IsBeside told names (include_found name n t (ask name s)) (include_found name n t' (ask name (noting names s)))
found_beside told names name n None t' s e h = (e, include_notes names name n t' s)
found_beside told names name n (Some text) t' s e h =
    subst (λ (u : Option (Option (List ℕ))). IsBeside told names (include_found name n (Some text) (ask name s)) (include_found name n u (ask name (noting names s)))) (sym (h text refl)) (told_beside told names name n text s)

include_beside : (told more : Told) (names : List (List ℕ)) (name : List ℕ) (n : ℕ) (s : State) → IsLarger told more → IsBeside told names (include told name n s) (include more name n (noting names s))
include_beside told more names name n s h =
    beside_if told names (is_too_far s) _ _ _ _ (names, refl, λ other c. c)
    (beside_if told names (is_file_name_of name) _ _ _ _ (found_beside told names name n (told name) (more name) s refl (h name)) (names, refl, λ other c. c))

-- a whole step
head_beside : (told more : Told) (names : List (List ℕ)) (d : Directive) (n : ℕ) (s : State) → IsLarger told more → IsBeside told names (step_head told d n s) (step_head more d n (noting names s))
head_beside told more names (Include name) n s h = include_beside told more names name n s h
head_beside told more names (Local d) n s h = local_beside told names d n s

rest_beside : (told more : Told) (names : List (List ℕ)) (bs : List Byte) (s : State) → IsLarger told more → IsBeside told names (step_rest told bs s) (step_rest more bs (noting names s))
rest_beside told more names [] s h = (names, refl, λ other c. c)
rest_beside told more names (b ∷ bs) s h =
    let text = ahead s.rest in
    beside_if told names (nat_eq (plain_length text) 0) _ _ _ _
    (beside_if told names (is_reading s.conditions || is_conditional_at text) _ _ _ _
    (head_beside told more names (directive_at text).0 (directive_at text).1 s h) (names, refl, λ other c. c))
    (names, refl, λ other c. c)

step_beside : (told more : Told) (names : List (List ℕ)) (s : State) → IsLarger told more → IsBeside told names (step told s) (step more (noting names s))
step_beside told more names s h =
    beside_if told names (is_left s.conditions s.rest) _ _ _ _ (names, ap Goes (close_noting names s.conditions s), λ other c. c) (rest_beside told more names s.rest s h)

-- whole runs: what was noted, and what the first run needs, is noted where the second ends
abbrev IsDue : List (List ℕ) → List ℕ → Outcome → Type 0
IsDue names name o = Contains names name ⊎ ((halt : State) × (o ≡ Wants name halt))

abbrev asked_in : Outcome → Option (List (List ℕ))
asked_in (Done s) = s.asked
asked_in (Wants name s) = s.asked

abbrev wanted : Outcome → List ℕ
wanted (Done s) = []
wanted (Wants name s) = name

at_end : (names : List (List ℕ)) (name : List ℕ) (s last : State) → Done (noting names s) ≡ Done last → Contains names name → IsAsked name last.asked
at_end names name s last e c = subst (λ (asked : Option (List (List ℕ))). IsAsked name asked) (ap asked_in e) c

-- the second run goes on over what the first does not know
abbrev Goes_on : (State → Outcome) → List ℕ → State → Type 0
Goes_on g name last = (new : List (List ℕ)) (t : State) → Contains new name → g (noting new t) ≡ Done last → IsAsked name last.asked

either_noted : (names new : List (List ℕ)) (name other : List ℕ) → Keeps names new → Contains new other → Contains names name ⊎ (name ≡ other) → Contains new name
either_noted names new name other k c (inl d) = k name d
either_noted names new name other k c (inr e) = subst (λ (x : List ℕ). Contains new x) (sym e) c

behind_notes : (names : List (List ℕ)) (name other : List ℕ) (y : Next) (g : State → Outcome) (last : State) → Notes names other y → Goes_on g name last → carry_on y g ≡ Done last → Contains names name ⊎ (name ≡ other) → IsAsked name last.asked
behind_notes names name other (Goes u) g last a k e d = k a.0 u (either_noted names a.0 name other a.2 a.3 d) (sym (ap g a.1) ∙ e)
behind_notes names name other (Ends u) g last a k e d = at_end a.0 name u last (sym (ap Done a.1) ∙ e) (either_noted names a.0 name other a.2 a.3 d)
behind_notes names name other (Needs more u) g last a k e d = cc

one_step : (told : Told) (names : List (List ℕ)) (x y : Next) (f g : State → Outcome) (last : State) (name : List ℕ) → IsBeside told names x y → ((new : List (List ℕ)) (t : State) → IsDue new name (f t) → g (noting new t) ≡ Done last → IsAsked name last.asked) → carry_on y g ≡ Done last → IsDue names name (carry_on x f) → IsAsked name last.asked
one_step told names (Goes t) y f g last name r h e (inl c) = h r.0 t (inl (r.2 name c)) (sym (ap (λ (z : Next). carry_on z g) r.1) ∙ e)
one_step told names (Goes t) y f g last name r h e (inr w) = h r.0 t (inr w) (sym (ap (λ (z : Next). carry_on z g) r.1) ∙ e)
one_step told names (Ends t) y f g last name r h e (inl c) = at_end r.0 name t last (sym (ap (λ (z : Next). carry_on z g) r.1) ∙ e) (r.2 name c)
one_step told names (Ends t) y f g last name r h e (inr w) = let no = w.1 in cc
one_step told names (Needs other t) y f g last name r h e (inl c) = behind_notes names name other y g last r.1 (λ new u d. h new u (inl d)) e (inl c)
one_step told names (Needs other t) y f g last name r h e (inr w) = behind_notes names name other y g last r.1 (λ new u d. h new u (inl d)) e (inr (sym (ap wanted w.1)))

run_asks : (n : ℕ) (told more : Told) (names : List (List ℕ)) (s last : State) (name : List ℕ) → IsLarger told more → IsDue names name (run n told s) → run n more (noting names s) ≡ Done last → IsAsked name last.asked
unfolding run
run_asks zero told more names s last name l (inl c) e = at_end names name s last e c
run_asks zero told more names s last name l (inr w) e = let no = w.1 in cc
run_asks (suc n) told more names s last name l d e =
    one_step told names (step told s) (step more (noting names s)) (run n told) (run n more) last name (step_beside told more names s l)
    (λ new t due f. run_asks n told more new t last name l due f) e d

go_asks : (told more : Told) (names : List (List ℕ)) (s last : State) (name : List ℕ) → IsLarger told more → IsDue names name (go told s) → go more (noting names s) ≡ Done last → IsAsked name last.asked
unfolding go left
go_asks told more names s last name l d e = run_asks (suc (left s)) told more names s last name l d e

-- the root is asked for first
root_asked : (more : Told) (start : Start) (names : List (List ℕ)) (root : List ℕ) (last : State) (t : Option (Option (List ℕ))) → expand_found more start (Some names) root t ≡ Done last → IsAsked root last.asked
root_asked more start names root last None e = cc
root_asked more start names root last (Some None) e = go_asks more more (names ++ root ∷ []) (begin_with start None root []) last root (λ name text h. h) (inl (Contains-push names root)) e
root_asked more start names root last (Some (Some text)) e = go_asks more more (names ++ root ∷ []) (begin_with start None root text) last root (λ name text h. h) (inl (Contains-push names root)) e

found_asks : (told more : Told) (start : Start) (asked : Option (List (List ℕ))) (names : List (List ℕ)) (root name : List ℕ) (halt last : State) (t t' : Option (Option (List ℕ))) → IsLarger told more → ((text : Option (List ℕ)) → t ≡ Some text → t' ≡ Some text) → expand_found told start asked root t ≡ Wants name halt → expand_found more start (Some names) root t' ≡ Done last → IsAsked name last.asked
found_asks told more start asked names root name halt last None t' l h e e' =
    subst (λ (x : List ℕ). IsAsked x last.asked) (ap wanted e) (root_asked more start names root last t' e')
found_asks told more start asked names root name halt last (Some None) t' l h e e' =
    go_asks told more (names ++ root ∷ []) (begin_with start asked root []) last name l (inr (halt, e)) (sym (ap (expand_found more start (Some names) root) (h None refl)) ∙ e')
found_asks told more start asked names root name halt last (Some (Some text)) t' l h e e' =
    go_asks told more (names ++ root ∷ []) (begin_with start asked root text) last name l (inr (halt, e)) (sym (ap (expand_found more start (Some names) root) (h (Some text) refl)) ∙ e')

pub needs_are_asked : NeedsAreAsked
needs_are_asked told more start asked names root name halt last l e e' = found_asks told more start asked names root name halt last (told root) (more root) l (l root) e e'

-- what is needed is not told
untold_on : (told : Told) (x y : Next) (f : State → Outcome) (name : List ℕ) (halt : State) → IsBeside told [] x y → ((t : State) → f t ≡ Wants name halt → told name ≡ None) → carry_on x f ≡ Wants name halt → told name ≡ None
untold_on told (Goes t) y f name halt r h e = h t e
untold_on told (Ends t) y f name halt r h e = cc
untold_on told (Needs other t) y f name halt r h e = sym (ap told (ap wanted e)) ∙ r.0

run_untold : (n : ℕ) (told : Told) (s halt : State) (name : List ℕ) → run n told s ≡ Wants name halt → told name ≡ None
unfolding run
run_untold zero told s halt name e = cc
run_untold (suc n) told s halt name e = untold_on told (step told s) (step told (noting [] s)) (run n told) name halt (step_beside told told [] s (λ other text h. h)) (λ t. run_untold n told t halt name) e

go_untold : (told : Told) (s halt : State) (name : List ℕ) → go told s ≡ Wants name halt → told name ≡ None
unfolding go
go_untold told s halt name e = run_untold (suc (left s)) told s halt name e

found_untold : (told : Told) (start : Start) (asked : Option (List (List ℕ))) (root name : List ℕ) (halt : State) (t : Option (Option (List ℕ))) → told root ≡ t → expand_found told start asked root t ≡ Wants name halt → told name ≡ None
found_untold told start asked root name halt None h e = sym (ap told (ap wanted e)) ∙ h
found_untold told start asked root name halt (Some None) h e = go_untold told (begin_with start asked root []) halt name e
found_untold told start asked root name halt (Some (Some text)) h e = go_untold told (begin_with start asked root text) halt name e

pub needs_are_untold : NeedsAreUntold
needs_are_untold told start asked root name halt e = found_untold told start asked root name halt (told root) refl e

done_or_untold : (told : Told) (o : Outcome) → ((name : List ℕ) → told name ≢ None) → ((name : List ℕ) (halt : State) → o ≡ Wants name halt → told name ≡ None) → (last : State) × (o ≡ Done last)
done_or_untold told (Done last) all h = (last, refl)
done_or_untold told (Wants name halt) all h = absurd (all name (h name halt refl))

pub done_over_all : DoneOverAll
done_over_all told start asked root all = done_or_untold told (expand told start asked root) all (needs_are_untold told start asked root)
