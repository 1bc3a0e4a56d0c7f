-- What is done over one map of texts is done alike over every larger one.
use Rattle.std.proofs.Common.{◌≡◌, ℕ, zero, suc, Bool, true, false, cond, List, Option, Some, None, refl, ap, sym, ◌∙◌, subst, nat_eq, ◌||◌, [], ◌∷◌}
use Rattle.sve_bytes.specs.FileName.{is_file_name_of}
use Rattle.sve_unread.specs.Bytes.{Byte, ahead}
use Rattle.sve_directive.specs.declared.directive.Directive.{Directive}
use Rattle.sve_directive.specs.declared.directive.Directive.TheVariants.{Include, Local}
use Rattle.sve_directive.specs.Pieces.{plain_length}
use Rattle.sve_directive.specs.Directives.{directive_at, is_conditional_at}
use Rattle.sve_prep.specs.Told.{Told}
use Rattle.sve_prep.specs.State.{State, is_reading, is_left}
use Rattle.sve_prep.specs.Uses.{Next, Goes, Ends, Needs}
use Rattle.sve_prep.specs.Includes.{include_found, ask, is_too_far, include}
use Rattle.sve_prep.specs.Step.{follow, step_head, step_rest, step}
use Rattle.sve_prep.specs.Expansion.{Outcome, Done, carry_on, run, left, go, Start, begin_with, expand_found}
use Rattle.sve_prep.specs.Larger.{IsLarger, DoneAlike}

-- the same, unless the first needs a name
abbrev Agrees : Next → Next → Type 0
Agrees (Goes s) y = y ≡ Goes s
Agrees (Ends s) y = y ≡ Ends s
Agrees (Needs name s) y = Unit {0}

agrees_self : (x : Next) → Agrees x x
agrees_self (Goes s) = refl
agrees_self (Ends s) = refl
agrees_self (Needs name s) = tt

agrees_if : (b : Bool) (x y x' y' : Next) → Agrees x x' → Agrees y y' → Agrees (cond b x y) (cond b x' y')
agrees_if true x y x' y' p q = p
agrees_if false x y x' y' p q = q

found_agrees : (name : List ℕ) (n : ℕ) (t t' : Option (Option (List ℕ))) (s : State) → ((x : Option (List ℕ)) → t ≡ Some x → t' ≡ Some x) → Agrees (include_found name n t s) (include_found name n t' s)
found_agrees name n None t' s h = tt
found_agrees name n (Some x) t' s h = subst (λ (u : Option (Option (List ℕ))). Agrees (include_found name n (Some x) s) (include_found name n u s)) (sym (h x refl)) (agrees_self (include_found name n (Some x) s))

include_agrees : (told more : Told) (name : List ℕ) (n : ℕ) (s : State) → IsLarger told more → Agrees (include told name n s) (include more name n s)
include_agrees told more name n s h =
    agrees_if (is_too_far s) _ _ _ _ refl
    (agrees_if (is_file_name_of name) _ _ _ _ (found_agrees name n (told name) (more name) (ask name s) (h name)) refl)

head_agrees : (told more : Told) (d : Directive) (n : ℕ) (s : State) → IsLarger told more → Agrees (step_head told d n s) (step_head more d n s)
head_agrees told more (Include name) n s h = include_agrees told more name n s h
head_agrees told more (Local d) n s h = agrees_self (follow d n s)

rest_agrees : (told more : Told) (bs : List Byte) (s : State) → IsLarger told more → Agrees (step_rest told bs s) (step_rest more bs s)
rest_agrees told more [] s h = refl
rest_agrees told more (b ∷ bs) s h =
    let text = ahead s.rest in
    agrees_if (nat_eq (plain_length text) 0) _ _ _ _
    (agrees_if (is_reading s.conditions || is_conditional_at text) _ _ _ _ (head_agrees told more (directive_at text).0 (directive_at text).1 s h) refl) refl

step_agrees : (told more : Told) (s : State) → IsLarger told more → Agrees (step told s) (step more s)
step_agrees told more s h = agrees_if (is_left s.conditions s.rest) _ _ _ _ refl (rest_agrees told more s.rest s h)

carried : (x x' : Next) (f g : State → Outcome) (last : State) → Agrees x x' → ((t : State) → f t ≡ Done last → g t ≡ Done last) → carry_on x f ≡ Done last → carry_on x' g ≡ Done last
carried (Goes t) x' f g last p h e = ap (λ (y : Next). carry_on y g) p ∙ h t e
carried (Ends t) x' f g last p h e = ap (λ (y : Next). carry_on y g) p ∙ e
carried (Needs name t) x' f g last p h e = cc

run_more : (n : ℕ) (told more : Told) (s last : State) → IsLarger told more → run n told s ≡ Done last → run n more s ≡ Done last
unfolding run
run_more zero told more s last h e = e
run_more (suc n) told more s last h e = carried (step told s) (step more s) (run n told) (run n more) last (step_agrees told more s h) (λ t. run_more n told more t last h) e

go_more : (told more : Told) (s last : State) → IsLarger told more → go told s ≡ Done last → go more s ≡ Done last
unfolding go
go_more told more s last h e = run_more (suc (left s)) told more s last h e

found_more : (told more : Told) (start : Start) (asked : Option (List (List ℕ))) (root : List ℕ) (last : State) (t t' : Option (Option (List ℕ))) → IsLarger told more → ((x : Option (List ℕ)) → t ≡ Some x → t' ≡ Some x) → expand_found told start asked root t ≡ Done last → expand_found more start asked root t' ≡ Done last
found_more told more start asked root last None t' h k e = cc
found_more told more start asked root last (Some None) t' h k e = ap (expand_found more start asked root) (k None refl) ∙ go_more told more (begin_with start asked root []) last h e
found_more told more start asked root last (Some (Some text)) t' h k e = ap (expand_found more start asked root) (k (Some text) refl) ∙ go_more told more (begin_with start asked root text) last h e

pub done_alike : DoneAlike
done_alike told more start asked root last h e = found_more told more start asked root last (told root) (more root) h (h root) e
