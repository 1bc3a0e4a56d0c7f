-- The loop over the steps.
use Rattle.std.proofs.Common.{◌≡◌, ℕ, suc, ◌<◌, ◌≤◌, ◌⊎◌, Bool, true, false, cond, List, [], length, Option, Some, None, refl, ap, sym, ◌∙◌, subst, arith, inl, inr}
use Rattle.std.specs.declared.sync.Arc.{Arc}
use Rattle.std.specs.declared.alloc.Global.{Global}
use Rattle.sve_unread.proofs.Laid.{length-laid}
use Rattle.sve_prep.specs.Told.{Told, Tells, Holds, Matches, TellSame, text_in, noted, IsShort}
use Rattle.sve_prep.specs.Answer.{text_or_empty}
use Rattle.sve_prep.specs.Halts.{IsHalted, IsWanting, StepsTo, HaltsAt}
use Rattle.sve_prep.specs.Under.{IsUnderWay}
use Rattle.sve_prep.specs.State.{State}
use Rattle.sve_prep.specs.Uses.{Next, Needs}
use Rattle.sve_prep.specs.Step.{step}
use Rattle.sve_prep.specs.Expansion.{Outcome, Done, Wants, carry_on, go, left, Start, fresh, begin_with, expand, expand_found}
use Rattle.sve_prep.specs.View.{Fits, flow}
use Rattle.sve_bytes.specs.FileName.{is_file_name_of}
use Rattle.sve_prep.specs.Includes.{include_found, ask, is_too_far, include}
use Rattle.sve_prep.proofs.Cases.{include_asks}
use Rattle.sve_prep.proofs.Placed.{placed-laid}
use Rattle.sve_prep.proofs.Law.{IsFollowed, step_follows, go-step}

-- what tells the same
pub same_on : (a b d : Tells) → TellSame a b → TellSame b d → TellSame a d
same_on a b d p q = λ name text. (λ h. (q name text).0 ((p name text).0 h), λ h. (p name text).1 ((q name text).1 h))

pub holds_on : (told : Told) (a b : Tells) → TellSame a b → Holds told a → Holds told b
holds_on told a b p h = λ name text t. h name text ((p name text).1 t)

pub matches_on : (told : Told) (a b : Tells) → TellSame a b → Matches told a → Matches told b
matches_on told a b p h = λ name text. (λ t. (h name text).0 ((p name text).1 t), λ e. (p name text).0 ((h name text).1 e))

pub matches_holds : (told : Told) (a : Tells) → Matches told a → Holds told a
matches_holds told a h = λ name text t. (h name text).0 t

pub short_text : (t : Option (Arc (List ℕ) Global)) → IsShort t → length (text_or_empty (text_in t)) ≤ 1048576
short_text None h = omega arith
short_text (Some t) h = h

begun : (told : Told) (start : Start) (asked : Option (List (List ℕ))) (root : List ℕ) (t : Option (List ℕ)) → expand_found told start asked root (Some t) ≡ go told (begin_with start asked root (text_or_empty t))
begun told start asked root None = refl
begun told start asked root (Some text) = refl

fits_begin : (start : Start) (asked : Option (List (List ℕ))) (root text : List ℕ) → length text ≤ 1048576 → length root ≤ 1024 → Fits (begin_with start asked root text)
fits_begin start asked root text h r = record {
  paid = omega (arith, length-laid text (record { file = root; offset = 0; copied = true }) 1 [] 0);
  bounded = omega arith;
  placed = placed-laid text (record { file = root; offset = 0; copied = true }) 1 [] 0 r (omega arith);
}

-- before the first step
pub begins : (tells0 tells : Tells) (asked0 asked : Option (List (List ℕ))) (root : List ℕ) (t : Option (List ℕ)) (f : Option (List (List ℕ)) → State) (halted0 halted : Option (List ℕ)) (stops0 stops : List ℕ) → TellSame tells0 tells → tells0 root t → length (text_or_empty t) ≤ 1048576 → length root ≤ 1024 → asked ≡ noted root asked0 → f (noted root asked0) ≡ begin_with fresh asked0 root (text_or_empty t) → halted ≡ halted0 → stops ≡ stops0 → IsUnderWay true tells0 tells (λ told. expand told fresh asked0 root) (f asked) halted0 halted stops0 stops
begins tells0 tells asked0 asked root t f halted0 halted stops0 stops a b h r d e c k =
    let v : f asked ≡ begin_with fresh asked0 root (text_or_empty t) = ap f d ∙ e in
    record {
      same = a;
      rest = λ told p. ap (expand_found told fresh asked0 root) (p root t b) ∙ begun told fresh asked0 root t ∙ ap (go told) (sym v);
      fits = λ _. subst Fits (sym v) (fits_begin fresh asked0 root (text_or_empty t) h r);
      not_halted = c;
      not_stopped = k;
    }

after_flow : (on : Bool) (told : Told) (s : State) → carry_on (flow on s) (go told) ≡ cond on (go told s) (Done s)
after_flow true told s = refl
after_flow false told s = refl

-- what a step that is known makes of the whole
going : {tells0 tells : Tells} {whole : Told → Outcome} {halted0 halted : Option (List ℕ)} {stops0 stops : List ℕ} (on : Bool) (s : State) (told : Told) (next : Next) → IsUnderWay on tells0 tells whole s halted0 halted stops0 stops → on ≡ true → Holds told tells0 → step told s ≡ next → whole told ≡ carry_on next (go told)
going on s told next p t h e =
    p.rest told h ∙ ap (λ (b : Bool). cond b (go told s) (Done s)) t ∙ go-step told s ∙ ap (λ (x : Next). carry_on x (go told)) e

still_fits : (on : Bool) (s t : State) → IsFollowed s (flow on t) → Fits s → on ≡ true → Fits t
still_fits true s t p f e = p.pays f
still_fits false s t p f e = cc

-- after one more step
pub goes_on : (on : Bool) (tells0 tells tells' : Tells) (whole : Told → Outcome) (s : State) (on' : Bool) (s' : State) (halted0 halted halted' : Option (List ℕ)) (stops0 stops stops' : List ℕ) → IsUnderWay on tells0 tells whole s halted0 halted stops0 stops → on ≡ true → TellSame tells tells' → StepsTo tells (λ told. step told s) (flow on' s') → halted' ≡ halted → stops' ≡ stops → IsUnderWay on' tells0 tells' whole s' halted0 halted' stops0 stops'
goes_on on tells0 tells tells' whole s on' s' halted0 halted halted' stops0 stops stops' p t a e c w =
    record {
      same = same_on tells0 tells tells' p.same a;
      rest = λ told h. going on s told (flow on' s') p t h (e.by_all told (holds_on told tells0 tells p.same h)) ∙ after_flow on' told s';
      fits = still_fits on' s s' (subst (IsFollowed s) e.by_some (step_follows e.some s)) (p.fits t);
      not_halted = c ∙ p.not_halted;
      not_stopped = w ∙ p.not_stopped;
    }

less_left : (on : Bool) (s t : State) → IsFollowed s (flow on t) → cond on (suc (left t)) 0 < suc (left s)
less_left true s t p = let f = p.falls in omega arith
less_left false s t p = omega arith

pub smaller : (tells : Tells) (on : Bool) (s : State) (on' : Bool) (s' : State) → on ≡ true → StepsTo tells (λ told. step told s) (flow on' s') → cond on' (suc (left s')) 0 < cond on (suc (left s)) 0
smaller tells on s on' s' t e =
    subst (λ (b : Bool). cond on' (suc (left s')) 0 < cond b (suc (left s)) 0) (sym t) (less_left on' s s' (subst (IsFollowed s) e.by_some (step_follows e.some s)))

-- where a step is halted, so is the whole
pub wants : (on : Bool) (tells0 tells : Tells) (whole : Told → Outcome) (s : State) (halted0 halted : Option (List ℕ)) (stops0 stops : List ℕ) (asked : Option (List (List ℕ))) (name : List ℕ) (told : Told) → IsUnderWay on tells0 tells whole s halted0 halted stops0 stops → on ≡ true → Matches told tells0 → IsHalted name asked (step told s) → IsWanting name asked (whole told)
wants on tells0 tells whole s halted0 halted stops0 stops asked name told p t m h =
    (h.0, going on s told (Needs name h.0) p t (matches_holds told tells0 m) h.1, h.2)

-- a step of which no object is asked
pub asks_nothing : (tells : Tells) (f : Told → Next) (next : Next) → ((told : Told) → f told ≡ next) → StepsTo tells f next
asks_nothing tells f next h = record { some = λ _. None; by_some = h (λ _. None); by_all = λ told _. h told }

-- what two functions that agree come to
pub steps_as : (tells : Tells) (f g : Told → Next) (next : Next) → ((told : Told) → f told ≡ g told) → StepsTo tells g next → StepsTo tells f next
steps_as tells f g next h p = record { some = p.some; by_some = h p.some ∙ p.by_some; by_all = λ told k. h told ∙ p.by_all told k }

pub halts_as : (tells : Tells) (old new : Option (List ℕ)) (asked : Option (List (List ℕ))) (failed : Type 0) (f g : Told → Next) → ((told : Told) → f told ≡ g told) → HaltsAt tells old new asked failed g → HaltsAt tells old new asked failed f
halts_as tells old new asked failed f g h p = λ told m c name e. let q = p told m c name e in (q.0, (q.1.0, h told ∙ q.1.1, q.1.2))

-- an object that was not asked does not halt
pub halts_nowhere : (tells : Tells) (old new : Option (List ℕ)) (asked : Option (List (List ℕ))) (failed : Type 0) (f : Told → Next) → new ≡ old → HaltsAt tells old new asked failed f
halts_nowhere tells old new asked failed f e = λ told m c name h. cc

-- of a root that it does not tell
not_told : (told : Told) (tells : Tells) (root : List ℕ) (t : Option (Option (List ℕ))) → t ≡ told root → Matches told tells → ((text : Option (List ℕ)) → tells root text → ⊥) → t ≡ None
not_told told tells root None e m h = refl
not_told told tells root (Some text) e m h = absurd (h text ((m root text).1 (sym e)))

pub root_wanted : (told : Told) (tells : Tells) (asked0 asked : Option (List (List ℕ))) (root name : List ℕ) → Matches told tells → name ≡ root → ((text : Option (List ℕ)) → tells root text → ⊥) → asked ≡ noted root asked0 → IsWanting name asked (expand told fresh asked0 root)
root_wanted told tells asked0 asked root name m e h a = (
  begin_with fresh asked0 root [],
  ap (expand_found told fresh asked0 root) (not_told told tells root (told root) refl m h) ∙ ap (λ (n : List ℕ). Wants n (begin_with fresh asked0 root [])) (sym e),
  sym a,
)

-- where an include halts
pub include_wanted : (told : Told) (tells : Tells) (name other : List ℕ) (n : ℕ) (s : State) (asked : Option (List (List ℕ))) {b d : Bool} → b ≡ is_too_far s → b ≡ false → d ≡ is_file_name_of name → d ≡ true → Matches told tells → other ≡ name → ((text : Option (List ℕ)) → tells name text → ⊥) → asked ≡ noted name s.asked → IsHalted other asked (include told name n s)
include_wanted told tells name other n s asked p q p2 q2 m e h a = (
  ask name s,
  include_asks told name n s p q p2 q2 (not_told told tells name (told name) refl m h) ∙ ap (λ (k : List ℕ). Needs k (ask name s)) (sym e),
  sym a,
)

-- what an include comes to, where this is told
pub include_steps : (tells : Tells) (name : List ℕ) (n : ℕ) (s : State) (t : Option (List ℕ)) (next : Next) {b d : Bool} → b ≡ is_too_far s → b ≡ false → d ≡ is_file_name_of name → d ≡ true → tells name t → include_found name n (Some t) (ask name s) ≡ next → StepsTo tells (λ told. include told name n s) next
include_steps tells name n s t next p q p2 q2 h e = record {
  some = λ _. Some t;
  by_some = include_asks (λ _. Some t) name n s p q p2 q2 refl ∙ e;
  by_all = λ told k. include_asks told name n s p q p2 q2 (k name t h) ∙ e;
}

pub none_some : (old : Option (List ℕ)) (name : List ℕ) → old ≡ None → old ≡ Some name → ⊥
none_some old name c h = cc

-- where it did not halt before
pub after_missing : {A B : Type 0} (old new : Option (List ℕ)) (name : List ℕ) → (new ≡ Some name → (old ≡ Some name) ⊎ A) → old ≡ None → new ≡ Some name → (A → B) → B
after_missing {A = A} {B = B} old new name f c e g = elim (f e) as (λ _. B) [ inl h ↦ absurd (none_some old name c h) | inr a ↦ g a ]

-- where the object halts at the name of an include
pub include_missing : (told : Told) (tells : Tells) (file name other : List ℕ) (n : ℕ) (s : State) (asked : Option (List (List ℕ))) {b d : Bool} → b ≡ is_too_far s → b ≡ false → d ≡ is_file_name_of file → d ≡ true → Matches told tells → name ≡ file → other ≡ name → ((text : Option (List ℕ)) → tells name text → ⊥) → asked ≡ noted name s.asked → IsHalted other asked (include told file n s)
include_missing told tells file name other n s asked p q p2 q2 m v e h a =
    include_wanted told tells file other n s asked p q p2 q2 m (e ∙ v) (λ text t. h text (subst (λ (k : List ℕ). tells k text) (sym v) t)) (a ∙ ap (λ (k : List ℕ). noted k s.asked) v)

-- what an include comes to, by the name that was asked for
pub include_found_steps : (tells : Tells) (file name : List ℕ) (n : ℕ) (s : State) (t : Option (List ℕ)) (next : Next) (asked : Option (List (List ℕ))) {b d : Bool} → b ≡ is_too_far s → b ≡ false → d ≡ is_file_name_of file → d ≡ true → name ≡ file → tells name t → asked ≡ noted name s.asked → include_found name n (Some t) (record s { asked = asked }) ≡ next → StepsTo tells (λ told. include told file n s) next
include_found_steps tells file name n s t next asked p q p2 q2 v h a e =
    include_steps tells file n s t next p q p2 q2 (subst (λ (k : List ℕ). tells k t) v h)
    (ap (λ (k : List ℕ). include_found k n (Some t) (ask file s)) (sym v)
    ∙ ap (λ (k : List ℕ). include_found name n (Some t) (ask k s)) (sym v)
    ∙ ap (λ (k : Option (List (List ℕ))). include_found name n (Some t) (record s { asked = k })) (sym a) ∙ e)
