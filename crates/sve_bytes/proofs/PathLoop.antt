-- One turn of the loop that reads a path, over plain lists.
use Rattle.std.proofs.Common.{◌≡◌, ◌∙◌, ℕ, ◌+◌, ◌-◌, ◌<◌, ◌≤◌, List, [], ◌∷◌, ◌++◌, length, get_or, take, drop, sym, ap, subst, append_assoc, arith, length-append, length-drop}
use Rattle.std.proofs.lemmas.List.{take_more, get_or-drop, take-append-drop, drop_more, length-take-le, take_at, take_all}
use Rattle.std.proofs.lemmas.List.Folds.{drop_split}
use Rattle.std.specs.List.{slice_range}
use Rattle.sve_bytes.specs.declared.path.Step.{Step}
use Rattle.sve_bytes.specs.declared.path_reading.Stage.{Stage}
use Rattle.sve_bytes.specs.PathReading.{SpellsStep, Spells, StopsAt}
use Rattle.sve_bytes.specs.PathStages.{BeginsNoStep, Stands}
use Rattle.sve_bytes.proofs.PathFronts.{SpellsDotted, BeginsStep, dotted_more, stops_within, stops_at_end, path_whole, path_only}
use Rattle.sve_bytes.proofs.StageBegins.{begins_step}

pub slice_more : (text : List ℕ) (start at : ℕ) → start ≤ at → at < length text → slice_range text start (at + 1) ≡ slice_range text start at ++ get_or text at 0 ∷ []
slice_more text start at order within =
    let count : (at + 1) - start ≡ (at - start) + 1 = omega arith in
    let there : start + (at - start) ≡ at = omega arith in
    ap (λ (n : ℕ). take n (drop start text)) count
    ∙ take_more (drop start text) (at - start) 0 (omega (arith, length-drop start text))
    ∙ ap (λ (b : ℕ). take (at - start) (drop start text) ++ b ∷ []) (get_or-drop start text (at - start) 0 ∙ ap (λ (n : ℕ). get_or text n 0) there)

pub text_at : (text : List ℕ) (start at : ℕ) → start ≤ at → at < length text → text ≡ take start text ++ (slice_range text start at ++ get_or text at 0 ∷ drop (at + 1) text)
text_at text start at order within =
    sym (take-append-drop start text)
    ∙ ap (λ (x : List ℕ). take start text ++ x) (drop_split text start at order ∙ ap (λ (x : List ℕ). slice_range text start at ++ x) (drop_more text at 0 within))

length_slice : (text : List ℕ) (start at : ℕ) → start ≤ at → at ≤ length text → length (take start text ++ slice_range text start at) ≡ at
length_slice text start at order within =
    omega (arith, length-append (take start text) (slice_range text start at), length-take-le start text (omega arith), length-take-le (at - start) (drop start text) (omega (arith, length-drop start text)))

front_at : (text : List ℕ) (start at : ℕ) → start ≤ at → at ≤ length text → take at text ≡ take start text ++ slice_range text start at
front_at text start at order within =
    let split : text ≡ (take start text ++ slice_range text start at) ++ drop at text =
    sym (take-append-drop start text)
    ∙ ap (λ (x : List ℕ). take start text ++ x) (drop_split text start at order)
    ∙ sym (append_assoc (take start text) (slice_range text start at) (drop at text))
    in
    ap (take at) split ∙ take_at (take start text ++ slice_range text start at) (drop at text) at (length_slice text start at order within)

text_whole : (text : List ℕ) (start : ℕ) → start ≤ length text → take start text ++ slice_range text start (length text) ≡ text
text_whole text start order = sym (front_at text start (length text) order (omega arith)) ∙ take_all (length text) text (omega arith)

pub slice_none : (text : List ℕ) (at : ℕ) → slice_range text at at ≡ []
slice_none text at = let none : at - at ≡ 0 = omega arith in ap (λ (n : ℕ). take n (drop at text)) none

pub dotted_next : (text : List ℕ) (start at : ℕ) (ss : List Step) (s : Step) → start ≤ at → at < length text → get_or text at 0 ≡ 46 → SpellsDotted (take start text) ss → SpellsStep (slice_range text start at) s → SpellsDotted (take (at + 1) text) (ss ++ s ∷ [])
dotted_next text start at ss s order within dot front step =
    let longer : take (at + 1) text ≡ take start text ++ (slice_range text start at ++ 46 ∷ []) =
    front_at text start (at + 1) (omega arith) (omega arith)
    ∙ ap (λ (x : List ℕ). take start text ++ x) (slice_more text start at order within)
    ∙ ap (λ (b : ℕ). take start text ++ (slice_range text start at ++ b ∷ [])) dot
    in
    subst (λ (x : List ℕ). SpellsDotted x (ss ++ s ∷ [])) (sym longer) (dotted_more (take start text) (slice_range text start at) ss s front step)

pub stops_inside : (text : List ℕ) (start at : ℕ) (ss : List Step) → start ≤ at → at < length text → SpellsDotted (take start text) ss → BeginsStep (slice_range text start at) → BeginsNoStep (slice_range text start at ++ get_or text at 0 ∷ []) → (get_or text at 0 ≡ 46 → (s : Step) → SpellsStep (slice_range text start at) s → ⊥) → StopsAt text at
stops_inside text start at ss order within front begun dead cut =
    let stop = stops_within (take start text) (slice_range text start at) (get_or text at 0) (drop (at + 1) text) ss front begun dead cut in
    let there : StopsAt text (length (take start text ++ slice_range text start at)) = subst (λ (x : List ℕ). StopsAt x (length (take start text ++ slice_range text start at))) (sym (text_at text start at order within)) stop in
    subst (λ (n : ℕ). StopsAt text n) (length_slice text start at order (omega arith)) there

pub stops_after_all : (text : List ℕ) (start at : ℕ) (stage : Stage) (ss : List Step) → start ≤ at → at ≡ length text → (length text ≡ 0 → ⊥) → Stands (slice_range text start at) stage → SpellsDotted (take start text) ss → ((s : Step) → SpellsStep (slice_range text start (length text)) s → ⊥) → StopsAt text (length text)
stops_after_all text start at stage ss order end some stands front none =
    let whole = text_whole text start (omega arith) in
    let begun : BeginsStep (slice_range text start (length text)) = subst (λ (n : ℕ). BeginsStep (slice_range text start n)) end (begins_step (slice_range text start at) stage stands) in
    let stop = stops_at_end (take start text) (slice_range text start (length text)) ss front begun none (omega (arith, some, ap length whole)) in
    subst (λ (x : List ℕ). StopsAt x (length x)) whole stop

pub spells_all : (text : List ℕ) (start : ℕ) (ss : List Step) (s : Step) → start ≤ length text → SpellsDotted (take start text) ss → SpellsStep (slice_range text start (length text)) s → Spells text (ss ++ s ∷ [])
spells_all text start ss s order front step =
    subst (λ (x : List ℕ). Spells x (ss ++ s ∷ [])) (text_whole text start order) (path_whole (take start text) (slice_range text start (length text)) ss s front step)

pub spells_only : (text : List ℕ) (start : ℕ) (ss : List Step) (s : Step) → start ≤ length text → 0 < length text → SpellsDotted (take start text) ss → SpellsStep (slice_range text start (length text)) s → (p : List Step) → Spells text p → p ≡ ss ++ s ∷ []
spells_only text start ss s order some front step p h =
    let whole = text_whole text start order in
    path_only (take start text) (slice_range text start (length text)) ss s front step (omega (arith, ap length whole)) p (subst (λ (x : List ℕ). Spells x p) (sym whole) h)
