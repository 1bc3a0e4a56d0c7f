-- Formals, one at a time.
use Rattle.std.proofs.Common.{◌≡◌, ℕ, zero, suc, ◌+◌, ◌<◌, ◌≤◌, true, false, cond, Option, Some, None, List, [], ◌∷◌, ◌++◌, length, drop, refl, ap, sym, ◌∙◌, arith, length-drop, append_assoc}
use Rattle.std.proofs.lemmas.List.{drop-drop, drop_all}
use Rattle.sve_directive.specs.Bytes.{begins_with}
use Rattle.sve_directive.specs.Define.{Formal, formal_of, after_formal, with_formal, formals_after, formals_in}

after_shorter : (text : List ℕ) (f : Option (Formal × ℕ)) → 0 < length text → length (after_formal text f) < length text
after_shorter text None h = omega arith
after_shorter text (Some f) h = omega (arith, length-drop (f.1 + 1) text)

formals-enough : (n m : ℕ) (text : List ℕ) → length text ≤ n → length text ≤ m → formals_in n text ≡ formals_in m text
unfolding formals_in
formals-enough zero zero text h k = refl
formals-enough zero (suc m) [] h k = refl
formals-enough zero (suc m) (b ∷ bs) h k = absurd (omega arith)
formals-enough (suc n) zero [] h k = refl
formals-enough (suc n) zero (b ∷ bs) h k = absurd (omega arith)
formals-enough (suc n) (suc m) [] h k = refl
formals-enough (suc n) (suc m) (b ∷ bs) h k =
    let shorter : length (after_formal (b ∷ bs) (formal_of (b ∷ bs))) < length (b ∷ bs) = after_shorter (b ∷ bs) (formal_of (b ∷ bs)) (omega arith) in
    ap (formals_after (b ∷ bs) (formal_of (b ∷ bs))) (formals-enough n m (after_formal (b ∷ bs) (formal_of (b ∷ bs))) (omega arith) (omega arith))

-- the formals of a text by its length
abbrev pub all_formals : List ℕ → Option (List Formal × ℕ)
all_formals text = formals_in (length text) text

pub formals-next : (text : List ℕ) → 0 < length text → all_formals text ≡ formals_after text (formal_of text) (all_formals (after_formal text (formal_of text)))
unfolding formals_in
formals-next [] h = absurd (omega arith)
formals-next (b ∷ bs) h =
    let shorter : length (after_formal (b ∷ bs) (formal_of (b ∷ bs))) < length (b ∷ bs) = after_shorter (b ∷ bs) (formal_of (b ∷ bs)) (omega arith) in
    ap (formals_after (b ∷ bs) (formal_of (b ∷ bs))) (formals-enough (length bs) (length (after_formal (b ∷ bs) (formal_of (b ∷ bs)))) (after_formal (b ∷ bs) (formal_of (b ∷ bs))) (omega arith) (omega arith))

pub formals-none : all_formals [] ≡ None
unfolding formals_in
formals-none = refl

-- formals that were read up to a place, before what the rest gives
abbrev pub with_front : List Formal → ℕ → Option (List Formal × ℕ) → Option (List Formal × ℕ)
with_front found at None = None
with_front found at (Some more) = Some (found ++ more.0, at + more.1)

with_front-start : (more : Option (List Formal × ℕ)) → with_front [] 0 more ≡ more
with_front-start None = refl
with_front-start (Some more) = ap (λ n. Some (more.0, n)) (let e : 0 + more.1 ≡ more.1 = omega arith in e)

with_front-more : (found : List Formal) (at : ℕ) (f : Formal × ℕ) (more : Option (List Formal × ℕ)) → with_front found at (with_formal f more) ≡ with_front (found ++ f.0 ∷ []) (at + (f.1 + 1)) more
with_front-more found at f None = refl
with_front-more found at f (Some more) = ap (λ xs. Some (xs, at + (f.1 + 1 + more.1))) (sym (append_assoc found (f.0 ∷ []) more.0)) ∙ ap (λ n. Some ((found ++ f.0 ∷ []) ++ more.0, n)) (let e : at + (f.1 + 1 + more.1) ≡ at + (f.1 + 1) + more.1 = omega arith in e)

pub formals_begin : (text : List ℕ) → with_front [] 0 (all_formals (drop 0 text)) ≡ all_formals text
formals_begin text = with_front-start (all_formals text)

-- no formal stands here
pub formals_bad : (text : List ℕ) (at : ℕ) (found : List Formal) (whole : Option (List Formal × ℕ)) → 0 < length (drop at text) → formal_of (drop at text) ≡ None → with_front found at (all_formals (drop at text)) ≡ whole → None ≡ whole
formals_bad text at found whole h e s = ap (with_front found at) (sym (formals-next (drop at text) h ∙ ap (λ x. formals_after (drop at text) x (all_formals (after_formal (drop at text) x))) e)) ∙ s

-- the last formal
pub formals_last : (text : List ℕ) (at : ℕ) (found : List Formal) (f : Formal) (end : ℕ) (whole : Option (List Formal × ℕ)) → 0 < length (drop at text) → formal_of (drop at text) ≡ Some (f, end) → begins_with 41 (drop end (drop at text)) ≡ true → with_front found at (all_formals (drop at text)) ≡ whole → Some (found ++ f ∷ [], at + (end + 1)) ≡ whole
formals_last text at found f end whole h e b s =
    ap (λ x. with_front found at (cond x (Some (f ∷ [], end + 1)) (with_formal (f, end) (all_formals (drop (end + 1) (drop at text)))))) (sym b)
    ∙ ap (with_front found at) (sym (formals-next (drop at text) h ∙ ap (λ x. formals_after (drop at text) x (all_formals (after_formal (drop at text) x))) e)) ∙ s

-- a formal with others after it
pub formals_step : (text : List ℕ) (at : ℕ) (found : List Formal) (f : Formal) (end : ℕ) (whole : Option (List Formal × ℕ)) → 0 < length (drop at text) → formal_of (drop at text) ≡ Some (f, end) → begins_with 41 (drop end (drop at text)) ≡ false → with_front found at (all_formals (drop at text)) ≡ whole → with_front (found ++ f ∷ []) (at + (end + 1)) (all_formals (drop (at + (end + 1)) text)) ≡ whole
formals_step text at found f end whole h e b s =
    ap (λ x. with_front (found ++ f ∷ []) (at + (end + 1)) (all_formals x)) (sym (drop-drop (end + 1) at text))
    ∙ sym (with_front-more found at (f, end) (all_formals (drop (end + 1) (drop at text))))
    ∙ ap (λ x. with_front found at (cond x (Some (f ∷ [], end + 1)) (with_formal (f, end) (all_formals (drop (end + 1) (drop at text)))))) (sym b)
    ∙ ap (with_front found at) (sym (formals-next (drop at text) h ∙ ap (λ x. formals_after (drop at text) x (all_formals (after_formal (drop at text) x))) e)) ∙ s

-- the text ends before the list does
pub formals_end : (text : List ℕ) (at : ℕ) (found : List Formal) (whole : Option (List Formal × ℕ)) → length text ≤ at → with_front found at (all_formals (drop at text)) ≡ whole → None ≡ whole
formals_end text at found whole h s = ap (λ x. with_front found at x) (sym (ap all_formals (drop_all at text h) ∙ formals-none)) ∙ s
