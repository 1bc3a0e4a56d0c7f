-- The piece that begins a text has a byte and lies within the text.
use Rattle.std.proofs.Common.{◌≡◌, ℕ, ◌+◌, ◌<◌, ◌≤◌, List, [], ◌∷◌, length, take, drop, get_or, Option, Some, None, IfSome, refl, sym, ap, ◌∙◌, arith, add-one, subst}
use Rattle.std.specs.List.{prefix_len}
use Rattle.std.proofs.lemmas.List.Folds.{length-prefix_len}
use Rattle.sve_lex.specs.Longest.{Form, after, longest, or_here}
use Rattle.sve_bytes.specs.Bytes.{continues_identifier}
use Rattle.sve_lex.proofs.Longest.{longest_cons, longest_within}
use Rattle.sve_lex.specs.Classes.{run, word_class, word_kind, named, begins, class_of, or_bad, piece_of}
use Rattle.sve_lex.specs.declared.class.Class.{Class}
use Rattle.sve_lex.proofs.Runs.{run_longest, one_more}

pub word_longest : (cs : List ℕ) (n : ℕ) → 0 < length cs → n ≡ prefix_len continues_identifier (drop 1 cs) → longest (drop 1 cs) (run continues_identifier (word_class (get_or cs 0 0))) ≡ Some (named (word_kind (take (n + 1) cs)) (n + 1), n)
word_longest [] n l z = absurd (omega arith)
word_longest (c ∷ cs) n l z =
    run_longest continues_identifier (word_class c) cs
    ∙ ap (λ m. Some (named (word_kind (c ∷ take (prefix_len continues_identifier cs) cs)) (1 + m), prefix_len continues_identifier cs)) (length-prefix_len continues_identifier cs)
    ∙ ap (λ m. Some (named (word_kind (c ∷ take m cs)) (1 + m), m)) (sym z)
    ∙ rw (add-one, one_more) refl

pub piece_begun : (cs : List ℕ) (r : Option (Class × ℕ)) → 0 < length cs → r ≡ longest (drop 1 cs) (begins (get_or cs 0 0)) → piece_of cs ≡ or_bad (or_here r None)
unfolding piece_of class_of
piece_begun [] r l e = absurd (omega arith)
piece_begun (c ∷ cs) r l e = ap or_bad (longest_cons c cs class_of ∙ ap (λ q. or_here q None) (sym e))

or_bad_within : (r : Option (Class × ℕ)) (n : ℕ) → 0 < n → IfSome r (λ x. x.1 ≤ n) → (or_bad r).1 ≤ n
or_bad_within None n l h = omega arith
or_bad_within (Some (w, k)) n l h = h

pub piece_within : (cs : List ℕ) → 0 < length cs → (piece_of cs).1 ≤ length cs
unfolding piece_of
piece_within cs l = or_bad_within (longest cs class_of) (length cs) l (longest_within cs class_of)

or_bad_filled : (r : Option (Class × ℕ)) → 0 < (or_bad (or_here r None)).1
or_bad_filled None = omega arith
or_bad_filled (Some (w, k)) = omega arith

pub piece_filled : (cs : List ℕ) → 0 < length cs → 0 < (piece_of cs).1
unfolding piece_of class_of
piece_filled [] l = absurd (omega arith)
piece_filled (c ∷ cs) l = let P : Class × ℕ → Type 0 = λ p. 0 < p.1 in subst P (sym (ap or_bad (longest_cons c cs class_of))) (or_bad_filled (longest cs (after c class_of)))

pub some_within : (cs : List ℕ) (f : Form Class) (w : Class) (n : ℕ) → 0 < length cs → Some (w, n) ≡ longest (drop 1 cs) f → n + 1 ≤ length cs
some_within [] f w n l e = absurd (omega arith)
some_within (c ∷ cs) f w n l e =
    let P : Option (Class × ℕ) → Type 0 = λ r. IfSome r (λ x. x.1 ≤ length cs) in
    let h : n ≤ length cs = subst P (sym e) (longest_within cs f) in omega arith
