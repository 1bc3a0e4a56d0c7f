-- Operators out of a table, and the longest number of a base.
use Rattle.std.proofs.Common.{◌≡◌, ℕ, zero, suc, ◌+◌, ◌<◌, List, [], ◌∷◌, length, drop, get_or, Option, Some, None, Bool, true, false, nat_eq, inl, inr, refl, sym, ap, ◌∙◌, arith, add_comm, eqb-true}
use Rattle.std.specs.List.{prefix_len}
use Rattle.sve_lex.specs.Longest.{Form, after, longest, or_here}
use Rattle.sve_lex.proofs.Longest.{longest_cons, longest_end, longest_same, longest_here}
use Rattle.sve_token.specs.Operators.{operators, entries_after}
use Rattle.sve_token.specs.declared.kind.Kind.{Kind}
use Rattle.sve_token.specs.declared.kind.Kind.TheVariants.{Based}
use Rattle.sve_bytes.specs.Bytes.{is_white_space}
use Rattle.sve_lex.specs.Bytes.{begins_number, continues_number, lower}
use Rattle.sve_lex.specs.Classes.{run, constant, digits, based, as_lexeme, operator, listed}
use Rattle.sve_lex.specs.Shift.{further}
use Rattle.sve_lex.specs.declared.class.Class.{Class}
use Rattle.sve_lex.specs.declared.class.Class.TheVariants.{Lexeme}
use Rattle.sve_lex.proofs.Runs.{bit, run_longest}
use Rattle.sve_lex.proofs.Tables.{after_first}

abbrev pub as_found : Option (Kind × ℕ) → Option (Class × ℕ)
as_found None = None
as_found (Some (kind, n)) = Some (Lexeme kind, n)

or_here_found : (r : Option (Kind × ℕ)) (here : Option Kind) → or_here (as_found r) (as_lexeme here) ≡ as_found (or_here r here)
or_here_found None None = refl
or_here_found None (Some kind) = refl
or_here_found (Some (kind, n)) here = refl

pub longest_tokens : (cs : List ℕ) (f : Form Kind) → longest cs (λ s rest. as_lexeme (f s rest)) ≡ as_found (longest cs f)
longest_tokens [] f = longest_end (λ s rest. as_lexeme (f s rest)) ∙ or_here_found None (f [] []) ∙ ap as_found (sym (longest_end f))
longest_tokens (c ∷ cs) f =
    longest_cons c cs (λ s rest. as_lexeme (f s rest)) ∙ ap (λ r. or_here r (as_lexeme (f [] (c ∷ cs)))) (longest_tokens cs (after c f))
    ∙ or_here_found (longest cs (after c f)) (f [] (c ∷ cs)) ∙ ap as_found (sym (longest_cons c cs f))

pub operator_longest : (b : ℕ) (cs : List ℕ) → longest cs (operator b) ≡ as_found (longest cs (listed (entries_after b operators)))
unfolding operator
operator_longest b cs =
    longest_same cs (operator b) (λ s rest. as_lexeme (listed (entries_after b operators) s rest)) (λ s rest e. ap as_lexeme (after_first operators b s))
    ∙ longest_tokens cs (listed (entries_after b operators))

-- white space is passed, and then the first digit decides
digits_space : (base c : ℕ) (cs : List ℕ) → is_white_space c ≡ true → longest (c ∷ cs) (digits base) ≡ or_here (longest cs (digits base)) None
digits_space base c cs e = longest_cons c cs (digits base) ∙ ap (λ r. or_here r None) (longest_same cs (after c (digits base)) (digits base) (λ s rest g. rw e refl))

digits_first : (base c : ℕ) (cs : List ℕ) → is_white_space c ≡ false → begins_number base c ≡ true → longest (c ∷ cs) (digits base) ≡ Some (Lexeme Based, prefix_len (continues_number base c) cs + 1)
digits_first base c cs e f =
    longest_cons c cs (digits base)
    ∙ ap (λ r. or_here r None) (longest_same cs (after c (digits base)) (run (continues_number base c) (constant (Lexeme Based))) (λ s rest g. rw (e, f) refl) ∙ run_longest (continues_number base c) (constant (Lexeme Based)) cs)

digits_other : (base c : ℕ) (cs : List ℕ) → is_white_space c ≡ false → begins_number base c ≡ false → longest (c ∷ cs) (digits base) ≡ None
digits_other base c cs e f = longest_here c cs (digits base) (λ s rest g. rw (e, f) refl)

-- n bytes of white space, and then the end, another byte, or a digit
pub digits_end : (base : ℕ) (cs : List ℕ) → prefix_len is_white_space cs ≡ length cs → longest cs (digits base) ≡ None
digits_end base [] h = longest_end (digits base)
digits_end base (c ∷ cs) h = elim (bit (is_white_space c)) [
  | inl e ↦
      let x : prefix_len is_white_space (c ∷ cs) ≡ 1 + prefix_len is_white_space cs = rw e refl in
      let y : prefix_len is_white_space cs ≡ length cs = omega (arith, x, h) in
      digits_space base c cs e ∙ ap (λ r. or_here r None) (digits_end base cs y)
  | inr e ↦ absurd (let x : prefix_len is_white_space (c ∷ cs) ≡ 0 = rw e refl in omega (arith, x, h))
]

pub digits_no : (base : ℕ) (cs : List ℕ) (n : ℕ) → n ≡ prefix_len is_white_space cs → n < length cs → begins_number base (get_or cs n 0) ≡ false → longest cs (digits base) ≡ None
digits_no base [] n z h f = absurd (omega arith)
digits_no base (c ∷ cs) zero z h f = elim (bit (is_white_space c)) [
  | inl e ↦ absurd (let x : prefix_len is_white_space (c ∷ cs) ≡ 1 + prefix_len is_white_space cs = rw e refl in omega (arith, x, z))
  | inr e ↦ digits_other base c cs e f
]
digits_no base (c ∷ cs) (suc n) z h f = elim (bit (is_white_space c)) [
  | inl e ↦
      let x : prefix_len is_white_space (c ∷ cs) ≡ 1 + prefix_len is_white_space cs = rw e refl in
      let y : n ≡ prefix_len is_white_space cs = omega (arith, x, z) in
      digits_space base c cs e ∙ ap (λ r. or_here r None) (digits_no base cs n y (omega arith) f)
  | inr e ↦ absurd (let x : prefix_len is_white_space (c ∷ cs) ≡ 0 = rw e refl in omega (arith, x, z))
]

drop_on : (n c : ℕ) (cs : List ℕ) → drop (suc n + 1) (c ∷ cs) ≡ drop (n + 1) cs
drop_on n c cs = let e : suc n + 1 ≡ suc (n + 1) = omega arith in ap (λ k. drop k (c ∷ cs)) e

pub digits_yes : (base : ℕ) (cs : List ℕ) (n : ℕ) → n ≡ prefix_len is_white_space cs → n < length cs → begins_number base (get_or cs n 0) ≡ true → longest cs (digits base) ≡ Some (Lexeme Based, n + 1 + prefix_len (continues_number base (get_or cs n 0)) (drop (n + 1) cs))
digits_yes base [] n z h f = absurd (omega arith)
digits_yes base (c ∷ cs) zero z h f = elim (bit (is_white_space c)) [
  | inl e ↦ absurd (let x : prefix_len is_white_space (c ∷ cs) ≡ 1 + prefix_len is_white_space cs = rw e refl in omega (arith, x, z))
  | inr e ↦ digits_first base c cs e f ∙ ap (λ m. Some (Lexeme Based, m)) (add_comm (prefix_len (continues_number base c) cs) 1)
]
digits_yes base (c ∷ cs) (suc n) z h f = elim (bit (is_white_space c)) [
  | inl e ↦
      let x : prefix_len is_white_space (c ∷ cs) ≡ 1 + prefix_len is_white_space cs = rw e refl in
      let y : n ≡ prefix_len is_white_space cs = omega (arith, x, z) in
      let d : drop (suc n + 1) (c ∷ cs) ≡ drop (n + 1) cs = drop_on n c cs in
      digits_space base c cs e ∙ ap (λ r. or_here r None) (digits_yes base cs n y (omega arith) f)
      ∙ ap (λ m. Some (Lexeme Based, m)) (let p : n + 1 + prefix_len (continues_number base (get_or cs n 0)) (drop (n + 1) cs) + 1 ≡ suc n + 1 + prefix_len (continues_number base (get_or cs n 0)) (drop (n + 1) cs) = omega arith in p)
      ∙ ap (λ t. Some (Lexeme Based, suc n + 1 + prefix_len (continues_number base (get_or cs n 0)) t)) (sym d)
  | inr e ↦ absurd (let x : prefix_len is_white_space (c ∷ cs) ≡ 0 = rw e refl in omega (arith, x, z))
]

or_here_further : (r : Option (Class × ℕ)) → or_here r None ≡ further 1 r
or_here_further None = refl
or_here_further (Some (w, n)) = ap (λ m. Some (w, m)) (add_comm n 1)

pub based_longest : (c : ℕ) (cs : List ℕ) → longest (c ∷ cs) based ≡ further 1 (longest cs (digits (lower c)))
unfolding based
based_longest c cs = longest_cons c cs based ∙ or_here_further (longest cs (digits (lower c)))

pub based_next : (cs : List ℕ) → 0 < length cs → longest cs based ≡ further 1 (longest (drop 1 cs) (digits (lower (get_or cs 0 0))))
based_next [] h = absurd (omega arith)
based_next (c ∷ cs) h = based_longest c cs

pub based_end : (cs : List ℕ) → nat_eq (length cs) 0 ≡ true → longest cs based ≡ None
unfolding based
based_end [] h = longest_end based
based_end (c ∷ cs) h = absurd (let e : length (c ∷ cs) ≡ 0 = eqb-true _ _ h in omega (arith, e))

pub filled_if : (cs : List ℕ) {b : Bool} → b ≡ nat_eq (length cs) 0 → b ≡ false → 0 < length cs
filled_if [] e f = let x : true ≡ false = sym e ∙ f in cc
filled_if (c ∷ cs) e f = omega arith
