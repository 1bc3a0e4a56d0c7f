-- Strings, comments and attributes, byte by byte.
use Rattle.std.proofs.Common.{◌≡◌, ℕ, ◌+◌, ◌<◌, List, [], ◌∷◌, length, drop, get_or, Option, Some, None, Bool, true, false, cond, ◌&&◌, nat_eq, refl, sym, ap, ◌∙◌, arith, add-one, add-zero, zero-add, eq-eqb, ne_eqb}
use Rattle.std.proofs.Math.Seq.{drop-cons}
use Rattle.std.proofs.lemmas.List.{drop_all}
use Rattle.sve_lex.specs.Longest.{after, longest, or_here}
use Rattle.sve_lex.proofs.Longest.{longest_cons, longest_end, longest_same, longest_here}
use Rattle.sve_token.specs.declared.kind.Kind.TheVariants.{Text, Bad}
use Rattle.sve_lex.specs.Classes.{string, closes, when, is_empty}
use Rattle.sve_lex.specs.Shift.{further}
use Rattle.sve_lex.specs.declared.class.Class.{Class}
use Rattle.sve_lex.specs.declared.class.Class.TheVariants.{Separator, Lexeme}

pub further_zero : (r : Option (Class × ℕ)) → further 0 r ≡ r
further_zero None = refl
further_zero (Some (w, n)) = ap (λ m. Some (w, m)) (zero-add n)

pub further_more : (i : ℕ) (r : Option (Class × ℕ)) → further i (or_here r None) ≡ further (i + 1) r
further_more i None = refl
further_more i (Some (w, n)) = let e : i + (n + 1) ≡ i + 1 + n = omega arith in ap (λ m. Some (w, m)) e

-- a form that takes no byte
pub longest_empty : (w : Class) (cs : List ℕ) → longest cs (λ s rest. when (is_empty s) w) ≡ Some (w, 0)
longest_empty w [] = longest_end (λ s rest. when (is_empty s) w)
longest_empty w (c ∷ cs) = longest_here c cs (λ s rest. when (is_empty s) w) (λ s rest e. refl)

pub string_end : (escaped : Bool) → longest [] (string escaped) ≡ Some (Lexeme Bad, 0)
string_end true = longest_end (string true)
string_end false = longest_end (string false)

pub string_escaped : (c : ℕ) (cs : List ℕ) → longest (c ∷ cs) (string true) ≡ or_here (longest cs (string false)) None
string_escaped c cs = longest_cons c cs (string true)

pub string_quote : (c : ℕ) (cs : List ℕ) → c ≡ 34 → longest (c ∷ cs) (string false) ≡ Some (Lexeme Text, 1)
string_quote c cs e = rw e (longest_cons 34 cs (string false) ∙ ap (λ r. or_here r None) (longest_empty (Lexeme Text) cs))

pub string_feed : (c : ℕ) (cs : List ℕ) → c ≡ 10 → longest (c ∷ cs) (string false) ≡ Some (Lexeme Bad, 0)
string_feed c cs e = rw e (longest_here 10 cs (string false) (λ s rest g. refl))

pub string_byte : (c : ℕ) (cs : List ℕ) → nat_eq c 34 ≡ false → nat_eq c 10 ≡ false → longest (c ∷ cs) (string false) ≡ or_here (longest cs (string (nat_eq c 92))) None
string_byte c cs e f =
    longest_cons c cs (string false)
    ∙ ap (or_here (longest cs (after c (string false)))) (rw f refl)
    ∙ ap (λ r. or_here r None) (longest_same cs (after c (string false)) (string (nat_eq c 92)) (λ s rest g. by_test (nat_eq c 92) s rest (string_goes c s rest e f)))
  where
    string_goes : (c : ℕ) (s rest : List ℕ) → nat_eq c 34 ≡ false → nat_eq c 10 ≡ false → string false (c ∷ s) rest ≡ cond (nat_eq c 92) (string true s rest) (string false s rest)
    string_goes c s rest e f = rw (e, f) refl

    by_test : (b : Bool) (s rest : List ℕ) {x : Option Class} → x ≡ cond b (string true s rest) (string false s rest) → x ≡ string b s rest
    by_test true s rest e = e
    by_test false s rest e = e

-- what the scanner of strings keeps, and each way out of it
pub string_at_quote : (cs : List ℕ) (i : ℕ) → i < length cs → further i (longest (drop i cs) (string false)) ≡ longest cs (string false) → get_or cs i 0 ≡ 34 → Some (Lexeme Text, i + 1) ≡ longest cs (string false)
string_at_quote cs i l same h =
    sym (ap (λ t. further i (longest t (string false))) (drop-cons cs i 0 l) ∙ ap (further i) (string_quote _ _ h)) ∙ same

pub string_at_feed : (cs : List ℕ) (i : ℕ) → i < length cs → further i (longest (drop i cs) (string false)) ≡ longest cs (string false) → get_or cs i 0 ≡ 10 → Some (Lexeme Bad, i) ≡ longest cs (string false)
string_at_feed cs i l same h =
    ap (λ n. Some (Lexeme Bad, n)) (sym (add-zero i)) ∙ sym (ap (λ t. further i (longest t (string false))) (drop-cons cs i 0 l) ∙ ap (further i) (string_feed _ _ h)) ∙ same

pub string_at_end : (cs : List ℕ) (i : ℕ) (escaped : Bool) → i ≡ length cs → further i (longest (drop i cs) (string escaped)) ≡ longest cs (string false) → Some (Lexeme Bad, length cs) ≡ longest cs (string false)
string_at_end cs i escaped h same =
    ap (λ n. Some (Lexeme Bad, n)) (sym h ∙ sym (add-zero i)) ∙ sym (ap (λ t. further i (longest t (string escaped))) (drop_all i cs (omega arith)) ∙ ap (further i) (string_end escaped)) ∙ same

pub string_on_escaped : (cs : List ℕ) (i : ℕ) → i < length cs → further i (longest (drop i cs) (string true)) ≡ longest cs (string false) → further (i + 1) (longest (drop (i + 1) cs) (string false)) ≡ longest cs (string false)
string_on_escaped cs i l same =
    sym (ap (λ t. further i (longest t (string true))) (drop-cons cs i 0 l) ∙ ap (further i) (string_escaped _ _) ∙ further_more i _ ∙ ap (λ k. further (i + 1) (longest (drop k cs) (string false))) (sym (add-one i))) ∙ same

pub string_on_byte : (cs : List ℕ) (i : ℕ) → i < length cs → further i (longest (drop i cs) (string false)) ≡ longest cs (string false) → nat_eq (get_or cs i 0) 34 ≡ false → nat_eq (get_or cs i 0) 10 ≡ false → further (i + 1) (longest (drop (i + 1) cs) (string (nat_eq (get_or cs i 0) 92))) ≡ longest cs (string false)
string_on_byte cs i l same e f =
    sym (ap (λ t. further i (longest t (string false))) (drop-cons cs i 0 l) ∙ ap (further i) (string_byte _ _ e f) ∙ further_more i _ ∙ ap (λ k. further (i + 1) (longest (drop k cs) (string (nat_eq (get_or cs i 0) 92)))) (sym (add-one i))) ∙ same

pub closes_end : (close : ℕ) (star : Bool) → longest [] (closes close star) ≡ Some (Lexeme Bad, 0)
closes_end close star = longest_end (closes close star)

pub closes_close : (close : ℕ) (star : Bool) (c : ℕ) (cs : List ℕ) → star ≡ true → c ≡ close → longest (c ∷ cs) (closes close star) ≡ Some (Separator, 1)
closes_close close star c cs e h =
    let t : (star && nat_eq c close) ≡ true = rw (e, h) (eq-eqb close close refl) in
    longest_cons c cs (closes close star)
    ∙ ap (λ r. or_here r None) (longest_same cs (after c (closes close star)) (λ s rest. when (is_empty s) Separator) (λ s rest g. rw t refl) ∙ longest_empty Separator cs)

pub closes_byte : (close : ℕ) (star : Bool) (c : ℕ) (cs : List ℕ) → (star && nat_eq c close) ≡ false → longest (c ∷ cs) (closes close star) ≡ or_here (longest cs (closes close (nat_eq c 42))) None
closes_byte close star c cs t =
    longest_cons c cs (closes close star)
    ∙ ap (λ r. or_here r None) (longest_same cs (after c (closes close star)) (closes close (nat_eq c 42)) (λ s rest g. rw t refl))

-- and of comments and attributes
pub closes_at_close : (close : ℕ) (star : Bool) (cs : List ℕ) (i : ℕ) → i < length cs → further i (longest (drop i cs) (closes close star)) ≡ longest cs (closes close false) → star ≡ true → get_or cs i 0 ≡ close → Some (Separator, i + 1) ≡ longest cs (closes close false)
closes_at_close close star cs i l same e h =
    sym (ap (λ t. further i (longest t (closes close star))) (drop-cons cs i 0 l) ∙ ap (further i) (closes_close close star _ _ e h)) ∙ same

pub closes_at_end : (close : ℕ) (star : Bool) (cs : List ℕ) (i : ℕ) → i ≡ length cs → further i (longest (drop i cs) (closes close star)) ≡ longest cs (closes close false) → Some (Lexeme Bad, length cs) ≡ longest cs (closes close false)
closes_at_end close star cs i h same =
    ap (λ n. Some (Lexeme Bad, n)) (sym h ∙ sym (add-zero i)) ∙ sym (ap (λ t. further i (longest t (closes close star))) (drop_all i cs (omega arith)) ∙ ap (further i) (closes_end close star)) ∙ same

pub closes_on : (close : ℕ) (star : Bool) (cs : List ℕ) (i : ℕ) → i < length cs → further i (longest (drop i cs) (closes close star)) ≡ longest cs (closes close false) → (star && nat_eq (get_or cs i 0) close) ≡ false → further (i + 1) (longest (drop (i + 1) cs) (closes close (nat_eq (get_or cs i 0) 42))) ≡ longest cs (closes close false)
closes_on close star cs i l same t =
    sym (ap (λ t. further i (longest t (closes close star))) (drop-cons cs i 0 l) ∙ ap (further i) (closes_byte close star _ _ t) ∙ further_more i _ ∙ ap (λ k. further (i + 1) (longest (drop k cs) (closes close (nat_eq (get_or cs i 0) 42)))) (sym (add-one i))) ∙ same

pub both_no : (star : Bool) (c close : ℕ) → (c ≡ close → ⊥) → (star && nat_eq c close) ≡ false
both_no true c close h = ne_eqb c close h
both_no false c close h = refl

pub first_no : (star : Bool) (c close : ℕ) → star ≡ false → (star && nat_eq c close) ≡ false
first_no star c close h = rw h refl
