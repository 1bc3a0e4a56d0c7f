-- How many bytes the lexer takes of strings, comments and escaped identifiers.
use Rattle.std.proofs.Common.{◌≡◌, ℕ, zero, suc, ◌+◌, ◌<◌, List, [], ◌∷◌, length, drop, Option, Some, None, Bool, true, false, cond, ◌&&◌, nat_eq, eqb-true, ne_eqb, refl, sym, ap, ◌∙◌, arith, ◌⊎◌, inl, inr}
use Rattle.std.specs.List.{prefix_len}
use Rattle.sve_token.specs.declared.kind.Kind.TheVariants.{Text, Bad, Slash}
use Rattle.sve_macro.specs.Literals.{string_rest, escaped_rest, blank_length}
use Rattle.sve_macro.specs.Lexemes.{lexeme_rest}
use Rattle.sve_directive.specs.Pieces.{comment_rest, piece_length}
use Rattle.sve_lex.specs.Bytes.{is_in_line, is_printable}
use Rattle.sve_lex.specs.Longest.{longest, or_here}
use Rattle.sve_lex.specs.Classes.{string, closes, run, filled_run, constant, escaped_class, slash, begins, piece_of}
use Rattle.sve_lex.specs.declared.class.Class.{Class}
use Rattle.sve_lex.specs.declared.class.Class.TheVariants.{Separator, Lexeme}
use Rattle.sve_lex.proofs.Pieces.{piece_begun}
use Rattle.sve_lex.proofs.Runs.{bit, run_longest, filled_no, filled_yes}
use Rattle.sve_lex.proofs.Strings.{string_end, string_escaped, string_quote, string_feed, string_byte, closes_end, closes_close, closes_byte}
use Rattle.sve_lex.proofs.Dispatch.{slash_line, slash_block}
use Rattle.sve_pieces.specs.SamePieces.{SameStrings, SameComments, SameIdentifiers}

-- something of so many bytes is found
abbrev Finds : Option (Class × ℕ) → ℕ → Type 0
Finds found n = (w : Class) × (found ≡ Some (w, n))

finds : (w : Class) (found : Option (Class × ℕ)) (m n : ℕ) → found ≡ Some (w, m) → m ≡ n → Finds found n
finds w found m n e h = (w, e ∙ ap (λ (k : ℕ). Some (w, k)) h)

-- what is found one byte further on
further_on : (inner outer : Option (Class × ℕ)) (n : ℕ) (here : Option Class) → Finds inner n → outer ≡ or_here inner here → Finds outer (1 + n)
further_on inner outer n here p e = finds p.0 outer (n + 1) (1 + n) (e ∙ ap (λ (r : Option (Class × ℕ)). or_here r here) p.1) (omega arith)

sized : (n m : ℕ) (found : Option (Class × ℕ)) → Finds found n → n ≡ m → Finds found m
sized n m found p e = finds p.0 found n m p.1 e

rest_quote : (c : ℕ) (cs : List ℕ) → nat_eq c 34 ≡ true → 1 ≡ string_rest false (c ∷ cs)
rest_quote c cs e = rw e refl

rest_feed : (c : ℕ) (cs : List ℕ) → nat_eq c 34 ≡ false → nat_eq c 10 ≡ true → 0 ≡ string_rest false (c ∷ cs)
rest_feed c cs e f = rw (e, f) refl

rest_byte : (c : ℕ) (cs : List ℕ) → nat_eq c 34 ≡ false → nat_eq c 10 ≡ false → 1 + string_rest (nat_eq c 92) cs ≡ string_rest false (c ∷ cs)
rest_byte c cs e f = rw (e, f) refl

string_found : (taken : Bool) (cs : List ℕ) → Finds (longest cs (string taken)) (string_rest taken cs)
string_found taken [] = (Lexeme Bad, string_end taken)
string_found true (c ∷ cs) = further_on _ _ _ None (string_found false cs) (string_escaped c cs)
string_found false (c ∷ cs) = elim (bit (nat_eq c 34)) [
  | inl e ↦ finds (Lexeme Text) _ 1 _ (string_quote c cs (eqb-true c 34 e)) (rest_quote c cs e)
  | inr e ↦ elim (bit (nat_eq c 10)) [
    | inl f ↦ finds (Lexeme Bad) _ 0 _ (string_feed c cs (eqb-true c 10 f)) (rest_feed c cs e f)
    | inr f ↦ sized _ _ _ (further_on _ _ _ None (string_found (nat_eq c 92) cs) (string_byte c cs e f)) (rest_byte c cs e f)
  ]
]

comment_close : (c : ℕ) (cs : List ℕ) → nat_eq c 47 ≡ true → 1 ≡ comment_rest true (c ∷ cs)
comment_close c cs e = rw e refl

comment_byte : (c : ℕ) (cs : List ℕ) → nat_eq c 47 ≡ false → 1 + comment_rest (nat_eq c 42) cs ≡ comment_rest true (c ∷ cs)
comment_byte c cs e = rw e refl

comment_found : (star : Bool) (cs : List ℕ) → Finds (longest cs (closes 47 star)) (comment_rest star cs)
comment_found star [] = (Lexeme Bad, closes_end 47 star)
comment_found false (c ∷ cs) = further_on _ _ _ None (comment_found (nat_eq c 42) cs) (closes_byte 47 false c cs refl)
comment_found true (c ∷ cs) = elim (bit (nat_eq c 47)) [
  | inl e ↦ finds Separator _ 1 _ (closes_close 47 true c cs refl (eqb-true c 47 e)) (comment_close c cs e)
  | inr e ↦ sized _ _ _ (further_on _ _ _ None (comment_found (nat_eq c 42) cs) (closes_byte 47 true c cs e)) (comment_byte c cs e)
]

-- the piece is what begins with its first byte
lexed : (c : ℕ) (cs : List ℕ) (n : ℕ) → Finds (longest cs (begins c)) n → (piece_of (c ∷ cs)).1 ≡ 1 + n
lexed c cs n p = ap (λ (x : Class × ℕ). x.1) (piece_begun (c ∷ cs) (Some (p.0, n)) (omega arith) (sym p.1)) ∙ (omega arith)

lexed_alone : (c : ℕ) (cs : List ℕ) → longest cs (begins c) ≡ None → (piece_of (c ∷ cs)).1 ≡ 1
lexed_alone c cs e = ap (λ (x : Class × ℕ). x.1) (piece_begun (c ∷ cs) None (omega arith) (sym e))

begins_string : begins 34 ≡ string false
unfolding begins
begins_string = refl

begins_slash : begins 47 ≡ slash
unfolding begins
begins_slash = refl

begins_escaped : begins 92 ≡ filled_run is_printable escaped_class
unfolding begins
begins_escaped = refl

lexed_string : (cs : List ℕ) → (piece_of (34 ∷ cs)).1 ≡ 1 + string_rest false cs
lexed_string cs = lexed 34 cs (string_rest false cs) (rw begins_string (string_found false cs))

pub same_strings : SameStrings
same_strings cs = (sym (lexed_string cs), sym (lexed_string cs))

line_found : (cs : List ℕ) → Finds (longest (47 ∷ cs) slash) (1 + prefix_len is_in_line cs)
line_found cs = further_on (longest cs (run is_in_line (constant Separator))) _ _ (Some (Lexeme Slash)) (Separator, run_longest is_in_line (constant Separator) cs) (slash_line (47 ∷ cs) (omega arith) refl)

block_found : (cs : List ℕ) → Finds (longest (42 ∷ cs) slash) (1 + comment_rest false cs)
block_found cs = further_on (longest cs (closes 47 false)) _ _ (Some (Lexeme Slash)) (comment_found false cs) (slash_block (42 ∷ cs) (omega arith) refl)

pub same_comments : SameComments
same_comments second cs (inl e) = rw e (sym (lexed 47 (47 ∷ cs) _ (rw begins_slash (line_found cs))))
same_comments second cs (inr e) = rw e (sym (lexed 47 (42 ∷ cs) _ (rw begins_slash (block_found cs))))

-- what is taken of an escaped identifier whose bytes behind the backslash are so many
escaped_none : (cs : List ℕ) → prefix_len is_printable cs ≡ 0 → escaped_rest cs ≡ 0
escaped_none cs e = rw e refl

escaped_some : (cs : List ℕ) → (prefix_len is_printable cs ≡ 0 → ⊥) → escaped_rest cs ≡ prefix_len is_printable cs + blank_length (drop (prefix_len is_printable cs) cs)
escaped_some cs z = let e : nat_eq (prefix_len is_printable cs) 0 ≡ false = ne_eqb _ _ z in rw e refl

lexed_escaped : (cs : List ℕ) → (prefix_len is_printable cs ≡ 0 → ⊥) → (piece_of (92 ∷ cs)).1 ≡ 1 + prefix_len is_printable cs
lexed_escaped cs z = lexed 92 cs _ (rw begins_escaped (finds _ _ _ _ (filled_yes is_printable escaped_class cs z) refl))

lexed_backslash : (cs : List ℕ) → prefix_len is_printable cs ≡ 0 → (piece_of (92 ∷ cs)).1 ≡ 1
lexed_backslash cs e = lexed_alone 92 cs (rw begins_escaped (filled_no is_printable escaped_class cs e))

taken_alone : (cs : List ℕ) (n : ℕ) → n ≡ 1 → 1 ≡ cond (nat_eq n 1) 1 (n + blank_length (drop n (92 ∷ cs)))
taken_alone cs n e = rw e refl

taken_whole : (cs : List ℕ) (k n : ℕ) → n ≡ 1 + k → (k ≡ 0 → ⊥) → 1 + (k + blank_length (drop k cs)) ≡ cond (nat_eq n 1) 1 (n + blank_length (drop n (92 ∷ cs)))
taken_whole cs k n e z =
    let f : nat_eq n 1 ≡ false = ne_eqb n 1 (λ h. z (omega (arith, h, e))) in
    let g : n ≡ suc k = omega (arith, e) in
    let h : cond (nat_eq n 1) 1 (n + blank_length (drop n (92 ∷ cs))) ≡ suc k + blank_length (drop k cs) = rw f (rw g refl) in
    let j : 1 + (k + blank_length (drop k cs)) ≡ suc k + blank_length (drop k cs) = omega arith in
    j ∙ sym h

is_zero : (n : ℕ) → (n ≡ 0) ⊎ (n ≡ 0 → ⊥)
is_zero zero = inl refl
is_zero (suc n) = inr (λ e. cc)

escaped : (cs : List ℕ) → 1 + escaped_rest cs ≡ cond (nat_eq (piece_of (92 ∷ cs)).1 1) 1 ((piece_of (92 ∷ cs)).1 + blank_length (drop (piece_of (92 ∷ cs)).1 (92 ∷ cs)))
escaped cs = elim (is_zero (prefix_len is_printable cs)) [
  | inl e ↦ ap (λ (k : ℕ). 1 + k) (escaped_none cs e) ∙ taken_alone cs _ (lexed_backslash cs e)
  | inr z ↦ ap (λ (k : ℕ). 1 + k) (escaped_some cs z) ∙ taken_whole cs (prefix_len is_printable cs) _ (lexed_escaped cs z) z
]

pub same_identifiers : SameIdentifiers
same_identifiers cs = (escaped cs, escaped cs)
