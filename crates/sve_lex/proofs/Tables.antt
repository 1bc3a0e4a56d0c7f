-- The longest entry of a table that begins a text.
use Rattle.std.proofs.Common.{◌≡◌, ℕ, suc, ◌+◌, ◌<◌, ◌≤◌, List, [], ◌∷◌, ◌++◌, length, take, drop, get_or, Some, None, Bool, true, false, ◌&&◌, nat_eq, nat_le, eqb-true, eq-eqb, ne_eqb, inl, inr, ◌⊎◌, IsTrue, refl, sym, ap, ◌∙◌, arith, subst, add-one}
use Rattle.std.specs.Prelude.{bytes_eq, if◌then◌else◌}
use Rattle.std.specs.Cmp.Lexicographic.{same_text}
use Rattle.std.specs.List.{starts_with}
use Rattle.std.proofs.Math.Seq.{take-append_seam, drop-cons}
use Rattle.std.proofs.lemmas.Bool.{leb-true, eqb-false}
use Rattle.sve_lex.specs.Longest.{longest}
use Rattle.sve_token.specs.Operators.{Entry, entries, entries_after, lookup, are_within, descends}
use Rattle.sve_token.specs.declared.kind.Kind.{Kind}
use Rattle.sve_token.specs.declared.operators.Operator.{Operator}
use Rattle.sve_lex.specs.Classes.{listed}
use Rattle.sve_lex.proofs.Longest.{longest_is, longest_same, longest_none}

-- every text is its own
pub text_same : (s : List ℕ) → bytes_eq s s ≡ true
text_same [] = refl
text_same (c ∷ cs) = grind (arith, text_same cs)

pub and_true : (a b : Bool) → IsTrue (a && b) → IsTrue a × IsTrue b
and_true true b h = (refl, h)
and_true false b h = cc

pub is_true : (b : Bool) → IsTrue b → b ≡ true
is_true b h = h

longer_differs : (w s : List ℕ) → length w < length s → bytes_eq w s ≡ false
longer_differs [] [] h = absurd (omega arith)
longer_differs [] (c ∷ cs) h = refl
longer_differs (d ∷ ds) [] h = absurd (omega arith)
longer_differs (d ∷ ds) (c ∷ cs) h = let l : length ds < length cs = omega arith in let r = longer_differs ds cs l in grind (arith, r)

lookup_long : (n : ℕ) (es : List Entry) (s : List ℕ) → IsTrue (are_within n es) → n < length s → lookup es s ≡ None
lookup_long n [] s p h = refl
lookup_long n (e ∷ es) s p h =
    let q = and_true (nat_le (length e.0) n) (are_within n es) p in
    let m : length e.0 ≤ n = leb-true _ _ (is_true _ q.0) in
    let l : length e.0 < length s = omega arith in
    rw (longer_differs e.0 s l) (lookup_long n es s q.1 h)

-- where the first entry begins the text, it is the longest
pub listed_front : (e : Entry) (es : List Entry) (text : List ℕ) → IsTrue (descends (e ∷ es)) → length e.0 ≤ length text → true ≡ starts_with nat_eq text e.0 → longest text (listed (e ∷ es)) ≡ Some (e.1, length e.0)
listed_front e es text p l h =
    let q = and_true (are_within (length e.0) es) (descends es) p in
    let f : e.0 ≡ take (length e.0) text = same_text _ _ h in
    longest_is (listed (e ∷ es)) text e.1 (length e.0) (record {
      within = l;
      found = rw (← f, text_same e.0) refl;
      most = λ s rest g m. rw (longer_differs e.0 s m) (lookup_long (length e.0) es s q.0 m);
    })

not_here : (b : Bool) (e : Entry) (es : List Entry) (s : List ℕ) → b ≡ bytes_eq e.0 s → (true ≡ b → ⊥) → lookup (e ∷ es) s ≡ lookup es s
not_here true e es s q h = absurd (h refl)
not_here false e es s q h = rw (← q) refl

same_starts : (w s rest : List ℕ) → w ≡ s → true ≡ starts_with nat_eq (s ++ rest) w
same_starts w s rest e = rw (e, take-append_seam s rest, text_same s) refl

-- where it does not, the others decide
pub listed_past : (e : Entry) (es : List Entry) (text : List ℕ) → false ≡ starts_with nat_eq text e.0 → longest text (listed (e ∷ es)) ≡ longest text (listed es)
listed_past e es text h =
    longest_same text (listed (e ∷ es)) (listed es) (λ s rest g. not_here (bytes_eq e.0 s) e es s refl (λ b.
    let k : true ≡ starts_with nat_eq (s ++ rest) e.0 = same_starts e.0 s rest (same_text _ _ b) in
    let m : true ≡ starts_with nat_eq text e.0 = subst (λ (t : List ℕ). true ≡ starts_with nat_eq t e.0) g k in
    let x : true ≡ false = m ∙ sym h in cc))

pub listed_none : (text : List ℕ) → longest text (listed []) ≡ None
listed_none text = longest_none text (listed []) (λ s rest e. refl)

-- the loop that looks it up
pub front_here : (table : List Operator) (i : ℕ) (d : Operator) (text : List ℕ) → i < length table → longest text (listed (entries (drop i table))) ≡ longest text (listed (entries table)) → IsTrue (descends (entries (drop i table))) → length (get_or table i d).rest.now ≤ length text → true ≡ starts_with nat_eq text (get_or table i d).rest.now → Some ((get_or table i d).kind, length (get_or table i d).rest.now) ≡ longest text (listed (entries table))
front_here table i d text l same falls m h =
    let e = drop-cons table i d l in
    sym (listed_front ((get_or table i d).rest.now, (get_or table i d).kind) (entries (drop (suc i) table)) text (rw e at falls) m h) ∙ sym (ap (λ os. longest text (listed (entries os))) e) ∙ same

pub front_on : (table : List Operator) (i : ℕ) (d : Operator) (text : List ℕ) → i < length table → longest text (listed (entries (drop i table))) ≡ longest text (listed (entries table)) → IsTrue (descends (entries (drop i table))) → false ≡ starts_with nat_eq text (get_or table i d).rest.now → (longest text (listed (entries (drop (i + 1) table))) ≡ longest text (listed (entries table))) × IsTrue (descends (entries (drop (i + 1) table)))
front_on table i d text l same falls h =
    let e = drop-cons table i d l in
    let q = and_true (are_within (length (get_or table i d).rest.now) (entries (drop (suc i) table))) (descends (entries (drop (suc i) table))) (rw e at falls) in
    rw add-one (
      sym (listed_past ((get_or table i d).rest.now, (get_or table i d).kind) (entries (drop (suc i) table)) text h) ∙ sym (ap (λ os. longest text (listed (entries os))) e) ∙ same,
      q.1,
    )

either : (b : Bool) → (b ≡ true) ⊎ (b ≡ false)
either true = inl refl
either false = inr refl

other_way : (b c : ℕ) → nat_eq b c ≡ false → nat_eq c b ≡ false
other_way b c n = ne_eqb c b (λ h. eqb-false _ _ n (sym h))

-- the entries that begin with a byte, without that byte, say the same of what comes after it
entry_here : (c : ℕ) (t : List ℕ) (kind : Kind) (es : List Entry) (b : ℕ) (s : List ℕ) → lookup es (b ∷ s) ≡ lookup (entries_after b es) s → lookup ((c ∷ t, kind) ∷ es) (b ∷ s) ≡ lookup (entries_after b ((c ∷ t, kind) ∷ es)) s
entry_here c t kind es b s e = elim (either (nat_eq b c)) [
  | inl y ↦
      let h : nat_eq c b ≡ true = eq-eqb c b (sym (eqb-true _ _ y)) in
      rw (y, h) (ap (λ x. if bytes_eq t s then Some kind else x) e)
  | inr n ↦
      let h : nat_eq c b ≡ false = other_way b c n in
      rw (n, h) e
]

pub after_first : (es : List Entry) (b : ℕ) (s : List ℕ) → lookup es (b ∷ s) ≡ lookup (entries_after b es) s
after_first [] b s = refl
after_first (([], kind) ∷ es) b s = after_first es b s
after_first ((c ∷ t, kind) ∷ es) b s = entry_here c t kind es b s (after_first es b s)
