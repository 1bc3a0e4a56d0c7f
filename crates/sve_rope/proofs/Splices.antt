-- Splices of a text in two parts, with bytes beside them copied, and beyond the end.
use Rattle.std.proofs.Common.{◌≡◌, ◌≤◌, ℕ, zero, suc, ◌+◌, ◌-◌, min, List, [], ◌∷◌, ◌++◌, length, take, drop, ap, sym, ◌∙◌, arith, append_assoc, drop-drop}
use Rattle.std.proofs.lemmas.List.{take-append-drop, take-append-le, take_min, drop_min}
use Rattle.std.proofs.Math.Seq.{drop-nil, drop-append-add, take-append-add, take-add}
use Rattle.sve_rope.specs.Splice.{spliced}

take_beyond : (n : ℕ) (xs ys : List ℕ) → length xs ≤ n → take n (xs ++ ys) ≡ xs ++ take (n - length xs) ys
take_beyond n xs ys le =
    let is : n ≡ length xs + (n - length xs) = omega arith in
    ap (λ n. take n (xs ++ ys)) is ∙ take-append-add xs ys (n - length xs)

pub drop_beyond : (n : ℕ) (xs ys : List ℕ) → length xs ≤ n → drop n (xs ++ ys) ≡ drop (n - length xs) ys
drop_beyond n xs ys le =
    let is : n ≡ length xs + (n - length xs) = omega arith in
    ap (λ n. drop n (xs ++ ys)) is ∙ drop-append-add xs ys (n - length xs)

drop_both : (n : ℕ) (xs ys : List ℕ) → drop n (xs ++ ys) ≡ drop n xs ++ drop (n - length xs) ys
drop_both n [] ys =
    let none : n ≡ n - 0 = omega arith in
    ap (λ m. drop m ys) none ∙ ap (λ front. front ++ drop (n - 0) ys) (sym (drop-nil n))
drop_both zero (x ∷ xs) ys =
    let none : 0 ≡ 0 - length (x ∷ xs) = omega arith in
    ap (λ m. (x ∷ xs) ++ drop m ys) none
drop_both (suc n) (x ∷ xs) ys =
    let less : n - length xs ≡ suc n - length (x ∷ xs) = omega arith in
    drop_both n xs ys ∙ ap (λ m. drop n xs ++ drop m ys) less

-- a splice that begins in the first part
pub splice_front : (a b new : List ℕ) (at cut : ℕ) → at ≤ length a → spliced at (min cut (length a - at)) new a ++ drop (cut - min cut (length a - at)) b ≡ spliced at cut new (a ++ b)
splice_front a b new at cut within =
    let near = min cut (length a - at) in
    let end : min (at + cut) (length a) ≡ at + near = omega arith in
    let left : drop (at + near) a ≡ drop (at + cut) a = ap (λ n. drop n a) (sym end) ∙ drop_min (at + cut) a in
    let far : cut - near ≡ at + cut - length a = omega arith in
    let rest : drop (at + near) a ++ drop (cut - near) b ≡ drop (at + cut) (a ++ b) =
    ap (λ xs. xs ++ drop (cut - near) b) left ∙ ap (λ n. drop (at + cut) a ++ drop n b) far ∙ sym (drop_both (at + cut) a b) in
    append_assoc (take at a ++ new) (drop (at + near) a) (drop (cut - near) b)
    ∙ ap (λ rest. take at a ++ new ++ rest) rest
    ∙ ap (λ front. front ++ new ++ drop (at + cut) (a ++ b)) (sym (take-append-le at a b within))

-- a splice that begins in the second part
pub splice_back : (a b new : List ℕ) (at cut : ℕ) → length a ≤ at → a ++ spliced (at - length a) cut new b ≡ spliced at cut new (a ++ b)
splice_back a b new at cut within =
    let k = at - length a in
    let far : k + cut ≡ at + cut - length a = omega arith in
    let rest : drop (k + cut) b ≡ drop (at + cut) (a ++ b) = ap (λ n. drop n b) far ∙ sym (drop_beyond (at + cut) a b (omega arith)) in
    sym (append_assoc a (take k b ++ new) (drop (k + cut) b))
    ∙ ap (λ xs. xs ++ drop (k + cut) b) (sym (append_assoc a (take k b) new))
    ∙ ap (λ front. front ++ new ++ drop (k + cut) b) (sym (take_beyond at a b within))
    ∙ ap (λ rest. take at (a ++ b) ++ new ++ rest) rest

-- a splice with some of the bytes on either side copied
pub splice_near : (old new : List ℕ) (from at end to : ℕ) → from ≤ at → end ≤ to → take from old ++ (take (at - from) (drop from old) ++ new ++ take (to - end) (drop end old)) ++ drop to old ≡ take at old ++ new ++ drop end old
splice_near old new from at end to before behind =
    let a = take from old in
    let b = take (at - from) (drop from old) in
    let c = take (to - end) (drop end old) in
    let d = drop to old in
    let at_is : from + (at - from) ≡ at = omega arith in
    let to_is : end + (to - end) ≡ to = omega arith in
    let front : a ++ b ≡ take at old = sym (take-add from (at - from) old) ∙ ap (λ n. take n old) at_is in
    let last : drop (to - end) (drop end old) ≡ d = drop-drop (to - end) end old ∙ ap (λ n. drop n old) to_is in
    let rest : c ++ d ≡ drop end old = ap (λ d. c ++ d) (sym last) ∙ take-append-drop (to - end) (drop end old) in
    ap (λ xs. xs ++ d) (sym (append_assoc a (b ++ new) c) ∙ ap (λ xs. xs ++ c) (sym (append_assoc a b new)))
    ∙ append_assoc (a ++ b ++ new) c d
    ∙ ap (λ rest. a ++ b ++ new ++ rest) rest
    ∙ ap (λ front. front ++ new ++ drop end old) front

-- a splice of what there is of the bytes that it cuts
pub splice_clipped : (at cut : ℕ) (new text : List ℕ) → spliced (min at (length text)) (min cut (length text - min at (length text))) new text ≡ spliced at cut new text
splice_clipped at cut new text =
    let end : min at (length text) + min cut (length text - min at (length text)) ≡ min (at + cut) (length text) = omega arith in
    ap (λ front. front ++ new ++ drop (min at (length text) + min cut (length text - min at (length text))) text) (take_min at text)
    ∙ ap (λ rest. take at text ++ new ++ rest) (ap (λ n. drop n text) end ∙ drop_min (at + cut) text)
