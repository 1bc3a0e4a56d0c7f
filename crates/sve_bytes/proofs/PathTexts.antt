-- The text of a path grows by a step at a time.
use Rattle.std.proofs.Common.{◌≡◌, ◌∙◌, ℕ, ◌+◌, ◌<◌, List, [], ◌∷◌, ◌++◌, length, get_or, take, sym, append_assoc, arith}
use Rattle.std.proofs.lemmas.List.{append-nil, flat_map_more, take_more, nil_from_length, length-take-le}
use Rattle.sve_bytes.specs.declared.path.Step.{Step}
use Rattle.sve_bytes.specs.PathText.{step_text, path_text}

text_of_one : (s : Step) → path_text ([] ++ s ∷ []) ≡ step_text s
text_of_one s = append-nil (step_text s)

text_with_one_more : (ss : List Step) (s : Step) → 0 < length ss → (path_text ss ++ 46 ∷ []) ++ step_text s ≡ path_text (ss ++ s ∷ [])
text_with_one_more [] s h = absurd (omega arith)
text_with_one_more (t ∷ ts) s h =
    append_assoc (path_text (t ∷ ts)) (46 ∷ []) (step_text s) ∙ flat_map_more (λ u. 46 ∷ step_text u) (step_text t) ts s

pub text_first : (xs : List Step) (i : ℕ) (s : Step) → i ≡ 0 → i < length xs → s ≡ get_or xs i s → path_text (take i xs) ++ step_text s ≡ path_text (take (i + 1) xs)
text_first xs i s zero within is =
    let front : take i xs ≡ [] = nil_from_length (take i xs) (length-take-le i xs (omega arith) ∙ zero) in
    let more : take (i + 1) xs ≡ take i xs ++ get_or xs i s ∷ [] = take_more xs i s within in
    rw (more, ← is, front) (sym (text_of_one s))

pub text_next : (xs : List Step) (i : ℕ) (s : Step) → 0 < i → i < length xs → s ≡ get_or xs i s → (path_text (take i xs) ++ 46 ∷ []) ++ step_text s ≡ path_text (take (i + 1) xs)
text_next xs i s some within is =
    let long : length (take i xs) ≡ i = length-take-le i xs (omega arith) in
    let more : take (i + 1) xs ≡ take i xs ++ get_or xs i s ∷ [] = take_more xs i s within in
    rw (more, ← is) (text_with_one_more (take i xs) s (omega arith))
