-- A part of a run is a part of what the run lies in.
use Rattle.std.proofs.Common.{◌≡◌, ◌≤◌, ℕ, ◌+◌, ◌-◌, min, List, length, take, drop, ap, sym, ◌∙◌, arith, length-take, take-take, drop-drop}
use Rattle.std.proofs.lemmas.List.{drop-take}

pub part_of_run : (start n from to : ℕ) (held : List ℕ) → from ≤ to → to ≤ length (take n (drop start held)) → take (to - from) (drop (start + from) held) ≡ take (to - from) (drop from (take n (drop start held)))
part_of_run start n from to held order within =
    let most : length (take n (drop start held)) ≡ min n (length (drop start held)) = length-take n (drop start held) in
    let fits : to ≤ n = omega arith in
    let is : n ≡ from + (n - from) = omega arith in
    let behind : drop from (take n (drop start held)) ≡ take (n - from) (drop from (drop start held)) = ap (λ n. drop from (take n (drop start held))) is ∙ drop-take from (n - from) (drop start held) in
    sym (ap (take (to - from)) behind ∙ take-take (to - from) (n - from) (drop from (drop start held)) (omega arith) ∙ ap (take (to - from)) (drop-drop from start held))
