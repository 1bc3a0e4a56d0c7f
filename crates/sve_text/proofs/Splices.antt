-- What a splice keeps of a text.
use Rattle.std.proofs.Common.{◌≡◌, ℕ, ◌+◌, List, ◌++◌, length, take, drop, ap, sym, ◌∙◌, arith, length-append, append_assoc}
use Rattle.std.proofs.lemmas.List.{length-take-le}
use Rattle.std.proofs.Math.Seq.{take-append_seam, drop-append_seam}
use Rattle.sve_text.specs.Laws.{SpliceChangesItsBytes}

parts : (n : ℕ) (front middle back : List ℕ) → length front ≡ n →
    (take n (front ++ middle ++ back) ≡ front)
    × (take (length middle) (drop n (front ++ middle ++ back)) ≡ middle)
    × (drop (n + length middle) (front ++ middle ++ back) ≡ back)
parts n front middle back is =
    let joined = append_assoc front middle back in
    let both : length (front ++ middle) ≡ n + length middle = length-append front middle ∙ ap (λ n. n + length middle) is in (
      ap (take n) joined ∙ ap (λ n. take n (front ++ (middle ++ back))) (sym is) ∙ take-append_seam front (middle ++ back),
      ap (λ rest. take (length middle) rest) (ap (drop n) joined ∙ ap (λ n. drop n (front ++ (middle ++ back))) (sym is) ∙ drop-append_seam front (middle ++ back))
          ∙ take-append_seam middle back,
      ap (λ n. drop n (front ++ middle ++ back)) (sym both) ∙ drop-append_seam (front ++ middle) back,
    )

pub splice_changes_its_bytes : SpliceChangesItsBytes
splice_changes_its_bytes offset cut new text within =
    parts offset (take offset text) new (drop (offset + cut) text) (length-take-le offset text (omega arith))
