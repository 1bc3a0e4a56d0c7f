use Rattle.std.proofs.Common.{◌≡◌, map, drop}
use Rattle.sve_bytes.specs.Keywords.{is_among}
use Rattle.sve_bytes.proofs.keyword.is_among.Given as goal

abbrev pub invariant-loop-word : goal.invariant-loop-word
invariant-loop-word l =
    is_among (map (λ w. w.text.now) (drop l.word-index l.words)) l.text ≡ is_among (map (λ w. w.text.now) l.words) l.text
