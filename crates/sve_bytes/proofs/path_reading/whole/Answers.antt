use Rattle.std.proofs.Common.{[], ◌∷◌, inl, inr, refl, rules}
use Rattle.sve_bytes.specs.PathStages.{digits_text}
use Rattle.sve_bytes.proofs.StageNames.{simple_is_step, escaped_is_no_step, nothing_is_no_step}
use Rattle.sve_bytes.proofs.StageIndices.{open_is_no_step, digits_text_in_number}
use Rattle.sve_bytes.proofs.path_reading.whole.Goals as goal

pub returns-else-is_keyword : goal.returns-else-is_keyword
returns-else-is_keyword c =
    let simple = rw c.in-Simple.is at c.requires in
    simple_is_step c.args.so_far.now simple.0 (search rules) simple.1

pub returns-in-Before : goal.returns-in-Before
returns-in-Before c =
    elim c.in-Before.is [
      | inl a ↦ let empty = rw a at c.requires in λ s h. nothing_is_no_step s (rw empty at h)
      | inr r ↦ elim r [
        | inl a ↦ let escaped = rw a at c.requires in λ s h. escaped_is_no_step escaped.0 s escaped.2 (rw escaped.1 at h)
        | inr q ↦ elim q [
          | inl a ↦ let open_at = rw a.1 at c.requires in λ s h. open_is_no_step c.args.so_far.now a.0.now [] s open_at refl h
          | inr p ↦ elim p [
            | inl a ↦ let minus = rw a.1 at c.requires in λ s h. open_is_no_step c.args.so_far.now a.0.now (45 ∷ []) s minus refl h
            | inr a ↦
                let digits = rw a.3 at c.requires in
                λ s h. open_is_no_step c.args.so_far.now a.0.now (digits_text a.1 a.2) s digits.1 (digits_text_in_number a.1 a.2 digits.0) h
          ]
        ]
      ]
    ]
