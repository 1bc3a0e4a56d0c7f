use Rattle.std.proofs.Common.{◌≡◌, ◌∙◌, ◌∷◌, ◌++◌, [], rules, arith, sym, ap, length, true}
use Rattle.std.specs.Char.{is_ascii_graphic}
use Rattle.std.proofs.lemmas.Bool.{false≢true, eqb-true, eqb-false}
use Rattle.std.proofs.lemmas.List.{length_push}
use Rattle.sve_bytes.proofs.StageNames.{escaped_too_long, escaped_stops, escaped_is_step}
use Rattle.sve_bytes.proofs.TextSplits.{all_and_one}
use Rattle.sve_bytes.proofs.path_reading.after_escaped.Goals as goal
use Rattle.sve_bytes.proofs.path_reading.after_escaped.Goals.{else-byte-eq32-via-then-byte-eq32+else-not-is_empty, else-byte-eq32-via-else-byte-eq32}

pub returns-then-name-eq-MAX_NAME_LEN : goal.returns-then-name-eq-MAX_NAME_LEN
returns-then-name-eq-MAX_NAME_LEN c =
    let texts : c.in-Some.field-0-0.now ∷ c.in-Some.name.now ≡ 92 ∷ c.requires.0 = sym c.in-Some.ensures.cases.0 ∙ c.requires.1 in
    let same : c.in-Some.name.now ≡ c.requires.0 = cc in
    rw c.requires.1 (escaped_too_long c.requires.0 c.args.byte c.requires.2 (search rules) (sym (ap length same) ∙ c.if-name-eq-MAX_NAME_LEN.true))

pub returns-then-is_ascii_graphic : goal.returns-then-is_ascii_graphic
returns-then-is_ascii_graphic c =
    let texts : c.in-Some.field-0-0.now ∷ c.in-Some.name.now ≡ 92 ∷ c.requires.0 = sym c.in-Some.ensures.cases.0 ∙ c.requires.1 in
    let same : c.in-Some.name.now ≡ c.requires.0 = cc in
    let graphic : is_ascii_graphic c.args.byte ≡ true = search rules in
    (c.requires.0 ++ c.args.byte ∷ [], ap (λ x. x ++ c.args.byte ∷ []) c.requires.1, all_and_one is_ascii_graphic c.requires.0 c.args.byte c.requires.2 graphic, omega (arith, length_push c.requires.0 c.args.byte, ap length same, c.requires.3, c.if-name-eq-MAX_NAME_LEN.false))

pub returns-then-not-is_empty : goal.returns-then-not-is_empty
returns-then-not-is_empty c =
    let texts : c.in-Some.field-0-0.now ∷ c.in-Some.name.now ≡ 92 ∷ c.requires.0 = sym c.in-Some.ensures.cases.0 ∙ c.requires.1 in
    let same : c.in-Some.name.now ≡ c.requires.0 = cc in
    let some : length c.in-Some.name.now ≡ 0 → ⊥ = eqb-false (length c.in-Some.name.now) 0 (sym c.is_empty.ensures ∙ c.if-not-is_empty.true) in
    rw (c.requires.1, c.if-byte-eq32.true, same)
    (escaped_is_step c.requires.0 c.requires.2 (omega (arith, some, ap length same)) c.requires.3, λ form. false≢true form)

pub returns : goal.returns
returns c =
    let texts : c.in-Some.field-0-0.now ∷ c.in-Some.name.now ≡ 92 ∷ c.requires.0 = sym c.in-Some.ensures.cases.0 ∙ c.requires.1 in
    let same : c.in-Some.name.now ≡ c.requires.0 = cc in
    rw c.requires.1
    (escaped_stops c.requires.0 c.args.byte c.requires.2 (search rules)
    (elim c.else-byte-eq32.branch [
      | else-byte-eq32-via-then-byte-eq32+else-not-is_empty w ↦ λ _. sym (ap length same) ∙ eqb-true (length c.in-Some.name.now) 0 (sym w.is_empty.ensures ∙ w.if-not-is_empty.false)
      | else-byte-eq32-via-else-byte-eq32 w ↦ λ space. absurd (w.if-byte-eq32.false space)
    ]))
