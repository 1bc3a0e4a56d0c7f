-- The actuals spell the text.
use Rattle.std.proofs.Common.{◌≡◌, ℕ, zero, suc, ◌+◌, ◌≤◌, ◌==◌, Bool, true, false, ◌&&◌, ◌||◌, cond, List, [], ◌∷◌, ◌++◌, length, take, drop, Some, None, option_map, refl, ap, sym, ◌∙◌, subst, arith, length-drop, length-append, append_assoc}
use Rattle.std.proofs.lemmas.List.{take-append-drop}
use Rattle.sve_macro.specs.Laws.{joined, spelled, Spells, ActualsSpellTheText}
use Rattle.sve_macro.specs.Parts.{Depths, rest_of_piece, first_piece, pieces_of, head_byte, all_closed, depths_after, ends_part, split_list, with_piece, list_size, size}
use Rattle.sve_macro.proofs.CutSteps.{pieces-nil}
use Rattle.sve_macro.proofs.Lists.{sep_alone, eq_from, some_from}
use Rattle.sve_macro.proofs.Reading.{pieces_step, head-take}

-- there is a part, and the parts spell the text
record IsSpelled (text : List ℕ) (parts : List (List (List ℕ))) : Type 0 where
  pub part : List (List ℕ)
  pub others : List (List (List ℕ))
  pub some : parts ≡ part ∷ others
  pub spells : Spells text parts

spelled-piece : (p : List ℕ) (part : List (List ℕ)) (others : List (List (List ℕ))) → spelled (with_piece p (part ∷ others)) ≡ p ++ spelled (part ∷ others)
spelled-piece p part [] = append_assoc p (joined part) (41 ∷ [])
spelled-piece p part (next ∷ others) = append_assoc p (joined part) (44 ∷ spelled (next ∷ others))

ends_as : (b : Bool) (d : Depths) (v : ℕ) → (v == 41) ≡ false → (v == 44) ≡ b → ends_part d v ≡ true → v ≡ 44
ends_as true d v e f h = eq_from v 44 f
ends_as false d v e f h = absurd (let g : ends_part d v ≡ false = ap (λ x. (x && length d.parens == 0) || (v == 44 && (length d.parens == 0 && (d.square == 0 && d.curly == 0)))) e ∙ ap (λ x. x && (length d.parens == 0 && (d.square == 0 && d.curly == 0))) f in cc)

with_piece_in_front : (p : List ℕ) (text : List ℕ) (parts : List (List (List ℕ))) → IsSpelled text parts → IsSpelled (p ++ text) (with_piece p parts)
with_piece_in_front p text parts s =
    subst (λ (x : List (List (List ℕ))). IsSpelled (p ++ text) (with_piece p x)) (sym s.some)
    (record {
      part = p ∷ s.part;
      others = s.others;
      some = refl;
      spells =
          record {
            rest = s.spells.rest;
            whole =
                ap (λ x. p ++ x) (s.spells.whole ∙ ap (λ x. spelled x ++ s.spells.rest) s.some)
                ∙ sym (append_assoc p (spelled (s.part ∷ s.others)) s.spells.rest)
                ∙ ap (λ x. x ++ s.spells.rest) (sym (spelled-piece p s.part s.others));
            read =
                ap length (spelled-piece p s.part s.others) ∙ length-append p (spelled (s.part ∷ s.others))
                ∙ (let e : length (spelled (s.part ∷ s.others)) ≡ list_size (s.part ∷ s.others) = ap (λ x. length (spelled x)) (sym s.some) ∙ s.spells.read ∙ ap list_size s.some in
                let g : length p + length (spelled (s.part ∷ s.others)) ≡ length p + size s.part + 1 + list_size s.others = omega (arith, e) in g);
          };
    })

at_parenthesis : (v : ℕ) (vs : List ℕ) → v ≡ 41 → IsSpelled (v ∷ vs) ([] ∷ [])
at_parenthesis v vs e = record { part = []; others = []; some = refl; spells = record { rest = vs; whole = ap (λ x. x ∷ vs) e; read = refl } }

at_comma : (v : ℕ) (vs : List ℕ) (parts : List (List (List ℕ))) → v ≡ 44 → IsSpelled vs parts → IsSpelled (v ∷ vs) ([] ∷ parts)
at_comma v vs parts e s =
    subst (λ (x : List (List (List ℕ))). IsSpelled (v ∷ vs) ([] ∷ x)) (sym s.some)
    (record {
      part = [];
      others = s.part ∷ s.others;
      some = refl;
      spells =
          record {
            rest = s.spells.rest;
            whole = ap (λ x. x ∷ vs) e ∙ ap (λ x. 44 ∷ x) (s.spells.whole ∙ ap (λ x. spelled x ++ s.spells.rest) s.some);
            read =
                (let e : length (spelled (s.part ∷ s.others)) ≡ list_size (s.part ∷ s.others) = ap (λ x. length (spelled x)) (sym s.some) ∙ s.spells.read ∙ ap list_size s.some in
                let g : suc (length (spelled (s.part ∷ s.others))) ≡ 0 + 1 + list_size (s.part ∷ s.others) = omega (arith, e) in g);
          };
    })

at_separator : (b : Bool) (v : ℕ) (vs : List ℕ) (d : Depths) (parts : List (List (List ℕ))) → (v == 41) ≡ b → ends_part d v ≡ true →
    cond b (Some ([] ∷ [])) (option_map (λ parts. [] ∷ parts) (split_list all_closed (pieces_of vs))) ≡ Some parts →
    ((more : List (List (List ℕ))) → split_list all_closed (pieces_of vs) ≡ Some more → IsSpelled vs more) → IsSpelled (v ∷ vs) parts
at_separator true v vs d parts e h s ih =
    let same : ◌≡◌ {A = List (List (List ℕ))} ([] ∷ []) parts = cc in
    subst (λ (x : List (List (List ℕ))). IsSpelled (v ∷ vs) x) same (at_parenthesis v vs (eq_from v 41 e))
at_separator false v vs d parts e h s ih =
    let from = some_from (λ (x : List (List (List ℕ))). let y : List (List (List ℕ)) = [] ∷ x in y) (split_list all_closed (pieces_of vs)) parts s in
    subst (λ (x : List (List (List ℕ))). IsSpelled (v ∷ vs) x) from.value (at_comma v vs from.of (ends_as (v == 44) d v e refl h) (ih from.of from.there))

spelling_step : (b : Bool) (v : ℕ) (vs : List ℕ) (d : Depths) (parts : List (List (List ℕ))) → ends_part d v ≡ b →
    (let text = v ∷ vs in let len = 1 + rest_of_piece text in
    cond b (cond (v == 41) (Some ([] ∷ [])) (option_map (λ parts. [] ∷ parts) (split_list all_closed (pieces_of (drop len text)))))
    (option_map (with_piece (take len text)) (split_list (depths_after d v) (pieces_of (drop len text)))) ≡ Some parts
    → ((e : Depths) (more : List (List (List ℕ))) → split_list e (pieces_of (drop len text)) ≡ Some more → IsSpelled (drop len text) more) → IsSpelled text parts)
spelling_step true v vs d parts e h ih =
    let text = v ∷ vs in
    let alone : rest_of_piece text ≡ 0 = sep_alone (v == 34) (v == 92) d v vs refl refl e in
    let rest : drop (1 + rest_of_piece text) text ≡ vs = ap (λ n. drop (1 + n) text) alone in
    at_separator (v == 41) v vs d parts refl e
    (ap (λ x. cond (v == 41) (Some ([] ∷ [])) (option_map (λ parts. [] ∷ parts) (split_list all_closed (pieces_of x)))) (sym rest) ∙ h)
    (λ more f. subst (λ (x : List ℕ). IsSpelled x more) rest (ih all_closed more (ap (λ x. split_list all_closed (pieces_of x)) rest ∙ f)))
spelling_step false v vs d parts e h ih =
    let text = v ∷ vs in
    let len = 1 + rest_of_piece text in
    let from = some_from (with_piece (take len text)) (split_list (depths_after d v) (pieces_of (drop len text))) parts h in
    subst (λ (x : List (List (List ℕ))). IsSpelled text x) from.value
    (subst (λ (x : List ℕ). IsSpelled x (with_piece (take len text) from.of)) (take-append-drop len text)
    (with_piece_in_front (take len text) (drop len text) from.of (ih (depths_after d v) from.of from.there)))

spelled_all : (n : ℕ) (text : List ℕ) (d : Depths) (parts : List (List (List ℕ))) → length text ≤ n → split_list d (pieces_of text) ≡ Some parts → IsSpelled text parts
spelled_all n [] d parts l h =
    let e : None ≡ Some parts = ap (λ ps. split_list d ps) (sym (pieces-nil first_piece tt)) ∙ h in absurd (cc)
spelled_all zero (v ∷ vs) d parts l h = absurd (omega arith)
spelled_all (suc n) (v ∷ vs) d parts l h =
    let text = v ∷ vs in
    let len = 1 + rest_of_piece text in
    let ps = pieces_of (drop len text) in
    let head : head_byte (take len text) ≡ v = head-take (rest_of_piece text) text (omega arith) in
    let whole : cond (ends_part d v) (cond (v == 41) (Some ([] ∷ [])) (option_map (λ parts. [] ∷ parts) (split_list all_closed ps))) (option_map (with_piece (take len text)) (split_list (depths_after d v) ps)) ≡ Some parts =
    ap (λ w. cond (ends_part d w) (cond (w == 41) (Some ([] ∷ [])) (option_map (λ parts. [] ∷ parts) (split_list all_closed ps))) (option_map (with_piece (take len text)) (split_list (depths_after d w) ps))) (sym head)
    ∙ ap (λ qs. split_list d qs) (sym (pieces_step text (omega arith))) ∙ h in
    spelling_step (ends_part d v) v vs d parts refl whole (λ e more f. spelled_all n (drop len text) e more (omega (arith, length-drop len text)) f)

pub actuals_spell_the_text : ActualsSpellTheText
actuals_spell_the_text text from parts h = (spelled_all (length (drop from text)) (drop from text) all_closed parts (omega arith) h).spells
