use Rattle.std.proofs.Common.{◌≡◌, ℕ, List, Option, ◌+◌, ◌<◌, ◌++◌, length, drop, option_map, ap, sym, ◌∙◌, arith, length-drop}
use Rattle.std.proofs.lemmas.List.{drop-take, drop-drop}
use Rattle.sve_macro.specs.Index.{place_in}
use Rattle.sve_macro.specs.Lexemes.{first_kind, lexeme_rest, lexemes}
use Rattle.sve_macro.specs.Substitution.{value_of, replaced}
use Rattle.sve_macro.specs.Template.{bytes_between, filled}
use Rattle.sve_macro.proofs.Reading.{tail_is}
use Rattle.sve_macro.proofs.Templates.{read_on}
use Rattle.sve_macro.proofs.Texts.{goes_on, ends}
use Rattle.sve_macro.proofs.template.pieces_of.Goals as goal

pub lexemes-preserved : goal.lexemes-preserved
lexemes-preserved c =
    let text = c.args.text.now in
    let at = c.lexemes.at in
    let len = c.first_lexeme-first.result.len in
    let kind = c.first_lexeme-first.result.kind in
    let tail = tail_is at text in
    let some : 0 < length (drop at text) = omega (arith, length-drop at text, c.lexemes-test.true) in
    record {
      order = c.in_ok-from.ensures.from;
      within = omega (arith, length-drop at text, ap length tail, c.first_lexeme-first.ensures.within, c.lexemes.invariant.within);
      same = λ value.
          let f : List ℕ → Option (List ℕ) = λ word. option_map value (place_in c.args.index.now word) in
          let old = filled text value c.lexemes.pieces.items in
          let run = bytes_between c.lexemes.from at text in
          let new = filled text value c.push_lexeme.new.pieces.items in
          let new_run = bytes_between c.in_ok-from.from (at + len) text in
          goes_on f (old ++ run) (new ++ new_run) (replaced f (lexemes text)) (drop at text) (drop (at + len) text) (bytes_between at (at + len) text) c.lexemes.between c.is_between_after-between.result kind len
          (c.lexemes.invariant.same value) some (c.first_lexeme-first.ensures.kind ∙ ap first_kind tail) (c.first_lexeme-first.ensures.len ∙ ap (λ t. 1 + lexeme_rest c.lexemes.between t) tail)
          (drop-take at len text) (read_on old run new new_run (value_of f kind (bytes_between at (at + len) text)) (c.in_ok-from.ensures.pieces value)) c.is_between_after-between.ensures (sym (drop-drop len at text));
    }

pub returns : goal.returns
returns c = λ value.
    let text = c.args.text.now in
    let at = c.lexemes.at in
    let f : List ℕ → Option (List ℕ) = λ word. option_map value (place_in c.args.index.now word) in
    let none : length (drop at text) ≡ 0 = omega (arith, length-drop at text, c.lexemes-test.false) in
    c.in_ok-push_run.ensures value
    ∙ ends f (filled text value c.lexemes.pieces.items ++ bytes_between c.lexemes.from at text) (replaced f (lexemes text)) (drop at text) c.lexemes.between (c.lexemes.invariant.same value) none
