use Rattle.std.proofs.Common.{◌++◌, option_map, ap, sym, ◌∙◌}
use Rattle.std.proofs.lemmas.List.{append-nil}
use Rattle.sve_macro.specs.Index.{place_in}
use Rattle.sve_macro.specs.Substitution.{value_of}
use Rattle.sve_macro.specs.Template.{bytes_between, filled}
use Rattle.sve_macro.proofs.Templates.{joins, behind, word_alone, word_of_formal}
use Rattle.sve_macro.proofs.template.push_lexeme.Goals as goal

pub returns-in-None-clause-pieces : goal.returns-in-None-clause-pieces
returns-in-None-clause-pieces c = λ value.
    let word = bytes_between c.args.at c.args.end c.args.text.now in
    joins (filled c.args.text.now value c.args.pieces.now.items) c.args.text.now c.args.from c.args.at c.args.end _ c.requires.order c.requires.some c.requires.within
    (word_alone c.args.index.now value c.args.kind word c.in-Word.is (ap (place_in c.args.index.now) (sym c.slice_between.ensures) ∙ sym c.place_of.ensures ∙ c.in-None.is))

pub returns-in-Plain-clause-pieces : goal.returns-in-Plain-clause-pieces
returns-in-Plain-clause-pieces c = λ value.
    let word = bytes_between c.args.at c.args.end c.args.text.now in
    joins (filled c.args.text.now value c.args.pieces.now.items) c.args.text.now c.args.from c.args.at c.args.end _ c.requires.order c.requires.some c.requires.within
    (ap (λ k. value_of (λ w. option_map value (place_in c.args.index.now w)) k word) c.in-Plain.is)

pub returns-in_ok-push_behind-in-Some-clause-pieces : goal.returns-in_ok-push_behind-in-Some-clause-pieces
returns-in_ok-push_behind-in-Some-clause-pieces c = λ value.
    let old = filled c.args.text.now value c.args.pieces.now.items in
    let run = bytes_between c.args.from c.args.at c.args.text.now in
    let word = bytes_between c.args.at c.args.end c.args.text.now in
    behind old _ c.args.text.now c.args.end _ c.requires.within
    (c.in_ok-push_behind-in-Some.ensures value
    ∙ ap (λ x. old ++ (run ++ x)) (sym (word_of_formal c.args.index.now value c.args.kind word c.in-Some.place c.in-Word.is (ap (place_in c.args.index.now) (sym c.slice_between.ensures) ∙ sym c.place_of.ensures ∙ c.in-Some.is))))

pub returns-in_ok-push_run-in-Joint-clause-pieces : goal.returns-in_ok-push_run-in-Joint-clause-pieces
returns-in_ok-push_run-in-Joint-clause-pieces c = λ value.
    let old = filled c.args.text.now value c.args.pieces.now.items in
    let run = bytes_between c.args.from c.args.at c.args.text.now in
    let word = bytes_between c.args.at c.args.end c.args.text.now in
    behind old _ c.args.text.now c.args.end _ c.requires.within
    (c.in_ok-push_run-in-Joint.ensures value ∙ ap (λ x. old ++ x) (sym (append-nil run))
    ∙ ap (λ k. old ++ (run ++ value_of (λ w. option_map value (place_in c.args.index.now w)) k word)) (sym c.in-Joint.is))

pub returns-in_ok-push_behind-in-Quote-clause-pieces : goal.returns-in_ok-push_behind-in-Quote-clause-pieces
returns-in_ok-push_behind-in-Quote-clause-pieces c = λ value.
    let old = filled c.args.text.now value c.args.pieces.now.items in
    let run = bytes_between c.args.from c.args.at c.args.text.now in
    let word = bytes_between c.args.at c.args.end c.args.text.now in
    behind old _ c.args.text.now c.args.end _ c.requires.within
    (c.in_ok-push_behind-in-Quote.ensures value
    ∙ ap (λ k. old ++ (run ++ value_of (λ w. option_map value (place_in c.args.index.now w)) k word)) (sym c.in-Quote.is))

pub returns-in_ok-push_behind-in-EscapedQuote-clause-pieces : goal.returns-in_ok-push_behind-in-EscapedQuote-clause-pieces
returns-in_ok-push_behind-in-EscapedQuote-clause-pieces c = λ value.
    let old = filled c.args.text.now value c.args.pieces.now.items in
    let run = bytes_between c.args.from c.args.at c.args.text.now in
    let word = bytes_between c.args.at c.args.end c.args.text.now in
    behind old _ c.args.text.now c.args.end _ c.requires.within
    (c.in_ok-push_behind-in-EscapedQuote.ensures value
    ∙ ap (λ k. old ++ (run ++ value_of (λ w. option_map value (place_in c.args.index.now w)) k word)) (sym c.in-EscapedQuote.is))
