use Rattle.std.proofs.Common.{List, ℕ, map, string_bytes, option_map, sym, ◌∙◌}
use Rattle.clap.specs.Words.{app_of}
use Rattle.sve_words.proofs.Reading.{read_rightly, read_wrongly}
use Rattle.sve_words.proofs.options.read.Goals as goal

pub returns-in-Ok-clause-said : goal.returns-in-Ok-clause-said
returns-in-Ok-clause-said c =
    let words : List (List ℕ) = map string_bytes c.args.words.now in
    let taken = c.in-Ok.ensures in
    c.with_budget.ensures.said
    ∙ read_rightly (app_of c.in_ok-command.command) words c.in_ok-command.ensures c.requires c.in-Ok.matches (option_map (λ text. text.now) c.get_str.result) c.get_flag.result c.get_flag-in-Ok.result taken.matches taken.kinds c.get_str.ensures
    (c.get_flag.ensures.value, c.get_flag.ensures.other) (c.get_flag-in-Ok.ensures.value, c.get_flag-in-Ok.ensures.other)

pub returns-clause-said : goal.returns-clause-said
returns-clause-said c =
    let words : List (List ℕ) = map string_bytes c.args.words.now in
    sym (read_wrongly (app_of c.in_ok-command.command) words c.in_ok-command.ensures c.requires c.in-Err.error c.in-Err.ensures.kinds (λ same. c.in_default.not-OutOfMemory (c.kind.ensures ∙ same)))
