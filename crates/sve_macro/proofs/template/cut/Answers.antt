use Rattle.std.proofs.Common.{◌∙◌, option_map}
use Rattle.sve_macro.specs.Index.{place_in}
use Rattle.sve_macro.specs.Lexemes.{lexemes}
use Rattle.sve_macro.specs.Substitution.{actual_of}
use Rattle.sve_macro.specs.Template.{value_at}
use Rattle.sve_macro.proofs.Texts.{replaced_same}
use Rattle.sve_macro.proofs.template.cut.Goals as goal

pub returns : goal.returns
returns c = λ actuals.
    rw c.items.ensures at (c.in_ok-pieces.ensures (value_at c.args.m.now.formals actuals))
    ∙ replaced_same (λ word. option_map (value_at c.args.m.now.formals actuals) (place_in c.in_ok-index.index word)) (actual_of c.args.m.now actuals) (lexemes c.args.m.now.text) (λ word. c.in_ok-index.ensures actuals word)
