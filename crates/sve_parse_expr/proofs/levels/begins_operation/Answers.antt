use Rattle.std.proofs.Common.{◌≡◌, ◌-◌, eqb, true, false, refl, sym as flip, ◌∙◌ as ◌∘◌}
use Rattle.std.proofs.lemmas.Bool.{eq-eqb}
use Rattle.sve_grammar.specs.Token.{kind_at}
use Rattle.sve_grammar.specs.Rule.{starts}
use Rattle.sve_grammar.specs.Expressions.{operators, operations}
use Rattle.sve_tree.specs.Words.{binary_operator_tree}
use Rattle.sve_grammar.proofs.Levels.{operation_begins}
use Rattle.sve_parse_expr.proofs.Chains.{not_five}
use Rattle.sve_grammar.proofs.Idle.{found_begins}
use Rattle.sve_parse_expr.proofs.levels.begins_operation.Goals as goal

pub returns-then-operator : goal.returns-then-operator
returns-then-operator c =
    let s : starts (operators c.args.level) (kind_at c.args.tokens.now c.args.at) ≡ true = found_begins c.args.tokens.now (operators c.args.level) binary_operator_tree c.args.at c.binary_operator.result c.binary_operator.ensures.found ∘ flip c.is_some-operator.ensures ∘ c.if-operator.true in
    rw (operation_begins c.args.level (operations (c.args.level - 1)) (kind_at c.args.tokens.now c.args.at), s) refl

pub returns-then-relational : goal.returns-then-relational
returns-then-relational c =
    let s : starts (operators c.args.level) (kind_at c.args.tokens.now c.args.at) ≡ false = found_begins c.args.tokens.now (operators c.args.level) binary_operator_tree c.args.at c.binary_operator.result c.binary_operator.ensures.found ∘ flip c.is_some-operator.ensures ∘ c.if-operator.false in
    let e : eqb c.args.level 5 ≡ true = eq-eqb c.args.level 5 c.if-relational.true in
    rw (operation_begins c.args.level (operations (c.args.level - 1)) (kind_at c.args.tokens.now c.args.at), s, e) c.is_kind.ensures

pub returns : goal.returns
returns c =
    let s : starts (operators c.args.level) (kind_at c.args.tokens.now c.args.at) ≡ false = found_begins c.args.tokens.now (operators c.args.level) binary_operator_tree c.args.at c.binary_operator.result c.binary_operator.ensures.found ∘ flip c.is_some-operator.ensures ∘ c.if-operator.false in
    let e : eqb c.args.level 5 ≡ false = not_five c.args.level c.if-relational.false in
    rw (operation_begins c.args.level (operations (c.args.level - 1)) (kind_at c.args.tokens.now c.args.at), s, e) refl
