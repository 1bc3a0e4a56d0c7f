use Rattle.std.proofs.Common.{Option, None, subst}
use Rattle.sve_token.specs.declared.kind.Kind.{Kind}
use Rattle.sve_parse_flat_item.specs.Alternatives.{IsFormOf}
use Rattle.sve_parse_flat_item.proofs.Leads.{finds_item, no_form_behind}
use Rattle.sve_parse_flat_item.proofs.begins.item_here.Goals as goal

pub returns-in-Some-clause-form : goal.returns-in-Some-clause-form
returns-in-Some-clause-form c = subst (λ (k : Option Kind). IsFormOf k c.form_of_kind.result) c.in-Some.ensures c.form_of_kind.ensures

pub returns-in-Some-clause-finds : goal.returns-in-Some-clause-finds
returns-in-Some-clause-finds c = finds_item c.args.tokens.now c.args.at _ (subst (λ (k : Option Kind). IsFormOf k c.form_of_kind.result) c.in-Some.ensures c.form_of_kind.ensures)

pub returns-in-None-clause-form : goal.returns-in-None-clause-form
returns-in-None-clause-form c = subst (λ (k : Option Kind). IsFormOf k None) c.in-None.ensures no_form_behind

pub returns-in-None-clause-finds : goal.returns-in-None-clause-finds
returns-in-None-clause-finds c = finds_item c.args.tokens.now c.args.at None (subst (λ (k : Option Kind). IsFormOf k None) c.in-None.ensures no_form_behind)
