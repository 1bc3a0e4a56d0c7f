use Rattle.std.proofs.Common.{ap, ◌∙◌ as ◌∘◌, arith}
use Rattle.sve_grammar.specs.Token.{kind_at}
use Rattle.sve_parse_flat_item.specs.declared.begins.ItemForm.TheVariants as forms
use Rattle.sve_parse_flat_item.specs.Alternatives.{number_of}
use Rattle.sve_parse_flat_item.proofs.Leads.{finds_unit, no_unit, late_declaration, late_process, late_construct}
use Rattle.sve_parse_flat_item.proofs.begins.package_item_here.Goals as goal

pub returns-in-Package : goal.returns-in-Package
returns-in-Package c = finds_unit c.args.tokens.now c.args.at c.in-Package.form (c.in-Some.ensures.form ∘ ap number_of c.in-Package.is)

pub returns-in-Declaration : goal.returns-in-Declaration
returns-in-Declaration c = no_unit (kind_at c.args.tokens.now c.args.at) (number_of (forms.Declaration c.in-Declaration.field-0)) (c.in-Some.ensures.form ∘ ap number_of c.in-Declaration.is) (late_declaration c.in-Declaration.field-0)

pub returns-in-Process : goal.returns-in-Process
returns-in-Process c = no_unit (kind_at c.args.tokens.now c.args.at) (number_of (forms.Process c.in-Process.field-0)) (c.in-Some.ensures.form ∘ ap number_of c.in-Process.is) (late_process c.in-Process.field-0)

pub returns-in-Construct : goal.returns-in-Construct
returns-in-Construct c = no_unit (kind_at c.args.tokens.now c.args.at) (number_of (forms.Construct c.in-Construct.field-0)) (c.in-Some.ensures.form ∘ ap number_of c.in-Construct.is) (late_construct c.in-Construct.field-0)

pub returns-in-None : goal.returns-in-None
returns-in-None c = no_unit (kind_at c.args.tokens.now c.args.at) 19 c.in-None.ensures.form (omega arith)
