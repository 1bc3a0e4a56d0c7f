use Rattle.std.proofs.Common.{Some, ap, sym as flip, ◌∙◌ as ◌∘◌}
use Rattle.sve_parse_expr.proofs.Leads.{leads_identifier}
use Rattle.sve_parse_expr.proofs.begins.operand_here.Goals as goal

pub returns-in-Some-Identifier : goal.returns-in-Some-Identifier
returns-in-Some-Identifier c = leads_identifier _ _ (flip c.kind_here.ensures ∘ c.in-Some-Identifier.is ∘ ap Some c.in-Some-Identifier.field-0-is)
