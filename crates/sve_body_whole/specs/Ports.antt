-- The ports of a header, behind its parameters (IEEE 1800-2017, 23.2).
use Rattle.std.specs.Prelude.{length}
use Rattle.sve_tree.specs.declared.header.Header.{Header}
use Rattle.sve_item_names.specs.Declarations.{ports_of}
use Rattle.sve_plan.specs.Plan.{Plan, Spend}
use Rattle.sve_look.specs.Questions.{Reply}
use Rattle.sve_body.specs.Steps.{Steps}
use Rattle.sve_body.specs.Items.{done}

-- each costs one, and then what their types cost
abbrev pub ports_in : {S : Type 0} → Steps S → Header → S → Plan Reply S
ports_in steps h s = Spend (length (ports_of h.ports)) (done (steps.header_ports h s))
