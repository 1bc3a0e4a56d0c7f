use Rattle.std.proofs.Common.{List, ◌++◌, ap, sym, subst, ◌∙◌, drop}
use Rattle.std.specs.List.{flat_map}
use Rattle.sve_lint.specs.declared.instance.Finding.{Finding}
use Rattle.sve_lint.specs.declared.instance.UnconnectedPort.{UnconnectedPort}
use Rattle.sve_lint.specs.Rules.{RuleState, holding_more, HasAllBut, HasPart}
use Rattle.sve_lint.specs.Meanings.{port_findings, unconnected_rule}
use Rattle.sve_lint.proofs.Parts.{nothing_yet, one_more, all_given, all_is_part}
use Rattle.sve_lint.proofs.unconnected.visit_ports.Goals as goal

pub ports-init : goal.ports-init
ports-init c = nothing_yet _ _

pub returns-in_err-visit_port-clause-part : goal.returns-in_err-visit_port-clause-part
returns-in_err-visit_port-clause-part c =
    let gives : UnconnectedPort → List Finding = port_findings c.args.instance.now in
    let old : RuleState = unconnected_rule c.args.found.now.items in
    let left : List Finding = flat_map gives (drop c.ports.port-index c.items-port-items.result.now) in
    subst (λ (ports : List UnconnectedPort). HasPart (flat_map gives ports) old (unconnected_rule c.visit_port.new.found.items)) c.items-port-items.ensures
    (left, subst (λ (found : List Finding). HasAllBut left (flat_map gives c.items-port-items.result.now) old (unconnected_rule found)) (sym c.in_err-visit_port.ensures.none) c.ports.invariant)

pub ports-preserved : goal.ports-preserved
ports-preserved c =
    one_more (port_findings c.args.instance.now) c.items-port-items.result.now c.ports.port-index c.port-item.result _ _ _ _ c.ports-test.true c.port-item.is c.ports.invariant
    (ap unconnected_rule c.in_ok-visit_port.ensures.added)

pub returns-clause-seen : goal.returns-clause-seen
returns-clause-seen c =
    let gives : UnconnectedPort → List Finding = port_findings c.args.instance.now in
    ap (λ (r : RuleState). r.found) (all_given gives c.items-port-items.result.now c.ports.port-index _ _ c.ports-test.false c.ports.invariant)
    ∙ ap (λ (ports : List UnconnectedPort). c.args.found.now.items ++ flat_map gives ports) c.items-port-items.ensures

pub returns-clause-part : goal.returns-clause-part
returns-clause-part c =
    let gives : UnconnectedPort → List Finding = port_findings c.args.instance.now in
    let old : RuleState = unconnected_rule c.args.found.now.items in
    all_is_part _ _ _ (all_given gives c.items-port-items.result.now c.ports.port-index old _ c.ports-test.false c.ports.invariant
    ∙ ap (λ (ports : List UnconnectedPort). holding_more (flat_map gives ports) old) c.items-port-items.ensures)
