-- A construct that is no part of another is counted, and what is wrong with its labels is said.
use Rattle.std.proofs.Common.{ap, ◌∙◌}
use Rattle.std.specs.List.{flat_map}
use Rattle.sve_item_names.specs.Items.{item_names}
use Rattle.sve_body.specs.Body.{label_fault_of}
use Rattle.sve_body_construct.proofs.Parts.{begun_is}
use Rattle.sve_body_construct.proofs.beginning.begin.Goals as goal

pub returns-in_ok-say_all-in-None-clause-begun : goal.returns-in_ok-say_all-in-None-clause-begun
returns-in_ok-say_all-in-None-clause-begun g c =
    let names = c.as_slice-listed.ensures.value ∙ c.in_ok-names-in-None.ensures in
    c.in_ok-say_all-in-None.ensures
    ∙ begun_is g.S.Work.steps c.args.outer (item_names c.args.item.now) c.args.work.now c.count_construct.new.self c.next_number-number.result c.in_ok-faults-in-None.faults.items c.in-None.is c.next_number-number.ensures
    (c.in_ok-faults-in-None.ensures ∙ ap (flat_map (label_fault_of g.S.Work.steps c.next_number-number.result c.args.work.now)) names) (c.in_ok-count_construct-in-None.ensures ∙ ap (λ l. g.S.Work.steps.count_construct l c.args.work.now) names)
