-- Each part of a construct follows its plan step by step.
use Rattle.std.proofs.Common.{◌+◌, drop, pos, refl, ap, sym, ◌∙◌, None, Some, true, false, arith}
use Rattle.sve_tree.specs.declared.item.IfGenerate.{out-IfGenerate}
use Rattle.std.proofs.lemmas.Result.{err_from_is_err_and}
use Rattle.sve_told.specs.Told.{Sight}
use Rattle.sve_plan.specs.Plan.{Give, Spend, and_then, each}
use Rattle.sve_plan.proofs.Steps.{begins, ends, goes_on, leaves, leaves_spent, pays, rests}
use Rattle.sve_look.specs.Questions.{Reply}
use Rattle.sve_body.specs.Items.{assignment, done, instances, plain_item}
use Rattle.sve_body.specs.Body.{block_in, case_item_in, counted_item, if_in, item}
use Rattle.sve_body_construct.specs.Parts.{found_condition, found_item, found_values}
use Rattle.sve_body_block.specs.Parts.{case_of_construct, contents_of, item_at, loop_of_construct, scoped_block, turn_of, turns_found}
use Rattle.sve_body_block.proofs.Parts.{block_goes, block_stays, loop_is_right, loop_is_wrong, next_item, next_turn, no_item, no_turn, selects_beyond, selects_none, selects_there, turns_are_none, turns_are_some}
use Rattle.sve_body_block.proofs.OfItems.{assign_is, bare_is, body_is, branch_chosen, branch_none, branch_otherwise, branches_in, cased_is, if_is, instances_is, item_within, items_within, loop_is, condition_is, of_default, of_labels, part_is, region_is, selection_is}
use Rattle.sve_body_block.proofs.PlainItems.{plain_is}
use Rattle.sve_body_block.proofs.walk.+items.Goals as goal

-- ---- items in order

pub items-returns : goal.items-returns
items-returns g t c =
    let s : Sight Reply _ = record { tells = g.W.Look.tells; keeps = g.W.Look.keeps; halted = g.W.Look.halted; stops = g.W.Look.stops; asked = g.W.Look.asked } in
    rests s g.met.W.Look.keeps_itself g.met.W.Look.keeps_on (Give c.all.work) c.all.invariant (no_item g.S.Work.steps c.args.all.now c.all.one-index c.all.work c.all-test.false)

pub items-returns-in_err-pay_item : goal.items-returns-in_err-pay_item
items-returns-in_err-pay_item g t c =
    let s : Sight Reply _ = record { tells = g.W.Look.tells; keeps = g.W.Look.keeps; halted = g.W.Look.halted; stops = g.W.Look.stops; asked = g.W.Look.asked } in
    let r = err_from_is_err_and c.from_residual.result c.from_residual.ensures.1 in
    let next = and_then (item g.S.Work.steps None c.one-item.result c.all.work) (each (counted_item g.S.Work.steps) (drop (c.all.one-index + 1) c.args.all.now)) in
    leaves_spent s g.met.W.Look.keeps_itself g.met.W.Look.keeps_on c.pay_item.new.fuel (1, tt {0}) next c.in_err-pay_item.field-0.0 r.0 c.from_residual.result _ r.1 r.2
    (rests s g.met.W.Look.keeps_itself g.met.W.Look.keeps_on (Spend 1 next) c.all.invariant (next_item g.S.Work.steps c.args.all.now c.all.one-index c.one-item.result c.all.work c.all-test.true c.one-item.is)) (c.in_err-pay_item.ensures, tt)

pub items-returns-in_err-item : goal.items-returns-in_err-item
items-returns-in_err-item g t c =
    let s : Sight Reply _ = record { tells = g.W.Look.tells; keeps = g.W.Look.keeps; halted = g.W.Look.halted; stops = g.W.Look.stops; asked = g.W.Look.asked } in
    let r = err_from_is_err_and c.from_residual-in_err-item.result c.from_residual-in_err-item.ensures.1 in
    let one = item g.S.Work.steps None c.one-item.result c.all.work in
    let others = each (counted_item g.S.Work.steps) (drop (c.all.one-index + 1) c.args.all.now) in
    leaves s g.met.W.Look.keeps_itself g.met.W.Look.keeps_on c.item.new.world c.item.new.fuel one others c.in_err-item.field-0.0 r.0 c.from_residual-in_err-item.result _ r.1 r.2
    (pays s g.met.W.Look.keeps_itself g.met.W.Look.keeps_on (1, tt {0}) (and_then one others) tt
    (rests s g.met.W.Look.keeps_itself g.met.W.Look.keeps_on (Spend 1 (and_then one others)) c.all.invariant (next_item g.S.Work.steps c.args.all.now c.all.one-index c.one-item.result c.all.work c.all-test.true c.one-item.is)) (c.in_ok-pay_item.ensures, refl)) c.in_err-item.ensures

pub items-all-preserved : goal.items-all-preserved
items-all-preserved g t c =
    let s : Sight Reply _ = record { tells = g.W.Look.tells; keeps = g.W.Look.keeps; halted = g.W.Look.halted; stops = g.W.Look.stops; asked = g.W.Look.asked } in
    let one = item g.S.Work.steps None c.one-item.result c.all.work in
    let others = each (counted_item g.S.Work.steps) (drop (c.all.one-index + 1) c.args.all.now) in
    goes_on s g.met.W.Look.keeps_itself g.met.W.Look.keeps_on one others
    (pays s g.met.W.Look.keeps_itself g.met.W.Look.keeps_on (1, tt {0}) (and_then one others) tt
    (rests s g.met.W.Look.keeps_itself g.met.W.Look.keeps_on (Spend 1 (and_then one others)) c.all.invariant (next_item g.S.Work.steps c.args.all.now c.all.one-index c.one-item.result c.all.work c.all-test.true c.one-item.is)) (c.in_ok-pay_item.ensures, refl)) c.item.new.work c.in_ok-item.ensures

-- ---- one item

pub item-returns-in-Assign : goal.item-returns-in-Assign
item-returns-in-Assign g t c =
    let s : Sight Reply _ = record { tells = g.W.Look.tells; keeps = g.W.Look.keeps; halted = g.W.Look.halted; stops = g.W.Look.stops; asked = g.W.Look.asked } in
    let all = each (assignment g.S.Work.steps) c.as_slice.result.now c.args.work.now in
    ends s g.met.W.Look.keeps_itself g.met.W.Look.keeps_on c.assignments.new.world c.args.fuel.now all _ (rests s g.met.W.Look.keeps_itself g.met.W.Look.keeps_on all (begins s g.met.W.Look.keeps_itself g.met.W.Look.keeps_on c.args.world.now c.args.fuel.now (item g.S.Work.steps c.args.outer c.args.one.now c.args.work.now) c.requires) (assign_is g.S.Work.steps c.args.outer c.args.one.now c.in-Assign.all c.deref.result.now c.args.work.now c.as_slice.result.now c.in-Assign.is c.deref.ensures c.as_slice.ensures)) c.assignments.ensures

pub item-returns-in-Instances : goal.item-returns-in-Instances
item-returns-in-Instances g t c =
    let s : Sight Reply _ = record { tells = g.W.Look.tells; keeps = g.W.Look.keeps; halted = g.W.Look.halted; stops = g.W.Look.stops; asked = g.W.Look.asked } in
    let all = instances g.S.Work.steps c.deref-in-Instances.result.now c.args.work.now in
    ends s g.met.W.Look.keeps_itself g.met.W.Look.keeps_on c.instances.new.world c.instances.new.fuel all _ (rests s g.met.W.Look.keeps_itself g.met.W.Look.keeps_on all (begins s g.met.W.Look.keeps_itself g.met.W.Look.keeps_on c.args.world.now c.args.fuel.now (item g.S.Work.steps c.args.outer c.args.one.now c.args.work.now) c.requires) (instances_is g.S.Work.steps c.args.outer c.args.one.now c.in-Instances.instantiation c.deref-in-Instances.result.now c.args.work.now c.in-Instances.is c.deref-in-Instances.ensures)) c.instances.ensures

pub item-returns-in-Region : goal.item-returns-in-Region
item-returns-in-Region g t c =
    let s : Sight Reply _ = record { tells = g.W.Look.tells; keeps = g.W.Look.keeps; halted = g.W.Look.halted; stops = g.W.Look.stops; asked = g.W.Look.asked } in
    let all = each (counted_item g.S.Work.steps) c.deref-in-Region-2.result.now c.args.work.now in
    ends s g.met.W.Look.keeps_itself g.met.W.Look.keeps_on c.items.new.world c.items.new.fuel all _ (rests s g.met.W.Look.keeps_itself g.met.W.Look.keeps_on all (begins s g.met.W.Look.keeps_itself g.met.W.Look.keeps_on c.args.world.now c.args.fuel.now (item g.S.Work.steps c.args.outer c.args.one.now c.args.work.now) c.requires) (region_is g.S.Work.steps c.args.outer c.args.one.now c.in-Region.region c.deref-in-Region.result.now c.args.work.now c.deref-in-Region-2.result.now c.in-Region.is c.deref-in-Region.ensures c.deref-in-Region-2.ensures.value)) c.items.ensures

pub item-returns-in_ok-number-in-LoopGenerate : goal.item-returns-in_ok-number-in-LoopGenerate
item-returns-in_ok-number-in-LoopGenerate g t c =
    let s : Sight Reply _ = record { tells = g.W.Look.tells; keeps = g.W.Look.keeps; halted = g.W.Look.halted; stops = g.W.Look.stops; asked = g.W.Look.asked } in
    let all = loop_of_construct g.S.Work.steps c.in_ok-number-in-LoopGenerate.number c.deref-in-LoopGenerate.result.now c.begin.new.work in
    ends s g.met.W.Look.keeps_itself g.met.W.Look.keeps_on c.looped.new.world c.looped.new.fuel all _ (rests s g.met.W.Look.keeps_itself g.met.W.Look.keeps_on all (begins s g.met.W.Look.keeps_itself g.met.W.Look.keeps_on c.args.world.now c.args.fuel.now (item g.S.Work.steps c.args.outer c.args.one.now c.args.work.now) c.requires) (loop_is g.S.Work.steps c.args.outer c.args.one.now c.in-LoopGenerate.construct c.deref-in-LoopGenerate.result.now c.args.work.now c.begin.new.work c.in_ok-number-in-LoopGenerate.number c.in-LoopGenerate.is c.deref-in-LoopGenerate.ensures c.in_ok-number-in-LoopGenerate.ensures.number c.in_ok-number-in-LoopGenerate.ensures.begun)) c.looped.ensures

pub item-returns-in_ok-number-in-IfGenerate : goal.item-returns-in_ok-number-in-IfGenerate
item-returns-in_ok-number-in-IfGenerate g t c =
    let s : Sight Reply _ = record { tells = g.W.Look.tells; keeps = g.W.Look.keeps; halted = g.W.Look.halted; stops = g.W.Look.stops; asked = g.W.Look.asked } in
    let all = if_in g.S.Work.steps c.in_ok-number-in-IfGenerate.number c.deref-in-IfGenerate.result.now c.begin-in-IfGenerate.new.work in
    ends s g.met.W.Look.keeps_itself g.met.W.Look.keeps_on c.conditional.new.world c.conditional.new.fuel all _ (rests s g.met.W.Look.keeps_itself g.met.W.Look.keeps_on all (begins s g.met.W.Look.keeps_itself g.met.W.Look.keeps_on c.args.world.now c.args.fuel.now (item g.S.Work.steps c.args.outer c.args.one.now c.args.work.now) c.requires) (if_is g.S.Work.steps c.args.outer c.args.one.now c.in-IfGenerate.construct c.deref-in-IfGenerate.result.now c.args.work.now c.begin-in-IfGenerate.new.work c.in_ok-number-in-IfGenerate.number c.in-IfGenerate.is c.deref-in-IfGenerate.ensures c.in_ok-number-in-IfGenerate.ensures.number c.in_ok-number-in-IfGenerate.ensures.begun)) c.conditional.ensures

pub item-returns-in_ok-number-in-CaseGenerate : goal.item-returns-in_ok-number-in-CaseGenerate
item-returns-in_ok-number-in-CaseGenerate g t c =
    let s : Sight Reply _ = record { tells = g.W.Look.tells; keeps = g.W.Look.keeps; halted = g.W.Look.halted; stops = g.W.Look.stops; asked = g.W.Look.asked } in
    let all = case_of_construct g.S.Work.steps c.in_ok-number-in-CaseGenerate.number c.deref-in-CaseGenerate.result.now c.begin-in-CaseGenerate.new.work in
    ends s g.met.W.Look.keeps_itself g.met.W.Look.keeps_on c.cased.new.world c.cased.new.fuel all _ (rests s g.met.W.Look.keeps_itself g.met.W.Look.keeps_on all (begins s g.met.W.Look.keeps_itself g.met.W.Look.keeps_on c.args.world.now c.args.fuel.now (item g.S.Work.steps c.args.outer c.args.one.now c.args.work.now) c.requires) (cased_is g.S.Work.steps c.args.outer c.args.one.now c.in-CaseGenerate.construct c.deref-in-CaseGenerate.result.now c.args.work.now c.begin-in-CaseGenerate.new.work c.in_ok-number-in-CaseGenerate.number c.in-CaseGenerate.is c.deref-in-CaseGenerate.ensures c.in_ok-number-in-CaseGenerate.ensures.number c.in_ok-number-in-CaseGenerate.ensures.begun)) c.cased.ensures

pub item-returns-in-Empty : goal.item-returns-in-Empty
item-returns-in-Empty g t c =
    let s : Sight Reply _ = record { tells = g.W.Look.tells; keeps = g.W.Look.keeps; halted = g.W.Look.halted; stops = g.W.Look.stops; asked = g.W.Look.asked } in
    let all = done (plain_item g.S.Work.steps c.args.one.now c.args.work.now) in
    ends s g.met.W.Look.keeps_itself g.met.W.Look.keeps_on c.plain.new.world c.plain.new.fuel all _ (rests s g.met.W.Look.keeps_itself g.met.W.Look.keeps_on all (begins s g.met.W.Look.keeps_itself g.met.W.Look.keeps_on c.args.world.now c.args.fuel.now (item g.S.Work.steps c.args.outer c.args.one.now c.args.work.now) c.requires) (plain_is g.S.Work.steps c.args.outer c.args.work.now c.args.one.now c.in-Empty.is)) c.plain.ensures

-- ---- loops

pub looped-returns-in_err-found_values : goal.looped-returns-in_err-found_values
looped-returns-in_err-found_values g t c =
    let s : Sight Reply _ = record { tells = g.W.Look.tells; keeps = g.W.Look.keeps; halted = g.W.Look.halted; stops = g.W.Look.stops; asked = g.W.Look.asked } in
    let r = err_from_is_err_and c.from_residual-in_err-found_values.result c.from_residual-in_err-found_values.ensures.1 in
    let found = found_values g.S.Work.steps c.args.construct.now c.genvar_is_wrong.new.work in let next = turns_found g.S.Work.steps c.args.number c.args.construct.now (found_values g.S.Work.steps c.args.construct.now c.genvar_is_wrong.new.work).1.0 (found_values g.S.Work.steps c.args.construct.now c.genvar_is_wrong.new.work).1.1 in
    leaves_spent s g.met.W.Look.keeps_itself g.met.W.Look.keeps_on c.found_values.new.fuel found next c.in_err-found_values.field-0.0 r.0 c.from_residual-in_err-found_values.result _ r.1 r.2 (rests s g.met.W.Look.keeps_itself g.met.W.Look.keeps_on (Spend found.0 next) (begins s g.met.W.Look.keeps_itself g.met.W.Look.keeps_on c.args.world.now c.args.fuel.now (loop_of_construct g.S.Work.steps c.args.number c.args.construct.now c.args.work.now) c.requires) (loop_is_right g.S.Work.steps c.args.number c.args.construct.now c.args.work.now c.genvar_is_wrong.new.work _ c.in_ok-genvar_is_wrong.ensures.wrong c.if-branch.false c.in_ok-genvar_is_wrong.ensures.left)) c.in_err-found_values.ensures

pub looped-returns-in-None : goal.looped-returns-in-None
looped-returns-in-None g t c =
    let s : Sight Reply _ = record { tells = g.W.Look.tells; keeps = g.W.Look.keeps; halted = g.W.Look.halted; stops = g.W.Look.stops; asked = g.W.Look.asked } in
    let found = found_values g.S.Work.steps c.args.construct.now c.genvar_is_wrong.new.work in let next = turns_found g.S.Work.steps c.args.number c.args.construct.now (found_values g.S.Work.steps c.args.construct.now c.genvar_is_wrong.new.work).1.0 (found_values g.S.Work.steps c.args.construct.now c.genvar_is_wrong.new.work).1.1 in
    rests s g.met.W.Look.keeps_itself g.met.W.Look.keeps_on (Give c.found_values.new.work) (pays s g.met.W.Look.keeps_itself g.met.W.Look.keeps_on found next (c.in_ok-found_values.field-0, c.found_values.new.work) (rests s g.met.W.Look.keeps_itself g.met.W.Look.keeps_on (Spend found.0 next) (begins s g.met.W.Look.keeps_itself g.met.W.Look.keeps_on c.args.world.now c.args.fuel.now (loop_of_construct g.S.Work.steps c.args.number c.args.construct.now c.args.work.now) c.requires) (loop_is_right g.S.Work.steps c.args.number c.args.construct.now c.args.work.now c.genvar_is_wrong.new.work _ c.in_ok-genvar_is_wrong.ensures.wrong c.if-branch.false c.in_ok-genvar_is_wrong.ensures.left)) c.in_ok-found_values.ensures) (turns_are_none g.S.Work.steps c.args.number c.args.construct.now found.1 c.found_values.new.work c.in_ok-found_values.field-0 c.in-None.is c.in_ok-found_values.ensures.1)

pub looped-returns-in-Some : goal.looped-returns-in-Some
looped-returns-in-Some g t c =
    let s : Sight Reply _ = record { tells = g.W.Look.tells; keeps = g.W.Look.keeps; halted = g.W.Look.halted; stops = g.W.Look.stops; asked = g.W.Look.asked } in
    let found = found_values g.S.Work.steps c.args.construct.now c.genvar_is_wrong.new.work in let next = turns_found g.S.Work.steps c.args.number c.args.construct.now (found_values g.S.Work.steps c.args.construct.now c.genvar_is_wrong.new.work).1.0 (found_values g.S.Work.steps c.args.construct.now c.genvar_is_wrong.new.work).1.1 in
    let all = each (turn_of g.S.Work.steps c.args.number c.args.construct.now) c.items.result.now c.found_values.new.work in
    ends s g.met.W.Look.keeps_itself g.met.W.Look.keeps_on c.turns.new.world c.turns.new.fuel all _ (rests s g.met.W.Look.keeps_itself g.met.W.Look.keeps_on all (pays s g.met.W.Look.keeps_itself g.met.W.Look.keeps_on found next (c.in_ok-found_values.field-0, c.found_values.new.work) (rests s g.met.W.Look.keeps_itself g.met.W.Look.keeps_on (Spend found.0 next) (begins s g.met.W.Look.keeps_itself g.met.W.Look.keeps_on c.args.world.now c.args.fuel.now (loop_of_construct g.S.Work.steps c.args.number c.args.construct.now c.args.work.now) c.requires) (loop_is_right g.S.Work.steps c.args.number c.args.construct.now c.args.work.now c.genvar_is_wrong.new.work _ c.in_ok-genvar_is_wrong.ensures.wrong c.if-branch.false c.in_ok-genvar_is_wrong.ensures.left)) c.in_ok-found_values.ensures) (turns_are_some g.S.Work.steps c.args.number c.args.construct.now found.1 c.found_values.new.work c.in_ok-found_values.field-0 c.in-Some.values c.items.result.now c.in-Some.is c.items.ensures c.in_ok-found_values.ensures.1)) c.turns.ensures

pub turns-returns : goal.turns-returns
turns-returns g t c =
    let s : Sight Reply _ = record { tells = g.W.Look.tells; keeps = g.W.Look.keeps; halted = g.W.Look.halted; stops = g.W.Look.stops; asked = g.W.Look.asked } in
    rests s g.met.W.Look.keeps_itself g.met.W.Look.keeps_on (Give c.values.work) c.values.invariant (no_turn g.S.Work.steps c.args.number c.args.construct.now c.args.values.now c.values.value-index c.values.work c.values-test.false)

pub turns-returns-in_err-block : goal.turns-returns-in_err-block
turns-returns-in_err-block g t c =
    let s : Sight Reply _ = record { tells = g.W.Look.tells; keeps = g.W.Look.keeps; halted = g.W.Look.halted; stops = g.W.Look.stops; asked = g.W.Look.asked } in
    let r = err_from_is_err_and c.from_residual.result c.from_residual.ensures.1 in
    let one = block_in g.S.Work.steps false c.args.number c.turn_at-turn.result c.args.construct.now.block c.values.work in
    let others = each (turn_of g.S.Work.steps c.args.number c.args.construct.now) (drop (c.values.value-index + 1) c.args.values.now) in
    leaves s g.met.W.Look.keeps_itself g.met.W.Look.keeps_on c.block.new.world c.block.new.fuel one others c.in_err-block.field-0.0 r.0 c.from_residual.result _ r.1 r.2 (rests s g.met.W.Look.keeps_itself g.met.W.Look.keeps_on (and_then one others) c.values.invariant (next_turn g.S.Work.steps c.args.number c.args.construct.now c.args.values.now c.values.value-index (pos 0) c.values.work c.values-test.true ∙ ap (λ place. and_then (block_in g.S.Work.steps false c.args.number place c.args.construct.now.block c.values.work) (each (turn_of g.S.Work.steps c.args.number c.args.construct.now) (drop (c.values.value-index + 1) c.args.values.now))) (sym c.turn_at-turn.ensures))) c.in_err-block.ensures

pub turns-values-preserved : goal.turns-values-preserved
turns-values-preserved g t c =
    let s : Sight Reply _ = record { tells = g.W.Look.tells; keeps = g.W.Look.keeps; halted = g.W.Look.halted; stops = g.W.Look.stops; asked = g.W.Look.asked } in
    let one = block_in g.S.Work.steps false c.args.number c.turn_at-turn.result c.args.construct.now.block c.values.work in
    let others = each (turn_of g.S.Work.steps c.args.number c.args.construct.now) (drop (c.values.value-index + 1) c.args.values.now) in
    goes_on s g.met.W.Look.keeps_itself g.met.W.Look.keeps_on one others (rests s g.met.W.Look.keeps_itself g.met.W.Look.keeps_on (and_then one others) c.values.invariant (next_turn g.S.Work.steps c.args.number c.args.construct.now c.args.values.now c.values.value-index (pos 0) c.values.work c.values-test.true ∙ ap (λ place. and_then (block_in g.S.Work.steps false c.args.number place c.args.construct.now.block c.values.work) (each (turn_of g.S.Work.steps c.args.number c.args.construct.now) (drop (c.values.value-index + 1) c.args.values.now))) (sym c.turn_at-turn.ensures))) c.block.new.work c.in_ok-block.ensures

-- ---- conditionals

pub conditional-returns-in_err-found_condition : goal.conditional-returns-in_err-found_condition
conditional-returns-in_err-found_condition g t c =
    let s : Sight Reply _ = record { tells = g.W.Look.tells; keeps = g.W.Look.keeps; halted = g.W.Look.halted; stops = g.W.Look.stops; asked = g.W.Look.asked } in
    let r = err_from_is_err_and c.from_residual.result c.from_residual.ensures.1 in
    let found = found_condition g.S.Work.steps c.deref.result.now c.args.work.now in let next = branches_in g.S.Work.steps c.args.number c.args.construct.now (found_condition g.S.Work.steps c.deref.result.now c.args.work.now).1.0 (found_condition g.S.Work.steps c.deref.result.now c.args.work.now).1.1 in
    leaves_spent s g.met.W.Look.keeps_itself g.met.W.Look.keeps_on c.found_condition.new.fuel found next c.in_err-found_condition.field-0.0 r.0 c.from_residual.result _ r.1 r.2 (rests s g.met.W.Look.keeps_itself g.met.W.Look.keeps_on (Spend found.0 next) (begins s g.met.W.Look.keeps_itself g.met.W.Look.keeps_on c.args.world.now c.args.fuel.now (if_in g.S.Work.steps c.args.number c.args.construct.now c.args.work.now) c.requires) (condition_is g.S.Work.steps c.args.number c.args.construct.now c.deref.result.now c.args.work.now c.deref.ensures)) c.in_err-found_condition.ensures

pub conditional-returns-then-branch : goal.conditional-returns-then-branch
conditional-returns-then-branch g t c =
    let s : Sight Reply _ = record { tells = g.W.Look.tells; keeps = g.W.Look.keeps; halted = g.W.Look.halted; stops = g.W.Look.stops; asked = g.W.Look.asked } in
    let found = found_condition g.S.Work.steps c.deref.result.now c.args.work.now in let next = branches_in g.S.Work.steps c.args.number c.args.construct.now (found_condition g.S.Work.steps c.deref.result.now c.args.work.now).1.0 (found_condition g.S.Work.steps c.deref.result.now c.args.work.now).1.1 in
    let all = block_in g.S.Work.steps true c.args.number None (out-IfGenerate c.args.construct.now).chosen c.found_condition.new.work in
    ends s g.met.W.Look.keeps_itself g.met.W.Look.keeps_on c.block.new.world c.block.new.fuel all _ (rests s g.met.W.Look.keeps_itself g.met.W.Look.keeps_on all (pays s g.met.W.Look.keeps_itself g.met.W.Look.keeps_on found next (c.in_ok-found_condition.field-0, c.found_condition.new.work) (rests s g.met.W.Look.keeps_itself g.met.W.Look.keeps_on (Spend found.0 next) (begins s g.met.W.Look.keeps_itself g.met.W.Look.keeps_on c.args.world.now c.args.fuel.now (if_in g.S.Work.steps c.args.number c.args.construct.now c.args.work.now) c.requires) (condition_is g.S.Work.steps c.args.number c.args.construct.now c.deref.result.now c.args.work.now c.deref.ensures)) c.in_ok-found_condition.ensures) (branch_chosen g.S.Work.steps c.args.number c.args.construct.now found.1 c.found_condition.new.work _ c.in_ok-found_condition.ensures.1 c.if-branch.true)) c.block.ensures

pub conditional-returns-in-Some : goal.conditional-returns-in-Some
conditional-returns-in-Some g t c =
    let s : Sight Reply _ = record { tells = g.W.Look.tells; keeps = g.W.Look.keeps; halted = g.W.Look.halted; stops = g.W.Look.stops; asked = g.W.Look.asked } in
    let found = found_condition g.S.Work.steps c.deref.result.now c.args.work.now in let next = branches_in g.S.Work.steps c.args.number c.args.construct.now (found_condition g.S.Work.steps c.deref.result.now c.args.work.now).1.0 (found_condition g.S.Work.steps c.deref.result.now c.args.work.now).1.1 in
    let all = block_in g.S.Work.steps true c.args.number None c.in-Some.branch.block c.found_condition.new.work in
    ends s g.met.W.Look.keeps_itself g.met.W.Look.keeps_on c.block-in-Some.new.world c.block-in-Some.new.fuel all _ (rests s g.met.W.Look.keeps_itself g.met.W.Look.keeps_on all (pays s g.met.W.Look.keeps_itself g.met.W.Look.keeps_on found next (c.in_ok-found_condition.field-0, c.found_condition.new.work) (rests s g.met.W.Look.keeps_itself g.met.W.Look.keeps_on (Spend found.0 next) (begins s g.met.W.Look.keeps_itself g.met.W.Look.keeps_on c.args.world.now c.args.fuel.now (if_in g.S.Work.steps c.args.number c.args.construct.now c.args.work.now) c.requires) (condition_is g.S.Work.steps c.args.number c.args.construct.now c.deref.result.now c.args.work.now c.deref.ensures)) c.in_ok-found_condition.ensures) (branch_otherwise g.S.Work.steps c.args.number c.args.construct.now found.1 c.found_condition.new.work _ c.in-Some.branch c.in_ok-found_condition.ensures.1 c.if-branch.false c.in-Some.is)) c.block-in-Some.ensures

pub conditional-returns-in-None : goal.conditional-returns-in-None
conditional-returns-in-None g t c =
    let s : Sight Reply _ = record { tells = g.W.Look.tells; keeps = g.W.Look.keeps; halted = g.W.Look.halted; stops = g.W.Look.stops; asked = g.W.Look.asked } in
    let found = found_condition g.S.Work.steps c.deref.result.now c.args.work.now in let next = branches_in g.S.Work.steps c.args.number c.args.construct.now (found_condition g.S.Work.steps c.deref.result.now c.args.work.now).1.0 (found_condition g.S.Work.steps c.deref.result.now c.args.work.now).1.1 in
    rests s g.met.W.Look.keeps_itself g.met.W.Look.keeps_on (Give c.found_condition.new.work) (pays s g.met.W.Look.keeps_itself g.met.W.Look.keeps_on found next (c.in_ok-found_condition.field-0, c.found_condition.new.work) (rests s g.met.W.Look.keeps_itself g.met.W.Look.keeps_on (Spend found.0 next) (begins s g.met.W.Look.keeps_itself g.met.W.Look.keeps_on c.args.world.now c.args.fuel.now (if_in g.S.Work.steps c.args.number c.args.construct.now c.args.work.now) c.requires) (condition_is g.S.Work.steps c.args.number c.args.construct.now c.deref.result.now c.args.work.now c.deref.ensures)) c.in_ok-found_condition.ensures) (branch_none g.S.Work.steps c.args.number c.args.construct.now found.1 c.found_condition.new.work _ c.in_ok-found_condition.ensures.1 c.if-branch.false c.in-None.is)

pub cased-returns-in_err-found_item : goal.cased-returns-in_err-found_item
cased-returns-in_err-found_item g t c =
    let s : Sight Reply _ = record { tells = g.W.Look.tells; keeps = g.W.Look.keeps; halted = g.W.Look.halted; stops = g.W.Look.stops; asked = g.W.Look.asked } in
    let r = err_from_is_err_and c.from_residual.result c.from_residual.ensures.1 in
    let found = found_item g.S.Work.steps c.deref.result.now c.deref-2.result.now c.args.work.now in let next = item_at g.S.Work.steps c.args.number (found_item g.S.Work.steps c.deref.result.now c.deref-2.result.now c.args.work.now).1.0 c.args.construct.now.items.items (found_item g.S.Work.steps c.deref.result.now c.deref-2.result.now c.args.work.now).1.1 in
    leaves_spent s g.met.W.Look.keeps_itself g.met.W.Look.keeps_on c.found_item.new.fuel found next c.in_err-found_item.field-0.0 r.0 c.from_residual.result _ r.1 r.2 (rests s g.met.W.Look.keeps_itself g.met.W.Look.keeps_on (Spend found.0 next) (begins s g.met.W.Look.keeps_itself g.met.W.Look.keeps_on c.args.world.now c.args.fuel.now (case_of_construct g.S.Work.steps c.args.number c.args.construct.now c.args.work.now) c.requires) (selection_is g.S.Work.steps c.args.number c.args.construct.now c.deref.result.now c.deref-2.result.now c.args.work.now c.deref.ensures c.deref-2.ensures.value)) c.in_err-found_item.ensures

pub cased-returns-in-None : goal.cased-returns-in-None
cased-returns-in-None g t c =
    let s : Sight Reply _ = record { tells = g.W.Look.tells; keeps = g.W.Look.keeps; halted = g.W.Look.halted; stops = g.W.Look.stops; asked = g.W.Look.asked } in
    let found = found_item g.S.Work.steps c.deref.result.now c.deref-2.result.now c.args.work.now in let next = item_at g.S.Work.steps c.args.number (found_item g.S.Work.steps c.deref.result.now c.deref-2.result.now c.args.work.now).1.0 c.args.construct.now.items.items (found_item g.S.Work.steps c.deref.result.now c.deref-2.result.now c.args.work.now).1.1 in
    rests s g.met.W.Look.keeps_itself g.met.W.Look.keeps_on (Give c.found_item.new.work) (pays s g.met.W.Look.keeps_itself g.met.W.Look.keeps_on found next (c.in_ok-found_item.field-0, c.found_item.new.work) (rests s g.met.W.Look.keeps_itself g.met.W.Look.keeps_on (Spend found.0 next) (begins s g.met.W.Look.keeps_itself g.met.W.Look.keeps_on c.args.world.now c.args.fuel.now (case_of_construct g.S.Work.steps c.args.number c.args.construct.now c.args.work.now) c.requires) (selection_is g.S.Work.steps c.args.number c.args.construct.now c.deref.result.now c.deref-2.result.now c.args.work.now c.deref.ensures c.deref-2.ensures.value)) c.in_ok-found_item.ensures) (selects_none g.S.Work.steps c.args.number c.args.construct.now.items.items found.1 c.found_item.new.work _ c.in_ok-found_item.ensures.1 c.in-None.is)

pub cased-returns-then-chosen-len : goal.cased-returns-then-chosen-len
cased-returns-then-chosen-len g t c =
    let s : Sight Reply _ = record { tells = g.W.Look.tells; keeps = g.W.Look.keeps; halted = g.W.Look.halted; stops = g.W.Look.stops; asked = g.W.Look.asked } in
    let found = found_item g.S.Work.steps c.deref.result.now c.deref-2.result.now c.args.work.now in let next = item_at g.S.Work.steps c.args.number (found_item g.S.Work.steps c.deref.result.now c.deref-2.result.now c.args.work.now).1.0 c.args.construct.now.items.items (found_item g.S.Work.steps c.deref.result.now c.deref-2.result.now c.args.work.now).1.1 in
    rests s g.met.W.Look.keeps_itself g.met.W.Look.keeps_on (Give c.found_item.new.work) (pays s g.met.W.Look.keeps_itself g.met.W.Look.keeps_on found next (c.in_ok-found_item.field-0, c.found_item.new.work) (rests s g.met.W.Look.keeps_itself g.met.W.Look.keeps_on (Spend found.0 next) (begins s g.met.W.Look.keeps_itself g.met.W.Look.keeps_on c.args.world.now c.args.fuel.now (case_of_construct g.S.Work.steps c.args.number c.args.construct.now c.args.work.now) c.requires) (selection_is g.S.Work.steps c.args.number c.args.construct.now c.deref.result.now c.deref-2.result.now c.args.work.now c.deref.ensures c.deref-2.ensures.value)) c.in_ok-found_item.ensures) (selects_beyond g.S.Work.steps c.args.number c.args.construct.now.items.items found.1 c.found_item.new.work _ c.in-Some.chosen c.in_ok-found_item.ensures.1 c.in-Some.is (omega (arith, c.len.ensures, c.args.construct.now.items.ok.0, c.if-chosen-len.true)))

pub cased-returns-else-chosen-len : goal.cased-returns-else-chosen-len
cased-returns-else-chosen-len g t c =
    let s : Sight Reply _ = record { tells = g.W.Look.tells; keeps = g.W.Look.keeps; halted = g.W.Look.halted; stops = g.W.Look.stops; asked = g.W.Look.asked } in
    let found = found_item g.S.Work.steps c.deref.result.now c.deref-2.result.now c.args.work.now in let next = item_at g.S.Work.steps c.args.number (found_item g.S.Work.steps c.deref.result.now c.deref-2.result.now c.args.work.now).1.0 c.args.construct.now.items.items (found_item g.S.Work.steps c.deref.result.now c.deref-2.result.now c.args.work.now).1.1 in
    let all = case_item_in g.S.Work.steps c.args.number c.index.result.now c.found_item.new.work in
    ends s g.met.W.Look.keeps_itself g.met.W.Look.keeps_on c.case_item.new.world c.case_item.new.fuel all _ (rests s g.met.W.Look.keeps_itself g.met.W.Look.keeps_on all (pays s g.met.W.Look.keeps_itself g.met.W.Look.keeps_on found next (c.in_ok-found_item.field-0, c.found_item.new.work) (rests s g.met.W.Look.keeps_itself g.met.W.Look.keeps_on (Spend found.0 next) (begins s g.met.W.Look.keeps_itself g.met.W.Look.keeps_on c.args.world.now c.args.fuel.now (case_of_construct g.S.Work.steps c.args.number c.args.construct.now c.args.work.now) c.requires) (selection_is g.S.Work.steps c.args.number c.args.construct.now c.deref.result.now c.deref-2.result.now c.args.work.now c.deref.ensures c.deref-2.ensures.value)) c.in_ok-found_item.ensures) (selects_there g.S.Work.steps c.args.number c.args.construct.now.items.items found.1 c.found_item.new.work _ c.in-Some.chosen c.index.result.now c.in_ok-found_item.ensures.1 c.in-Some.is (omega (arith, c.len.ensures, c.args.construct.now.items.ok.0, c.if-chosen-len.false)) (c.index.ensures))) c.case_item.ensures

pub case_item-returns-in-Default : goal.case_item-returns-in-Default
case_item-returns-in-Default g t c =
    let s : Sight Reply _ = record { tells = g.W.Look.tells; keeps = g.W.Look.keeps; halted = g.W.Look.halted; stops = g.W.Look.stops; asked = g.W.Look.asked } in
    let all = block_in g.S.Work.steps true c.args.number None c.in-Default.chosen c.args.work.now in
    ends s g.met.W.Look.keeps_itself g.met.W.Look.keeps_on c.block.new.world c.block.new.fuel all _ (rests s g.met.W.Look.keeps_itself g.met.W.Look.keeps_on all (begins s g.met.W.Look.keeps_itself g.met.W.Look.keeps_on c.args.world.now c.args.fuel.now (case_item_in g.S.Work.steps c.args.number c.args.one.now c.args.work.now) c.requires) (ap (λ i. case_item_in g.S.Work.steps c.args.number i c.args.work.now) c.in-Default.is ∙ of_default g.S.Work.steps c.args.number _ _ c.in-Default.chosen c.args.work.now)) c.block.ensures

pub case_item-returns-in-Labels : goal.case_item-returns-in-Labels
case_item-returns-in-Labels g t c =
    let s : Sight Reply _ = record { tells = g.W.Look.tells; keeps = g.W.Look.keeps; halted = g.W.Look.halted; stops = g.W.Look.stops; asked = g.W.Look.asked } in
    let all = block_in g.S.Work.steps true c.args.number None c.in-Labels.chosen c.args.work.now in
    ends s g.met.W.Look.keeps_itself g.met.W.Look.keeps_on c.block-in-Labels.new.world c.block-in-Labels.new.fuel all _ (rests s g.met.W.Look.keeps_itself g.met.W.Look.keeps_on all (begins s g.met.W.Look.keeps_itself g.met.W.Look.keeps_on c.args.world.now c.args.fuel.now (case_item_in g.S.Work.steps c.args.number c.args.one.now c.args.work.now) c.requires) (ap (λ i. case_item_in g.S.Work.steps c.args.number i c.args.work.now) c.in-Labels.is ∙ of_labels g.S.Work.steps c.args.number _ _ c.in-Labels.chosen c.args.work.now)) c.block-in-Labels.ensures

-- ---- blocks

pub block-returns-in-Block : goal.block-returns-in-Block
block-returns-in-Block g t c =
    let s : Sight Reply _ = record { tells = g.W.Look.tells; keeps = g.W.Look.keeps; halted = g.W.Look.halted; stops = g.W.Look.stops; asked = g.W.Look.asked } in
    let all = scoped_block g.S.Work.steps c.args.number c.args.turn c.args.one.now c.args.work.now in
    ends s g.met.W.Look.keeps_itself g.met.W.Look.keeps_on c.scoped.new.world c.scoped.new.fuel all _ (rests s g.met.W.Look.keeps_itself g.met.W.Look.keeps_on all (begins s g.met.W.Look.keeps_itself g.met.W.Look.keeps_on c.args.world.now c.args.fuel.now (block_in g.S.Work.steps c.args.nests c.args.number c.args.turn c.args.one.now c.args.work.now) c.requires) (body_is g.S.Work.steps c.args.nests c.args.number c.args.turn c.args.one.now _ c.args.work.now c.in-Block.is)) c.scoped.ensures

pub block-returns-in_err-pay_item-in-Item : goal.block-returns-in_err-pay_item-in-Item
block-returns-in_err-pay_item-in-Item g t c =
    let s : Sight Reply _ = record { tells = g.W.Look.tells; keeps = g.W.Look.keeps; halted = g.W.Look.halted; stops = g.W.Look.stops; asked = g.W.Look.asked } in
    let r = err_from_is_err_and c.from_residual.result c.from_residual.ensures.1 in
    let next = item g.S.Work.steps (Some c.args.number) c.deref.result.now c.args.work.now in
    leaves_spent s g.met.W.Look.keeps_itself g.met.W.Look.keeps_on c.pay_item.new.fuel (1, tt {0}) next c.in_err-pay_item-in-Item.field-0.0 r.0 c.from_residual.result _ r.1 r.2 (rests s g.met.W.Look.keeps_itself g.met.W.Look.keeps_on (Spend 1 next) (begins s g.met.W.Look.keeps_itself g.met.W.Look.keeps_on c.args.world.now c.args.fuel.now (block_in g.S.Work.steps c.args.nests c.args.number c.args.turn c.args.one.now c.args.work.now) c.requires) (part_is g.S.Work.steps c.args.nests c.args.number c.args.turn c.args.one.now c.in-Item.part c.deref.result.now c.args.work.now _ c.in-Item.is c.deref.ensures c.is_part.ensures c.if-is_part.true)) (c.in_err-pay_item-in-Item.ensures, tt)

pub block-returns-then-is_part : goal.block-returns-then-is_part
block-returns-then-is_part g t c =
    let s : Sight Reply _ = record { tells = g.W.Look.tells; keeps = g.W.Look.keeps; halted = g.W.Look.halted; stops = g.W.Look.stops; asked = g.W.Look.asked } in
    let next = item g.S.Work.steps (Some c.args.number) c.deref.result.now c.args.work.now in let same = item g.S.Work.steps (Some c.args.number) c.deref-then-is_part.result.now c.args.work.now in
    ends s g.met.W.Look.keeps_itself g.met.W.Look.keeps_on c.item.new.world c.item.new.fuel same _ (rests s g.met.W.Look.keeps_itself g.met.W.Look.keeps_on same (pays s g.met.W.Look.keeps_itself g.met.W.Look.keeps_on (1, tt {0}) next tt (rests s g.met.W.Look.keeps_itself g.met.W.Look.keeps_on (Spend 1 next) (begins s g.met.W.Look.keeps_itself g.met.W.Look.keeps_on c.args.world.now c.args.fuel.now (block_in g.S.Work.steps c.args.nests c.args.number c.args.turn c.args.one.now c.args.work.now) c.requires) (part_is g.S.Work.steps c.args.nests c.args.number c.args.turn c.args.one.now c.in-Item.part c.deref.result.now c.args.work.now _ c.in-Item.is c.deref.ensures c.is_part.ensures c.if-is_part.true)) (c.in_ok-pay_item-in-Item.ensures, refl)) (ap (λ x. item g.S.Work.steps (Some c.args.number) x c.args.work.now) (c.deref.ensures ∙ sym c.deref-then-is_part.ensures))) c.item.ensures

pub block-returns-else-is_part : goal.block-returns-else-is_part
block-returns-else-is_part g t c =
    let s : Sight Reply _ = record { tells = g.W.Look.tells; keeps = g.W.Look.keeps; halted = g.W.Look.halted; stops = g.W.Look.stops; asked = g.W.Look.asked } in
    let all = scoped_block g.S.Work.steps c.args.number c.args.turn c.args.one.now c.args.work.now in
    ends s g.met.W.Look.keeps_itself g.met.W.Look.keeps_on c.scoped-in-Item.new.world c.scoped-in-Item.new.fuel all _ (rests s g.met.W.Look.keeps_itself g.met.W.Look.keeps_on all (begins s g.met.W.Look.keeps_itself g.met.W.Look.keeps_on c.args.world.now c.args.fuel.now (block_in g.S.Work.steps c.args.nests c.args.number c.args.turn c.args.one.now c.args.work.now) c.requires) (bare_is g.S.Work.steps c.args.nests c.args.number c.args.turn c.args.one.now c.in-Item.part c.deref.result.now c.args.work.now _ c.in-Item.is c.deref.ensures c.is_part.ensures c.if-is_part.false)) c.scoped-in-Item.ensures

pub scoped-returns-in_err-contents : goal.scoped-returns-in_err-contents
scoped-returns-in_err-contents g t c =
    let s : Sight Reply _ = record { tells = g.W.Look.tells; keeps = g.W.Look.keeps; halted = g.W.Look.halted; stops = g.W.Look.stops; asked = g.W.Look.asked } in
    let r = err_from_is_err_and c.from_residual-in_err-contents.result c.from_residual-in_err-contents.ensures.1 in
    let all = contents_of g.S.Work.steps c.args.one.now c.opens.new.work in
    leaves s g.met.W.Look.keeps_itself g.met.W.Look.keeps_on c.contents.new.world c.contents.new.fuel all (λ u. Give (g.S.Work.steps.leave u)) c.in_err-contents.field-0.0 r.0 c.from_residual-in_err-contents.result _ r.1 r.2 (rests s g.met.W.Look.keeps_itself g.met.W.Look.keeps_on (and_then all (λ u. Give (g.S.Work.steps.leave u))) (begins s g.met.W.Look.keeps_itself g.met.W.Look.keeps_on c.args.world.now c.args.fuel.now (scoped_block g.S.Work.steps c.args.number c.args.turn c.args.one.now c.args.work.now) c.requires) (block_goes g.S.Work.steps c.args.number c.args.turn c.args.one.now (contents_of g.S.Work.steps c.args.one.now) c.args.work.now c.opens.new.work _ c.in_ok-opens.ensures.opened c.if-not-branch.false c.in_ok-opens.ensures.left)) c.in_err-contents.ensures

pub scoped-returns : goal.scoped-returns
scoped-returns g t c =
    let s : Sight Reply _ = record { tells = g.W.Look.tells; keeps = g.W.Look.keeps; halted = g.W.Look.halted; stops = g.W.Look.stops; asked = g.W.Look.asked } in
    let all = contents_of g.S.Work.steps c.args.one.now c.opens.new.work in
    rests s g.met.W.Look.keeps_itself g.met.W.Look.keeps_on (Give c.leave.new.self) (goes_on s g.met.W.Look.keeps_itself g.met.W.Look.keeps_on all (λ u. Give (g.S.Work.steps.leave u)) (rests s g.met.W.Look.keeps_itself g.met.W.Look.keeps_on (and_then all (λ u. Give (g.S.Work.steps.leave u))) (begins s g.met.W.Look.keeps_itself g.met.W.Look.keeps_on c.args.world.now c.args.fuel.now (scoped_block g.S.Work.steps c.args.number c.args.turn c.args.one.now c.args.work.now) c.requires) (block_goes g.S.Work.steps c.args.number c.args.turn c.args.one.now (contents_of g.S.Work.steps c.args.one.now) c.args.work.now c.opens.new.work _ c.in_ok-opens.ensures.opened c.if-not-branch.false c.in_ok-opens.ensures.left)) c.contents.new.work c.in_ok-contents.ensures) (ap Give (sym c.in_ok-leave.ensures))

pub contents-returns-in-Block : goal.contents-returns-in-Block
contents-returns-in-Block g t c =
    let s : Sight Reply _ = record { tells = g.W.Look.tells; keeps = g.W.Look.keeps; halted = g.W.Look.halted; stops = g.W.Look.stops; asked = g.W.Look.asked } in
    let all = each (counted_item g.S.Work.steps) c.deref-in-Block.result.now c.args.work.now in
    ends s g.met.W.Look.keeps_itself g.met.W.Look.keeps_on c.items.new.world c.items.new.fuel all _ (rests s g.met.W.Look.keeps_itself g.met.W.Look.keeps_on all (begins s g.met.W.Look.keeps_itself g.met.W.Look.keeps_on c.args.world.now c.args.fuel.now (contents_of g.S.Work.steps c.args.one.now c.args.work.now) c.requires) (items_within g.S.Work.steps c.args.one.now c.in-Block.body c.deref.result.now c.args.work.now c.deref-in-Block.result.now c.in-Block.is c.deref.ensures c.deref-in-Block.ensures.value)) c.items.ensures

pub contents-returns-in_err-pay_item-in-Item : goal.contents-returns-in_err-pay_item-in-Item
contents-returns-in_err-pay_item-in-Item g t c =
    let s : Sight Reply _ = record { tells = g.W.Look.tells; keeps = g.W.Look.keeps; halted = g.W.Look.halted; stops = g.W.Look.stops; asked = g.W.Look.asked } in
    let r = err_from_is_err_and c.from_residual.result c.from_residual.ensures.1 in
    let next = item g.S.Work.steps None c.in-Item.part.value c.args.work.now in
    leaves_spent s g.met.W.Look.keeps_itself g.met.W.Look.keeps_on c.pay_item.new.fuel (1, tt {0}) next c.in_err-pay_item-in-Item.field-0.0 r.0 c.from_residual.result _ r.1 r.2 (rests s g.met.W.Look.keeps_itself g.met.W.Look.keeps_on (Spend 1 next) (begins s g.met.W.Look.keeps_itself g.met.W.Look.keeps_on c.args.world.now c.args.fuel.now (contents_of g.S.Work.steps c.args.one.now c.args.work.now) c.requires) (item_within g.S.Work.steps c.args.one.now c.in-Item.part c.in-Item.part.value c.args.work.now c.in-Item.is refl)) (c.in_err-pay_item-in-Item.ensures, tt)

pub contents-returns-in_ok-pay_item-in-Item : goal.contents-returns-in_ok-pay_item-in-Item
contents-returns-in_ok-pay_item-in-Item g t c =
    let s : Sight Reply _ = record { tells = g.W.Look.tells; keeps = g.W.Look.keeps; halted = g.W.Look.halted; stops = g.W.Look.stops; asked = g.W.Look.asked } in
    let next = item g.S.Work.steps None c.deref-in-Item.result.now c.args.work.now in
    ends s g.met.W.Look.keeps_itself g.met.W.Look.keeps_on c.item.new.world c.item.new.fuel next _ (pays s g.met.W.Look.keeps_itself g.met.W.Look.keeps_on (1, tt {0}) next tt (rests s g.met.W.Look.keeps_itself g.met.W.Look.keeps_on (Spend 1 next) (begins s g.met.W.Look.keeps_itself g.met.W.Look.keeps_on c.args.world.now c.args.fuel.now (contents_of g.S.Work.steps c.args.one.now c.args.work.now) c.requires) (item_within g.S.Work.steps c.args.one.now c.in-Item.part c.deref-in-Item.result.now c.args.work.now c.in-Item.is c.deref-in-Item.ensures)) (c.in_ok-pay_item-in-Item.ensures, refl)) c.item.ensures
