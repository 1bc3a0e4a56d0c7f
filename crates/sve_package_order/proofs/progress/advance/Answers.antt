use Rattle.std.proofs.Common.{◌∙◌, ◌<◌, ◌+◌, Some, sym, ap, arith, subst, IfSome, take, drop}
use Rattle.std.proofs.lemmas.List.{take_more}
use Rattle.sve_package_order.specs.Search.{next_round, settled}
use Rattle.sve_package_order.proofs.Places.{parted}
use Rattle.sve_package_order.proofs.Next.{next_push, next_none}
use Rattle.sve_package_order.proofs.progress.advance.Goals as goal

pub above-next-requires : goal.above-next-requires
above-next-requires c = subst (λ r. IfSome r (λ n. n < 4294967295)) (sym c.settled.ensures ∙ c.in-Some.is) (c.requires.low c.import_at.result)

pub returns-in-None : goal.returns-in-None
returns-in-None c = (
  omega arith,
  c.imports.invariant.passed,
  ap (next_round (settled c.args.progress.now)) (parted c.args.imports.now c.imports.place (omega arith))
      ∙ next_none (settled c.args.progress.now) (take c.imports.place c.args.imports.now) (drop (c.imports.place + 1) c.args.imports.now) _
      (ap (settled c.args.progress.now) (sym c.import_at.ensures) ∙ sym c.settled.ensures ∙ c.in-None.is),
)

pub imports-preserved : goal.imports-preserved
imports-preserved c = record {
  passed = ap (next_round (settled c.args.progress.now)) (take_more c.args.imports.now c.imports.place 0 (omega arith))
      ∙ next_push (settled c.args.progress.now) (take c.imports.place c.args.imports.now) _ c.in-Some.earlier c.imports.next c.imports.invariant.passed
      (ap (settled c.args.progress.now) (sym c.import_at.ensures) ∙ sym c.settled.ensures ∙ c.in-Some.is)
      ∙ ap Some (sym c.above-next.ensures);
  within = omega arith;
}
