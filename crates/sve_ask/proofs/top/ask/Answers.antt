use Rattle.std.proofs.Common.{sym, ap, ◌∙◌}
use Rattle.std.specs.Arc.{arc_value}
use mathlib.Core.Logic.{∥∥₁_elim, ∥∥₁_map, ∥∥₁_prop}
use Rattle.sve_history.specs.Histories.{files_at}
use Rattle.sve_ask.specs.Sound.{files_of}
use Rattle.sve_ask.proofs.Watching.{ok_map}
use Rattle.sve_ask.proofs.top.ask.Goals as goal

pub brought_or_again-requires : goal.brought_or_again-requires
brought_or_again-requires g c =
    let h = c.args.lent.now.snapshot.history in
    let made = c.stays_made.ensures in
    record {
      fits = c.requires.fits;
      newest = record { last = made.last; here = ap (files_at h.opening h.entries) made.last ∙ sym made.newest; untouched = made.untouched };
      lent = λ m i. ∥∥₁_elim c.args.lent.now.sound ∥∥₁_prop (λ all. all m i);
      fresh = λ m i. ∥∥₁_elim c.requires.fresh ∥∥₁_prop (λ all. all m i);
    }

pub returns-clause-fresh : goal.returns-clause-fresh
returns-clause-fresh g c = ∣ c.brought_or_again.ensures.fresh ∣₁

pub returns-clause-value : goal.returns-clause-value
returns-clause-value g c =
    let h = c.args.lent.now.snapshot.history in
    let r = c.args.lent.now.snapshot.revision in
    ok_map c.brought_or_again.result _ _ c.brought_or_again.ensures.value (λ v p. (∥∥₁_map p.0 (λ x. g.met.K.Kinds.other_fuel (files_of h r) c.args.key.now c.args.fuel x.0 (arc_value v) x.1 p.1), p.1))

pub returns-clause-makes : goal.returns-clause-makes
returns-clause-makes g c = λ set. ∣ c.brought_or_again.ensures.makes set ∣₁
