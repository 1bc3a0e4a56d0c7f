use Rattle.std.proofs.Common.{◌≡◌, ◌-◌, ◌∙◌, ◌||◌, true, sym, ap, arith}
use Rattle.sve_hier.specs.Places.{entry_at}
use Rattle.sve_hier.proofs.Upward.{found_here, is_searched}
use Rattle.sve_hier.proofs.hierarchy.Hierarchy.+found.Goals as goal

pub returns-in-Some : goal.returns-in-Some
returns-in-Some t c =
    let w : (c.is_instance-is_instance.result || c.args.own) ≡ true = is_searched c.is_instance-is_instance.result c.args.own c.else-not-is_instance.either in
    found_here (entry_at c.args.self.now) c.args.step.now c.args.from.now c.args.count (c.args.count - 1) c.args.own c.in_ok-scope.scope c.in-Some.place (omega (arith, c.if-count-eq0.false)) c.in_ok-scope.ensures (ap (λ b. b || c.args.own) (sym c.is_instance-is_instance.ensures) ∙ w) (sym c.in-Some.is ∙ c.in_ok-place.ensures)
