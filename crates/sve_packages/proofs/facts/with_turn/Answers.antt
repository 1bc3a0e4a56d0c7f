use Rattle.std.proofs.Common.{◌≡◌, List, None, Some, IfOk, refl, sym, subst}
use Rattle.std.proofs.lemmas.Option.{slice_get_past, slice_get_read}
use Rattle.sve_known.specs.Packages.{Known}
use Rattle.sve_packages.proofs.Joined.{at_turn}
use Rattle.sve_packages.proofs.facts.with_turn.Goals as goal

pub returns-in-Some : goal.returns-in-Some
returns-in-Some c =
    let here = c.in-Some.ensures.lookup.3 in
    let each = slice_get_read c.args.packages.now _ c.args.turn.now.place c.in-Some.each.now refl here.0 (here.1 c.in-Some.each.now) in
    subst (λ (known : List Known). IfOk c.with_package.result (λ all. all ≡ known)) (sym (at_turn c.args.packages.now c.args.known c.args.turn.now (Some c.in-Some.each.now) each)) c.with_package.ensures

pub returns-in-None : goal.returns-in-None
returns-in-None c = sym (at_turn c.args.packages.now c.args.known c.args.turn.now None (slice_get_past c.args.packages.now c.args.turn.now.place c.in-None.ensures.lookup.3))
