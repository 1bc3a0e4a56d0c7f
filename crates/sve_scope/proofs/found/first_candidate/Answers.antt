use Rattle.std.proofs.Common.{◌∙◌, sym}
use Rattle.sve_scope.specs.Spots.{spot}
use Rattle.sve_scope.proofs.Candidates.{begins, passes_by, candidate_is}
use Rattle.sve_scope.proofs.found.first_candidate.Goals as goal

pub returns-in-Some : goal.returns-in-Some
returns-in-Some c =
    let place = spot c.args.here.now.file c.args.here.now.chunk c.args.token in (
      c.at-import.result.now,
      sym c.places.invariant ∙ begins place c.args.name.now c.args.scope.now.wild c.places.place c.at-import.result.now c.in-Some.stored.now c.at-import.ensures (sym c.in-Some.ensures),
      c.name.ensures,
      candidate_is place c.args.name.now c.at-import.result.now c.in-Some.stored.now (sym c.in-Some.ensures),
    )

pub places-preserved : goal.places-preserved
places-preserved c =
    sym (passes_by (spot c.args.here.now.file c.args.here.now.chunk c.args.token) c.args.name.now c.args.scope.now.wild c.places.place c.at-import.result.now c.at-import.ensures (sym c.in_default.ensures))
    ∙ c.places.invariant
