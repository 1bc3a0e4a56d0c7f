use Rattle.std.proofs.Common.{◌∙◌, sym}
use Rattle.sve_scope.specs.Spots.{spot}
use Rattle.sve_scope.specs.Lookup.{meaning_of}
use Rattle.sve_scope.proofs.Chains.{found_there, goes_on, means_something}
use Rattle.sve_scope.proofs.found.outside.Goals.{in-None, in_default}
use Rattle.sve_scope.proofs.found.outside.Goals as goal

pub returns-then-not-matches : goal.returns-then-not-matches
returns-then-not-matches c =
    let place = spot c.args.here.now.file c.args.here.now.chunk c.args.token in
    elim c.match-matches.branch [
      | in-None w ↦ let a = w.matches-is in let b = c.if-not-matches.true in cc
      | in_default w ↦
          sym (found_there place c.args.name.now c.args.around.now c.scopes.place c.at.result.now (meaning_of c.in_scope-found.result) c.at.ensures c.in_scope-found.ensures
          (means_something c.in_scope-found.result w.in_default.not-None))
          ∙ c.scopes.invariant
    ]

pub scopes-preserved : goal.scopes-preserved
scopes-preserved c =
    let place = spot c.args.here.now.file c.args.here.now.chunk c.args.token in
    elim c.match-matches.branch [
      | in-None w ↦ sym (goes_on place c.args.name.now c.args.around.now c.scopes.place c.at.result.now c.at.ensures w.in-None.ensures) ∙ c.scopes.invariant
      | in_default w ↦ let a = w.matches-is in let b = c.if-not-matches.false in cc
    ]
