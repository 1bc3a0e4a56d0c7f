-- The packages that are known, with those whose turns are left, are all.
use Rattle.std.proofs.Common.{◌≡◌, [], drop, map}
use Rattle.std.specs.List.{fold}
use Rattle.sve_packages.specs.Packages.{design_package, with_turn}
use Rattle.sve_packages.proofs.facts.in_turn.Given as goal

abbrev pub invariant-turns : goal.invariant-turns
invariant-turns l = fold (with_turn (map design_package l.packages)) l.known (drop l.turn-index l.turns) ≡ fold (with_turn (map design_package l.packages)) [] l.turns
