-- With the files of the names that are left, the files by now are those of all names.
use Rattle.std.proofs.Common.{◌≡◌, ℕ, List, ◌++◌, drop}
use Rattle.sve_kinds.specs.Passes.{Passes}
use Rattle.sve_gathered.specs.Gathered.{IsInput}
use Rattle.sve_gathered.specs.Told.{AreTold}
use Rattle.sve_gathered.proofs.gathering.files_of.Given as goal

abbrev pub invariant-names : goal.invariant-names
invariant-names g l = record {
  passes : Passes g.F.Fetch.tells g.F.Fetch.keeps g.F.Fetch.is_quiet (λ f. g.K.Keyed.counted (g.F.Fetch.kind f)) g.F.Fetch.halted IsInput l.initial.from l.from;
  went : g.F.Fetch.stops l.from ≡ g.F.Fetch.stops l.initial.from;
  told : (others : List (List ℕ × List ℕ)) → AreTold (g.F.Fetch.tells l.initial.from) (drop l.name-index l.names) others → AreTold (g.F.Fetch.tells l.initial.from) l.names (l.files.items ++ others);
}
