-- Elements of the chunks so far were added, and those of the others make what is left.
use Rattle.std.proofs.Common.{◌≡◌, ◌-◌, Option}
use Rattle.sve_key.specs.declared.key.Key.{Key}
use Rattle.sve_key.specs.declared.value.Value.{Value}
use Rattle.sve_kinds.specs.Passes.{Passes}
use Rattle.sve_kinds.specs.Asked.{HoldsFree, IsAny, SoFar}
use Rattle.sve_make.specs.Make.{elements_told}
use Rattle.sve_kinds.proofs.indexing.add_elements.Given as goal

abbrev pub invariant-chunks : goal.invariant-chunks
invariant-chunks g l = record {
  passes : Passes g.F.Fetch.tells g.F.Fetch.keeps g.F.Fetch.is_quiet (λ f. g.K.Keyed.counted (g.F.Fetch.kind f)) g.F.Fetch.halted IsAny l.initial.from l.from;
  calm : g.F.Fetch.halted l.from ≡ g.F.Fetch.halted l.initial.from;
  went : g.F.Fetch.stops l.from ≡ g.F.Fetch.stops l.initial.from;
  so_far : (told : Key → Option Value) → HoldsFree told (g.F.Fetch.tells l.initial.from) → SoFar (elements_told told l.file 0 l.count) (elements_told told l.file l.n (l.count - l.n)) l.initial.elements.items l.elements.items;
}
