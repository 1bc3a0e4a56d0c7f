-- What the overrides that are left give is what all give.
use Rattle.std.proofs.Common.{◌≡◌}
use Rattle.std.specs.List.{fold}
use Rattle.sve_param.specs.Giving.{taken, takes}
use Rattle.sve_param.proofs.giving.taken.Given as goal

abbrev pub invariant-overrides : goal.invariant-overrides
invariant-overrides l = fold (takes l.site.file.now l.site.chunk l.parameters) l.giving l.next-iterator.rest.items ≡ taken l.site.file.now l.site.chunk l.parameters l.fn.given l.fn.overrides.items
