use Rattle.std.proofs.Common.{◌≡◌, ◌++◌, drop}
use Rattle.sve_types.specs.TypeText.{dimensions_text}
use Rattle.sve_types.proofs.printing.append_dimensions.Given as goal

abbrev pub invariant-dimensions : goal.invariant-dimensions
invariant-dimensions l = l.text.items ++ dimensions_text (drop l.range-index l.dimensions) ≡ l.initial.text.items ++ dimensions_text l.dimensions
