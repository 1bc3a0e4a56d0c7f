-- What the chunks so far gave, then what the others give, is what all give.
use Rattle.std.proofs.Common.{◌≡◌, ◌++◌, drop}
use Rattle.std.specs.List.{flat_map}
use Rattle.sve_unit.specs.Chunks.{parts}
use Rattle.sve_front.specs.Diagnostics.{chunk_diags}
use Rattle.sve_front.specs.Elements.{AreElements}
use Rattle.sve_front.proofs.Additions.{GoesOn}
use Rattle.sve_front.proofs.Trees.{TreesGoOn}
use Rattle.sve_front.proofs.reading.read_chunks.Given as goal

abbrev pub invariant-chunks : goal.invariant-chunks
invariant-chunks l = record {
  elements : GoesOn (AreElements l.unit.file 0 (parts l.unit.tokens)) (AreElements l.unit.file l.n (drop l.n (parts l.unit.tokens))) l.initial.elements.items l.elements.items;
  diags : l.diags.items ++ flat_map (chunk_diags l.unit.end) (drop l.n (parts l.unit.tokens)) ≡ l.initial.diags.items ++ flat_map (chunk_diags l.unit.end) (parts l.unit.tokens);
  trees : TreesGoOn (parts l.unit.tokens) (drop l.n (parts l.unit.tokens)) l.trees.items;
}
