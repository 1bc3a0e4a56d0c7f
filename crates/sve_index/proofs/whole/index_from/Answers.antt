-- The tops are those of the names that are in no table.
use Rattle.std.proofs.Common.{◌∙◌, ap, ℕ, List}
use Rattle.std.specs.Prelude.{is_some, not}
use Rattle.std.specs.List.{filter}
use Rattle.sve_table.specs.Tables.{item_of}
use Rattle.sve_index.specs.Instances.{itself}
use Rattle.sve_index.proofs.whole.index_from.Goals as goal

pub returns : goal.returns
returns c = λ k. record {
  definitions = c.args.gathered.definitions;
  packages = c.args.gathered.packages;
  tops = (c.of.ensures ∙ c.in_ok-tops.ensures ∙ ap (filter (λ (name : List ℕ). not (is_some (item_of itself name c.args.gathered.instantiated)))) c.items.ensures) k;
  diags = c.args.gathered.notes;
}
