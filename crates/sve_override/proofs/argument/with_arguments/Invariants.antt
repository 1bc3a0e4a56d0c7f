-- What the overrides that are left add is what all add, and so is what they count.
use Rattle.std.proofs.Common.{◌≡◌, ◌≤◌, drop}
use Rattle.sve_fault.specs.Counts.{counted_on}
use Rattle.sve_env.specs.Nodes.{argument_count}
use Rattle.sve_override.specs.Arguments.{with_arguments}
use Rattle.sve_override.proofs.argument.with_arguments.Given as goal

abbrev pub invariant-arguments : goal.invariant-arguments
invariant-arguments g l = record {
  rest_is_whole : with_arguments (g.E.Env.told l.env) l.words l.list.arguments.separators.items l.list.closing l.place l.so_far (drop l.place l.list.arguments.items.items) ≡ with_arguments (g.E.Env.told l.env) l.words l.list.arguments.separators.items l.list.closing 0 l.fn.so_far l.list.arguments.items.items;
  counts : counted_on l.fuel.used (argument_count (g.E.Env.told l.env) (drop l.place l.list.arguments.items.items)) ≡ counted_on l.fn.fuel.used (argument_count (g.E.Env.told l.env) l.list.arguments.items.items);
  most : l.fuel.most ≡ l.fn.fuel.most;
  within : l.fuel.used ≤ l.fuel.most;
}
