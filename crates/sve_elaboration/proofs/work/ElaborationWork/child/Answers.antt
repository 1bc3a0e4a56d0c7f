-- What the instance leaves is left in what was found, and the child is added.
use Rattle.std.proofs.Common.{◌≡◌}
use Rattle.sve_elaboration.specs.State.{Found}
use Rattle.sve_elaboration.proofs.Placing.{child_ends}
use Rattle.sve_elaboration.proofs.work.ElaborationWork.child.Goals as goal

pub returns : goal.returns
returns c =
    let inside = c.self.inside in
    let found : Found = record {
      packages = inside.text.packages.now;
      words = inside.text.words.now;
      designs = inside.designs.now;
      given = inside.given.now;
      is_open = inside.is_open;
      place = inside.place;
      nested = inside.nested;
      overrides = inside.overrides;
      values = inside.values.items;
      ports = inside.ports;
      children = inside.children.items;
      nets = inside.nets.items;
      hierarchical = inside.hierarchical.items;
    } in
    let now = c.args.self.now in
    let seen : found ≡ now = c.self.view_is in
    child_ends c.add_one.result found now c.in_ok-contents.contents c.args.spec c.args.ports.now c.args.instance.now c.in_ok-placed.placed c.add_one.new.list.items seen c.in_ok-contents.ensures c.in_ok-placed.ensures c.add_one.ensures
