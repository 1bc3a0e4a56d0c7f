-- What is gathered stands in lists again.
use Rattle.std.proofs.Common.{◌≡◌, ◌∙◌}
use Rattle.sve_index.specs.declared.gathered.Gathered.{Gathered}
use Rattle.sve_index.specs.Gathered.{after}
use Rattle.sve_index.proofs.gathered.after.Goals as goal

pub returns : goal.returns
returns c =
    let made : Gathered = record { definitions = c.add_element.new.definitions; packages = c.add_element.new.packages; instantiated = c.add_element.new.instantiated; roots = c.add_element.new.roots.items; notes = c.add_element.new.notes.items } in
    let listed : record made { roots = c.of.result; notes = c.of-2.result } ≡ made = λ k. record made { roots = c.of.ensures k; notes = c.of-2.ensures k } in
    let same : after (record c.args.gathered { roots = c.into_vec-roots.result.items; notes = c.into_vec-notes.result.items }) c.args.source.now ≡ after c.args.gathered c.args.source.now =
    λ k. after (record c.args.gathered { roots = c.into_vec-roots.ensures k; notes = c.into_vec-notes.ensures k }) c.args.source.now in
    listed ∙ c.in_ok-add_element.ensures ∙ same
