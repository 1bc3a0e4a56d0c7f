use Rattle.std.proofs.Common.{◌≡◌, Bool, true, false, not, is_some, refl, ap, ◌∙◌}
use Rattle.sve_contents.specs.Reading.{without_dotted}
use Rattle.sve_nested.specs.Blocks.{begun}
use Rattle.sve_elaboration.proofs.elaboration.Elaboration.begun.Goals as goal

flipped : (a b : Bool) → a ≡ not b → b ≡ not a
flipped true true e = cc
flipped true false e = refl
flipped false true e = refl
flipped false false e = cc

pub returns : goal.returns
returns c = λ i. record {
  packages = c.args.text.packages.now;
  words = c.args.text.words.now;
  designs = c.args.designs.now;
  given = c.args.given.now;
  is_open = flipped (is_some c.args.definition.now.header.parameters) c.is_none.result c.is_none.ensures i;
  place = 0;
  nested = (c.in_ok-nested.ensures ∙ ap (begun (without_dotted c.args.contents)) c.in_ok-ahead.ensures) i;
  overrides = (c.of.ensures ∙ c.new.ensures.items) i;
  values = c.new-2.ensures.items i;
  ports = (c.of-2.ensures ∙ c.new-3.ensures.items) i;
  children = c.new-4.ensures.items i;
  nets = c.new-5.ensures.items i;
  hierarchical = c.new-6.ensures.items i;
}
