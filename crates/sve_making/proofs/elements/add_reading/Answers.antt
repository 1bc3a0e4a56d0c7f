use Rattle.std.proofs.Common.{◌≡◌, true, Ok, Option, refl, subst}
use Rattle.std.specs.Prelude.{MatchOption}
use Rattle.std.specs.Arc.{arc_value}
use Rattle.std.specs.Result.{is_err}
use Rattle.std.specs.declared.sync.Arc.{Arc}
use Rattle.std.specs.declared.alloc.Global.{Global}
use Rattle.sve_tree.specs.declared.element.Element.{Element}
use Rattle.sve_key.specs.Parts.{IsOfItsWords}
use Rattle.sve_making.proofs.Adding.{adds_one}
use Rattle.sve_making.proofs.elements.add_reading.Goals as goal

pub returns-in_ok-push-in-Some : goal.returns-in_ok-push-in-Some
returns-in_ok-push-in-Some c =
    let found = subst (λ (o : Option (Arc Element Global)). MatchOption o (is_err c.args.reading.now ≡ true) (λ e. (c.args.reading.now ≡ Ok (arc_value e).words.items) × IsOfItsWords (arc_value e))) c.in-Some.is c.in_ok-element.ensures in
    adds_one c.args.file.now c.args.n c.args.reading.now _ c.args.elements.now.items c.push.new.self.items found.0 found.1 c.in_ok-copy-in-Some.ensures refl c.in_ok-push-in-Some.ensures.items
